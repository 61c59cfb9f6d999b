-- Runs of appends, at the level of states.
use Rattle.std.proofs.Common.{◌≡◌, ◌⊎◌, ⊎_elim, ℕ, List, [], ◌∷◌, ◌++◌, Some, refl, sym, ◌∙◌, ap}
use Rattle.volume_disk.specs.Disk.{Disk, Images, Crash}
use Rattle.volume_disk.specs.Time.{Passes}
use Rattle.volume_disk.proofs.Moments.{begins, follows_on}
use Rattle.site_forms.specs.Sites.{state_of}
use Rattle.site_forms.specs.Views.{State}
use Rattle.site_core.specs.Events.{Append, IsNextAppend, after}
use Rattle.site_core.specs.Events.Event.{Appends}
use Rattle.site_core.specs.Plans.{after_plan, AreActions, Led}

-- one append more at the end of a plan
pub plan_snoc : (s : State) (plan : List Append) (x : Append) → after_plan s (plan ++ x ∷ []) ≡ after (after_plan s plan) (Appends x)
plan_snoc s [] x = refl
plan_snoc s (y ∷ plan) x = plan_snoc (after s (Appends y)) plan x

pub actions_snoc : (s : State) (plan : List Append) (x : Append) → AreActions s plan → IsNextAppend (after_plan s plan) x → AreActions s (plan ++ x ∷ [])
actions_snoc s [] x all next = (next, tt)
actions_snoc s (y ∷ plan) x all next = (all.0, actions_snoc (after s (Appends y)) plan x all.1 next)

module _ {D : Type 0} (moment : D → ℕ) (left_since : D → ℕ → Images → Type 0) (Q : List Append → Type 0) (s : State) (from : D) where
  pub run_begins : Q [] → (d : Disk) → ((c : Images) → left_since from (moment from) c → Crash d c) → ((c : Images) → Crash d c → state_of c ≡ Some s) → Passes moment left_since from from (Led Q s)
  run_begins q d only settled = begins moment left_since from (Led Q s) (λ c left. record { plan = []; within = q; now = settled c (only c left) })

  pub run_quiet : (mid new : D) (d : Disk) (done : List Append) → Q done → ((c : Images) → Crash d c → state_of c ≡ Some (after_plan s done)) → Passes moment left_since from mid (Led Q s)
      → Passes moment left_since mid new (Crash d) → Passes moment left_since from new (Led Q s)
  run_quiet mid new d done was settled so_far call =
      follows_on moment left_since from mid new (Led Q s) (Crash d) so_far call (λ c left. record { plan = done; within = was; now = settled c left })

  pub run_next : (mid new : D) (done : List Append) (x : Append) → Q done → Q (done ++ x ∷ []) → Passes moment left_since from mid (Led Q s)
      → Passes moment left_since mid new (λ c. (state_of c ≡ Some (after_plan s done)) ⊎ (state_of c ≡ Some (after (after_plan s done) (Appends x)))) → Passes moment left_since from new (Led Q s)
  run_next mid new done x was next so_far call =
      follows_on moment left_since from mid new (Led Q s) (λ c. (state_of c ≡ Some (after_plan s done)) ⊎ (state_of c ≡ Some (after (after_plan s done) (Appends x)))) so_far call
      (λ c either. ⊎_elim
      (λ same. record { plan = done; within = was; now = same })
      (λ one. record { plan = done ++ x ∷ []; within = next; now = one ∙ ap Some (sym (plan_snoc s done x)) })
      either)
