-- One append as the next action of a site.
use Rattle.std.proofs.Common.{◌≡◌, ◌⊎◌, inl, inr, ℕ, List, [], ◌∷◌, false, Some, refl, sym, ◌∙◌, ap, subst}
use Rattle.std.specs.Prelude.{Result, Ok, Err}
use Rattle.volume_disk.specs.Disk.{Disk, Images, Crash}
use Rattle.device_pieces.specs.Quiet.{Quiet}
use Rattle.site_forms.specs.Views.{State}
use Rattle.site_core.specs.declared.action.Action.{Action}
use Rattle.site_core.specs.Events.{Append, IsNextOf, MayAppend, Shapes, append_of, next_action_of}
use Rattle.site_core.specs.Lasting.{IsFoldedSite}
use Rattle.site_core.specs.Plans.{IsFrontOf}
use Rattle.site_core.specs.Steps.{next_of}
use Rattle.site_runs.specs.Runs.{AddsTo, Runs, SoFar}
use Rattle.site_runs.specs.SiteValues.{SiteStands, SiteValue, shapes_in}
use Rattle.site_runs.proofs.Fronts.{front_none, front_whole}
use Rattle.site_runs.proofs.RunEnds.{runs_done, runs_failed, runs_nothing}
use Rattle.site_runs.proofs.Runs.{run_begins, run_next, run_ok, run_quiet, run_refused}
use Rattle.site_runs.proofs.Settled.{shapes_same}
use Rattle.seed_mover.specs.declared.errors.SiteError.{SiteError}
use Rattle.seed_mover.specs.declared.errors.SiteError.TheVariants.{RackFault, Spent, Memory, Exists, NoSuchFile, MigrationOpen, TargetNotEmpty, NothingOpen, NotMoved, Collision, Damage, BadChunk, DeviceFull, VolumeFull}
use Rattle.seed_mover.specs.Acting.{Carries, CarriesOn, IsNext, with_action}
use Rattle.seed_mover.specs.Appending.{AppendsOne}
use Rattle.seed_mover.specs.Errors.{refuses}
use Rattle.seed_mover.specs.Moving.{ActsOn, FindsCopy, FindsRoom, IsFullFor, act_plan, plan_of, tells_damage}
use Rattle.seed_mover.specs.Plans.{AllFit, IsFirstFull, logs_after, logs_in}

-- IN MEMORY

pub acts_append : (v w : SiteValue) (x : Append) (action : Action) (result : Result (Unit {0}) SiteError) → v.spent ≡ false → (next : IsNextOf (shapes_in v) x) → next.action ≡ action → AppendsOne v w x result → Carries v w action result
acts_append v w x action (Ok u) fresh next is one = (fresh, record { append = x; next = next; action_is = is; fit = (one.0, tt); after = one.1 })
acts_append v w x action (Err RackFault) fresh next is one = (fresh, one.1)
acts_append v w x action (Err (DeviceFull device at len)) fresh next is one = (fresh, record { append = x; next = next; full = inl one.0 }, one.1)
acts_append v w x action (Err Memory) fresh next is one = (fresh, one.1)
acts_append v w x action (Err Spent) fresh next is one = absurd one
acts_append v w x action (Err Exists) fresh next is one = absurd one
acts_append v w x action (Err NoSuchFile) fresh next is one = absurd one
acts_append v w x action (Err MigrationOpen) fresh next is one = absurd one
acts_append v w x action (Err TargetNotEmpty) fresh next is one = absurd one
acts_append v w x action (Err NothingOpen) fresh next is one = absurd one
acts_append v w x action (Err NotMoved) fresh next is one = absurd one
acts_append v w x action (Err (Collision name)) fresh next is one = absurd one
acts_append v w x action (Err (Damage device at)) fresh next is one = absurd one
acts_append v w x action (Err (BadChunk name found)) fresh next is one = absurd one
acts_append v w x action (Err (VolumeFull what)) fresh next is one = absurd one

-- ON THE DISK

-- the next action of the state is that of the site
pub next_told : (v : SiteValue) (d : Disk) (s : State) (action : Action) → SiteStands v d s → IsNext v action → next_action_of s ≡ Some action
next_told v d s action stands is = ap (λ (t : Shapes). next_of t.a t.b t.phase) (sym (shapes_same v s d stands)) ∙ is

-- an error is a refusal or not
pub refusal : (error : SiteError) → refuses error ⊎ (refuses error → ⊥)
refusal RackFault = inr (λ no. no)
refusal Spent = inl tt
refusal Memory = inl tt
refusal Exists = inl tt
refusal NoSuchFile = inl tt
refusal MigrationOpen = inl tt
refusal TargetNotEmpty = inl tt
refusal NothingOpen = inl tt
refusal NotMoved = inl tt
refusal (Collision name) = inl tt
refusal (Damage device at) = inl tt
refusal (BadChunk name found) = inl tt
refusal (DeviceFull device at len) = inl tt
refusal (VolumeFull what) = inl tt

finds_append : (v w : SiteValue) (x : Append) (s : State) (action : Action) (result : Result (Unit {0}) SiteError) → next_action_of s ≡ Some action → AppendsOne v w x result → FindsCopy s (with_action action result)
finds_append v w x s action (Ok u) is one = is
finds_append v w x s action (Err RackFault) is one = refl
finds_append v w x s action (Err Spent) is one = refl
finds_append v w x s action (Err Memory) is one = refl
finds_append v w x s action (Err Exists) is one = refl
finds_append v w x s action (Err NoSuchFile) is one = refl
finds_append v w x s action (Err MigrationOpen) is one = refl
finds_append v w x s action (Err TargetNotEmpty) is one = refl
finds_append v w x s action (Err NothingOpen) is one = refl
finds_append v w x s action (Err NotMoved) is one = refl
finds_append v w x s action (Err (Collision name)) is one = refl
finds_append v w x s action (Err (Damage device at)) is one = absurd one
finds_append v w x s action (Err (BadChunk name found)) is one = absurd one
finds_append v w x s action (Err (DeviceFull device at len)) is one = refl
finds_append v w x s action (Err (VolumeFull what)) is one = refl

-- the room that the state's next action finds
room_append : (v w : SiteValue) (x : Append) (s : State) (action : Action) (result : Result (Unit {0}) SiteError) → act_plan s ≡ x ∷ [] → AppendsOne v w x result → FindsRoom v w s (with_action action result)
room_append v w x s action (Ok u) is one = subst (λ (p : List Append). AllFit (logs_in v) p × (logs_in w ≡ logs_after (logs_in v) p)) (sym is) ((one.0, tt), one.1.logs)
room_append v w x s action (Err (DeviceFull device at len)) is one = subst (λ (p : List Append). IsFirstFull (logs_in v) p device at len) (sym is) (inl one.0)
room_append v w x s action (Err RackFault) is one = tt
room_append v w x s action (Err Spent) is one = tt
room_append v w x s action (Err Memory) is one = tt
room_append v w x s action (Err Exists) is one = tt
room_append v w x s action (Err NoSuchFile) is one = tt
room_append v w x s action (Err MigrationOpen) is one = tt
room_append v w x s action (Err TargetNotEmpty) is one = tt
room_append v w x s action (Err NothingOpen) is one = tt
room_append v w x s action (Err NotMoved) is one = tt
room_append v w x s action (Err (Collision name)) is one = tt
room_append v w x s action (Err (Damage device at)) is one = tt
room_append v w x s action (Err (BadChunk name found)) is one = tt
room_append v w x s action (Err (VolumeFull what)) is one = tt

module _ {D : Type 0} (disk : D → Disk) (moment : D → ℕ) (left_since : D → ℕ → Images → Type 0) where
  -- an answer that names the action
  runs_with : (old new : D) (v w : SiteValue) (s : State) (whole : List Append) (action : Action) (result : Result (Unit {0}) SiteError) → Runs disk moment left_since refuses old new v w s whole result
      → Runs disk moment left_since refuses old new v w s whole (with_action action result)
  runs_with old new v w s whole action (Ok u) runs = record { plan = runs.plan; is = runs.is; refused = runs.refused; allowed = runs.allowed; done = runs.done; kept = runs.kept; same = runs.same; rest = runs.rest; moments = runs.moments }
  runs_with old new v w s whole action (Err error) runs = record { plan = runs.plan; is = runs.is; refused = runs.refused; allowed = runs.allowed; done = runs.done; kept = runs.kept; same = runs.same; rest = runs.rest; moments = runs.moments }

  module _ (old mid new : D) (v w : SiteValue) (s : State) (x : Append) (is : IsFoldedSite s) (only_now : (c : Images) → left_since old (moment old) c → Crash (disk old) c) (quiet : Quiet moment left_since old mid (disk old) (disk mid)) (stands : SiteStands v (disk old) s) where
    -- calls that read, before the first append of a plan
    read_first : (whole : List Append) → SoFar disk moment left_since (IsFrontOf whole) s old mid v []
    read_first whole = run_quiet disk moment left_since (run_begins disk moment left_since (IsFrontOf whole) s old v (front_none whole) only_now stands) mid quiet

    failed_behind : (error : SiteError) → MayAppend s x → AddsTo disk moment left_since refuses mid new v w {T = Unit {0}} x (Err error) → refuses error ⊎ (refuses error → ⊥) → Runs disk moment left_since refuses old new v w {T = Unit {0}} s (x ∷ []) (Err error)
    failed_behind error may call (inl refused) =
        runs_nothing disk moment left_since refuses old new v w s (x ∷ []) error (run_refused disk moment left_since (read_first []) refuses new w x (Err error) is may call refused)
        (λ device. ap (λ (n : D). disk n device) (call.alone refused) ∙ quiet.same device)
    failed_behind error may call (inr fault) =
        runs_failed disk moment left_since refuses old new v w s (x ∷ []) error fault (may, tt) (run_next disk moment left_since (read_first (x ∷ [])) refuses new w x (Err error) is may call (front_whole (x ∷ [])))

    -- a call that reads and then adds one record runs the plan of this one append
    pub runs_behind : (result : Result (Unit {0}) SiteError) → MayAppend s x → AddsTo disk moment left_since refuses mid new v w x result → Runs disk moment left_since refuses old new v w s (x ∷ []) result
    runs_behind (Ok u) may call = runs_done disk moment left_since refuses old new v w s (x ∷ []) u (run_ok disk moment left_since (read_first (x ∷ [])) refuses new w x (Ok u) is may call (front_whole (x ∷ [])))
    runs_behind (Err error) may call = failed_behind error may call (refusal error)

    -- and where it is the next action's
    pub carried_append : (action : Action) (result : Result (Unit {0}) SiteError) → IsNext v action → x ≡ append_of s action → AppendsOne v w x result → AddsTo disk moment left_since refuses mid new v w x result
        → CarriesOn disk moment left_since old new v w s action result
    carried_append action result next appends one call =
        let told = next_told v (disk old) s action stands next in
        let plan : act_plan s ≡ x ∷ [] = ap (plan_of s) told ∙ ap (λ (y : Append). y ∷ []) (sym appends) in
        let may : MayAppend s x = inl (record { action = action; is = told; appends = appends }) in
        record {
          runs = subst (λ (p : List Append). Runs disk moment left_since refuses old new v w s p (with_action action result)) (sym plan) (runs_with old new v w s (x ∷ []) action result (runs_behind result may call));
          finds = finds_append v w x s action result told one;
          room = room_append v w x s action result plan one;
        }

  -- an answer before any call
  pub acted_nothing : (old : D) (v : SiteValue) (s : State) (error : SiteError) → ((c : Images) → left_since old (moment old) c → Crash (disk old) c) → SiteStands v (disk old) s → tells_damage error ≡ false → IsFullFor v (act_plan s) error
      → ActsOn disk moment left_since old old v v s (Err error)
  acted_nothing old v s error only_now stands whole room = record {
    runs = runs_nothing disk moment left_since refuses old old v v s (act_plan s) error (run_begins disk moment left_since (IsFrontOf []) s old v (front_none []) only_now stands) (λ device. refl);
    finds = whole;
    room = room;
  }
