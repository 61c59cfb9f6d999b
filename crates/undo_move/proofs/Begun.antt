-- Phases of an undo, and calls that do nothing.
use Rattle.std.proofs.Common.{◌≡◌, ℕ, List, [], refl, sym, subst}
use Rattle.std.specs.Prelude.{Ok}
use Rattle.volume_disk.specs.Disk.{Disk, Images, Crash}
use Rattle.site_forms.specs.declared.phase.Phase.{Phase}
use Rattle.site_forms.specs.declared.phase.Phase.TheVariants.{Idle, Moving, Moved, Undoing}
use Rattle.site_forms.specs.Views.{State}
use Rattle.site_core.specs.Events.{Append}
use Rattle.site_core.specs.Plans.{IsFrontOf}
use Rattle.site_runs.specs.Runs.{Runs}
use Rattle.site_runs.specs.SiteValues.{SiteStands, SiteValue}
use Rattle.site_runs.proofs.Fronts.{front_none}
use Rattle.site_runs.proofs.RunEnds.{runs_done}
use Rattle.site_runs.proofs.Runs.{run_begins}
use Rattle.seed_mover.specs.declared.errors.SiteError.{SiteError}
use Rattle.seed_mover.specs.Errors.{refuses}
use Rattle.undo_move.specs.Undoing.{IsUndoing, turn_plan, undo_plan}

turn_nothing : (phase : Phase) → IsUndoing phase → turn_plan phase ≡ []
turn_nothing Idle is = absurd is
turn_nothing (Moving names) is = absurd is
turn_nothing (Moved names) is = absurd is
turn_nothing (Undoing names) is = refl

-- a phase that is another
pub not_undoing : (phase : Phase) → ((names : List (List ℕ)) → phase ≡ Undoing names → ⊥) → IsUndoing phase → ⊥
not_undoing Idle other is = is
not_undoing (Moving names) other is = is
not_undoing (Moved names) other is = is
not_undoing (Undoing names) other is = other names refl

-- nothing is done where files are moving back
pub again_runs : {D : Type 0} (disk : D → Disk) (moment : D → ℕ) (left_since : D → ℕ → Images → Type 0) (old : D) (v : SiteValue) (s : State) → ((c : Images) → left_since old (moment old) c → Crash (disk old) c) → SiteStands v (disk old) s → IsUndoing v.journal.phase
    → Runs disk moment left_since {E = SiteError} refuses old old v v {T = Unit {0}} s (undo_plan s) (Ok tt)
again_runs disk moment left_since old v s only_now stands is =
    subst (λ (p : List Append). Runs disk moment left_since {E = SiteError} refuses old old v v {T = Unit {0}} s p (Ok tt)) (sym (turn_nothing s.phase (subst IsUndoing stands.phase is)))
    (runs_done disk moment left_since refuses old old v v s [] tt (run_begins disk moment left_since (IsFrontOf []) s old v (front_none []) only_now stands))
