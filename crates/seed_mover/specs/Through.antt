-- Calls that run plans in which nothing is refused: either all appends are done, or a fault of the rack stops one of them.
use Rattle.std.specs.Prelude.{ℕ, List, Result, Ok, Err}
use Rattle.volume_disk.specs.Disk.{Disk, Images}
use Rattle.volume_disk.specs.Time.{Passes}
use Rattle.site_forms.specs.Views.{State}
use Rattle.site_core.specs.Events.{Append}
use Rattle.site_core.specs.Lasting.{IsFoldedSite}
use Rattle.site_core.specs.Plans.{IsFrontOf, Led}
use Rattle.site_runs.specs.Runs.{SoFar}
use Rattle.site_runs.specs.SiteValues.{SiteStands, SiteValue}
use Rattle.seed_mover.specs.declared.errors.SiteError.{SiteError}

module _ {D : Type 0} (disk : D → Disk) (moment : D → ℕ) (left_since : D → ℕ → Images → Type 0) (old new : D) (v w : SiteValue) where
  -- from every state that the site stands for, the appends of a plan are done
  abbrev pub RunsTo : List Append → Type 0
  RunsTo plan = (s : State) → SiteStands v (disk old) s → IsFoldedSite s → SoFar disk moment left_since (IsFrontOf plan) s old new w plan

  -- or a crash at any moment leaves what a front of it leads to
  abbrev pub StopsIn : List Append → Type 0
  StopsIn plan = (s : State) → SiteStands v (disk old) s → IsFoldedSite s → Passes moment left_since old new (Led (IsFrontOf plan) s)

  abbrev pub RunsThrough : {T : Type 0} → List Append → Result T SiteError → Type 0
  RunsThrough plan (Ok done) = RunsTo plan
  RunsThrough plan (Err error) = StopsIn plan
