-- Plans of appends, and what images say after a part of one.
use Rattle.std.specs.Prelude.{◌≡◌, List, [], ◌∷◌, ◌++◌, map as each, Some}
use Rattle.volume_disk.specs.Disk.{Disk, Images, Crash}
use Rattle.site_forms.specs.Sites.{state_of, IsSiteAt}
use Rattle.site_forms.specs.Views.{State}
use Rattle.site_core.specs.Events.{Append, Event, IsNextAppend, after, after_all}
use Rattle.site_core.specs.Events.Event.{Appends}

-- the appends of a plan as events
abbrev pub events_of : List Append → List Event
events_of plan = each Appends plan

-- the state to which a plan leads
abbrev pub after_plan : State → List Append → State
after_plan s plan = after_all s (events_of plan)

-- the first so many appends of a whole plan
abbrev pub IsFrontOf : List Append → List Append → Type 0
IsFrontOf whole plan = (rest : List Append) × (plan ++ rest ≡ whole)

-- next actions, one after the other
abbrev pub AreActions : State → List Append → Type 0
AreActions s [] = Unit {0}
AreActions s (x ∷ plan) = IsNextAppend s x × AreActions (after s (Appends x)) plan

-- some images say a state to which a plan of Q leads from s
pub record Led (Q : List Append → Type 0) (s : State) (c : Images) : Type 0 where
  pub plan : List Append
  pub within : Q plan
  pub now : state_of c ≡ Some (after_plan s plan)

-- whatever a crash leaves of these devices is a site
abbrev pub IsSiteRack : Disk → Type 0
IsSiteRack d = (c : Images) → Crash d c → IsSiteAt c
