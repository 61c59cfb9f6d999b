-- What a command leads to, from the images that it finds.
use Rattle.std.specs.Prelude.{◌≡◌, List, ◌++◌, Some}
use Rattle.volume_disk.specs.Disk.{Disk, Images, Crash}
use Rattle.site_forms.specs.Sites.{IsSiteAt, state_of}
use Rattle.site_forms.specs.Views.{State}
use Rattle.site_core.specs.Events.{Append, AreAllowed}
use Rattle.site_core.specs.Plans.{Led, after_plan, events_of}

-- from the state that some images say a plan leads to what others say
pub record Leads (May : State → List Append → Type 0) (b c : Images) : Type 0 where
  pub from : State
  pub told : state_of b ≡ Some from
  pub led : Led (May from) from c

-- plans of one kind, and behind each a plan of another
abbrev pub BothMay : (State → List Append → Type 0) → (State → List Append → Type 0) → State → List Append → Type 0
BothMay May Next s plan = (front : List Append) × (rest : List Append) × May s front × Next (after_plan s front) rest × (plan ≡ front ++ rest)

-- all plans are allowed
abbrev pub AllMayBe : (State → List Append → Type 0) → Type 0
AllMayBe May = (s : State) (plan : List Append) → May s plan → AreAllowed s (events_of plan)

-- whatever a crash leaves is a site
abbrev pub IsSiteDisk : Disk → Type 0
IsSiteDisk d = (c : Images) → Crash d c → IsSiteAt c
