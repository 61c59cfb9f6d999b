-- What a run of appends leaves of a site in memory.
use Rattle.std.specs.Prelude.{◌≡◌, List, ◌++◌, Some}
use Rattle.chunk_volume.specs.Adding.{IsSame as IsSameVolume}
use Rattle.move_journal.specs.Marking.{IsSame as IsSameJournal}
use Rattle.site_core.specs.Events.{Append}
use Rattle.site_runs.specs.SiteValues.{SiteValue, shapes_in}
use Rattle.seed_mover.specs.Plans.{logs_after, logs_in, shapes_after}

-- the same site, with no less room
pub record IsSameSite (v w : SiteValue) : Type 0 where
  pub a : IsSameVolume v.a w.a
  pub b : IsSameVolume v.b w.b
  pub journal : IsSameJournal v.journal w.journal
  pub spent : w.spent ≡ v.spent

-- a site once all appends of a plan are done
pub record IsAfter (v w : SiteValue) (plan : List Append) : Type 0 where
  pub shapes : shapes_after (shapes_in v) plan ≡ Some (shapes_in w)
  pub logs : logs_in w ≡ logs_after (logs_in v) plan
  pub spent : w.spent ≡ v.spent

-- a site once the first appends of a plan are done
pub record IsPartlyAfter (v w : SiteValue) (plan : List Append) : Type 0 where
  pub done : List Append
  pub rest : List Append
  pub whole : plan ≡ done ++ rest
  pub after : IsAfter v w done
