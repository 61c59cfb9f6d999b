use Rattle.std.proofs.Common.{◌≡◌, List, length, true, false}
use Rattle.site_forms.specs.Views.{State}
use Rattle.site_core.specs.Events.{Append}
use Rattle.site_core.specs.Lasting.{IsFoldedSite}
use Rattle.site_core.specs.Plans.{IsFrontOf}
use Rattle.site_runs.specs.Runs.{SoFar}
use Rattle.site_runs.specs.SiteValues.{SiteStands}
use Rattle.seed_mover.specs.Unused.{unused_of}
use Rattle.seed_mover.proofs.UnusedDropped.{DroppedSoFar}
use Rattle.seed_mover.proofs.site.Site.drop_unused.Given as goal

abbrev pub invariant-chunks : goal.invariant-chunks
invariant-chunks g l = record {
  count : g.R.Rack.faults l.rack ≡ g.R.Rack.faults l.fn.rack;
  honest : g.R.Rack.honest l.rack ≡ g.R.Rack.honest l.fn.rack;
  fresh : l.self.spent ≡ false;
  done : List Append;
  so_far : DroppedSoFar l.side l.fn.self l.self done;
  runs : (s : State) → g.R.Rack.honest l.fn.rack ≡ true → SiteStands l.fn.self (g.R.Rack.disk l.fn.rack) s → IsFoldedSite s → SoFar g.R.Rack.disk g.R.Rack.moment g.R.Rack.left_since (IsFrontOf done) s l.fn.rack l.rack l.self done;
}

abbrev pub decreases-chunks : goal.decreases-chunks
decreases-chunks g l = length (unused_of l.side l.self)
