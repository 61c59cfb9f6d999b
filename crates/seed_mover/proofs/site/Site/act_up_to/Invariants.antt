use Rattle.std.proofs.Common.{◌≡◌, true}
use Rattle.site_forms.specs.Views.{State}
use Rattle.site_core.specs.Lasting.{IsFoldedSite}
use Rattle.site_runs.specs.SiteValues.{SiteStands}
use Rattle.seed_mover.proofs.ManyActed.{ActedSoFar, Turned}
use Rattle.seed_mover.proofs.site.Site.act_up_to.Given as goal

abbrev pub invariant-actions : goal.invariant-actions
invariant-actions g l = record {
  count : g.R.Rack.faults l.rack ≡ g.R.Rack.faults l.fn.rack;
  honest : g.R.Rack.honest l.rack ≡ g.R.Rack.honest l.fn.rack;
  turned : Turned l.fn.self l.self l.done;
  so_far : (s : State) → g.R.Rack.honest l.fn.rack ≡ true → SiteStands l.fn.self (g.R.Rack.disk l.fn.rack) s → IsFoldedSite s → ActedSoFar g.R.Rack.disk g.R.Rack.moment g.R.Rack.left_since l.fn.rack l.rack l.self s l.done;
}
