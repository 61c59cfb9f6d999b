use Rattle.site_runs.proofs.Fronts.{acts_site, acts_view, front_site}
use Rattle.site_runs.proofs.Settled.{shapes_same, site_folded, site_same, state_settled}
use Rattle.site_runs.proofs.laws.run_laws.Goals as goal

pub returns : goal.returns
returns g = record { settled = state_settled; same_disk = site_same; shapes = shapes_same; folded = site_folded; front = front_site; acts = acts_site; views = acts_view }
