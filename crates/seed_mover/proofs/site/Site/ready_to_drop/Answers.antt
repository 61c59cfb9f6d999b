use Rattle.std.proofs.Common.{refl, sym, ◌∙◌, ap}
use Rattle.site_runs.specs.SiteValues.{SiteValue}
use Rattle.seed_mover.proofs.DropRuns.{ready_refused}
use Rattle.seed_mover.proofs.site.Site.ready_to_drop.Goals as goal

pub make_ready-requires-clause-fresh : goal.make_ready-requires-clause-fresh
make_ready-requires-clause-fresh c = ap (λ (x : SiteValue). x.spent) (sym c.self.view_is) ∙ c.if-self.false

pub make_ready-requires-clause-idle : goal.make_ready-requires-clause-idle
make_ready-requires-clause-idle c = c.in-Ok.ensures.0

pub make_ready-requires-clause-holder : goal.make_ready-requires-clause-holder
make_ready-requires-clause-holder c = c.in-Ok.ensures.1

pub returns-then-self : goal.returns-then-self
returns-then-self c = (ap (λ (x : SiteValue). x.spent) (sym c.self.view_is) ∙ c.if-self.true, refl)

pub returns-in-Err : goal.returns-in-Err
returns-in-Err c = ready_refused c.args.self.now c.args.name.now c.in-Err.error (ap (λ (x : SiteValue). x.spent) (sym c.self.view_is) ∙ c.if-self.false) c.in-Err.ensures
