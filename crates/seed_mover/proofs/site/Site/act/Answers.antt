use Rattle.std.proofs.Common.{refl, sym, subst}
use Rattle.std.specs.Prelude.{Ok}
use Rattle.site_runs.specs.SiteValues.{SiteStands, SiteValue}
use Rattle.seed_mover.specs.declared.errors.SiteError.TheVariants.{Spent}
use Rattle.seed_mover.specs.Moving.{ActsOn}
use Rattle.seed_mover.proofs.Acted.{acted_nothing}
use Rattle.seed_mover.proofs.site.Site.act.Goals as goal

pub returns-then-self-clause-runs : goal.returns-then-self-clause-runs
returns-then-self-clause-runs g c = λ s honest stands is. acted_nothing g.R.Rack.disk g.R.Rack.moment g.R.Rack.left_since c.args.rack.now c.args.self.now s Spent (λ y left. g.met.R.Rack.only_now _ y honest left) stands refl tt

pub returns-in-Ok-clause-runs : goal.returns-in-Ok-clause-runs
returns-in-Ok-clause-runs g c = λ s honest stands is.
    let rack = g.R.Rack in
    let old = c.args.rack.now in
    let same = c.next-action.ensures.same in
    subst (λ (x : SiteValue). ActsOn rack.disk rack.moment rack.left_since old c.carry_out.new.rack x c.carry_out.new.self s (Ok c.next-action.result)) same
    (c.in-Ok.ensures.carried s honest (subst (λ (x : SiteValue). SiteStands x (rack.disk old) s) (sym same) stands) is)
