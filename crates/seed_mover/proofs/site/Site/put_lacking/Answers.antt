use Rattle.seed_mover.specs.declared.errors.SiteError.TheVariants.{Memory}
use Rattle.seed_mover.proofs.PutAnswers.{put_nothing}
use Rattle.seed_mover.proofs.site.Site.put_lacking.Goals as goal

pub returns-in-Err-clause-put : goal.returns-in-Err-clause-put
returns-in-Err-clause-put g c = λ s honest stands is.
    let rack = g.R.Rack in
    put_nothing rack.disk rack.moment rack.left_since c.args.rack.now c.args.self.now c.args.name.now c.args.bytes.now c.args.ends.now Memory (λ y left. g.met.R.Rack.only_now _ y honest left) s stands is tt
