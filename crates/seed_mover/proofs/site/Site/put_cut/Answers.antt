use Rattle.seed_mover.specs.declared.errors.SiteError.TheVariants.{Spent}
use Rattle.seed_mover.specs.Putting.{blocks_of}
use Rattle.seed_mover.proofs.PutAnswers.{finds_unfit, put_nothing}
use Rattle.seed_mover.proofs.site.Site.put_cut.Goals as goal

pub returns-in-Err-clause-put : goal.returns-in-Err-clause-put
returns-in-Err-clause-put g c = λ s honest stands is.
    let rack = g.R.Rack in
    put_nothing rack.disk rack.moment rack.left_since c.args.rack.now c.args.self.now c.args.name.now c.args.bytes.now c.args.ends.now c.in-Err.error (λ y left. g.met.R.Rack.only_now _ y honest left) s stands is
    (finds_unfit c.args.self.now c.args.name.now s.a (blocks_of c.args.bytes.now c.args.ends.now) c.in-Err.error c.in-Err.ensures)

pub returns-then-is_spent-clause-put : goal.returns-then-is_spent-clause-put
returns-then-is_spent-clause-put g c = λ s honest stands is.
    let rack = g.R.Rack in
    put_nothing rack.disk rack.moment rack.left_since c.args.rack.now c.args.self.now c.args.name.now c.args.bytes.now c.args.ends.now Spent (λ y left. g.met.R.Rack.only_now _ y honest left) s stands is tt
