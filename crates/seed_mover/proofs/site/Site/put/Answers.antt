use Rattle.std.proofs.Common.{◌+◌, ◌/◌, ℕ, List, length, sym, ◌∙◌, ap, subst, arith}
use Rattle.std.proofs.lemmas.List.FromFn.{length-map-range_with_len}
use Rattle.seed_mover.specs.declared.errors.SiteError.TheVariants.{Memory, Spent}
use Rattle.seed_mover.specs.Putting.{AreEnds, PutsOn, blocks_of, even_ends}
use Rattle.seed_mover.proofs.BlockLists.{even_are, even_end}
use Rattle.seed_mover.proofs.PutAnswers.{finds_unfit, put_nothing}
use Rattle.seed_mover.proofs.site.Site.put.Goals as goal

pub returns-in-Err-clause-put : goal.returns-in-Err-clause-put
returns-in-Err-clause-put g c = λ s honest stands is.
    let rack = g.R.Rack in
    put_nothing rack.disk rack.moment rack.left_since c.args.rack.now c.args.self.now c.args.name.now c.args.bytes.now (even_ends (length c.args.bytes.now)) c.in-Err.error (λ y left. g.met.R.Rack.only_now _ y honest left) s stands is
    (finds_unfit c.args.self.now c.args.name.now s.a (blocks_of c.args.bytes.now (even_ends (length c.args.bytes.now))) c.in-Err.error c.in-Err.ensures)

pub put_lacking-requires-clause-ends : goal.put_lacking-requires-clause-ends
put_lacking-requires-clause-ends g c = subst (AreEnds 0 (length c.args.bytes.now)) (sym (c.as_slice.ensures.value ∙ c.in-Ok.ensures)) (even_are (length c.args.bytes.now))

pub put_lacking-requires-clause-few : goal.put_lacking-requires-clause-few
put_lacking-requires-clause-few g c =
    let len = length c.args.bytes.now in
    omega (arith, c.requires.size, ap (λ (l : List ℕ). length l) (c.as_slice.ensures.value ∙ c.in-Ok.ensures), length-map-range_with_len (even_end len) 0 ((len + 4095) / 4096))

pub returns-in-Err-even_cuts-clause-put : goal.returns-in-Err-even_cuts-clause-put
returns-in-Err-even_cuts-clause-put g c = λ s honest stands is.
    let rack = g.R.Rack in
    put_nothing rack.disk rack.moment rack.left_since c.args.rack.now c.args.self.now c.args.name.now c.args.bytes.now (even_ends (length c.args.bytes.now)) Memory (λ y left. g.met.R.Rack.only_now _ y honest left) s stands is tt

pub returns-then-is_spent-clause-put : goal.returns-then-is_spent-clause-put
returns-then-is_spent-clause-put g c = λ s honest stands is.
    let rack = g.R.Rack in
    put_nothing rack.disk rack.moment rack.left_since c.args.rack.now c.args.self.now c.args.name.now c.args.bytes.now (even_ends (length c.args.bytes.now)) Spent (λ y left. g.met.R.Rack.only_now _ y honest left) s stands is tt

pub returns-in-Ok-clause-put : goal.returns-in-Ok-clause-put
returns-in-Ok-clause-put g c = λ s honest stands is.
    let rack = g.R.Rack in
    subst (λ (ends : List ℕ). PutsOn rack.disk rack.moment rack.left_since c.args.rack.now c.put_lacking.new.rack c.args.self.now c.put_lacking.new.self c.args.name.now c.args.bytes.now ends s c.put_lacking.result) (c.as_slice.ensures.value ∙ c.in-Ok.ensures)
    (c.put_lacking.ensures.put s honest stands is)
