use Rattle.std.proofs.Common.{◌∙◌, ap, arith}
use Rattle.site_forms.specs.Halves.{generation}
use Rattle.chunk_log.proofs.PlaceHalves.{generation_front, front_of}
use Rattle.chunk_log.proofs.forces.generation_of.Goals as goal

pub returns-clause-number : goal.returns-clause-number
returns-clause-number g c = λ honest.
    let image = (g.R.Rack.disk c.args.rack.now c.args.device).image in
    let gives = c.in_ok-count.ensures.bytes honest in
    c.generation_in.ensures ∙ ap generation (gives.bytes ∙ front_of image c.in_ok-count.count 14 (omega (arith, gives.count))) ∙ generation_front image
