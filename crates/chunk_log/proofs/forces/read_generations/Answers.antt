use Rattle.std.proofs.Common.{◌∙◌, ◌+◌, ap}
use Rattle.volume_disk.specs.Medium.{Medium}
use Rattle.site_forms.specs.Halves.{generation}
use Rattle.device_pieces.proofs.Quiets.{quiet_then}
use Rattle.chunk_log.proofs.forces.read_generations.Goals as goal

pub returns-in_err-two-clause-quiet : goal.returns-in_err-two-clause-quiet
returns-in_err-two-clause-quiet g c = λ honest.
    let rack = g.R.Rack in
    let honest_1 = c.generation_of.ensures.honest ∙ honest in
    quiet_then rack.moment rack.left_since _ _ _ _ _ _ (λ t x le crash. g.met.R.Rack.counts_now _ t x honest_1 le crash) (c.generation_of.ensures.quiet honest) (c.generation_of-2.ensures.quiet honest_1)

pub returns-clause-quiet : goal.returns-clause-quiet
returns-clause-quiet g c = λ honest.
    let rack = g.R.Rack in
    let honest_1 = c.generation_of.ensures.honest ∙ honest in
    quiet_then rack.moment rack.left_since _ _ _ _ _ _ (λ t x le crash. g.met.R.Rack.counts_now _ t x honest_1 le crash) (c.generation_of.ensures.quiet honest) (c.generation_of-2.ensures.quiet honest_1)

pub returns-clause-numbers : goal.returns-clause-numbers
returns-clause-numbers g c = λ honest.
    let honest_1 = c.generation_of.ensures.honest ∙ honest in
    let same = (c.generation_of.ensures.quiet honest).same in (
      c.in_ok-one.ensures.number honest,
      c.in_ok-two.ensures.number honest_1 ∙ ap (λ (m : Medium). generation m.image) (same (c.args.first + 3)),
    )
