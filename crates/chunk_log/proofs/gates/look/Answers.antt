use Rattle.std.proofs.Common.{ℕ, List, drop, ◌∙◌, ap, arith, length-drop}
use Rattle.site_forms.specs.Gates.{gate_in}
use Rattle.chunk_log.proofs.PlaceHalves.{front_of}
use Rattle.chunk_log.proofs.gates.look.Goals as goal

pub returns-clause-gate : goal.returns-clause-gate
returns-clause-gate g c = λ honest shows.
    let image = (g.R.Rack.disk c.args.rack.now c.args.piece.now.device).image in
    let gives = c.in_ok-count.ensures.bytes honest shows in
    let front = front_of (drop c.args.at image) c.in_ok-count.count 5 (omega (arith, gives.count, length-drop c.args.at image)) in
    c.gate_of.ensures.gate ∙ ap (λ (h : List ℕ). gate_in h c.args.at c.args.size) (gives.bytes ∙ front)
