use Rattle.std.proofs.Common.{◌∙◌, ◌≡◌, ◌+◌, ◌*◌, arith}
use Rattle.load_gen.proofs.Growing.{drawn_below}
use Rattle.load_gen.proofs.Rows.{takes_at, drawn_on, gathered_at}
use Rattle.load_gen.proofs.drawing.generate.Goals as goal

pub next_state-state-requires : goal.next_state-state-requires
next_state-state-requires c = omega (arith, c.loop-draw.invariant.0, drawn_below c.args.number (4 * c.loop-file.file + c.loop-draw._draw) c.requires.number)

pub add_row-requires : goal.add_row-requires
add_row-requires c =
    takes_at c.loop-draw.recipe c.args.number c.args.files c.loop-file.file c.loop-draw._draw c.loop-draw.state c.next_state-state.result c.deref.result.now
    c.requires.some c.requires.few c.loop-file-test.true c.loop-draw-test.true c.loop-draw.invariant.0 c.loop-draw.invariant.1 c.next_state-state.ensures.next
    (c.deref.ensures ∙ c.in_ok-name.ensures)

pub loop-draw-preserved : goal.loop-draw-preserved
loop-draw-preserved c =
    drawn_on c.loop-draw.recipe c.add_row.new.recipe c.args.number c.args.files c.loop-file.file c.loop-draw._draw c.loop-draw.state c.next_state-state.result c.deref.result.now
    c.loop-draw-test.true c.loop-draw.invariant.0 c.loop-draw.invariant.1 c.next_state-state.ensures.next (c.deref.ensures ∙ c.in_ok-name.ensures) c.in_ok-add_row.ensures

pub returns-clause-gathered : goal.returns-clause-gathered
returns-clause-gathered c =
    let end : c.loop-file.file ≡ c.args.files = omega (arith, c.loop-file-test.false, c.loop-file.auto.file-end) in
    gathered_at c.loop-file.recipe c.args.number c.args.files c.loop-file.file c.requires.some c.requires.few end c.loop-file.invariant.1
