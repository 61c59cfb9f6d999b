use Rattle.std.proofs.Common.{◌∙◌, arith, sym}
use Rattle.recipe_order.proofs.Pinned.{none_outside, outside_more, outside_same}
use Rattle.recipe_order.proofs.pins.pins_of.Goals as goal
use Rattle.recipe_order.proofs.pins.pins_of.Goals.{then-not-contains, else-not-contains}

pub loop-file-init : goal.loop-file-init
loop-file-init c = none_outside c.args.set.now c.in_ok-outside.outside c.files-files.result c.files-files.ensures c.in_ok-outside.ensures.empty

pub loop-file-preserved : goal.loop-file-preserved
loop-file-preserved c =
    let set = c.args.set.now in
    let file = c.loop-file.file in
    elim c.if-not-contains.branch [
      | then-not-contains w ↦
          rw w.outside-is (outside_more set c.loop-file.outside w.insert.new.self file c.loop-file.invariant (omega (arith, c.files-files.ensures, c.loop-file-test.true))
          (sym c.contains.ensures ∙ w.if-not-contains.true) w.insert.ensures)
      | else-not-contains w ↦ rw w.outside-is (outside_same set c.loop-file.outside file c.loop-file.invariant (sym c.contains.ensures ∙ w.if-not-contains.false))
    ]

pub returns : goal.returns
returns c = record {
  inside = c.in_ok-inside.ensures.same;
  files = c.loop-file.invariant.files;
  outside = λ file lt. c.loop-file.invariant.same file (omega (arith, lt, c.loop-file-test.false, c.files-files.ensures));
}
