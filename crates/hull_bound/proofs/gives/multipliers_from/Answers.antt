use Rattle.std.proofs.Common.{◌<◌, length, arith}
use Rattle.std.specs.List.{filter}
use Rattle.hull_bound.specs.Forms.{is_some_give}
use Rattle.hull_bound.specs.Walks.{walked_from}
use Rattle.hull_bound.specs.Slots.{slots_from}
use Rattle.hull_bound.proofs.Reading.{left_next, first_next}
use Rattle.hull_bound.proofs.gives.multipliers_from.Goals as goal

pub loop-class-preserved : goal.loop-class-preserved
loop-class-preserved c =
    let node = c.args.node.now in
    let classes = c.args.table.now.classes in
    let amounts = c.args.amounts.flow.now.amounts in
    let k = c.loop-class.class in
    let known : k < length classes = omega (arith, c.loop-class-test.true, c.classes-class-end.ensures) in
    record {
      first = first_next node classes k c.loop-class.first c.in_ok-first.first (length (slots_from node 0 classes)) known c.loop-class.invariant.first c.in_ok-first.ensures.next;
      left =
          left_next c.args.slope.p node classes k c.loop-class.first amounts c.loop-class.gives.items (filter is_some_give (walked_from c.args.slope.p node 0 classes amounts)) known c.loop-class.invariant.left
          c.add_class.new.gives.items c.in_ok-first.first c.in_ok-first.ensures.gives c.in_ok-first.ensures.next;
    }
