use Rattle.std.proofs.Common.{arith, ◌<◌, length}
use Rattle.seed_model.proofs.SubsetSums.{half-more, half-same, tested_true, tested_false}
use Rattle.seed_model.proofs.best.add_subsets.Goals as goal
use Rattle.seed_model.proofs.best.add_subsets.Goals.{then-mask-file-eq1, else-mask-file-eq1}

pub loop-mask-preserved : goal.loop-mask-preserved
loop-mask-preserved c =
    let file : c.args.file < 64 = omega (arith, c.requires.file) in
    let inside : c.loop-mask.mask < length c.loop-mask.sums = omega (arith, c.loop-mask-test.true, c.loop-mask.auto.sums) in
    elim c.if-mask-file-eq1.branch [
      | then-mask-file-eq1 w ↦ rw w.sums-is (half-more c.args.file c.loop-mask.mask c.args.sums.now c.loop-mask.sums file inside (tested_true c.loop-mask.mask c.args.file w.if-mask-file-eq1.true) c.loop-mask.invariant)
      | else-mask-file-eq1 w ↦ rw w.sums-is (half-same c.args.file c.loop-mask.mask c.args.sums.now c.loop-mask.sums (tested_false c.loop-mask.mask c.args.file w.if-mask-file-eq1.false) c.loop-mask.invariant)
    ]
