use Rattle.std.proofs.Common.{arith, ◌≡◌, ◌^◌}
use Rattle.seed_model.proofs.ExactSums.{every_file}
use Rattle.seed_model.proofs.MaskSums.{weighed, mask_in_range, mask_too_low, mask_too_high}
use Rattle.seed_model.proofs.FirstBest.{keeps-skip, keeps-next, kept-found, kept-none}
use Rattle.seed_model.proofs.best.best_mask.Goals as goal
use Rattle.seed_model.proofs.best.best_mask.Goals.{then-range-bytes+then-bytes-range, else-range-bytes, else-range-bytes-via-then-range-bytes+else-bytes-range, else-range-bytes-via-else-range-bytes}

pub overflow_sub-touched : goal.overflow_sub-touched
overflow_sub-touched c =
    let all = every_file c.files.result c.args.table.now.files c.files.ensures.files c.requires.few in
    omega (arith, weighed c.args.table.now c.args.migrated.now c.loop-mask.mask _ c.files.ensures.table c.requires.few c.requires.migrated c.loop-mask-test.true all, c.total-total.ensures)

pub overflow_sub-replicated : goal.overflow_sub-replicated
overflow_sub-replicated c =
    let all = every_file c.files.result c.args.table.now.files c.files.ensures.files c.requires.few in
    omega (arith, weighed c.args.table.now c.args.migrated.now c.loop-mask.mask _ c.files.ensures.table c.requires.few c.requires.migrated c.loop-mask-test.true all, c.total-total.ensures)

pub loop-mask-preserved : goal.loop-mask-preserved
loop-mask-preserved c = elim c.if-range-bytes.branch [
  | then-range-bytes+then-bytes-range w ↦
      let all = every_file c.files.result c.args.table.now.files c.files.ensures.files c.requires.few in
      let sum = weighed c.args.table.now c.args.migrated.now c.loop-mask.mask _ c.files.ensures.table c.requires.few c.requires.migrated c.loop-mask-test.true all in
      let inside = mask_in_range c.args.table.now c.args.range.now c.args.migrated.now c.loop-mask.mask c.requires.migrated c.loop-mask-test.true w.if-range-bytes.true w.if-bytes-range.true in
      rw (w.best-is, w.first_lightest.ensures) (keeps-next c.args.table.now c.args.range.now c.loop-mask.mask _ c.loop-mask.best inside (omega (arith, sum, c.total-total.ensures)) c.loop-mask.invariant)
  | else-range-bytes w ↦ elim w.else-range-bytes.branch [
    | else-range-bytes-via-then-range-bytes+else-bytes-range w' ↦
        let out = mask_too_high c.args.table.now c.args.range.now c.args.migrated.now c.loop-mask.mask c.requires.migrated c.loop-mask-test.true (omega (arith, w'.if-bytes-range.false)) in
        rw w.best-is (keeps-skip c.args.table.now c.args.range.now c.loop-mask.mask c.loop-mask.best out c.loop-mask.invariant)
    | else-range-bytes-via-else-range-bytes w' ↦
        let out = mask_too_low c.args.table.now c.args.range.now c.args.migrated.now c.loop-mask.mask c.requires.migrated c.loop-mask-test.true (omega (arith, w'.if-range-bytes.false)) in
        rw w.best-is (keeps-skip c.args.table.now c.args.range.now c.loop-mask.mask c.loop-mask.best out c.loop-mask.invariant)
  ]
]

pub returns-in-Some-clause-found : goal.returns-in-Some-clause-found
returns-in-Some-clause-found c =
    let end : c.loop-mask.mask ≡ 2 ^ c.args.table.now.files = omega (arith, c.loop-mask-test.false, c.loop-mask.auto.mask-end, c.requires.migrated.masks) in
    kept-found c.args.table.now c.args.range.now c.loop-mask.mask c.loop-mask.best c.in-Some.candidate c.files.ensures.table end c.in-Some.is c.loop-mask.invariant

pub returns-in-None-clause-none : goal.returns-in-None-clause-none
returns-in-None-clause-none c =
    let end : c.loop-mask.mask ≡ 2 ^ c.args.table.now.files = omega (arith, c.loop-mask-test.false, c.loop-mask.auto.mask-end, c.requires.migrated.masks) in
    kept-none c.args.table.now c.args.range.now c.loop-mask.mask c.loop-mask.best c.files.ensures.table end c.in-None.is c.loop-mask.invariant
