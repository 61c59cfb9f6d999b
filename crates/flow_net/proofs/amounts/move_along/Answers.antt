use Rattle.std.proofs.Common.{◌≡◌, ◌+◌, ◌-◌, ◌∙◌, ap, sym, subst, cond, get_or, set, drop, arith}
use Rattle.flow_net.specs.Paths.{pushed, used}
use Rattle.flow_net.specs.Moves.{IsReady}
use Rattle.flow_net.proofs.Ready.{ready_at, pushed_at, no_use}
use Rattle.flow_net.proofs.amounts.move_along.Goals as goal
use Rattle.flow_net.proofs.amounts.move_along.Goals.{then-each, else-each}

pub bounds-amounts-pipe : goal.bounds-amounts-pipe
bounds-amounts-pipe c =
    (ready_at c.args.amount c.loop-each.amounts c.args.path.now c.loop-each.each-index c.loop-each-test.true c.loop-each.invariant.ready).0.known

pub overflow_add-amounts : goal.overflow_add-amounts
overflow_add-amounts c =
    let can = ready_at c.args.amount c.loop-each.amounts c.args.path.now c.loop-each.each-index c.loop-each-test.true c.loop-each.invariant.ready in
    omega (arith, can.0.adds c.if-each.false)

pub overflow_sub-amounts : goal.overflow_sub-amounts
overflow_sub-amounts c =
    (ready_at c.args.amount c.loop-each.amounts c.args.path.now c.loop-each.each-index c.loop-each-test.true c.loop-each.invariant.ready).0.takes c.if-each.true

pub loop-each-preserved : goal.loop-each-preserved
loop-each-preserved c =
    let u = get_or c.args.path.now c.loop-each.each-index no_use in
    let is : c.if-each.amounts ≡ used c.args.amount c.loop-each.amounts u =
    elim c.if-each.branch [
      | then-each w ↦
          w.amounts-is ∙
          ap (λ b. set c.loop-each.amounts u.pipe (cond b (get_or c.loop-each.amounts u.pipe 0 - c.args.amount) (get_or c.loop-each.amounts u.pipe 0 + c.args.amount))) (sym w.if-each.true)
      | else-each w ↦
          w.amounts-is ∙
          ap (λ b. set c.loop-each.amounts u.pipe (cond b (get_or c.loop-each.amounts u.pipe 0 - c.args.amount) (get_or c.loop-each.amounts u.pipe 0 + c.args.amount))) (sym w.if-each.false)
    ] in
    let can = ready_at c.args.amount c.loop-each.amounts c.args.path.now c.loop-each.each-index c.loop-each-test.true c.loop-each.invariant.ready in
    record {
      total =
          ap (λ xs. pushed c.args.amount xs (drop (c.loop-each.each-index + 1) c.args.path.now)) is ∙
          (pushed_at c.args.amount c.loop-each.amounts c.args.path.now c.loop-each.each-index c.loop-each-test.true ∙ c.loop-each.invariant.total);
      ready = subst (λ xs. IsReady c.args.amount xs (drop (c.loop-each.each-index + 1) c.args.path.now)) (sym is) can.1;
    }
