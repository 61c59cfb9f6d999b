use Rattle.std.proofs.Common.{inl, inr, ◌≡◌, ◌≤◌, subst, arith}
use Rattle.std.proofs.lemmas.Bool.{cases_lt}
use Rattle.flow_net.specs.Paths.{left_on}
use Rattle.flow_net.specs.Trails.{use_at}
use Rattle.flow_net.proofs.Carrying.{have_left_each, have_left_at}
use Rattle.flow_net.proofs.phases.least_left.Goals as goal

pub returns : goal.returns
returns c =
    record {
      left =
          have_left_each c.args.pipes.now c.args.filling.now.amounts c.loop-along.least c.args.path.now
          (λ k h. c.loop-along.invariant.left k (let e = c.loop-along-test.false in omega (arith, e, h)));
      most = c.loop-along.invariant.most;
    }

pub loop-along-preserved : goal.loop-along-preserved
loop-along-preserved c =
    record {
      left =
          λ k h.
          elim (cases_lt k c.loop-along.along-index) as (λ _. c.min-least.result ≤ left_on c.args.pipes.now c.args.filling.now.amounts (use_at c.args.path.now k)) [
            | inl old ↦ omega (arith, c.min-least.ensures, c.loop-along.invariant.left k old)
            | inr now ↦
                let same : c.loop-along.along-index ≡ k = omega arith in
                subst (λ n. c.min-least.result ≤ left_on c.args.pipes.now c.args.filling.now.amounts (use_at c.args.path.now n)) same
                (omega (arith, c.min-least.ensures, c.left.ensures))
          ];
      most =
          λ w h left.
          omega (
            arith,
            c.min-least.ensures,
            c.left.ensures,
            c.loop-along.invariant.most w h left,
            have_left_at c.args.pipes.now c.args.filling.now.amounts w c.args.path.now c.loop-along.along-index c.loop-along-test.true left,
          );
    }
