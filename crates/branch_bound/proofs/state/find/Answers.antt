use Rattle.std.proofs.Common.{subst, arith}
use Rattle.seed_model.specs.Files.{holds}
use Rattle.hull_bound.specs.Answers.{IsAnswer}
use Rattle.branch_bound.proofs.Relaxed.{weights}
use Rattle.branch_bound.proofs.state.find.Goals as goal

pub worth_of-worth-requires-clause-alpha : goal.worth_of-worth-requires-clause-alpha
worth_of-worth-requires-clause-alpha c =
    let answer = subst (λ z. IsAnswer c.args.table.now c.args.range.now c.args.node.now z) c.in-Bound.is c.in_ok-solve_node.ensures in
    (weights c.args.table.now c.args.range.now c.args.node.now c.in-Bound.multipliers c.in-Bound.mix c.files-files.ensures.table answer.2).0

pub worth_of-worth-requires-clause-beta : goal.worth_of-worth-requires-clause-beta
worth_of-worth-requires-clause-beta c =
    let answer = subst (λ z. IsAnswer c.args.table.now c.args.range.now c.args.node.now z) c.in-Bound.is c.in_ok-solve_node.ensures in
    (weights c.args.table.now c.args.range.now c.args.node.now c.in-Bound.multipliers c.in-Bound.mix c.files-files.ensures.table answer.2).1

pub returns-in_ok-offer-in-Bound-2-clause-weight : goal.returns-in_ok-offer-in-Bound-2-clause-weight
returns-in_ok-offer-in-Bound-2-clause-weight c =
    let answer = subst (λ z. IsAnswer c.args.table.now c.args.range.now c.args.node.now z) c.in-Bound.is c.in_ok-solve_node.ensures in
    let w = weights c.args.table.now c.args.range.now c.args.node.now c.in-Bound.multipliers c.in-Bound.mix c.files-files.ensures.table answer.2 in
    (answer.2.value.is_mix.weighed, omega (arith, w.0, w.1))

pub returns-in_ok-offer-in-Bound-2-clause-plan : goal.returns-in_ok-offer-in-Bound-2-clause-plan
returns-in_ok-offer-in-Bound-2-clause-plan c = λ root t below old.
    let answer = subst (λ z. IsAnswer c.args.table.now c.args.range.now c.args.node.now z) c.in-Bound.is c.in_ok-solve_node.ensures in
    let mix = answer.2.value.is_mix in
    c.in_ok-offer-in-Bound-2.ensures.plan root (below.members (holds c.in-Bound.mix.second) mix.second) (c.in_ok-offer-in-Bound.ensures.plan root (below.members (holds c.in-Bound.mix.first) mix.first) old)
