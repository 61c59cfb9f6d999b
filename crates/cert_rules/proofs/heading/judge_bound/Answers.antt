use Rattle.std.proofs.Common.{sym, subst}
use Rattle.bound_cert.specs.declared.heading.Answer.{Answer}
use Rattle.bound_cert.specs.Valid.{Agrees}
use Rattle.cert_rules.proofs.Rules.{bound_fails, bound_pass, fails}
use Rattle.cert_rules.proofs.heading.judge_bound.Goals as goal

pub returns-then-go_together : goal.returns-then-go_together
returns-then-go_together c = record {
  judged = λ table told answer plan.
      let agrees = (c.go_together.ensures told.plan plan).0 c.if-go_together.true in
      bound_pass table told c.args.bound (subst (λ (a : Answer). Agrees a told.plan c.args.bound) (sym answer) agrees);
}

pub returns-else-go_together : goal.returns-else-go_together
returns-else-go_together c = record {
  judged = λ table told answer plan.
      let apart = fails c.go_together.result (Agrees c.args.answer told.plan c.args.bound) c.if-go_together.false (c.go_together.ensures told.plan plan) in
      bound_fails table told c.args.bound (λ agrees. apart (subst (λ (a : Answer). Agrees a told.plan c.args.bound) answer agrees));
}
