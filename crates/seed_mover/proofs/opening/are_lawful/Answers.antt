use Rattle.std.proofs.Common.{◌≡◌, Bool, IfOk, subst}
use Rattle.seed_mover.proofs.LawfulNames.{distinct_lawful}
use Rattle.seed_mover.proofs.opening.are_lawful.Goals as goal

pub returns : goal.returns
returns c = subst (λ (b : Bool). IfOk c.are_distinct.result (λ is. is ≡ b)) (distinct_lawful c.args.names.now c.len-count.ensures.names) c.are_distinct.ensures
