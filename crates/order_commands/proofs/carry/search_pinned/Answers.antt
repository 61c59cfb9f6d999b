use Rattle.std.proofs.Common.{refl, inl}
use Rattle.order_commands.proofs.carry.search_pinned.Goals as goal

pub returns-in-Err-clause-left : goal.returns-in-Err-clause-left
returns-in-Err-clause-left g c = λ tells. inl refl
