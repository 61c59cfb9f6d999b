use Rattle.std.proofs.Common.{arith}
use Rattle.seed_model.proofs.Decimals.{above_spaces, spelled_apart, is_numeral, spelled_by}
use Rattle.seed_model.proofs.numbers.number_laws.Goals as goal

pub returns-clause-one_spelling : goal.returns-clause-one_spelling
returns-clause-one_spelling c = λ m n p q e. spelled_apart m n (omega arith) (omega arith) e

pub returns-clause-form : goal.returns-clause-form
returns-clause-form c = λ text. (λ h. is_numeral text h.0 h.1 h.2, λ h. spelled_by text h.0 h.1)

pub returns-clause-above_spaces : goal.returns-clause-above_spaces
returns-clause-above_spaces c = λ n small k d lt. above_spaces n k d small lt
