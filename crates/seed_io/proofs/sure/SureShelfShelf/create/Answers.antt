use Rattle.seed_io.proofs.Outcomes.{creates_nothing}
use Rattle.seed_io.proofs.sure.SureShelfShelf.create.Goals as goal

pub returns-else-put-clause-map : goal.returns-else-put-clause-map
returns-else-put-clause-map c = λ t. creates_nothing _ _ _ (c.put.ensures.same c.if-put.false)
