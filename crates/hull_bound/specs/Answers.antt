-- What is answered of a node.
use Rattle.seed_model.specs.declared.node.Node.{Node}
use Rattle.seed_model.specs.declared.range.Range.{Range}
use Rattle.seed_model.specs.Tables.{TableValue}
use Rattle.seed_model.specs.Nodes.{IsLow, IsHigh}
use Rattle.hull_bound.specs.declared.answer.NodeAnswer.{NodeAnswer}
use Rattle.hull_bound.specs.declared.answer.NodeAnswer.TheVariants.{Low, High, Bound}
use Rattle.hull_bound.specs.Relaxations.{IsRelaxation}

-- low where the node is low, high where it is high and not low, and otherwise the relaxation
abbrev pub IsAnswer : TableValue → Range → Node → NodeAnswer → Type 0
IsAnswer table range node Low = IsLow table range node
IsAnswer table range node High = IsHigh table range node × ¬ IsLow table range node
IsAnswer table range node (Bound multipliers mix) = ¬ IsLow table range node × ¬ IsHigh table range node × IsRelaxation table range node multipliers mix
