-- What a search ends with: a certificate, and what it shows besides that it is valid.
use Rattle.std.specs.Prelude.{◌≡◌, ℕ, ◌+◌, ◌<◌, ◌≤◌, ◌^◌, List, Option, Some, None, count_by, if◌then◌else◌}
use Rattle.seed_model.specs.declared.node.Node.{Node}
use Rattle.seed_model.specs.declared.range.Range.{Range}
use Rattle.seed_model.specs.Keys.{sum_below}
use Rattle.seed_model.specs.Nodes.{undecided_node, is_free}
use Rattle.seed_model.specs.Tables.{TableValue}
use Rattle.seed_text.specs.SetTexts.{set_text}
use Rattle.bound_cert.specs.declared.heading.Answer.{Answer}
use Rattle.bound_cert.specs.declared.heading.Answer.TheVariants.{Optimal, Infeasible, Open}
use Rattle.bound_cert.specs.declared.heading.Claimed.{Claimed}
use Rattle.bound_cert.specs.declared.heading.Heading.{Heading}
use Rattle.bound_cert.specs.declared.heading.Pins.{Pins}
use Rattle.bound_cert.specs.declared.node_line.NodeLine.{NodeLine}
use Rattle.bound_cert.specs.Trees.{Tree, EachFork, is_branch}
use Rattle.bound_cert.specs.Spent.{HasNodeValue, StaysBelow, HasSpent}
use Rattle.bound_cert.specs.Valid.{IsValid}

-- how many files a node leaves undecided
abbrev pub free_files : ℕ → Node → ℕ
free_files files node = sum_below (λ file. if is_free node file then 1 else 0) files

-- where a search begins: at the pins, or where no file is decided
abbrev pub search_root : ℕ → Option Node → Node
search_root files None = undecided_node files
search_root files (Some pins) = pins

-- the pins as a certificate names them
abbrev pub named_pins : Option Node → Option Pins
named_pins None = None
named_pins (Some pins) = Some (record { go = set_text pins.inside; stay = set_text pins.outside })

-- No bound leaf could close the node of a branching of an optimal certificate. An open one has spent the budget, which
-- was less than what decides every file.
abbrev pub Concludes : TableValue → Range → ℕ → Node → Tree → Answer → Option Claimed → Option ℕ → Type 0
Concludes table range budget root tree Optimal plan None = ⊥
Concludes table range budget root tree Optimal plan (Some bound) = EachFork (StaysBelow table bound) root tree
Concludes table range budget root tree Infeasible plan bound = Unit {0}
Concludes table range budget root tree Open plan None = ⊥
Concludes table range budget root tree Open plan (Some bound) =
    HasSpent table range plan bound budget root tree × (budget + 1 < 2 ^ free_files table.files root)

-- A certificate of a search with a budget of branchings: for this range and these pins, valid, within the budget, and
-- the mix of each branching has the value of its node.
pub record IsSearched (table : TableValue) (range : Range) (pins : Option Node) (budget : ℕ) (heading : Heading) (nodes : List NodeLine) : Type 0 where
  pub same_range : heading.range ≡ range
  pub same_pins : heading.pins ≡ named_pins pins
  pub valid : IsValid table heading nodes
  pub within : count_by is_branch nodes ≤ budget
  pub values : EachFork (HasNodeValue table range) (search_root table.files pins) valid.tree
  pub concludes : Concludes table range budget (search_root table.files pins) valid.tree heading.answer heading.plan heading.bound
