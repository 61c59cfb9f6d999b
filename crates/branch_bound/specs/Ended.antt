-- How a search ended, and what its certificate claims.
use Rattle.std.specs.Prelude.{◌≡◌, ℕ, ◌+◌, ◌*◌, ◌<◌, List, [], ◌∷◌, All, Option, Some, None, option_map}
use Rattle.seed_model.specs.declared.node.Node.{Node}
use Rattle.seed_model.specs.declared.range.Range.{Range}
use Rattle.seed_model.specs.Tables.{TableValue}
use Rattle.seed_ratio.specs.Fractions.{IsCeiling}
use Rattle.bound_cert.specs.declared.heading.Answer.{Answer}
use Rattle.bound_cert.specs.declared.heading.Answer.TheVariants.{Optimal, Infeasible, Open}
use Rattle.bound_cert.specs.declared.heading.Heading.{Heading}
use Rattle.bound_cert.specs.declared.node_line.NodeLine.{NodeLine}
use Rattle.branch_bound.specs.declared.candidate.Candidate.{Candidate}
use Rattle.branch_bound.specs.declared.ending.Ending.{Ending}
use Rattle.branch_bound.specs.declared.ending.Ending.TheVariants.{Closed, Spent}
use Rattle.branch_bound.specs.declared.entry.Entry.{Entry}
use Rattle.branch_bound.specs.declared.entry.Kept.{Kept}
use Rattle.branch_bound.specs.declared.visits.Visit.{Visit}
use Rattle.branch_bound.specs.Entries.{entry_at, AreNodes}
use Rattle.branch_bound.specs.Orders.{GoesFirst}
use Rattle.branch_bound.specs.Outcomes.{named_pins}
use Rattle.branch_bound.specs.States.{claim_of, IsState, GoesOn}
use Rattle.branch_bound.specs.Written.{IsLineOf}

-- no candidate may hold a better plan; without a plan none is left
abbrev pub NoneBetter : Option Kept → List Candidate → Type 0
NoneBetter None candidates = candidates ≡ []
NoneBetter (Some kept) candidates = All (λ (c : Candidate). kept.replicated * c.weight < c.worth + c.weight) candidates

pub record IsClosed (table : TableValue) (range : Range) (root : Node) (kept : Option Kept) (branchings : ℕ) (es : List Entry) : Type 0 where
  pub candidates : List Candidate
  pub state : IsState table range root kept branchings es candidates
  pub none_better : NoneBetter kept candidates

-- the budget is spent, and the first candidate may hold a better plan
pub record IsSpent (table : TableValue) (range : Range) (root : Node) (budget whole : ℕ) (kept : Option Kept) (branchings : ℕ) (es : List Entry) : Type 0 where
  pub first : Candidate
  pub rest : List Candidate
  pub state : IsState table range root kept branchings es (first ∷ rest)
  pub least : All (GoesFirst first) (first ∷ rest)
  pub ceiling : IsCeiling first.worth first.weight whole
  pub goes_on : GoesOn kept first
  pub made : branchings ≡ budget

abbrev pub IsEnded : TableValue → Range → Node → ℕ → Option Kept → ℕ → List Entry → Ending → Type 0
IsEnded table range root budget kept branchings es Closed = IsClosed table range root kept branchings es
IsEnded table range root budget kept branchings es (Spent whole) = IsSpent table range root budget whole kept branchings es

abbrev pub answer_of : Option Kept → Ending → Answer
answer_of kept (Spent whole) = Open
answer_of None Closed = Infeasible
answer_of (Some kept) Closed = Optimal

-- the bytes that every plan replicates at least
abbrev pub bound_of : Option Kept → Ending → Option ℕ
bound_of kept Closed = option_map (λ (k : Kept). k.replicated) kept
bound_of kept (Spent whole) = Some whole

-- those at which the tree is cut
abbrev pub cut_of : Option Kept → Ending → Option ℕ
cut_of kept Closed = option_map (λ (k : Kept). k.replicated) kept
cut_of kept (Spent whole) = None

abbrev pub heading_of : Range → Option Node → Option Kept → Ending → Heading
heading_of range pins kept ending =
    record { range = range; pins = named_pins pins; answer = answer_of kept ending; plan = option_map claim_of kept; bound = bound_of kept ending }

-- each visited node has its line
abbrev pub EachLine : TableValue → List Entry → (ℕ → Node) → List Visit → List NodeLine → Type 0
EachLine table es nodes [] [] = Unit {0}
EachLine table es nodes [] (line ∷ lines) = ⊥
EachLine table es nodes (visit ∷ visited) [] = ⊥
EachLine table es nodes (visit ∷ visited) (line ∷ lines) =
    IsLineOf table visit.cut (nodes visit.number) (entry_at es visit.number).file (entry_at es visit.number).finding line × EachLine table es nodes visited lines

abbrev pub AreVisited : TableValue → Node → List Entry → List Visit → List NodeLine → Type 0
AreVisited table root es visited lines = (nodes : ℕ → Node) → AreNodes root es nodes → EachLine table es nodes visited lines
