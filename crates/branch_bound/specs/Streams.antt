-- The certificate of a search under a name of a shelf, whole or in part.
use Rattle.std.specs.Prelude.{◌≡◌, ◌⊎◌, ℕ, ◌++◌, List, Bool, true, Option, Some, None, option_map, count_by}
use Rattle.std.specs.List.{flat_map}
use Rattle.seed_model.specs.declared.node.Node.{Node}
use Rattle.seed_model.specs.declared.range.Range.{Range}
use Rattle.seed_model.specs.Tables.{TableValue}
use Rattle.seed_text.specs.SetTexts.{set_text}
use Rattle.bound_cert.specs.declared.heading.Claimed.{Claimed}
use Rattle.bound_cert.specs.declared.heading.Heading.{Heading}
use Rattle.bound_cert.specs.declared.node_line.NodeLine.{NodeLine}
use Rattle.bound_cert.specs.Documents.{IsDocument, document_text, node_entries}
use Rattle.bound_cert.specs.Grammar.{text_of}
use Rattle.bound_cert.specs.Trees.{is_branch}
use Rattle.branch_bound.specs.declared.found.Found.{Found}
use Rattle.branch_bound.specs.declared.outcome.Outcome.{Outcome}
use Rattle.branch_bound.specs.declared.visits.Visit.{Visit}
use Rattle.branch_bound.specs.Ended.{AreVisited}
use Rattle.branch_bound.specs.Outcomes.{IsSearched}
use Rattle.branch_bound.specs.Visits.{AreInside}

-- the plan of a certificate, with its sums; without a plan they are 0
abbrev pub SaysPlan : Outcome → Option Claimed → Type 0
SaysPlan outcome None = (outcome.plan ≡ None) × (outcome.migrated ≡ 0) × (outcome.replicated ≡ 0)
SaysPlan outcome (Some claimed) =
    (option_map set_text outcome.plan ≡ Some claimed.set) × (outcome.migrated ≡ claimed.migrated) × (outcome.replicated ≡ claimed.replicated)

-- an outcome is what a certificate says
pub record IsOutcomeOf (heading : Heading) (nodes : List NodeLine) (outcome : Outcome) : Type 0 where
  pub answer : outcome.answer ≡ heading.answer
  pub plan : SaysPlan outcome heading.plan
  pub bound : outcome.bound ≡ heading.bound
  pub branchings : outcome.branchings ≡ count_by is_branch nodes

-- the text is that of a certificate of a search
pub record IsSearchText (table : TableValue) (range : Range) (pins : Option Node) (budget : ℕ) (text : List ℕ) : Type 0 where
  pub heading : Heading
  pub nodes : List NodeLine
  pub document : IsDocument heading nodes
  pub text_is : text ≡ document_text heading nodes
  pub searched : IsSearched table range pins budget heading nodes

-- the outcome is what such a text says
pub record IsSaid (table : TableValue) (range : Range) (pins : Option Node) (budget : ℕ) (outcome : Outcome) : Type 0 where
  pub bytes : List ℕ
  pub text : IsSearchText table range pins budget bytes
  pub outcome_of : IsOutcomeOf text.heading text.nodes outcome

-- the bytes are a front of such a text
pub record IsSearchFront (table : TableValue) (range : Range) (pins : Option Node) (budget : ℕ) (bytes : List ℕ) : Type 0 where
  pub rest : List ℕ
  pub whole : IsSearchText table range pins budget (bytes ++ rest)

-- a name's bytes are as they were, or a front of such a text
abbrev pub LeavesFront : TableValue → Range → Option Node → ℕ → Option (List ℕ) → Option (List ℕ) → Type 0
LeavesFront table range pins budget old None = old ≡ None
LeavesFront table range pins budget old (Some bytes) = (old ≡ Some bytes) ⊎ IsSearchFront table range pins budget bytes

-- the name has such a text, and the outcome is what it says
pub record IsPlanned (table : TableValue) (range : Range) (pins : Option Node) (budget : ℕ) (now : Option (List ℕ)) (outcome : Outcome) : Type 0 where
  pub bytes : List ℕ
  pub held : now ≡ Some bytes
  pub text : IsSearchText table range pins budget bytes
  pub outcome_of : IsOutcomeOf text.heading text.nodes outcome

-- the text of nodes, one behind the other
abbrev pub nodes_text : List NodeLine → List ℕ
nodes_text nodes = text_of (flat_map node_entries nodes)

-- a name holds a front of these bytes
pub record HoldsFront (now : Option (List ℕ)) (whole : List ℕ) : Type 0 where
  pub bytes : List ℕ
  pub rest : List ℕ
  pub held : now ≡ Some bytes
  pub is : whole ≡ bytes ++ rest

-- lines of visited nodes of a search
pub record SomeLines (table : TableValue) (found : Found) (visited : List Visit) : Type 0 where
  pub lines : List NodeLine
  pub are : AreVisited table found.root found.state.entries visited lines

-- each node of it has a line
abbrev pub HaveLines : TableValue → Found → Type 0
HaveLines table found = (visited : List Visit) → AreInside found.state.entries visited → SomeLines table found visited

-- the text of visited nodes was added to a name, with so many branchings among them
pub record AreAdded (table : TableValue) (found : Found) (visited : List Visit) (tells : Bool) (old now : Option (List ℕ)) (branchings : ℕ) : Type 0 where
  pub lines : List NodeLine
  pub are : AreVisited table found.root found.state.entries visited lines
  pub counted : branchings ≡ count_by is_branch lines
  pub added : tells ≡ true → (held : List ℕ) → old ≡ Some held → now ≡ Some (held ++ nodes_text lines)

-- a front of it was: that of some of them, or a front of that
pub record IsPartAdded (table : TableValue) (found : Found) (visited : List Visit) (old now : Option (List ℕ)) : Type 0 where
  pub front : List Visit
  pub rest : List Visit
  pub split : visited ≡ front ++ rest
  pub lines : List NodeLine
  pub are : AreVisited table found.root found.state.entries front lines
  pub holds : (held : List ℕ) → old ≡ Some held → HoldsFront now (held ++ nodes_text lines)

-- a name has the text of a search's certificate, with so many branchings
pub record HoldsText (table : TableValue) (found : Found) (tells : Bool) (now : Option (List ℕ)) (branchings : ℕ) : Type 0 where
  pub lines : List NodeLine
  pub are : AreVisited table found.root found.state.entries found.visited.items lines
  pub counted : branchings ≡ count_by is_branch lines
  pub held : tells ≡ true → now ≡ Some (document_text found.heading lines)

-- a name has a front of such a text
pub record HoldsPart (table : TableValue) (found : Found) (now : Option (List ℕ)) : Type 0 where
  pub lines : List NodeLine
  pub are : AreVisited table found.root found.state.entries found.visited.items lines
  pub front : HoldsFront now (document_text found.heading lines)
