-- What a search keeps true between two branchings.
use Rattle.std.specs.Prelude.{◌≡◌, ◌≢◌, ℕ, ◌+◌, ◌*◌, ◌<◌, ◌≤◌, List, length, Bool, Option, Some, None, All, IfSome, IsSomeAnd, option_map, sum_by}
use Rattle.seed_model.specs.declared.node.Node.{Node}
use Rattle.seed_model.specs.declared.range.Range.{Range}
use Rattle.seed_model.specs.Differences.{IsFirstDifference}
use Rattle.seed_model.specs.Files.{holds}
use Rattle.seed_model.specs.Tables.{TableValue}
use Rattle.seed_model.specs.Sums.{migrated_of, replicated_of}
use Rattle.seed_model.specs.Nodes.{IsNode, IsMember, IsAdmitted, IsLow, IsHigh, mixed_replicated, weight_of}
use Rattle.seed_text.specs.SetTexts.{set_text}
use Rattle.bound_cert.specs.declared.heading.Claimed.{Claimed}
use Rattle.bound_cert.specs.declared.multipliers.Multipliers.{Multipliers}
use Rattle.bound_cert.specs.Spent.{IsNoBetter}
use Rattle.hull_bound.specs.Relaxations.{IsRelaxation}
use Rattle.branch_bound.specs.declared.candidate.Candidate.{Candidate}
use Rattle.branch_bound.specs.declared.entry.Relaxation.{Relaxation}
use Rattle.branch_bound.specs.declared.entry.Finding.{Finding}
use Rattle.branch_bound.specs.declared.entry.Finding.TheVariants.{Low, High, Valued}
use Rattle.branch_bound.specs.declared.entry.Entry.{Entry}
use Rattle.branch_bound.specs.declared.entry.Kept.{Kept}
use Rattle.branch_bound.specs.Entries.{entry_at, AreOrigins, AreNodes}
use Rattle.branch_bound.specs.Fractions.{Fraction, AtMost, value_of_mix}
use Rattle.branch_bound.specs.SearchTrees.{SearchTree, top, parents, is_at, StandsOnce, LeadsThrough, IsTreeOf}

-- the plan as a certificate claims it
abbrev pub claim_of : Kept → Claimed
claim_of kept = record { set = set_text kept.set; migrated = kept.migrated; replicated = kept.replicated }

-- a plan is admitted, and its sums are those of its set
pub record IsKept (table : TableValue) (range : Range) (root : Node) (kept : Kept) : Type 0 where
  pub files : length kept.set ≡ table.files
  pub migrated : kept.migrated ≡ migrated_of (holds kept.set) table
  pub replicated : kept.replicated ≡ replicated_of (holds kept.set) table
  pub admitted : IsAdmitted table range root (holds kept.set)

-- a set is no better than the plan that is kept
abbrev pub IsOffered : TableValue → Range → Option Kept → List Bool → Type 0
IsOffered table range kept set = IsNoBetter table range (option_map claim_of kept) set

-- a later plan is no worse
abbrev pub KeepsBetter : Option Kept → Option Kept → Type 0
KeepsBetter None now = Unit {0}
KeepsBetter (Some kept) now = IsSomeAnd now (λ k. k.replicated ≤ kept.replicated)

-- a node of the tree of a root: each member of it is one of the root's
pub record IsBelow (files : ℕ) (root node : Node) : Type 0 where
  pub is_node : IsNode files node
  pub members : (set : ℕ → Bool) → IsMember files node set → IsMember files root set

-- the relaxation at a node, with both sets of its mix offered
pub record IsKnown (table : TableValue) (range : Range) (kept : Option Kept) (node : Node) (r : Relaxation) : Type 0 where
  pub multipliers : Multipliers
  pub relaxation : IsRelaxation table range node multipliers r.mix
  pub p : multipliers.p ≡ r.p
  pub q : multipliers.q ≡ r.q
  pub worth : r.worth ≡ mixed_replicated table r.mix
  pub first : IsOffered table range kept r.mix.first
  pub second : IsOffered table range kept r.mix.second

-- What is branched has a value of at most some level, and what waits has a value of at least that. A branching is on the
-- first file in exactly one set of its mix.
abbrev pub IsPlaced : TableValue → Fraction → Option ℕ → Relaxation → Type 0
IsPlaced table level None r = AtMost level (value_of_mix table r.mix)
IsPlaced table level (Some file) r = AtMost (value_of_mix table r.mix) level × IsFirstDifference r.mix.first r.mix.second file

-- what was found at a node, and the file on which it is branched
abbrev pub IsFound : TableValue → Range → Option Kept → Fraction → Node → Option ℕ → Finding → Type 0
IsFound table range kept level node file Low = IsLow table range node × (file ≡ None)
IsFound table range kept level node file High = IsHigh table range node × (file ≡ None)
IsFound table range kept level node file (Valued r) = IsKnown table range kept node r × IsPlaced table level file r

-- what was found at a new node
abbrev pub IsNew : TableValue → Range → Option Kept → Node → Finding → Type 0
IsNew table range kept node Low = IsLow table range node
IsNew table range kept node High = IsHigh table range node
IsNew table range kept node (Valued r) = IsKnown table range kept node r

-- whether a node waits, and the candidate that stands for it
abbrev pub waits : Option ℕ → Finding → ℕ
waits None (Valued r) = 1
waits None Low = 0
waits None High = 0
waits (Some file) finding = 0

abbrev pub IsCandidateOf : Candidate → Option ℕ → Finding → Type 0
IsCandidateOf c None (Valued r) = (c.worth ≡ r.worth) × (c.weight ≡ weight_of r.mix)
IsCandidateOf c None Low = ⊥
IsCandidateOf c None High = ⊥
IsCandidateOf c (Some file) finding = ⊥

-- how often a node stands among candidates
abbrev pub times_in : ℕ → List Candidate → ℕ
times_in k candidates = sum_by (λ (c : Candidate). is_at k c.number) candidates

-- each node that waits stands once among the candidates, with its value, and no other does
abbrev pub HoldsWaiting : List Entry → List Candidate → Type 0
HoldsWaiting es candidates = (k : ℕ) → times_in k candidates ≡ waits (entry_at es k).file (entry_at es k).finding

abbrev pub HaveValues : List Entry → List Candidate → Type 0
HaveValues es candidates = All (λ (c : Candidate). IsCandidateOf c (entry_at es c.number).file (entry_at es c.number).finding) candidates

-- The entries make a tree in preorder, with the node of each. The children of branched nodes are new nodes; what waits is
-- a candidate. So many branchings were made.
pub record IsState (table : TableValue) (range : Range) (root : Node) (kept : Option Kept) (branchings : ℕ) (es : List Entry) (candidates : List Candidate) : Type 0 where
  pub tree : SearchTree
  pub nodes : ℕ → Node
  pub level : Fraction
  pub begins : top tree ≡ 0
  pub once : StandsOnce (length es) tree
  pub count : length es ≡ 2 * branchings + 1
  pub made : parents tree ≡ branchings
  pub tree_of : IsTreeOf (entry_at es) nodes tree
  pub linked : LeadsThrough (λ k. (entry_at es k).next) tree None
  pub origins : AreOrigins table.files es
  pub are_nodes : AreNodes root es nodes
  pub root_is : nodes 0 ≡ root
  pub below : (k : ℕ) → k < length es → IsBelow table.files root (nodes k)
  pub level_positive : 0 < level.under
  pub found : (k : ℕ) → k < length es → IsFound table range kept level (nodes k) (entry_at es k).file (entry_at es k).finding
  pub plan : IfSome kept (IsKept table range root)
  pub waiting : HoldsWaiting es candidates
  pub values : HaveValues es candidates

-- a candidate may hold a better plan: none is kept, or the candidate's value rounded up is below its bytes
abbrev pub GoesOn : Option Kept → Candidate → Type 0
GoesOn None c = Unit {0}
GoesOn (Some kept) c = c.worth + c.weight ≤ kept.replicated * c.weight

-- the two sets of the mix at a node differ, first at a file
abbrev pub MayDiffer : Finding → Type 0
MayDiffer Low = ⊥
MayDiffer High = ⊥
MayDiffer (Valued r) = (length r.mix.first ≡ length r.mix.second) × (r.mix.first ≢ r.mix.second)

abbrev pub DiffersAt : ℕ → Finding → Type 0
DiffersAt file Low = ⊥
DiffersAt file High = ⊥
DiffersAt file (Valued r) = IsFirstDifference r.mix.first r.mix.second file

-- a plan is kept that replicates at most so many bytes
abbrev pub IsReached : ℕ → Option Kept → Type 0
IsReached bytes None = ⊥
IsReached bytes (Some kept) = kept.replicated ≤ bytes
