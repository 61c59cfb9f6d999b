-- Valid documents: certificates of a plan, of none, or of a bound.
use Rattle.std.specs.Prelude.{◌≡◌, ℕ, ◌<◌, List, Option, Some, None, IfSome}
use Rattle.seed_model.specs.declared.node.Node.{Node}
use Rattle.seed_model.specs.declared.range.Range.{Range}
use Rattle.seed_model.specs.Files.{holds}
use Rattle.seed_model.specs.Tables.{TableValue}
use Rattle.seed_model.specs.Sums.{migrated_of, replicated_of}
use Rattle.seed_model.specs.Nodes.{IsNode, IsAdmitted}
use Rattle.bound_cert.specs.declared.node_line.NodeLine.{NodeLine}
use Rattle.bound_cert.specs.declared.heading.Answer.{Answer}
use Rattle.bound_cert.specs.declared.heading.Answer.TheVariants.{Optimal, Infeasible, Open}
use Rattle.bound_cert.specs.declared.heading.Heading.{Heading}
use Rattle.bound_cert.specs.declared.heading.Pins.{Pins}
use Rattle.bound_cert.specs.declared.heading.Claimed.{Claimed}
use Rattle.bound_cert.specs.Documents.{IsDocument, document_text}
use Rattle.bound_cert.specs.Sets.{IsSetOf, set_named, root_of}
use Rattle.bound_cert.specs.Trees.{Tree, preorder, Stands}

-- a plan's word names a set that is admitted, and the sums printed with it are the set's
pub record IsClaim (table : TableValue) (range : Range) (root : Node) (claimed : Claimed) : Type 0 where
  pub set : IsSetOf table.files claimed.set
  pub migrated : claimed.migrated ≡ migrated_of (holds (set_named table.files claimed.set)) table
  pub replicated : claimed.replicated ≡ replicated_of (holds (set_named table.files claimed.set)) table
  pub admitted : IsAdmitted table range root (holds (set_named table.files claimed.set))

-- the pins are sets without a common file
abbrev pub ArePins : ℕ → Option Pins → Type 0
ArePins files None = Unit {0}
ArePins files (Some pins) = IsSetOf files pins.go × IsSetOf files pins.stay × IsNode files (root_of files (Some pins))

-- An optimal answer has a plan that replicates what the bound says; an infeasible one has neither plan nor bound; an
-- open one has a bound, and its plan, if any, replicates more.
abbrev pub Agrees : Answer → Option Claimed → Option ℕ → Type 0
Agrees Optimal (Some plan) (Some bound) = bound ≡ plan.replicated
Agrees Optimal (Some plan) None = ⊥
Agrees Optimal None bound = ⊥
Agrees Infeasible None None = Unit {0}
Agrees Infeasible None (Some bound) = ⊥
Agrees Infeasible (Some plan) bound = ⊥
Agrees Open None (Some bound) = Unit {0}
Agrees Open (Some plan) (Some bound) = bound < plan.replicated
Agrees Open plan None = ⊥

-- the answer and the plan are right, and the tree stands for the bound at the root
pub record IsValid (table : TableValue) (heading : Heading) (nodes : List NodeLine) : Type 0 where
  pub pins : ArePins table.files heading.pins
  pub plan : IfSome heading.plan (IsClaim table heading.range (root_of table.files heading.pins))
  pub agrees : Agrees heading.answer heading.plan heading.bound
  pub tree : Tree
  pub lines : nodes ≡ preorder tree
  pub stands : Stands table heading.range heading.bound (root_of table.files heading.pins) tree

-- the text of a valid document
pub record IsValidText (table : TableValue) (text : List ℕ) : Type 0 where
  pub heading : Heading
  pub nodes : List NodeLine
  pub document : IsDocument heading nodes
  pub text_is : text ≡ document_text heading nodes
  pub valid : IsValid table heading nodes
