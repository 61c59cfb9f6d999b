-- The lines of a certificate that the entries of a search are written as.
use Rattle.std.specs.Prelude.{◌≡◌, ℕ, ◌<◌, ◌≤◌, ◌^◌, length, Bool, true, false, List, [], ◌∷◌, ◌++◌, Option, Some, None, MatchBool}
use Rattle.seed_model.specs.declared.node.Node.{Node}
use Rattle.seed_model.specs.Nodes.{IsNode}
use Rattle.seed_model.specs.Tables.{TableValue}
use Rattle.seed_text.specs.SetTexts.{set_text}
use Rattle.bound_cert.specs.declared.multipliers.Multipliers.{Multipliers}
use Rattle.bound_cert.specs.declared.node_line.NodeLine.{NodeLine}
use Rattle.bound_cert.specs.declared.node_line.NodeLine.TheVariants as line
use Rattle.hull_bound.specs.Forms.{AreMultipliersAt}
use Rattle.branch_bound.specs.declared.entry.Entry.{Entry}
use Rattle.branch_bound.specs.declared.entry.Relaxation.{Relaxation}
use Rattle.branch_bound.specs.declared.entry.Finding.{Finding}
use Rattle.branch_bound.specs.declared.entry.Finding.TheVariants.{Low, High, Valued}
use Rattle.branch_bound.specs.Cuts.{is_cut}
use Rattle.branch_bound.specs.Entries.{entry_at, AreOrigins, AreNodes}
use Rattle.branch_bound.specs.SearchTrees.{SearchTree, Childless, Parent}

-- a leaf with multipliers at the node's slope
pub record IsLeafLine (table : TableValue) (node : Node) (r : Relaxation) (written : NodeLine) : Type 0 where
  pub multipliers : Multipliers
  pub is : written ≡ line.Leaf multipliers
  pub at_slope : AreMultipliersAt table node r.p r.q multipliers

-- a branching with the node's mix
abbrev pub branch_line : Relaxation → ℕ → NodeLine
branch_line r file = line.Branch file (set_text r.mix.first) (set_text r.mix.second) r.mix.alpha r.mix.beta

-- the line of a node that has a value: a leaf, or a branching that is not cut
abbrev pub IsValuedLine : TableValue → Bool → Node → Option ℕ → Relaxation → NodeLine → Type 0
IsValuedLine table cut node None r written = IsLeafLine table node r written
IsValuedLine table true node (Some file) r written = IsLeafLine table node r written
IsValuedLine table false node (Some file) r written = written ≡ branch_line r file

-- the line of a node
abbrev pub IsLineOf : TableValue → Bool → Node → Option ℕ → Finding → NodeLine → Type 0
IsLineOf table cut node file Low written = written ≡ line.Low
IsLineOf table cut node file High written = written ≡ line.High
IsLineOf table cut node file (Valued r) written = IsValuedLine table cut node file r written

-- one line alone, or one and those of both children
abbrev pub IsLineAlone : TableValue → Bool → Node → Option ℕ → Finding → List NodeLine → Type 0
IsLineAlone table cut node file finding lines = (written : NodeLine) × (lines ≡ written ∷ []) × IsLineOf table cut node file finding written

-- the lines of a tree; what lies below a node that is cut is left out
abbrev pub AreLinesOf : TableValue → Option ℕ → (ℕ → Entry) → (ℕ → Node) → SearchTree → List NodeLine → Type 0
AreLinesOf table bytes at nodes (Childless k) lines = IsLineAlone table (is_cut bytes (at k).finding) (nodes k) (at k).file (at k).finding lines
AreLinesOf table bytes at nodes (Parent k out inn) lines =
    MatchBool (is_cut bytes (at k).finding)
    (IsLineAlone table true (nodes k) (at k).file (at k).finding lines)
    ((written : NodeLine) × (below_out : List NodeLine) × (below_in : List NodeLine) × (lines ≡ written ∷ (below_out ++ below_in)) × IsLineOf table false (nodes k) (at k).file (at k).finding written
    × AreLinesOf table bytes at nodes out below_out × AreLinesOf table bytes at nodes inn below_in)

-- the lines of trees one behind the other
abbrev pub AreLinesOfAll : TableValue → Option ℕ → (ℕ → Entry) → (ℕ → Node) → List SearchTree → List NodeLine → Type 0
AreLinesOfAll table bytes at nodes [] lines = lines ≡ []
AreLinesOfAll table bytes at nodes (tree ∷ trees) lines =
    (front : List NodeLine) × (rest : List NodeLine) × (lines ≡ front ++ rest) × AreLinesOf table bytes at nodes tree front × AreLinesOfAll table bytes at nodes trees rest

-- what a line of a node wants: the slope of its multipliers is lawful
abbrev pub IsSlope : Relaxation → Type 0
IsSlope r = (r.p ≤ 2 ^ 50) × (1 ≤ r.q) × (r.q ≤ 2 ^ 50)

abbrev pub IsWritable : Finding → Type 0
IsWritable Low = Unit {0}
IsWritable High = Unit {0}
IsWritable (Valued r) = IsSlope r

pub record AreWritable (table : TableValue) (root : Node) (es : List Entry) : Type 0 where
  pub nodes : ℕ → Node
  pub are_nodes : AreNodes root es nodes
  pub origins : AreOrigins table.files es
  pub lawful : (k : ℕ) → k < length es → IsNode table.files (nodes k)
  pub findings : (k : ℕ) → k < length es → IsWritable (entry_at es k).finding
