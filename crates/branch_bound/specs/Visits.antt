-- The nodes that are written, in preorder; what lies below one that is cut is passed over.
use Rattle.std.specs.Prelude.{◌≡◌, ℕ, ◌+◌, ◌-◌, ◌^◌, ◌<◌, nat_lt, ◌&&◌, ◌||◌, Bool, List, [], ◌∷◌, ◌++◌, length, All, Option, None, if◌then◌else◌}
use Rattle.seed_model.specs.Nodes.{weight_of}
use Rattle.branch_bound.specs.declared.entry.Entry.{Entry}
use Rattle.branch_bound.specs.declared.entry.Finding.{Finding}
use Rattle.branch_bound.specs.declared.entry.Finding.TheVariants.{Low, High, Valued}
use Rattle.branch_bound.specs.declared.visits.Visit.{Visit}
use Rattle.branch_bound.specs.Entries.{entry_at}
use Rattle.branch_bound.specs.SearchTrees.{SearchTree, Childless, Parent, top, numbers, LeadsThrough}
use Rattle.branch_bound.specs.Cuts.{is_cut}

-- childless just where no file was chosen
abbrev pub IsShapeOf : (ℕ → Entry) → SearchTree → Type 0
IsShapeOf at (Childless k) = (at k).file ≡ None
IsShapeOf at (Parent k out inn) = ((at k).file ≡ None → ⊥) × IsShapeOf at out × IsShapeOf at inn

-- entries that are linked as a tree in preorder, from the first on, each of them once
pub record IsOrdered (es : List Entry) (tree : SearchTree) : Type 0 where
  pub begins : top tree ≡ 0
  pub shape : IsShapeOf (entry_at es) tree
  pub linked : LeadsThrough (λ k. (entry_at es k).next) tree None
  pub below : All (λ k. k < length es) (numbers tree)
  pub count : length (numbers tree) ≡ length es

pub record AreOrdered (es : List Entry) : Type 0 where
  pub tree : SearchTree
  pub ordered : IsOrdered es tree

-- the weights of a mix are not both 0, and far from what a number holds
abbrev pub HasWeight : Finding → Type 0
HasWeight Low = Unit {0}
HasWeight High = Unit {0}
HasWeight (Valued r) = (0 < weight_of r.mix) × (weight_of r.mix < 2 ^ 53)

abbrev pub HaveWeights : List Entry → Type 0
HaveWeights es = (k : ℕ) → k < length es → HasWeight (entry_at es k).finding

abbrev pub visit_of : Option ℕ → (ℕ → Entry) → ℕ → Visit
visit_of bytes at k = record { number = k; cut = is_cut bytes (at k).finding }

abbrev pub visits : Option ℕ → (ℕ → Entry) → SearchTree → List Visit
visits bytes at (Childless k) = visit_of bytes at k ∷ []
visits bytes at (Parent k out inn) = visit_of bytes at k ∷ (if is_cut bytes (at k).finding then [] else visits bytes at out ++ visits bytes at inn)

-- those of trees one behind the other
abbrev pub visits_of_all : Option ℕ → (ℕ → Entry) → List SearchTree → List Visit
visits_of_all bytes at [] = []
visits_of_all bytes at (tree ∷ trees) = visits bytes at tree ++ visits_of_all bytes at trees

-- how many of the trees that come next are left out behind a node
abbrev pub skipped : ℕ → Bool → Bool → ℕ
skipped skip cut parent = if parent && (nat_lt 0 skip || cut) then skip - 1 + 2 else skip - 1

-- the numbers of visited nodes are those of entries
abbrev pub AreInside : List Entry → List Visit → Type 0
AreInside es visited = All (λ (v : Visit). v.number < length es) visited
