-- The definitions at a search among three files. The root is branched; of its children the second has the value 135/26
-- and the first 25/3, so the second is branched next, into a low and a high node, and then the first.
use Rattle.std.proofs.Common.{◌≡◌, ◌∷◌, [], refl, lit<, Greater}
use Rattle.seed_model.specs.Nodes.{undecided_node, put_inside}
use Rattle.branch_bound.specs.declared.candidate.Candidate.{Candidate}
use Rattle.branch_bound.specs.Orders.{candidate_cmp}
use Rattle.branch_bound.specs.Outcomes.{free_files}
use Rattle.branch_bound.specs.SearchTrees.{SearchTree, Childless, Parent, grown, numbers, parents}

out_child : Candidate
out_child = record { worth = 350; weight = 42; number = 1; weighed = lit< tt }

in_child : Candidate
in_child = record { worth = 270; weight = 52; number = 2; weighed = lit< tt }

-- the in child is taken first
less_first : candidate_cmp in_child out_child ≡ Greater
unfolding out_child in_child
less_first = refl

-- and of equal values the one made first
twice : Candidate
twice = record { worth = 135; weight = 26; number = 7; weighed = lit< tt }

earlier_first : candidate_cmp in_child twice ≡ Greater
unfolding in_child twice
earlier_first = refl

-- the tree, and its numbers in preorder
search_tree : SearchTree
search_tree = grown 1 5 (grown 2 3 (grown 0 1 (Childless 0)))

tree_is : search_tree ≡ Parent 0 (Parent 1 (Childless 5) (Childless 6)) (Parent 2 (Childless 3) (Childless 4))
unfolding search_tree
tree_is = refl

in_preorder : numbers search_tree ≡ 0 ∷ 1 ∷ 5 ∷ 6 ∷ 2 ∷ 3 ∷ 4 ∷ []
unfolding search_tree
in_preorder = refl

three_parents : parents search_tree ≡ 3
unfolding search_tree
three_parents = refl

-- the files that are left undecided
all_free : free_files 3 (undecided_node 3) ≡ 3
all_free = refl

two_free : free_files 3 (put_inside 1 (undecided_node 3)) ≡ 2
two_free = refl
