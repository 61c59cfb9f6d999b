use Rattle.check_tests.proofs.plain.+behind_tree.Given as goal

abbrev pub decreases-behind_tree : goal.decreases-behind_tree
decreases-behind_tree l = l.depth
