use Rattle.hull_bound.proofs.relaxation.solve_node.Given as goal

abbrev pub ghosts-answer_of : goal.ghosts-answer_of
ghosts-answer_of a = record { name = a.blank.name; parts = a.blank.parts }
