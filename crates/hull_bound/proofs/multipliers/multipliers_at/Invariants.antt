use Rattle.hull_bound.proofs.multipliers.multipliers_at.Given as goal

abbrev pub ghosts-solved_at : goal.ghosts-solved_at
ghosts-solved_at a = record { name = a.blank.name; parts = a.blank.parts }
