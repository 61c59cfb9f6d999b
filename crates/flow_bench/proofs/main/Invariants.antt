use Rattle.flow_bench.proofs.main.Given as goal

abbrev pub ghosts-flow_of : goal.ghosts-flow_of
ghosts-flow_of a = record { name = a.blank.name; parts = a.blank.parts }
