use Rattle.model_tests.proofs.flow.small_nets.Given as goal

abbrev pub ghosts-flow_of : goal.ghosts-flow_of
ghosts-flow_of g a = record { name = a.blank.name; parts = a.blank.parts }
