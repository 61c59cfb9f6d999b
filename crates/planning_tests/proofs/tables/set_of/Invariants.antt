use Rattle.std.proofs.Common.{◌≡◌, length}
use Rattle.planning_tests.proofs.tables.set_of.Given as goal

-- the set keeps its number of files
abbrev pub invariant-loop-file : goal.invariant-loop-file
invariant-loop-file l = length l.set ≡ l.files
