use Rattle.std.proofs.Common.{◌≡◌}
use Rattle.list_facts.specs.Keyed.{numbered}
use Rattle.greedy_seed.proofs.FileUses.{row}
use Rattle.greedy_seed.proofs.uses.uses_of.Given as goal

abbrev pub invariant-loop-class : goal.invariant-loop-class
invariant-loop-class l = l.pairs.items ≡ numbered (row l.table) l.class
