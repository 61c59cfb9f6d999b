use Rattle.std.proofs.Common.{◌≡◌, ◌++◌, take}
use Rattle.list_facts.specs.Keyed.{paired}
use Rattle.greedy_seed.proofs.uses.push_uses.Given as goal

abbrev pub invariant-loop-user : goal.invariant-loop-user
invariant-loop-user l = l.pairs.items ≡ l.fn.pairs.items ++ paired (take l.user-index l.users) l.class
