use Rattle.seed_model.specs.Files.{holds}
use Rattle.greedy_seed.specs.Shares.{AreKept}
use Rattle.greedy_seed.proofs.sharing.Shares.of.Given as goal

abbrev pub invariant-loop-number : goal.invariant-loop-number
invariant-loop-number l = AreKept (λ class. holds l.set) l.table l.number l.shares
