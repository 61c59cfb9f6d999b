use Rattle.std.proofs.Common.{length, take}
use Rattle.seed_model.specs.Files.{holds}
use Rattle.greedy_seed.specs.Greedy.{flipped}
use Rattle.greedy_seed.specs.Shares.{AreKept}
use Rattle.greedy_seed.proofs.Kept.{sets_at}
use Rattle.greedy_seed.proofs.sharing.Shares.move_file.Given as goal

abbrev pub invariant-loop-class : goal.invariant-loop-class
invariant-loop-class l = AreKept (sets_at (holds l.set) (holds (flipped l.set l.file)) (take l.class-index l.classes)) l.table (length l.table.classes) l.self
