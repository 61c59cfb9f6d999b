use Rattle.std.proofs.Common.{◌≡◌, take}
use Rattle.seed_model.specs.Files.{holds}
use Rattle.seed_model.specs.Parts.{counts}
use Rattle.seed_model.specs.Sums.{bytes_where}
use Rattle.seed_model.proofs.sums.bytes_of.Given as goal

abbrev pub invariant-loop-class : goal.invariant-loop-class
invariant-loop-class l = l.total ≡ bytes_where (counts l.part (holds l.set)) (take l.class-index l.class-items)
