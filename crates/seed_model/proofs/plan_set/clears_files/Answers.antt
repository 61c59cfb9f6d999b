use Rattle.std.proofs.Common.{arith}
use Rattle.seed_model.proofs.plan_set.clears_files.Goals as goal

pub overflow_mul-first : goal.overflow_mul-first
overflow_mul-first c = omega (arith, c.requires.within, c.files-files.ensures)
