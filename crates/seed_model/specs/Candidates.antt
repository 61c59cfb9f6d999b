-- Which of two masks in range is better.
use Rattle.std.specs.Prelude.{nat_le, Option, Some, None, if◌then◌else◌}
use Rattle.seed_model.specs.declared.best.Candidate.{Candidate}

-- the one that replicates less, and the one that was kept where both replicate the same
abbrev pub lighter : Option Candidate → Candidate → Candidate
lighter None next = next
lighter (Some kept) next = if nat_le kept.replicated next.replicated then kept else next
