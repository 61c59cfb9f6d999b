-- How many calls of a rack are counted.
use Rattle.std.specs.Prelude.{ℕ, ◌==◌, if◌then◌else◌}
use Rattle.fault_count.specs.Counts.{last_count, counted_up}

-- the calls after one more; once the faults stand at their last value none is counted
abbrev pub calls_after : ℕ → ℕ → ℕ
calls_after faults calls = if faults == last_count then calls else counted_up calls
