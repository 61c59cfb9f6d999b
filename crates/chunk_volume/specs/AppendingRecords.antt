-- A record appended to the log of a volume.
use Rattle.std.specs.Prelude.{◌≡◌, ℕ, ◌+◌, ◌≤◌, Result, Ok, Err}
use Rattle.chunk_log.specs.Appending.{after_append, after_fault, IsFull}
use Rattle.chunk_log.specs.LogValues.{LogValue}
use Rattle.chunk_volume.specs.declared.errors.VolError.{VolError}
use Rattle.chunk_volume.specs.declared.errors.VolError.TheVariants.{RackFault, Damage, BadChunk, Collision, Exists, NoSuchFile, DeviceFull, Spent, Memory}

-- what a log that is not spent is once a body of n bytes is appended, whose place is answered, or refused
abbrev pub AppendsRecord : LogValue → LogValue → ℕ → Result ℕ VolError → Type 0
AppendsRecord old new n (Ok at) = (old.end + n + 6 ≤ old.limit) × (at ≡ old.end + 5) × (new ≡ after_append old n)
AppendsRecord old new n (Err (DeviceFull device at len)) = IsFull old n × (device ≡ old.device) × (at ≡ old.end) × (len ≡ n) × (new ≡ old)
AppendsRecord old new n (Err RackFault) = (old.end + n + 6 ≤ old.limit) × (new ≡ after_fault old)
AppendsRecord old new n (Err (Damage device at)) = ⊥
AppendsRecord old new n (Err (BadChunk name found)) = ⊥
AppendsRecord old new n (Err (Collision name)) = ⊥
AppendsRecord old new n (Err Exists) = ⊥
AppendsRecord old new n (Err NoSuchFile) = ⊥
AppendsRecord old new n (Err Spent) = ⊥
AppendsRecord old new n (Err Memory) = ⊥
