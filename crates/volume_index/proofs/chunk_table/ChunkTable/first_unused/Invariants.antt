use Rattle.std.proofs.Common.{◌≡◌, ℕ, ◌<◌, ◌≤◌, [], false, slice_index_or}
use Rattle.std.specs.FinMap as map
use Rattle.volume_index.specs.ChunkTables.{has_users}
use Rattle.volume_index.proofs.chunk_table.ChunkTable.first_unused.Given as goal

abbrev pub invariant-loop-place : goal.invariant-loop-place
invariant-loop-place l = (j : ℕ) → l.from ≤ j → j < l.place → has_users 0 l.self.entries (slice_index_or (map.keys l.self.entries) j []) ≡ false
