use Rattle.std.proofs.Common.{◌≡◌, ◌≢◌, ◌-◌, ℕ, ◌<◌, ◌≤◌, [], length, slice_index_or}
use Rattle.std.specs.declared.cmp.Ordering.TheVariants.{Less}
use Rattle.std.specs.FinMap as map
use Rattle.site_forms.specs.Volumes.{bytes_cmp}
use Rattle.volume_index.proofs.chunk_table.ChunkTable.rank.Given as goal

abbrev pub invariant-halves : goal.invariant-halves
invariant-halves l = record {
  apart : l.low ≤ l.high;
  within : l.high ≤ map.len l.self.entries;
  before : (j : ℕ) → j < l.low → bytes_cmp (slice_index_or (map.keys l.self.entries) j []) l.name ≡ Less;
  behind : (j : ℕ) → l.high ≤ j → j < length (map.keys l.self.entries) → bytes_cmp (slice_index_or (map.keys l.self.entries) j []) l.name ≢ Less;
}

abbrev pub decreases-halves : goal.decreases-halves
decreases-halves l = l.high - l.low
