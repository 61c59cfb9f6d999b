use Rattle.std.proofs.Common.{◌≡◌, ℕ, ◌<◌, ◌≤◌, [], false, take, slice_index_or}
use Rattle.std.specs.FinMap as map
use Rattle.site_forms.specs.Names.{is_listed}
use Rattle.volume_index.proofs.chunk_table.ChunkTable.least_rank.Given as goal

abbrev pub invariant-loop-name : goal.invariant-loop-name
invariant-loop-name l = record {
  most : l.least ≤ l.most;
  before : (j : ℕ) → j < l.least → j < map.len l.self.entries → is_listed (take l.name-index l.list) (slice_index_or (map.keys l.self.entries) j []) ≡ false;
}
