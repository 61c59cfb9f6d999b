use Rattle.std.proofs.Common.{◌≡◌, ℕ, ◌<◌, length, slice_index_or}
use Rattle.volume_index.proofs.chunk_table.ChunkTable.sort.Given as goal

abbrev pub invariant-loop-number : goal.invariant-loop-number
invariant-loop-number l = record {
  long : length l.order.items ≡ l.number;
  each : (k : ℕ) → k < l.number → slice_index_or l.order.items k 0 ≡ k;
}
