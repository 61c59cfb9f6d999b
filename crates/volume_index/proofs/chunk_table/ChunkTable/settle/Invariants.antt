use Rattle.std.proofs.Common.{◌≡◌, take}
use Rattle.volume_index.specs.ChunkTables.{SettlesList}
use Rattle.volume_index.proofs.chunk_table.ChunkTable.settle.Given as goal

abbrev pub invariant-loop-name : goal.invariant-loop-name
invariant-loop-name l = record {
  settles : SettlesList l.change (take l.name-index l.list) l.fn.self.entries l.self.entries;
  ordered : l.self.is_ordered ≡ l.fn.self.is_ordered;
  room : l.self.room ≡ l.fn.self.room;
}
