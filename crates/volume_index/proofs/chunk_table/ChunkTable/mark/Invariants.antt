use Rattle.std.proofs.Common.{◌≡◌, ◌≤◌, take}
use Rattle.std.specs.List.{filter}
use Rattle.site_forms.specs.Volumes.{distinct_count}
use Rattle.volume_index.specs.ChunkTables.{MarksList, has_users}
use Rattle.volume_index.proofs.chunk_table.ChunkTable.mark.Given as goal

abbrev pub invariant-loop-name : goal.invariant-loop-name
invariant-loop-name l = record {
  marks : MarksList (take l.name-index l.list) l.fn.self.entries l.self.entries;
  ordered : l.self.is_ordered ≡ l.fn.self.is_ordered;
  room : l.self.room ≡ l.fn.self.room;
  distinct : l.counts.distinct ≡ distinct_count (take l.name-index l.list);
  matching : l.counts.matching ≡ distinct_count (filter (has_users l.users l.fn.self.entries) (take l.name-index l.list));
  few : l.counts.distinct ≤ l.name-index;
  fewer : l.counts.matching ≤ l.name-index;
}
