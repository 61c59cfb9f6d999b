use Rattle.std.proofs.Common.{ap, arith}
use Rattle.std.specs.FinMap as map
use Rattle.volume_index.specs.ChunkTables.{ChunkTableValue}
use Rattle.volume_index.proofs.Lookups.{len-distinct}
use Rattle.volume_index.proofs.chunk_table.ChunkTable.reserve.Goals as goal

pub returns-clause-few : goal.returns-clause-few
returns-clause-few c = omega (arith, c.len.ensures.len, len-distinct c.self.inside.entries.entries c.len.ensures.unique, ap (λ (v : ChunkTableValue). map.len v.entries) c.self.view_is)
