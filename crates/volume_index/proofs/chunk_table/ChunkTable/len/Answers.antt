use Rattle.std.proofs.Common.{sym, ◌∙◌, ap}
use Rattle.std.specs.FinMap as map
use Rattle.volume_index.specs.ChunkTables.{ChunkTableValue}
use Rattle.volume_index.proofs.Lookups.{len-distinct}
use Rattle.volume_index.proofs.chunk_table.ChunkTable.len.Goals as goal

pub returns-clause-len : goal.returns-clause-len
returns-clause-len c =
    c.len.ensures.len
    ∙ sym (len-distinct c.self.inside.entries.entries c.len.ensures.unique)
    ∙ ap (λ (v : ChunkTableValue). map.len v.entries) c.self.view_is
