use Rattle.std.proofs.Common.{sym, ◌∙◌, ap}
use Rattle.std.specs.FinMap as map
use Rattle.volume_index.specs.ChunkTables.{ChunkTableValue}
use Rattle.volume_index.proofs.Lookups.{get-lookup}
use Rattle.volume_index.proofs.chunk_table.ChunkTable.get.Goals as goal

pub returns : goal.returns
returns c =
    c.copied.ensures
    ∙ c.get.ensures.value
    ∙ sym (get-lookup c.self.inside.entries.entries c.args.name.now)
    ∙ ap (λ (v : ChunkTableValue). map.get v.entries c.args.name.now) c.self.view_is
