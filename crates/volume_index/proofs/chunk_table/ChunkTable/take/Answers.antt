use Rattle.std.proofs.Common.{refl, ap}
use Rattle.volume_index.specs.ChunkTables.{ChunkTableValue}
use Rattle.volume_index.proofs.TableReads.{taken}
use Rattle.volume_index.proofs.chunk_table.ChunkTable.take.Goals as goal

pub returns-clause-entries : goal.returns-clause-entries
returns-clause-entries c =
    taken c.self.inside.entries.entries c.swap_remove.new.self.entries c.args.self.now.entries c.args.name.now c.args.name.now (ap (λ (v : ChunkTableValue). v.entries) c.self.view_is) refl c.swap_remove.ensures.updates.0
