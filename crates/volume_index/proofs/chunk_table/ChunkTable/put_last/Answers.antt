use Rattle.std.proofs.Common.{List, ℕ, ◌∙◌, ap}
use Rattle.std.specs.Prelude.{nat_eq}
use Rattle.std.specs.Cmp.Lexicographic.{pointwise}
use Rattle.std.specs.FinMap as map
use Rattle.indexmap.proofs.CallerLemmas.{insert_entry-new}
use Rattle.site_forms.specs.Volumes.{bytes_cmp}
use Rattle.volume_index.specs.declared.chunk_table.ChunkEntry.{ChunkEntry}
use Rattle.volume_index.specs.ChunkTables.{ChunkTableValue}
use Rattle.volume_index.proofs.TableReads.{put_last_view, lookup_lacks}
use Rattle.volume_index.proofs.chunk_table.ChunkTable.put_last.Goals as goal

pub returns-clause-entries : goal.returns-clause-entries
returns-clause-entries c =
    let es = c.self.inside.entries.entries in
    let m = c.args.self.now.entries in
    let view = ap (λ (v : ChunkTableValue). v.entries) c.self.view_is in
    ap (λ (l : List (List ℕ × ChunkEntry)). map.from_entries {R = bytes_cmp} l)
    ((rw c.unwrap.ensures at c.insert.ensures.entries) ∙ insert_entry-new (pointwise nat_eq) c.self.inside.entries c.args.name.now c.args.entry (lookup_lacks es m c.args.name.now view c.requires.lacking))
    ∙ put_last_view es m c.args.name.now c.args.entry view c.requires.lacking
