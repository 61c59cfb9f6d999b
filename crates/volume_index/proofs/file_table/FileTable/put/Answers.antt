use Rattle.std.proofs.Common.{◌≡◌, List, ℕ, false, sym, ◌∙◌, ap, subst, arith}
use Rattle.std.specs.Prelude.{map as each}
use Rattle.std.specs.String.{string_bytes}
use Rattle.std.specs.FinMap as map
use Rattle.std.specs.FinMap.Entries.{is_sorted}
use Rattle.site_forms.specs.Volumes.{bytes_cmp, Files}
use Rattle.volume_index.specs.declared.file_table.FileEntry.{FileEntry}
use Rattle.volume_index.specs.ChunkTables.{IsRank}
use Rattle.volume_index.specs.FileTables.{FileTableValue, file_pair}
use Rattle.volume_index.proofs.FileReads.{files_of, file_count, put_sorted, put_view}
use Rattle.volume_index.proofs.Ranks.{count_keys}
use Rattle.volume_index.proofs.file_table.FileTable.put.Goals as goal

pub insert-requires : goal.insert-requires
insert-requires c =
    omega (arith, c.rank-rank.ensures.within, count_keys c.args.self.now.files, c.self.inside.files.ok.0, file_count c.self.inside.files.items c.self.invariant, ap (λ (v : FileTableValue). map.len v.files) c.self.view_is)

pub invariant_of-self-2 : goal.invariant_of-self-2
invariant_of-self-2 c =
    let items = c.self.inside.files.items in
    let file : FileEntry = record { name = c.args.name; chunks = c.args.chunks } in
    let view = ap (λ (v : FileTableValue). v.files) c.self.view_is in
    let named : IsRank (map.keys c.args.self.now.files) (string_bytes c.args.name) c.rank-rank.result = subst (λ (n : List ℕ). IsRank (map.keys c.args.self.now.files) n c.rank-rank.result) c.as_str.ensures.value c.rank-rank.ensures in
    let ranked : IsRank (map.keys (files_of items)) (string_bytes c.args.name) c.rank-rank.result = subst (λ (m : Files). IsRank (map.keys m) (string_bytes c.args.name) c.rank-rank.result) (sym view) named in
    let lacking : map.contains_key (files_of items) (string_bytes c.args.name) ≡ false = ap (λ (m : Files). map.contains_key m (string_bytes c.args.name)) view ∙ c.requires in
    ap (λ (l : List FileEntry). is_sorted bytes_cmp (each file_pair l)) c.in_ok-insert.ensures.items
    ∙ put_sorted items file c.rank-rank.result c.self.invariant ranked lacking

pub returns-clause-ok : goal.returns-clause-ok
returns-clause-ok c =
    let items = c.self.inside.files.items in
    let file : FileEntry = record { name = c.args.name; chunks = c.args.chunks } in
    let view = ap (λ (v : FileTableValue). v.files) c.self.view_is in
    let named : IsRank (map.keys c.args.self.now.files) (string_bytes c.args.name) c.rank-rank.result = subst (λ (n : List ℕ). IsRank (map.keys c.args.self.now.files) n c.rank-rank.result) c.as_str.ensures.value c.rank-rank.ensures in
    let ranked : IsRank (map.keys (files_of items)) (string_bytes c.args.name) c.rank-rank.result = subst (λ (m : Files). IsRank (map.keys m) (string_bytes c.args.name) c.rank-rank.result) (sym view) named in
    let lacking : map.contains_key (files_of items) (string_bytes c.args.name) ≡ false = ap (λ (m : Files). map.contains_key m (string_bytes c.args.name)) view ∙ c.requires in
    ap (λ (l : List FileEntry). files_of l) c.in_ok-insert.ensures.items
    ∙ put_view items file c.rank-rank.result c.self.invariant ranked lacking
    ∙ ap (λ (m : Files). map.insert m (string_bytes c.args.name) c.args.chunks.items) view
