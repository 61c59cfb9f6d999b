use Rattle.std.proofs.Common.{◌≡◌, ◌<◌, [], ℕ, List, length, refl, sym, ◌∙◌, ap, arith, slice_index_or, Some}
use Rattle.std.specs.Prelude.{slice_get}
use Rattle.std.specs.FinMap as map
use Rattle.std.proofs.lemmas.Option.{get_or_from_slice_get}
use Rattle.site_forms.specs.Volumes.{without_file}
use Rattle.volume_index.specs.declared.index.Index.TheInside.{Inside}
use Rattle.volume_index.specs.ChunkTables.{ChunkTableValue}
use Rattle.volume_index.specs.HoldingValues.{orphans}
use Rattle.volume_index.specs.Indexes.{IndexValue}
use Rattle.volume_index.specs.IndexInside.{view_of}
use Rattle.volume_index.proofs.Indexing.{kept_same, list_held, file_at}
use Rattle.volume_index.proofs.Joins.{kept_entries}
use Rattle.volume_index.proofs.Orphans.{freed_count, used_few}
use Rattle.volume_index.proofs.index.Index.freed_by.Goals as goal

pub change_users-counts-requires-clause-held : goal.change_users-counts-requires-clause-held
change_users-counts-requires-clause-held c =
    let a = c.self.inside in
    let inside : c.args.place < map.len a.files.files = omega (arith, c.requires, ap (λ (v : IndexValue). map.len v.shape.files) c.self.view_is) in
    let list = c.chunks_at-list.result.now in
    let name = slice_index_or (map.keys a.files.files) c.args.place [] in
    let found : map.get a.files.files name ≡ Some list = file_at a.files.files c.args.place list inside c.chunks_at-list.ensures in
    sym (list_held a.chunks.entries a.files.files list) ∙ c.self.invariant.shape.held name list found

pub change_users-counts-requires-clause-short : goal.change_users-counts-requires-clause-short
change_users-counts-requires-clause-short c =
    let a = c.self.inside in
    let inside : c.args.place < map.len a.files.files = omega (arith, c.requires, ap (λ (v : IndexValue). map.len v.shape.files) c.self.view_is) in
    let list = c.chunks_at-list.result.now in
    let name = slice_index_or (map.keys a.files.files) c.args.place [] in
    let found : map.get a.files.files name ≡ Some list = file_at a.files.files c.args.place list inside c.chunks_at-list.ensures in
    omega (arith, c.self.invariant.shape.short name list found)

pub overflow_sub-unused : goal.overflow_sub-unused
overflow_sub-unused c =
    let a = c.self.inside in
    let same = ap map.len (kept_entries c.chunks_at-list.result.now a.chunks.entries c.change_users-counts.new.self.entries c.change_users-counts.ensures.entries) in
    omega (arith, used_few a c.self.invariant, c.len.ensures.len, c.from.ensures, same)

pub invariant_of-self : goal.invariant_of-self
invariant_of-self c =
    let a = c.self.inside in
    let b : Inside = record a { chunks = c.change_users-counts.new.self } in
    kept_same a b c.self.invariant (kept_entries c.chunks_at-list.result.now a.chunks.entries b.chunks.entries c.change_users-counts.ensures.entries) refl refl refl refl (omega arith)

pub returns-clause-same : goal.returns-clause-same
returns-clause-same c =
    let a = c.self.inside in
    let new = c.change_users-counts.new.self in
    let entries = kept_entries c.chunks_at-list.result.now a.chunks.entries new.entries c.change_users-counts.ensures.entries in
    let same : new ≡ a.chunks = λ i. record { entries = entries i; is_ordered = c.change_users-counts.ensures.ordered i; room = c.change_users-counts.ensures.room i } in
    ap (λ (t : ChunkTableValue). view_of (record a { chunks = t })) same ∙ c.self.view_is

pub returns-clause-count : goal.returns-clause-count
returns-clause-count c = λ wanted at.
    let a = c.self.inside in
    let inside : c.args.place < map.len a.files.files = omega (arith, c.requires, ap (λ (v : IndexValue). map.len v.shape.files) c.self.view_is) in
    let list = c.chunks_at-list.result.now in
    let name = slice_index_or (map.keys a.files.files) c.args.place [] in
    let found : map.get a.files.files name ≡ Some list = file_at a.files.files c.args.place list inside c.chunks_at-list.ensures in
    let same = ap map.len (kept_entries list a.chunks.entries c.change_users-counts.new.self.entries c.change_users-counts.ensures.entries) in
    let here : slice_get (map.keys a.files.files) c.args.place ≡ Some wanted = ap (λ (v : IndexValue). slice_get (map.keys v.shape.files) c.args.place) c.self.view_is ∙ at in
    let named : name ≡ wanted = get_or_from_slice_get (map.keys a.files.files) c.args.place wanted [] here in
    let told : length (orphans (without_file (view_of a).shape name)) ≡ length (orphans (without_file c.args.self.now.shape wanted)) =
    ap (λ (n : List ℕ). length (orphans (without_file (view_of a).shape n))) named ∙ ap (λ (v : IndexValue). length (orphans (without_file v.shape wanted))) c.self.view_is in
    let count = freed_count a name list c.change_users-counts.result c.self.invariant found c.change_users-counts.ensures.counts in
    omega (arith, used_few a c.self.invariant, c.len.ensures.len, c.from.ensures, c.from-2.ensures, same, count, told)
