use Rattle.std.proofs.Common.{◌≡◌, ◌-◌, ◌<◌, [], ℕ, List, length, refl, sym, ◌∙◌, ap, arith, slice_index_or, Some}
use Rattle.std.specs.Prelude.{slice_get}
use Rattle.std.specs.FinMap as map
use Rattle.site_forms.specs.Volumes.{without_file}
use Rattle.volume_index.specs.declared.chunk_table.Change.TheVariants.{Leave}
use Rattle.volume_index.specs.declared.index.Index.TheInside.{Inside}
use Rattle.volume_index.specs.Indexes.{IndexValue}
use Rattle.volume_index.proofs.Indexing.{LeavesFile, kept_file_out, free_of, list_held, may_leave, file_at, name_of_place, used_include}
use Rattle.volume_index.proofs.Joins.{same_held, same_lengths, same_places}
use Rattle.volume_index.proofs.Keys.{same_keys}
use Rattle.volume_index.proofs.Ranks.{count_keys}
use Rattle.volume_index.proofs.index.Index.drop_file.Goals as goal

pub remove-chunks-requires : goal.remove-chunks-requires
remove-chunks-requires c = omega (arith, c.requires, ap (λ (v : IndexValue). map.len v.shape.files) c.self.view_is)

pub change_users-counts-requires-clause-held : goal.change_users-counts-requires-clause-held
change_users-counts-requires-clause-held c =
    let a = c.self.inside in
    let inside : c.args.place < map.len a.files.files = omega (arith, c.requires, ap (λ (v : IndexValue). map.len v.shape.files) c.self.view_is) in
    let name = slice_index_or (map.keys a.files.files) c.args.place [] in
    let list = c.as_slice-list.result.now in
    let found : map.get a.files.files name ≡ Some list = file_at a.files.files c.args.place list inside (c.remove-chunks.ensures.list ∙ ap Some (sym c.as_slice-list.ensures.value)) in
    sym (list_held a.chunks.entries a.files.files list) ∙ c.self.invariant.shape.held name list found

pub change_users-counts-requires-clause-short : goal.change_users-counts-requires-clause-short
change_users-counts-requires-clause-short c =
    let a = c.self.inside in
    let inside : c.args.place < map.len a.files.files = omega (arith, c.requires, ap (λ (v : IndexValue). map.len v.shape.files) c.self.view_is) in
    let name = slice_index_or (map.keys a.files.files) c.args.place [] in
    let list = c.as_slice-list.result.now in
    let found : map.get a.files.files name ≡ Some list = file_at a.files.files c.args.place list inside (c.remove-chunks.ensures.list ∙ ap Some (sym c.as_slice-list.ensures.value)) in
    omega (arith, c.self.invariant.shape.short name list found)

pub change_users-counts-requires-clause-free : goal.change_users-counts-requires-clause-free
change_users-counts-requires-clause-free c = free_of c.self.inside c.self.invariant

pub change_users-counts-requires-clause-may : goal.change_users-counts-requires-clause-may
change_users-counts-requires-clause-may c =
    let a = c.self.inside in
    let inside : c.args.place < map.len a.files.files = omega (arith, c.requires, ap (λ (v : IndexValue). map.len v.shape.files) c.self.view_is) in
    let name = slice_index_or (map.keys a.files.files) c.args.place [] in
    let list = c.as_slice-list.result.now in
    let found : map.get a.files.files name ≡ Some list = file_at a.files.files c.args.place list inside (c.remove-chunks.ensures.list ∙ ap Some (sym c.as_slice-list.ensures.value)) in
    may_leave a name list c.self.invariant found

pub overflow_sub-self : goal.overflow_sub-self
overflow_sub-self c =
    let a = c.self.inside in
    let inside : c.args.place < map.len a.files.files = omega (arith, c.requires, ap (λ (v : IndexValue). map.len v.shape.files) c.self.view_is) in
    let name = slice_index_or (map.keys a.files.files) c.args.place [] in
    let list = c.as_slice-list.result.now in
    let found : map.get a.files.files name ≡ Some list = file_at a.files.files c.args.place list inside (c.remove-chunks.ensures.list ∙ ap Some (sym c.as_slice-list.ensures.value)) in
    (used_include a name list c.change_users-counts.result c.self.invariant found c.change_users-counts.ensures.counts).0

pub overflow_sub-self-2 : goal.overflow_sub-self-2
overflow_sub-self-2 c =
    let a = c.self.inside in
    let inside : c.args.place < map.len a.files.files = omega (arith, c.requires, ap (λ (v : IndexValue). map.len v.shape.files) c.self.view_is) in
    let name = slice_index_or (map.keys a.files.files) c.args.place [] in
    let list = c.as_slice-list.result.now in
    let found : map.get a.files.files name ≡ Some list = file_at a.files.files c.args.place list inside (c.remove-chunks.ensures.list ∙ ap Some (sym c.as_slice-list.ensures.value)) in
    (used_include a name list c.change_users-counts.result c.self.invariant found c.change_users-counts.ensures.counts).1

pub invariant_of-self : goal.invariant_of-self
invariant_of-self c =
    let a = c.self.inside in
    let inside : c.args.place < map.len a.files.files = omega (arith, c.requires, ap (λ (v : IndexValue). map.len v.shape.files) c.self.view_is) in
    let name = slice_index_or (map.keys a.files.files) c.args.place [] in
    let list = c.as_slice-list.result.now in
    let found : map.get a.files.files name ≡ Some list = file_at a.files.files c.args.place list inside (c.remove-chunks.ensures.list ∙ ap Some (sym c.as_slice-list.ensures.value)) in
    let counts = c.change_users-counts.result in
    let b : Inside = record a { chunks = c.change_users-counts.new.self; files = c.remove-chunks.new.self; used = a.used - counts.matching; pairs = a.pairs - counts.distinct; first = c.first_without-self-inside.result } in
    let changes = c.change_users-counts.ensures.entries in
    let keys : map.keys b.chunks.entries ≡ map.keys a.chunks.entries = same_keys b.chunks.entries a.chunks.entries (same_held Leave list a.chunks.entries b.chunks.entries changes) in
    let among = used_include a name list counts c.self.invariant found c.change_users-counts.ensures.counts in
    let leaves : LeavesFile a b name list counts = record {
      found = found;
      changes = changes;
      told = c.change_users-counts.ensures.counts;
      files = c.remove-chunks.ensures.files name (name_of_place a.files.files c.args.place inside);
      used = omega (arith, among.0);
      pairs = omega (arith, among.1);
      bytes = refl;
      few = c.first_without-self-inside.ensures.most;
      first = λ j less. c.first_without-self-inside.ensures.before j less (omega (arith, less, c.first_without-self-inside.ensures.most, c.self.invariant.within, count_keys a.chunks.entries, count_keys b.chunks.entries, ap (λ (l : List (List ℕ)). length l) keys));
    } in
    kept_file_out a b name list counts c.self.invariant leaves

pub returns-clause-shape : goal.returns-clause-shape
returns-clause-shape c = λ name at.
    let a = c.self.inside in
    let here : slice_get (map.keys a.files.files) c.args.place ≡ Some name = ap (λ (v : IndexValue). slice_get (map.keys v.shape.files) c.args.place) c.self.view_is ∙ at in
    (λ i. record { chunks = same_lengths Leave c.as_slice-list.result.now a.chunks.entries c.change_users-counts.new.self.entries c.change_users-counts.ensures.entries i; files = c.remove-chunks.ensures.files name here i })
    ∙ ap (λ (v : IndexValue). without_file v.shape name) c.self.view_is

pub returns-clause-places : goal.returns-clause-places
returns-clause-places c =
    same_places Leave c.as_slice-list.result.now c.self.inside.chunks.entries c.change_users-counts.new.self.entries c.change_users-counts.ensures.entries ∙ ap (λ (v : IndexValue). v.places) c.self.view_is
