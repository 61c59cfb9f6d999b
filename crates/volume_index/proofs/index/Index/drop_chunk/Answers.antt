use Rattle.std.proofs.Common.{◌≡◌, ◌-◌, ◌<◌, ◌≤◌, true, refl, sym, ◌∙◌, ap, arith, ⊎_elim, Option}
use Rattle.std.specs.Prelude.{is_some}
use Rattle.std.specs.FinMap as map
use Rattle.std.proofs.lemmas.Bool.{and_parts, not-true, not-false, eqb-true, cases_lt}
use Rattle.site_forms.specs.Volumes.{used, may_drop_chunk, without_chunk}
use Rattle.volume_index.specs.declared.chunk_table.ChunkEntry.{ChunkEntry}
use Rattle.volume_index.specs.declared.index.Index.TheInside.{Inside}
use Rattle.volume_index.specs.Indexes.{IndexValue}
use Rattle.volume_index.specs.IndexInside.{view_of}
use Rattle.volume_index.specs.MapValues.{map_values}
use Rattle.volume_index.specs.Users.{user_count}
use Rattle.volume_index.proofs.Indexing.{len_of, LeavesChunk, kept_chunk_out, bytes_include}
use Rattle.volume_index.proofs.MapValues.{contains-map_values, remove-map_values}
use Rattle.volume_index.proofs.Users.{used_users}
use Rattle.volume_index.proofs.index.Index.drop_chunk.Goals as goal

pub unwrap-chunk-requires : goal.unwrap-chunk-requires
unwrap-chunk-requires c =
    let may : may_drop_chunk (view_of c.self.inside).shape c.args.name.now ≡ true = ap (λ (v : IndexValue). may_drop_chunk v.shape c.args.name.now) c.self.view_is ∙ c.requires in
    ap (λ (o : Option ChunkEntry). is_some o) c.get.ensures
    ∙ sym (contains-map_values len_of c.self.inside.chunks.entries c.args.name.now)
    ∙ (and_parts (map.contains_key (view_of c.self.inside).shape.chunks c.args.name.now) _ may).0

pub next_unused-self-inside-requires : goal.next_unused-self-inside-requires
next_unused-self-inside-requires c = c.self.invariant.within

pub overflow_sub-self : goal.overflow_sub-self
overflow_sub-self c = omega (arith, c.from.ensures, bytes_include c.self.inside c.args.name.now c.unwrap-chunk.result c.self.invariant (sym c.get.ensures ∙ c.unwrap-chunk.ensures))

pub remove-requires : goal.remove-requires
remove-requires c = ap is_some (sym c.get.ensures ∙ c.unwrap-chunk.ensures)

pub invariant_of-self : goal.invariant_of-self
invariant_of-self c =
    let a = c.self.inside in
    let name = c.args.name.now in
    let e = c.unwrap-chunk.result in
    let b : Inside = record a { chunks = c.remove.new.self; first = c.next_unused-self-inside.result; bytes = a.bytes - c.from.result } in
    let may : may_drop_chunk (view_of a).shape name ≡ true = ap (λ (v : IndexValue). may_drop_chunk v.shape name) c.self.view_is ∙ c.requires in
    let held = sym c.get.ensures ∙ c.unwrap-chunk.ensures in
    let none : user_count a.files.files name ≡ 0 =
    eqb-true (user_count a.files.files name) 0 (not-false _ (sym (used_users a.files.files name) ∙ not-true (map.contains_key (used a.files.files) name) (and_parts (map.contains_key (view_of a).shape.chunks name) _ may).1)) in
    let leaves : LeavesChunk a b name e = record {
      held = held;
      unused = none;
      entries = c.remove.ensures.entries;
      files = refl;
      used = refl;
      pairs = refl;
      bytes = omega (arith, c.from.ensures, bytes_include a name e c.self.invariant held);
      first = λ j less. ⊎_elim (λ (early : j < a.first). c.self.invariant.first j early) (λ (late : a.first ≤ j). c.next_unused-self-inside.ensures.used j late less) (cases_lt j a.first);
      within = c.next_unused-self-inside.ensures.within;
    } in
    kept_chunk_out a b name e c.self.invariant leaves

pub returns-clause-shape : goal.returns-clause-shape
returns-clause-shape c =
    let a = c.self.inside in
    (λ i. record { chunks = map_values len_of (c.remove.ensures.entries i); files = a.files.files })
    ∙ (λ i. record { chunks = remove-map_values len_of a.chunks.entries c.args.name.now i; files = a.files.files })
    ∙ ap (λ (v : IndexValue). without_chunk v.shape c.args.name.now) c.self.view_is

pub returns-clause-places : goal.returns-clause-places
returns-clause-places c =
    let a = c.self.inside in
    ap (map_values (λ (e : ChunkEntry). e.place)) c.remove.ensures.entries
    ∙ remove-map_values (λ (e : ChunkEntry). e.place) a.chunks.entries c.args.name.now
    ∙ ap (λ (v : IndexValue). map.remove v.places c.args.name.now) c.self.view_is
