use Rattle.std.proofs.Common.{ℕ, ◌≡◌, ◌+◌, ◌^◌, ◌≤◌, false, refl, sym, ◌∙◌, ap, arith}
use Rattle.std.specs.FinMap as map
use Rattle.site_forms.specs.Volumes.{with_chunk}
use Rattle.volume_index.specs.declared.chunk_table.ChunkEntry.{ChunkEntry}
use Rattle.volume_index.specs.declared.index.Index.TheInside.{Inside}
use Rattle.volume_index.specs.Indexes.{IndexValue}
use Rattle.volume_index.specs.ChunkTables.{new_entry}
use Rattle.volume_index.specs.MapValues.{map_values}
use Rattle.volume_index.proofs.Indexing.{len_of, kept_same, kept_chunk_in, JoinsChunk, bytes_few}
use Rattle.volume_index.proofs.MapValues.{contains-map_values, insert-map_values}
use Rattle.volume_index.proofs.index.Index.add_chunk.Goals as goal

-- the fields once the chunk is added
pub invariant_of-self : goal.invariant_of-self
invariant_of-self c =
    let a = c.self.inside in
    let b : Inside = record a { chunks = c.put.new.self } in
    kept_same a b c.self.invariant c.in_err-put.ensures.err.entries refl refl refl refl (omega arith)

pub invariant_of-self-2 : goal.invariant_of-self-2
invariant_of-self-2 c =
    let a = c.self.inside in
    let b : Inside = record a { chunks = c.put.new.self; first = c.first_with-first.result; bytes = a.bytes + c.from.result } in
    let lacking : map.contains_key a.chunks.entries c.args.name.now ≡ false =
    sym (contains-map_values len_of a.chunks.entries c.args.name.now) ∙ ap (λ (v : IndexValue). map.contains_key v.shape.chunks c.args.name.now) c.self.view_is ∙ c.requires.lacking in
    let joins : JoinsChunk a b c.args.name.now c.args.place c.args.len = record {
      lacking = lacking;
      named = c.told-name;
      some = c.requires.some;
      most = omega (arith, c.requires.most);
      entries = c.in_ok-put.ensures.entries;
      files = refl;
      used = refl;
      pairs = refl;
      bytes = ap (λ (n : ℕ). a.bytes + n) c.from.ensures;
      few = c.first_with-first.ensures.most;
      first = c.first_with-first.ensures.rank;
    } in
    kept_chunk_in a b c.args.name.now c.args.place c.args.len c.self.invariant joins

pub overflow_add-self : goal.overflow_add-self
overflow_add-self c =
    let a = c.self.inside in
    let few : map.len a.chunks.entries ≤ 2 ^ 32 = omega (arith, c.in_ok-put.ensures.few) in
    omega (arith, c.from.ensures, c.requires.most, bytes_few a c.self.invariant few)

pub put-requires : goal.put-requires
put-requires c =
    sym (contains-map_values len_of c.self.inside.chunks.entries c.args.name.now) ∙ ap (λ (v : IndexValue). map.contains_key v.shape.chunks c.args.name.now) c.self.view_is ∙ c.requires.lacking

pub returns-clause-shape : goal.returns-clause-shape
returns-clause-shape c =
    let a = c.self.inside in
    (λ i. record { chunks = map_values len_of (c.in_ok-put.ensures.entries i); files = a.files.files })
    ∙ (λ i. record { chunks = insert-map_values len_of a.chunks.entries c.args.name.now (new_entry c.args.place c.args.len) i; files = a.files.files })
    ∙ ap (λ (v : IndexValue). with_chunk v.shape c.args.name.now c.args.len) c.self.view_is

pub returns-clause-places : goal.returns-clause-places
returns-clause-places c =
    let a = c.self.inside in
    ap (map_values (λ (e : ChunkEntry). e.place)) c.in_ok-put.ensures.entries
    ∙ insert-map_values (λ (e : ChunkEntry). e.place) a.chunks.entries c.args.name.now (new_entry c.args.place c.args.len)
    ∙ ap (λ (v : IndexValue). map.insert v.places c.args.name.now c.args.place) c.self.view_is
