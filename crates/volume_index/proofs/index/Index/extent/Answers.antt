use Rattle.std.proofs.Common.{sym, ◌∙◌, ap}
use Rattle.std.specs.Option.{option_map}
use Rattle.std.specs.FinMap as map
use Rattle.volume_index.specs.declared.chunk_table.ChunkEntry.{ChunkEntry}
use Rattle.volume_index.specs.Indexes.{IndexValue}
use Rattle.volume_index.proofs.Indexing.{len_of}
use Rattle.volume_index.proofs.MapValues.{get-map_values}
use Rattle.volume_index.proofs.index.Index.extent.Goals as goal

pub returns-in-Some-clause-at : goal.returns-in-Some-clause-at
returns-in-Some-clause-at c =
    ap (option_map (λ (e : ChunkEntry). e.place)) c.in-Some.ensures
    ∙ sym (get-map_values (λ (e : ChunkEntry). e.place) c.self.inside.chunks.entries c.args.name.now)
    ∙ ap (λ (v : IndexValue). map.get v.places c.args.name.now) c.self.view_is

pub returns-in-Some-clause-len : goal.returns-in-Some-clause-len
returns-in-Some-clause-len c =
    ap (option_map len_of) c.in-Some.ensures
    ∙ sym (get-map_values len_of c.self.inside.chunks.entries c.args.name.now)
    ∙ ap (λ (v : IndexValue). map.get v.shape.chunks c.args.name.now) c.self.view_is

pub returns-in-None-clause-at : goal.returns-in-None-clause-at
returns-in-None-clause-at c =
    ap (option_map (λ (e : ChunkEntry). e.place)) c.in-None.ensures
    ∙ sym (get-map_values (λ (e : ChunkEntry). e.place) c.self.inside.chunks.entries c.args.name.now)
    ∙ ap (λ (v : IndexValue). map.get v.places c.args.name.now) c.self.view_is

pub returns-in-None-clause-len : goal.returns-in-None-clause-len
returns-in-None-clause-len c =
    ap (option_map len_of) c.in-None.ensures
    ∙ sym (get-map_values len_of c.self.inside.chunks.entries c.args.name.now)
    ∙ ap (λ (v : IndexValue). map.get v.shape.chunks c.args.name.now) c.self.view_is
