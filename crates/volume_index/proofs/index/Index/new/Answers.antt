use Rattle.std.proofs.Common.{refl, ◌∙◌, ap}
use Rattle.volume_index.specs.declared.chunk_table.ChunkEntry.{ChunkEntry}
use Rattle.volume_index.specs.declared.index.Index.TheInside.{Inside}
use Rattle.volume_index.specs.MapValues.{map_values}
use Rattle.volume_index.proofs.MapValues.{empty-map_values}
use Rattle.volume_index.proofs.Nothing.{kept_nothing, no_shape}
use Rattle.volume_index.proofs.index.Index.new.Goals as goal

pub invariant_of-result : goal.invariant_of-result
invariant_of-result c =
    let a : Inside = record { chunks = c.new.result; files = c.new-2.result; used = 0; pairs = 0; bytes = 0; first = 0 } in
    kept_nothing a c.new.ensures.entries c.new-2.ensures refl refl refl refl

pub returns-clause-shape : goal.returns-clause-shape
returns-clause-shape c = no_shape c.new.result.entries c.new-2.result.files c.new.ensures.entries c.new-2.ensures

pub returns-clause-places : goal.returns-clause-places
returns-clause-places c = ap (map_values (λ (e : ChunkEntry). e.place)) c.new.ensures.entries ∙ empty-map_values (λ (e : ChunkEntry). e.place)
