use Rattle.std.proofs.Common.{Result, sym, subst}
use Rattle.std.specs.String.{string_bytes}
use Rattle.std.specs.Prelude.{IsSome}
use Rattle.site_forms.specs.Volumes.{shape_after}
use Rattle.site_forms.specs.VolumeRecords.VolumeRecord.{ChunkRecord}
use Rattle.chunk_volume.specs.declared.errors.VolError.{VolError}
use Rattle.chunk_volume.specs.Adding.{AddsRecord}
use Rattle.seed_mover.specs.declared.entries.Entry.{Entry}
use Rattle.seed_mover.specs.Entries.{record_of}
use Rattle.seed_mover.proofs.Noted.{chunk_added_on, chunk_lacking, file_lawful}
use Rattle.seed_mover.proofs.appending.add_entry.Goals as goal

pub put_file-requires-clause-lawful : goal.put_file-requires-clause-lawful
put_file-requires-clause-lawful g c =
    file_lawful c.args.volume.now.shape (string_bytes c.in-File.name) c.in-File.chunks.items (subst (λ (e : Entry). IsSome (shape_after c.args.volume.now.shape (record_of e))) c.in-File.is c.requires.folds)

pub returns-in-Chunk-clause-added : goal.returns-in-Chunk-clause-added
returns-in-Chunk-clause-added g c = λ honest.
    let rack = g.R.Rack in
    let old = c.args.rack.now in
    let new = c.put_chunk.new.rack in
    let v = c.args.volume.now in
    let name = c.in-Chunk.name.now in
    let bytes = c.in-Chunk.bytes.now in
    let folds = subst (λ (e : Entry). IsSome (shape_after v.shape (record_of e))) c.in-Chunk.is c.requires.folds in
    subst (λ (e : Entry). AddsRecord rack.moment rack.left_since old new (rack.disk old) (rack.disk new) v c.put_chunk.new.self (record_of e) c.added.result) (sym c.in-Chunk.is)
    (subst (λ (r : Result (Unit {0}) VolError). AddsRecord rack.moment rack.left_since old new (rack.disk old) (rack.disk new) v c.put_chunk.new.self (ChunkRecord name bytes) r) (sym c.added.ensures)
    (chunk_added_on rack.moment rack.left_since old new (rack.disk old) (rack.disk new) v c.put_chunk.new.self name bytes c.put_chunk.result (chunk_lacking v.shape name bytes folds) (c.put_chunk.ensures.added honest)))
