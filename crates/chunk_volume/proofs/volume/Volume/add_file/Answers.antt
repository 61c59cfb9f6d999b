use Rattle.std.proofs.Common.{◌≡◌, ℕ, List, Some, Result, sym, ◌∙◌, ap, subst, arith}
use Rattle.std.specs.Prelude.{All}
use Rattle.std.specs.String.{string_bytes}
use Rattle.site_forms.specs.VolumeRecords.{VolumeRecord, IsChunkName, volume_body}
use Rattle.site_forms.specs.VolumeRecords.VolumeRecord.{FileRecord}
use Rattle.site_forms.specs.Volumes.{Shape, may_add_file, with_file}
use Rattle.chunk_volume.specs.declared.errors.VolError.{VolError}
use Rattle.chunk_volume.specs.declared.errors.VolError.TheVariants.{Memory}
use Rattle.chunk_volume.specs.Adding.{IsSame, AddsRecord}
use Rattle.chunk_volume.specs.VolumeInside.{view_of}
use Rattle.chunk_volume.specs.VolumeValues.{VolumeValue}
use Rattle.chunk_volume.proofs.Adding.{Framed, Holds, handed, logged, refused_disk, added_disk}
use Rattle.chunk_volume.proofs.Puts.{file_folds}
use Rattle.chunk_volume.proofs.Writing.{adds_refused}
use Rattle.chunk_volume.proofs.volume.Volume.add_file.Goals as goal

pub returns-in_err-reserve-clause-added : goal.returns-in_err-reserve-clause-added
returns-in_err-reserve-clause-added g c = λ honest.
    let rack = g.R.Rack in
    let old = c.args.rack.now in
    handed c.from_residual.result Memory (λ (x : Result (Unit {0}) VolError). AddsRecord rack.moment rack.left_since old old (rack.disk old) (rack.disk old) c.args.self.now c.reserve.new.self (FileRecord (string_bytes c.args.name) c.args.chunks.items) x) c.from_residual.ensures.1
    (adds_refused rack.moment rack.left_since old (rack.disk old) c.args.self.now c.reserve.new.self (FileRecord (string_bytes c.args.name) c.args.chunks.items) Memory (λ x left. g.met.R.Rack.only_now _ x honest left) c.in_err-reserve.ensures.same)

pub returns-in_err-append-clause-added : goal.returns-in_err-append-clause-added
returns-in_err-append-clause-added g c = λ honest.
    let rack = g.R.Rack in
    let old = c.args.rack.now in
    let new = c.append.new.rack in
    let v = c.args.self.now in
    let a = c.self.inside in
    let r : VolumeRecord = FileRecord (string_bytes c.args.name) c.args.chunks.items in
    let frame = c.set_file.new.self in
    let log = c.append.new.self in
    let error = c.in_err-append.field-0.0 in
    let ready : Framed v a r frame = record { same = subst (λ (x : VolumeValue). IsSame v x) (sym c.self.view_is) c.in_ok-reserve.ensures.same; framed = c.set_file.ensures.framed ∙ (λ i. record { room = a.frame.room; body = volume_body (FileRecord (c.as_str.ensures.value i) (c.as_slice.ensures.value i)) }) } in
    handed c.from_residual-in_err-append.result error (λ (x : Result (Unit {0}) VolError). AddsRecord rack.moment rack.left_since old new (rack.disk old) (rack.disk new) v (view_of (logged a log frame)) r x) c.from_residual-in_err-append.ensures.1
    (refused_disk v a r frame ready rack.disk rack.moment rack.left_since old new (subst (λ (l : List (List ℕ)). All IsChunkName l) c.as_slice.ensures.value c.set_file.ensures.lawful) log error c.in_err-append.ensures.log (λ x left. g.met.R.Rack.only_now _ x honest left) c.in_err-append.ensures.alone (c.in_err-append.ensures.appended honest))

pub returns-clause-added : goal.returns-clause-added
returns-clause-added g c = λ honest.
    let rack = g.R.Rack in
    let old = c.args.rack.now in
    let new = c.append.new.rack in
    let v = c.args.self.now in
    let a = c.self.inside in
    let name = string_bytes c.args.name in
    let list = c.args.chunks.items in
    let r : VolumeRecord = FileRecord name list in
    let frame = c.set_file.new.self in
    let holding = c.add_file.new.self in
    let ready : Framed v a r frame = record { same = subst (λ (x : VolumeValue). IsSame v x) (sym c.self.view_is) c.in_ok-reserve.ensures.same; framed = c.set_file.ensures.framed ∙ (λ i. record { room = a.frame.room; body = volume_body (FileRecord (c.as_str.ensures.value i) (c.as_slice.ensures.value i)) }) } in
    let shape : holding.shape ≡ with_file a.holding.shape name list = rw c.unwrap.ensures at c.add_file.ensures.shape in
    let has : Holds a r holding = record {
      shape = file_folds a.holding.shape name list (ap (λ (s : Shape). may_add_file (λ n. n) 0 s name list) ready.same.shape ∙ c.requires.may) ∙ ap Some (sym shape);
      places = c.add_file.ensures.places;
      chunks = omega (arith, c.add_file.ensures.chunk_room);
      files = omega (arith, c.add_file.ensures.room);
    } in
    added_disk v a r frame ready rack.disk rack.moment rack.left_since old new tt c.append.new.self c.in_ok-append.field-0 holding (subst (λ (l : List (List ℕ)). All IsChunkName l) c.as_slice.ensures.value c.set_file.ensures.lawful) c.in_ok-append.ensures.log has (c.in_ok-append.ensures.appended honest)
