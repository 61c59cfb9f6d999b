use Rattle.std.proofs.Common.{◌≡◌, ◌+◌, ◌≤◌, ℕ, length, Some, Result, sym, ◌∙◌, ap, subst, arith, length-append}
use Rattle.std.specs.FinMap as map
use Rattle.site_forms.specs.VolumeRecords.{VolumeRecord}
use Rattle.site_forms.specs.VolumeRecords.VolumeRecord.{ChunkRecord}
use Rattle.site_forms.specs.Volumes.{Shape, with_chunk}
use Rattle.chunk_log.specs.Frames.{FrameValue}
use Rattle.chunk_log.specs.LogValues.{LogValue}
use Rattle.chunk_volume.specs.declared.errors.VolError.{VolError}
use Rattle.chunk_volume.specs.declared.errors.VolError.TheVariants.{Memory}
use Rattle.chunk_volume.specs.Adding.{IsSame, AddsRecord}
use Rattle.chunk_volume.specs.VolumeInside.{view_of}
use Rattle.chunk_volume.specs.VolumeValues.{VolumeValue}
use Rattle.chunk_volume.proofs.Adding.{Framed, Holds, handed, logged, refused_disk, added_disk, before_with}
use Rattle.chunk_volume.proofs.Puts.{chunk_folds}
use Rattle.chunk_volume.proofs.Writing.{adds_refused}
use Rattle.volume_index.specs.HoldingValues.{Places}
use Rattle.chunk_volume.proofs.volume.Volume.add_chunk.Goals as goal

pub returns-in_err-reserve-clause-added : goal.returns-in_err-reserve-clause-added
returns-in_err-reserve-clause-added g c = λ honest.
    let rack = g.R.Rack in
    let old = c.args.rack.now in
    handed c.from_residual.result Memory (λ (x : Result (Unit {0}) VolError). AddsRecord rack.moment rack.left_since old old (rack.disk old) (rack.disk old) c.args.self.now c.reserve.new.self (ChunkRecord c.args.name.now c.args.bytes.now) x) c.from_residual.ensures.1
    (adds_refused rack.moment rack.left_since old (rack.disk old) c.args.self.now c.reserve.new.self (ChunkRecord c.args.name.now c.args.bytes.now) Memory (λ x left. g.met.R.Rack.only_now _ x honest left) c.in_err-reserve.ensures.same)

pub returns-in_err-append-clause-added : goal.returns-in_err-append-clause-added
returns-in_err-append-clause-added g c = λ honest.
    let rack = g.R.Rack in
    let old = c.args.rack.now in
    let new = c.append.new.rack in
    let v = c.args.self.now in
    let a = c.self.inside in
    let r : VolumeRecord = ChunkRecord c.args.name.now c.args.bytes.now in
    let frame = c.set_chunk.new.self in
    let log = c.append.new.self in
    let error = c.in_err-append.field-0.0 in
    let ready : Framed v a r frame = record { same = subst (λ (x : VolumeValue). IsSame v x) (sym c.self.view_is) c.in_ok-reserve.ensures.same; framed = c.set_chunk.ensures } in
    handed c.from_residual-in_err-append.result error (λ (x : Result (Unit {0}) VolError). AddsRecord rack.moment rack.left_since old new (rack.disk old) (rack.disk new) v (view_of (logged a log frame)) r x) c.from_residual-in_err-append.ensures.1
    (refused_disk v a r frame ready rack.disk rack.moment rack.left_since old new ((c.requires.name, c.requires.chunk)) log error c.in_err-append.ensures.log (λ x left. g.met.R.Rack.only_now _ x honest left) c.in_err-append.ensures.alone (c.in_err-append.ensures.appended honest))

pub invariant_of-self-2 : goal.invariant_of-self-2
invariant_of-self-2 g c =
    let a = c.self.inside in
    let grown : c.append.new.self.end ≡ a.log.end + 5 + length c.set_chunk.new.self.body = ap (λ (l : LogValue). l.end) c.in_ok-append.ensures.log.2 in
    let places : c.add_chunk.new.self.places ≡ map.insert a.holding.places c.args.name.now (c.end-place.result + 38) = rw c.unwrap.ensures at c.add_chunk.ensures.places in
    let shape : c.add_chunk.new.self.shape ≡ with_chunk a.holding.shape c.args.name.now (length c.args.bytes.now) = rw c.unwrap.ensures at c.add_chunk.ensures.shape in
    let long = ap (λ (f : FrameValue). length f.body) c.set_chunk.ensures in
    let within : c.end-place.result + 38 + length c.args.bytes.now ≤ c.append.new.self.end = omega (arith, grown, long, c.end-place.ensures.gate, length-append c.args.name.now c.args.bytes.now, c.requires.name) in
    λ q place len is_place is_len.
    before_with a.log.end c.append.new.self.end a.holding.places a.holding.shape.chunks c.args.name.now (c.end-place.result + 38) (length c.args.bytes.now) (omega (arith, grown)) within c.self.invariant q place len
    (sym (ap (λ (p : Places). map.get p q) places) ∙ is_place) (sym (ap (λ (s : Shape). map.get s.chunks q) shape) ∙ is_len)

pub returns-clause-added : goal.returns-clause-added
returns-clause-added g c = λ honest.
    let rack = g.R.Rack in
    let old = c.args.rack.now in
    let new = c.append.new.rack in
    let v = c.args.self.now in
    let a = c.self.inside in
    let r : VolumeRecord = ChunkRecord c.args.name.now c.args.bytes.now in
    let frame = c.set_chunk.new.self in
    let holding = c.add_chunk.new.self in
    let ready : Framed v a r frame = record { same = subst (λ (x : VolumeValue). IsSame v x) (sym c.self.view_is) c.in_ok-reserve.ensures.same; framed = c.set_chunk.ensures } in
    let places : holding.places ≡ map.insert a.holding.places c.args.name.now (c.end-place.result + 38) = rw c.unwrap.ensures at c.add_chunk.ensures.places in
    let shape : holding.shape ≡ with_chunk a.holding.shape c.args.name.now (length c.args.bytes.now) = rw c.unwrap.ensures at c.add_chunk.ensures.shape in
    let has : Holds a r holding = record {
      shape = chunk_folds a.holding.shape c.args.name.now c.args.bytes.now (λ held. c.requires.lacking (ap (λ (s : Shape). map.contains_key s.chunks c.args.name.now) (sym ready.same.shape) ∙ held)) ∙ ap Some (sym shape);
      places = places ∙ ap (λ (n : ℕ). map.insert a.holding.places c.args.name.now (n + 38)) c.end-place.ensures.gate;
      chunks = omega (arith, c.add_chunk.ensures.room);
      files = omega (arith, c.add_chunk.ensures.file_room);
    } in
    added_disk v a r frame ready rack.disk rack.moment rack.left_since old new tt c.append.new.self c.in_ok-append.field-0 holding ((c.requires.name, c.requires.chunk)) c.in_ok-append.ensures.log has (c.in_ok-append.ensures.appended honest)
