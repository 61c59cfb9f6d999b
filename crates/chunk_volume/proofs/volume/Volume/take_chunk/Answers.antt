use Rattle.std.proofs.Common.{◌≡◌, ◌+◌, length, Some, Result, sym, ◌∙◌, ap, subst, arith}
use Rattle.std.specs.FinMap as map
use Rattle.site_forms.specs.VolumeRecords.{VolumeRecord}
use Rattle.site_forms.specs.VolumeRecords.VolumeRecord.{DropChunkRecord}
use Rattle.site_forms.specs.Volumes.{Shape, may_drop_chunk}
use Rattle.chunk_log.specs.LogValues.{LogValue}
use Rattle.chunk_volume.specs.declared.errors.VolError.{VolError}
use Rattle.chunk_volume.specs.declared.errors.VolError.TheVariants.{Memory}
use Rattle.chunk_volume.specs.Adding.{IsSame, AddsRecord}
use Rattle.chunk_volume.specs.VolumeInside.{view_of}
use Rattle.chunk_volume.specs.VolumeValues.{VolumeValue}
use Rattle.chunk_volume.proofs.Adding.{Framed, Holds, handed, logged, refused_disk, added_disk, before_without}
use Rattle.chunk_volume.proofs.Puts.{drop_chunk_folds}
use Rattle.chunk_volume.proofs.Writing.{adds_refused}
use Rattle.volume_index.specs.HoldingValues.{Places}
use Rattle.chunk_volume.proofs.volume.Volume.take_chunk.Goals as goal

pub returns-in_err-reserve-clause-dropped : goal.returns-in_err-reserve-clause-dropped
returns-in_err-reserve-clause-dropped g c = λ honest.
    let rack = g.R.Rack in
    let old = c.args.rack.now in
    handed c.from_residual.result Memory (λ (x : Result (Unit {0}) VolError). AddsRecord rack.moment rack.left_since old old (rack.disk old) (rack.disk old) c.args.self.now c.reserve.new.self (DropChunkRecord c.args.name.now) x) c.from_residual.ensures.1
    (adds_refused rack.moment rack.left_since old (rack.disk old) c.args.self.now c.reserve.new.self (DropChunkRecord c.args.name.now) Memory (λ x left. g.met.R.Rack.only_now _ x honest left) c.in_err-reserve.ensures.same)

pub returns-in_err-append-clause-dropped : goal.returns-in_err-append-clause-dropped
returns-in_err-append-clause-dropped g c = λ honest.
    let rack = g.R.Rack in
    let old = c.args.rack.now in
    let new = c.append.new.rack in
    let v = c.args.self.now in
    let a = c.self.inside in
    let r : VolumeRecord = DropChunkRecord c.args.name.now in
    let frame = c.set_drop_chunk.new.self in
    let log = c.append.new.self in
    let error = c.in_err-append.field-0.0 in
    let ready : Framed v a r frame = record { same = subst (λ (x : VolumeValue). IsSame v x) (sym c.self.view_is) c.in_ok-reserve.ensures.same; framed = c.set_drop_chunk.ensures } in
    handed c.from_residual-in_err-append.result error (λ (x : Result (Unit {0}) VolError). AddsRecord rack.moment rack.left_since old new (rack.disk old) (rack.disk new) v (view_of (logged a log frame)) r x) c.from_residual-in_err-append.ensures.1
    (refused_disk v a r frame ready rack.disk rack.moment rack.left_since old new (c.told-name) log error c.in_err-append.ensures.log (λ x left. g.met.R.Rack.only_now _ x honest left) c.in_err-append.ensures.alone (c.in_err-append.ensures.appended honest))

pub invariant_of-self-2 : goal.invariant_of-self-2
invariant_of-self-2 g c =
    let a = c.self.inside in
    let grown : c.append.new.self.end ≡ a.log.end + 5 + length c.set_drop_chunk.new.self.body = ap (λ (l : LogValue). l.end) c.in_ok-append.ensures.log.2 in
    λ q place len is_place is_len.
    before_without a.log.end c.append.new.self.end a.holding.places a.holding.shape.chunks c.args.name.now (omega (arith, grown)) c.self.invariant q place len
    (sym (ap (λ (p : Places). map.get p q) c.drop_chunk.ensures.places) ∙ is_place) (sym (ap (λ (s : Shape). map.get s.chunks q) c.drop_chunk.ensures.shape) ∙ is_len)

pub returns-clause-dropped : goal.returns-clause-dropped
returns-clause-dropped g c = λ honest.
    let rack = g.R.Rack in
    let old = c.args.rack.now in
    let new = c.append.new.rack in
    let v = c.args.self.now in
    let a = c.self.inside in
    let r : VolumeRecord = DropChunkRecord c.args.name.now in
    let frame = c.set_drop_chunk.new.self in
    let holding = c.drop_chunk.new.self in
    let ready : Framed v a r frame = record { same = subst (λ (x : VolumeValue). IsSame v x) (sym c.self.view_is) c.in_ok-reserve.ensures.same; framed = c.set_drop_chunk.ensures } in
    let has : Holds a r holding = record {
      shape = drop_chunk_folds a.holding.shape c.args.name.now (ap (λ (s : Shape). may_drop_chunk s c.args.name.now) ready.same.shape ∙ c.requires.may) ∙ ap Some (sym c.drop_chunk.ensures.shape);
      places = c.drop_chunk.ensures.places;
      chunks = omega (arith, c.drop_chunk.ensures.chunk_room);
      files = omega (arith, c.drop_chunk.ensures.file_room);
    } in
    added_disk v a r frame ready rack.disk rack.moment rack.left_since old new tt c.append.new.self c.in_ok-append.field-0 holding (c.told-name) c.in_ok-append.ensures.log has (c.in_ok-append.ensures.appended honest)
