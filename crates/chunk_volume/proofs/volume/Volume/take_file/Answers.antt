use Rattle.std.proofs.Common.{◌≡◌, ◌+◌, length, Some, Result, sym, ◌∙◌, ap, subst, arith}
use Rattle.std.specs.Prelude.{slice_get}
use Rattle.std.specs.FinMap as map
use Rattle.site_forms.specs.VolumeRecords.{VolumeRecord}
use Rattle.site_forms.specs.VolumeRecords.VolumeRecord.{DropFileRecord}
use Rattle.site_forms.specs.Volumes.{Shape, without_file}
use Rattle.chunk_log.specs.LogValues.{LogValue}
use Rattle.chunk_volume.specs.declared.errors.VolError.{VolError}
use Rattle.chunk_volume.specs.declared.errors.VolError.TheVariants.{Memory}
use Rattle.chunk_volume.specs.Adding.{IsSame, AddsRecord}
use Rattle.chunk_volume.specs.VolumeInside.{view_of}
use Rattle.chunk_volume.specs.VolumeValues.{VolumeValue}
use Rattle.chunk_volume.proofs.Adding.{Framed, Holds, handed, logged, refused_disk, added_disk, added_value}
use Rattle.chunk_volume.proofs.Puts.{drop_file_folds, place_inside}
use Rattle.chunk_volume.proofs.Writing.{adds_refused}
use Rattle.volume_index.proofs.TableReads.{key_held}
use Rattle.volume_index.specs.HoldingValues.{Places}
use Rattle.chunk_volume.proofs.volume.Volume.take_file.Goals as goal

pub returns-in_err-reserve-clause-dropped : goal.returns-in_err-reserve-clause-dropped
returns-in_err-reserve-clause-dropped g c = λ honest.
    let rack = g.R.Rack in
    let old = c.args.rack.now in
    handed c.from_residual.result Memory (λ (x : Result (Unit {0}) VolError). AddsRecord rack.moment rack.left_since old old (rack.disk old) (rack.disk old) c.args.self.now c.reserve.new.self (DropFileRecord c.args.name.now) x) c.from_residual.ensures.1
    (adds_refused rack.moment rack.left_since old (rack.disk old) c.args.self.now c.reserve.new.self (DropFileRecord c.args.name.now) Memory (λ x left. g.met.R.Rack.only_now _ x honest left) c.in_err-reserve.ensures.same)

pub returns-in_err-append-clause-dropped : goal.returns-in_err-append-clause-dropped
returns-in_err-append-clause-dropped g c = λ honest.
    let rack = g.R.Rack in
    let old = c.args.rack.now in
    let new = c.append.new.rack in
    let v = c.args.self.now in
    let a = c.self-2.inside in
    let r : VolumeRecord = DropFileRecord c.args.name.now in
    let frame = c.set_drop_file.new.self in
    let log = c.append.new.self in
    let error = c.in_err-append.field-0.0 in
    let ready : Framed v a r frame = record { same = subst (λ (x : VolumeValue). IsSame v x) (sym c.self-2.view_is) c.in_ok-reserve.ensures.same; framed = c.set_drop_file.ensures } in
    handed c.from_residual-in_err-append.result error (λ (x : Result (Unit {0}) VolError). AddsRecord rack.moment rack.left_since old new (rack.disk old) (rack.disk new) v (view_of (logged a log frame)) r x) c.from_residual-in_err-append.ensures.1
    (refused_disk v a r frame ready rack.disk rack.moment rack.left_since old new (tt) log error c.in_err-append.ensures.log (λ x left. g.met.R.Rack.only_now _ x honest left) c.in_err-append.ensures.alone (c.in_err-append.ensures.appended honest))

pub file_name-len-requires : goal.file_name-len-requires
file_name-len-requires g c = omega (arith, place_inside c.args.self.now.shape.files c.args.place c.args.name.now c.requires.held, ap (λ (v : VolumeValue). map.len v.shape.files) c.self.view_is)

pub drop_file-requires : goal.drop_file-requires
drop_file-requires g c =
    let same = subst (λ (x : VolumeValue). IsSame c.args.self.now x) (sym c.self-2.view_is) c.in_ok-reserve.ensures.same in
    omega (arith, place_inside c.args.self.now.shape.files c.args.place c.args.name.now c.requires.held, ap (λ (s : Shape). map.len s.files) same.shape)

pub invariant_of-self-2 : goal.invariant_of-self-2
invariant_of-self-2 g c =
    let v = c.args.self.now in
    let a = c.self-2.inside in
    let r : VolumeRecord = DropFileRecord c.args.name.now in
    let frame = c.set_drop_file.new.self in
    let holding = c.drop_file.new.self in
    let ready : Framed v a r frame = record { same = subst (λ (x : VolumeValue). IsSame v x) (sym c.self-2.view_is) c.in_ok-reserve.ensures.same; framed = c.set_drop_file.ensures } in
    let at : slice_get (map.keys a.holding.shape.files) c.args.place ≡ Some c.args.name.now = ap (λ (s : Shape). slice_get (map.keys s.files) c.args.place) ready.same.shape ∙ c.requires.held in
    let shape : holding.shape ≡ without_file a.holding.shape c.args.name.now = c.drop_file.ensures.shape c.args.name.now at in
    let grown : c.append.new.self.end ≡ a.log.end + 5 + length frame.body = ap (λ (l : LogValue). l.end) c.in_ok-append.ensures.log.2 in
    λ q place len is_place is_len.
    omega (arith, grown, c.self-2.invariant q place len (sym (ap (λ (p : Places). map.get p q) c.drop_file.ensures.places) ∙ is_place) (sym (ap (λ (s : Shape). map.get s.chunks q) shape) ∙ is_len))

pub returns-clause-volume : goal.returns-clause-volume
returns-clause-volume g c =
    let v = c.args.self.now in
    let a = c.self-2.inside in
    let r : VolumeRecord = DropFileRecord c.args.name.now in
    let frame = c.set_drop_file.new.self in
    let holding = c.drop_file.new.self in
    let ready : Framed v a r frame = record { same = subst (λ (x : VolumeValue). IsSame v x) (sym c.self-2.view_is) c.in_ok-reserve.ensures.same; framed = c.set_drop_file.ensures } in
    let at : slice_get (map.keys a.holding.shape.files) c.args.place ≡ Some c.args.name.now = ap (λ (s : Shape). slice_get (map.keys s.files) c.args.place) ready.same.shape ∙ c.requires.held in
    let shape : holding.shape ≡ without_file a.holding.shape c.args.name.now = c.drop_file.ensures.shape c.args.name.now at in
    let has : Holds a r holding = record {
      shape = drop_file_folds a.holding.shape c.args.name.now (key_held a.holding.shape.files c.args.place c.args.name.now at) ∙ ap Some (sym shape);
      places = c.drop_file.ensures.places;
      chunks = omega (arith, c.drop_file.ensures.chunk_room);
      files = omega (arith, c.drop_file.ensures.file_room);
    } in
    added_value v a r frame ready (tt {0}) c.append.new.self c.in_ok-append.field-0 holding c.in_ok-append.ensures.log has

pub returns-clause-dropped : goal.returns-clause-dropped
returns-clause-dropped g c = λ honest.
    let rack = g.R.Rack in
    let v = c.args.self.now in
    let a = c.self-2.inside in
    let r : VolumeRecord = DropFileRecord c.args.name.now in
    let frame = c.set_drop_file.new.self in
    let holding = c.drop_file.new.self in
    let ready : Framed v a r frame = record { same = subst (λ (x : VolumeValue). IsSame v x) (sym c.self-2.view_is) c.in_ok-reserve.ensures.same; framed = c.set_drop_file.ensures } in
    let at : slice_get (map.keys a.holding.shape.files) c.args.place ≡ Some c.args.name.now = ap (λ (s : Shape). slice_get (map.keys s.files) c.args.place) ready.same.shape ∙ c.requires.held in
    let shape : holding.shape ≡ without_file a.holding.shape c.args.name.now = c.drop_file.ensures.shape c.args.name.now at in
    let has : Holds a r holding = record {
      shape = drop_file_folds a.holding.shape c.args.name.now (key_held a.holding.shape.files c.args.place c.args.name.now at) ∙ ap Some (sym shape);
      places = c.drop_file.ensures.places;
      chunks = omega (arith, c.drop_file.ensures.chunk_room);
      files = omega (arith, c.drop_file.ensures.file_room);
    } in
    added_disk v a r frame ready rack.disk rack.moment rack.left_since c.args.rack.now c.append.new.rack (tt {0}) c.append.new.self c.in_ok-append.field-0 holding tt c.in_ok-append.ensures.log has (c.in_ok-append.ensures.appended honest)
