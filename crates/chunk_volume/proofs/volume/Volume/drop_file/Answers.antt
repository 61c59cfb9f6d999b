use Rattle.std.proofs.Common.{◌≡◌, Some, false, sym, ◌∙◌, ap}
use Rattle.std.specs.Prelude.{slice_get}
use Rattle.std.specs.FinMap as map
use Rattle.site_forms.specs.VolumeRecords.VolumeRecord.{DropFileRecord}
use Rattle.chunk_volume.specs.declared.errors.VolError.TheVariants.{NoSuchFile}
use Rattle.chunk_volume.specs.VolumeValues.{VolumeValue}
use Rattle.chunk_volume.proofs.Puts.{same_itself, drops_file_held}
use Rattle.chunk_volume.proofs.Writing.{adds_refused}
use Rattle.volume_index.proofs.TableReads.{key_held}
use Rattle.chunk_volume.proofs.volume.Volume.drop_file.Goals as goal

pub returns-in_default-clause-dropped : goal.returns-in_default-clause-dropped
returns-in_default-clause-dropped g c = λ honest.
    let rack = g.R.Rack in
    adds_refused rack.moment rack.left_since c.args.rack.now (rack.disk c.args.rack.now) c.args.self.now c.args.self.now (DropFileRecord c.args.name.now) NoSuchFile (λ x left. g.met.R.Rack.only_now _ x honest left) (same_itself c.args.self.now)

pub returns-clause-volume : goal.returns-clause-volume
returns-clause-volume g c =
    let v = c.args.self.now in
    let fresh : v.log.spent ≡ false = ap (λ (x : VolumeValue). x.log.spent) (sym c.self.view_is) ∙ sym c.is_spent.ensures ∙ c.if-is_spent.false in
    let at : slice_get (map.keys v.shape.files) c.in-Some.place ≡ Some c.args.name.now = ap (λ (x : VolumeValue). slice_get (map.keys x.shape.files) c.in-Some.place) (sym c.self.view_is) ∙ c.in-Some.ensures in
    drops_file_held v c.take_file.new.self c.args.name.now c.take_file.result fresh (key_held v.shape.files c.in-Some.place c.args.name.now at) c.take_file.ensures.volume
