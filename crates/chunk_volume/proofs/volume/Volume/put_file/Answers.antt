use Rattle.std.proofs.Common.{◌≡◌, ℕ, List, false, sym, ◌∙◌, ap}
use Rattle.std.specs.FinMap as map
use Rattle.std.specs.String.{string_bytes}
use Rattle.site_forms.specs.Sites.{HoldsFile}
use Rattle.site_forms.specs.VolumeRecords.VolumeRecord.{FileRecord}
use Rattle.chunk_volume.specs.declared.errors.VolError.TheVariants.{Exists}
use Rattle.chunk_volume.specs.VolumeValues.{VolumeValue}
use Rattle.chunk_volume.proofs.Puts.{same_itself, may_put, puts_file_held}
use Rattle.chunk_volume.proofs.Writing.{adds_refused}
use Rattle.volume_index.proofs.IndexReads.{held_by_place, lacking_by_place}
use Rattle.chunk_volume.proofs.volume.Volume.put_file.Goals as goal

pub returns-then-is_some-clause-volume : goal.returns-then-is_some-clause-volume
returns-then-is_some-clause-volume g c =
    let v = c.args.self.now in
    let files = c.self.inside.holding.shape.files in
    let name = string_bytes c.args.name in
    let fresh : v.log.spent ≡ false = ap (λ (x : VolumeValue). x.log.spent) (sym c.self.view_is) ∙ sym c.is_spent.ensures ∙ c.if-is_spent.false in
    let held : HoldsFile v.shape name =
    ap (λ (x : VolumeValue). map.contains_key x.shape.files name) (sym c.self.view_is) ∙ ap (λ (n : List ℕ). map.contains_key files n) (sym c.as_str.ensures.value)
    ∙ held_by_place files c.as_str.result.now c.find.result c.find.ensures (sym c.is_some.ensures ∙ c.if-is_some.true) in
    puts_file_held v name c.args.chunks.items fresh held

pub returns-then-is_some-clause-added : goal.returns-then-is_some-clause-added
returns-then-is_some-clause-added g c = λ honest.
    let rack = g.R.Rack in
    adds_refused rack.moment rack.left_since c.args.rack.now (rack.disk c.args.rack.now) c.args.self.now c.args.self.now (FileRecord (string_bytes c.args.name) c.args.chunks.items) Exists (λ x left. g.met.R.Rack.only_now _ x honest left) (same_itself c.args.self.now)

pub add_file-requires-clause-may : goal.add_file-requires-clause-may
add_file-requires-clause-may g c =
    let v = c.args.self.now in
    let files = c.self.inside.holding.shape.files in
    let name = string_bytes c.args.name in
    let lacking : map.contains_key v.shape.files name ≡ false =
    ap (λ (x : VolumeValue). map.contains_key x.shape.files name) (sym c.self.view_is) ∙ ap (λ (n : List ℕ). map.contains_key files n) (sym c.as_str.ensures.value)
    ∙ lacking_by_place files c.as_str.result.now c.find.result c.find.ensures (sym c.is_some.ensures ∙ c.if-is_some.false) in
    may_put v.shape name c.args.chunks.items c.requires.lawful lacking c.requires.held c.requires.short c.requires.limits
