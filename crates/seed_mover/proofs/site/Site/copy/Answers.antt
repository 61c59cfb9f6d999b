use Rattle.std.proofs.Common.{◌≡◌, false, inl, refl, sym, ◌∙◌, ap, subst}
use Rattle.std.specs.Prelude.{Ok, Err}
use Rattle.site_forms.specs.Sites.{HoldsChunk}
use Rattle.site_forms.specs.VolumeRecords.VolumeRecord.{ChunkRecord}
use Rattle.chunk_volume.specs.ReadingVolumes.{HasBytes, ReadsChunk}
use Rattle.chunk_volume.specs.Standing.{VolumeStands}
use Rattle.chunk_volume.specs.VolumeValues.{VolumeValue}
use Rattle.site_core.specs.Lasting.{IsKept}
use Rattle.seed_mover.specs.Acting.{Carries, CarriesOn, IsNext, copy_to, source_of}
use Rattle.seed_mover.specs.Entries.{append_to}
use Rattle.seed_mover.specs.SiteInside.{view_of}
use Rattle.site_runs.specs.SiteValues.{SiteStands, SiteValue, shapes_in}
use Rattle.seed_mover.proofs.Acted.{acts_append, carried_append}
use Rattle.seed_mover.proofs.Copying.{append_state, carried_refused, carries_refused, copied_to, found_bytes, source_in, source_place, source_stands, spent_site}
use Rattle.seed_mover.proofs.NextFacts.{copied_held, copy_append}
use Rattle.seed_mover.proofs.site.Site.copy.Goals as goal

pub read_chunk-requires : goal.read_chunk-requires
read_chunk-requires g c =
    let kept = subst (λ (x : SiteValue). IsKept (shapes_in x)) c.self.view_is c.self.invariant.kept in
    subst (λ (x : VolumeValue). HoldsChunk x.shape c.args.chunk.now) (sym c.source.ensures) (copied_held c.args.self.now c.args.side c.args.chunk.now kept c.requires.next)

pub record-requires-clause-may : goal.record-requires-clause-may
record-requires-clause-may g c =
    let v = c.args.self.now in
    let side = c.args.side in
    let chunk = c.args.chunk.now in
    let kept = subst (λ (x : SiteValue). IsKept (shapes_in x)) c.self.view_is c.self.invariant.kept in
    let reads = subst (λ (x : VolumeValue). ReadsChunk x chunk (Ok c.in-Ok.bytes)) c.source.ensures c.in-Ok.ensures.reads in
    inl (copied_to v side chunk c.in-Ok.bytes c.as_slice.result.now kept c.requires.next c.as_slice.ensures.value reads.1)

pub returns-in-Ok-clause-carries : goal.returns-in-Ok-clause-carries
returns-in-Ok-clause-carries g c =
    let v = c.args.self.now in
    let side = c.args.side in
    let chunk = c.args.chunk.now in
    let kept = subst (λ (x : SiteValue). IsKept (shapes_in x)) c.self.view_is c.self.invariant.kept in
    let reads = subst (λ (x : VolumeValue). ReadsChunk x chunk (Ok c.in-Ok.bytes)) c.source.ensures c.in-Ok.ensures.reads in
    acts_append v c.record.new.self (append_to side (ChunkRecord chunk c.as_slice.result.now)) (copy_to side chunk) c.record.result c.requires.fresh
    (copied_to v side chunk c.in-Ok.bytes c.as_slice.result.now kept c.requires.next c.as_slice.ensures.value reads.1) refl c.record.ensures.appends

pub returns-in-Ok-clause-carried : goal.returns-in-Ok-clause-carried
returns-in-Ok-clause-carried g c = λ s honest stands is.
    let rack = g.R.Rack in
    let old = c.args.rack.now in
    let v = c.args.self.now in
    let side = c.args.side in
    let chunk = c.args.chunk.now in
    let bytes = c.as_slice.result.now in
    let x = append_to side (ChunkRecord chunk bytes) in
    carried_append rack.disk rack.moment rack.left_since old c.read_chunk.new.rack c.record.new.rack v c.record.new.self s x is (λ y left. g.met.R.Rack.only_now _ y honest left) (c.in-Ok.ensures.quiet honest) stands (copy_to side chunk) c.record.result c.requires.next
    (append_state v (rack.disk old) s x (copy_to side chunk) bytes stands (copy_append v side chunk bytes)
    (found_bytes s side chunk bytes
    (subst (HasBytes (source_in side s) chunk) (sym c.as_slice.ensures.value)
    (c.in-Ok.ensures.found (source_place side) (source_in side s) honest (subst (λ (y : VolumeValue). VolumeStands (source_place side) y (rack.disk old) (source_in side s)) (sym c.source.ensures) (source_stands v (rack.disk old) s side stands))))))
    c.record.ensures.appends (c.record.ensures.adds (c.in-Ok.ensures.honest ∙ honest))

pub returns-in-Err-clause-carries : goal.returns-in-Err-clause-carries
returns-in-Err-clause-carries g c =
    let v = view_of c.self.inside in
    let side = c.args.side in
    let chunk = c.args.chunk.now in
    let spent = c.note_volume.new.spent in
    let fresh : v.spent ≡ false = ap (λ (x : SiteValue). x.spent) c.self.view_is ∙ c.requires.fresh in
    let next = subst (λ (x : SiteValue). IsNext x (copy_to side chunk)) (sym c.self.view_is) c.requires.next in
    let its = c.source.ensures ∙ ap (source_of side) (sym c.self.view_is) in
    let reads = subst (λ (x : VolumeValue). ReadsChunk x chunk (Err c.in-Err.error)) its c.in-Err.ensures.reads in
    subst (λ (x : SiteValue). Carries x (spent_site v spent) (copy_to side chunk) c.note_volume.result) c.self.view_is (carries_refused v side chunk spent fresh next c.in-Err.error c.note_volume.result reads c.note_volume.ensures)

pub returns-in-Err-clause-carried : goal.returns-in-Err-clause-carried
returns-in-Err-clause-carried g c = λ s honest stands is.
    let rack = g.R.Rack in
    let old = c.args.rack.now in
    let new = c.read_chunk.new.rack in
    let v = view_of c.self.inside in
    let side = c.args.side in
    let chunk = c.args.chunk.now in
    let spent = c.note_volume.new.spent in
    let fresh : v.spent ≡ false = ap (λ (x : SiteValue). x.spent) c.self.view_is ∙ c.requires.fresh in
    let next = subst (λ (x : SiteValue). IsNext x (copy_to side chunk)) (sym c.self.view_is) c.requires.next in
    let its = c.source.ensures ∙ ap (source_of side) (sym c.self.view_is) in
    let reads = subst (λ (x : VolumeValue). ReadsChunk x chunk (Err c.in-Err.error)) its c.in-Err.ensures.reads in
    let here = subst (λ (x : SiteValue). SiteStands x (rack.disk old) s) (sym c.self.view_is) stands in
    subst (λ (x : SiteValue). CarriesOn rack.disk rack.moment rack.left_since old new x (spent_site v spent) s (copy_to side chunk) c.note_volume.result) c.self.view_is
    (carried_refused v side chunk spent fresh next rack.disk rack.moment rack.left_since old new s c.in-Err.error c.note_volume.result is (λ y left. g.met.R.Rack.only_now _ y honest left) (c.in-Err.ensures.quiet honest) here reads
    (λ place volume stands. c.in-Err.ensures.found place volume honest (subst (λ (x : VolumeValue). VolumeStands place x (rack.disk old) volume) (sym its) stands)) c.note_volume.ensures)
