use Rattle.std.proofs.Common.{◌<◌, inl, [], length, refl, sym, ◌∙◌, ap, subst}
use Rattle.std.specs.String.{string_bytes}
use Rattle.site_forms.specs.declared.phase.Phase.{Phase}
use Rattle.site_forms.specs.Phases.{names_of}
use Rattle.site_forms.specs.VolumeRecords.VolumeRecord.{FileRecord}
use Rattle.chunk_volume.specs.VolumeValues.{VolumeValue}
use Rattle.device_pieces.proofs.Quiets.{quiet_begins}
use Rattle.site_core.specs.Events.{named}
use Rattle.site_core.specs.Lasting.{IsKept}
use Rattle.seed_mover.specs.declared.errors.SiteError.TheVariants.{Memory}
use Rattle.seed_mover.specs.Acting.{add_to}
use Rattle.seed_mover.specs.Entries.{append_to}
use Rattle.site_runs.specs.SiteValues.{SiteValue, shapes_in}
use Rattle.seed_mover.proofs.Acted.{acts_append, acted_nothing, carried_append}
use Rattle.seed_mover.proofs.Copying.{adds_nothing, append_state, next_by, no_bytes_added}
use Rattle.seed_mover.proofs.NextFacts.{add_inside, added_is}
use Rattle.seed_mover.proofs.site.Site.add.Goals as goal

pub name_at-requires : goal.name_at-requires
name_at-requires g c =
    let kept = subst (λ (x : SiteValue). IsKept (shapes_in x)) c.self.view_is c.self.invariant.kept in
    let phase = c.phase.ensures ∙ ap (λ (x : SiteValue). x.journal.phase) c.self.view_is in
    subst (λ (p : Phase). c.args.place < length (names_of p)) (sym phase) (add_inside c.args.self.now c.args.side c.args.place kept c.requires.next)

pub returns-in_default-clause-carried : goal.returns-in_default-clause-carried
returns-in_default-clause-carried g c = λ s honest stands is.
    acted_nothing g.R.Rack.disk g.R.Rack.moment g.R.Rack.left_since c.args.rack.now c.args.self.now s Memory (λ y left. g.met.R.Rack.only_now _ y honest left) stands refl tt

pub returns-in_default-list_in-clause-carried : goal.returns-in_default-list_in-clause-carried
returns-in_default-list_in-clause-carried g c = λ s honest stands is.
    acted_nothing g.R.Rack.disk g.R.Rack.moment g.R.Rack.left_since c.args.rack.now c.args.self.now s Memory (λ y left. g.met.R.Rack.only_now _ y honest left) stands refl tt

pub record-requires-clause-may : goal.record-requires-clause-may
record-requires-clause-may g c =
    let v = c.args.self.now in
    let side = c.args.side in
    let place = c.args.place in
    let named_is = c.in-Ok.ensures ∙ ap (λ (p : Phase). named p place) (c.phase.ensures ∙ ap (λ (x : SiteValue). x.journal.phase) c.self.view_is) in
    let shape_is = c.holding.ensures.shape ∙ ap (λ (x : VolumeValue). x.shape) c.source.ensures in
    let same = added_is v side place (string_bytes c.in-Ok.name) c.as_str.result.now c.in-Ok-list_in.chunks.items c.holding.result.now.shape named_is c.as_str.ensures.value shape_is c.in-Ok-list_in.ensures in
    inl (next_by v (append_to side (FileRecord (string_bytes c.in-Ok.name) c.in-Ok-list_in.chunks.items)) (add_to side place) [] c.requires.next (adds_nothing side place) same)

pub returns-clause-carries : goal.returns-clause-carries
returns-clause-carries g c =
    let v = c.args.self.now in
    let side = c.args.side in
    let place = c.args.place in
    let x = append_to side (FileRecord (string_bytes c.in-Ok.name) c.in-Ok-list_in.chunks.items) in
    let named_is = c.in-Ok.ensures ∙ ap (λ (p : Phase). named p place) (c.phase.ensures ∙ ap (λ (x : SiteValue). x.journal.phase) c.self.view_is) in
    let shape_is = c.holding.ensures.shape ∙ ap (λ (x : VolumeValue). x.shape) c.source.ensures in
    let same = added_is v side place (string_bytes c.in-Ok.name) c.as_str.result.now c.in-Ok-list_in.chunks.items c.holding.result.now.shape named_is c.as_str.ensures.value shape_is c.in-Ok-list_in.ensures in
    acts_append v c.record.new.self x (add_to side place) c.record.result c.requires.fresh (next_by v x (add_to side place) [] c.requires.next (adds_nothing side place) same) refl c.record.ensures.appends

pub returns-clause-carried : goal.returns-clause-carried
returns-clause-carried g c = λ s honest stands is.
    let rack = g.R.Rack in
    let old = c.args.rack.now in
    let v = c.args.self.now in
    let side = c.args.side in
    let place = c.args.place in
    let x = append_to side (FileRecord (string_bytes c.in-Ok.name) c.in-Ok-list_in.chunks.items) in
    let named_is = c.in-Ok.ensures ∙ ap (λ (p : Phase). named p place) (c.phase.ensures ∙ ap (λ (x : SiteValue). x.journal.phase) c.self.view_is) in
    let shape_is = c.holding.ensures.shape ∙ ap (λ (x : VolumeValue). x.shape) c.source.ensures in
    let same = added_is v side place (string_bytes c.in-Ok.name) c.as_str.result.now c.in-Ok-list_in.chunks.items c.holding.result.now.shape named_is c.as_str.ensures.value shape_is c.in-Ok-list_in.ensures in
    carried_append rack.disk rack.moment rack.left_since old old c.record.new.rack v c.record.new.self s x is (λ y left. g.met.R.Rack.only_now _ y honest left)
    (quiet_begins rack.moment rack.left_since old (rack.disk old) (λ y left. g.met.R.Rack.only_now _ y honest left)) stands (add_to side place) c.record.result c.requires.next
    (append_state v (rack.disk old) s x (add_to side place) [] stands same (no_bytes_added s side place)) c.record.ensures.appends (c.record.ensures.adds honest)
