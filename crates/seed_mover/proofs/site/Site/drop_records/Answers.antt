use Rattle.std.proofs.Common.{List, [], ◌∷◌, sym, ◌∙◌, subst}
use Rattle.std.specs.Prelude.{Ok, Err}
use Rattle.site_forms.specs.VolumeRecords.VolumeRecord.{DropFileRecord}
use Rattle.site_forms.specs.Volumes.{without_file}
use Rattle.site_core.specs.Events.{Append}
use Rattle.site_core.specs.Plans.{after_plan}
use Rattle.site_runs.specs.Runs.{RunsFront}
use Rattle.seed_mover.specs.Errors.{refuses}
use Rattle.seed_mover.specs.declared.errors.SiteError.TheVariants.{RackFault}
use Rattle.seed_mover.specs.Entries.{on_side, append_to}
use Rattle.seed_mover.specs.BeginParts.{RunsPlan}
use Rattle.seed_mover.specs.Unused.{unused_of, unused_plan}
use Rattle.seed_mover.proofs.Chained.{one_plan, plan_stopped, plan_then, unused_runs}
use Rattle.seed_mover.proofs.DropRuns.{may_drop_file, may_drop_file_of, room_for_file, still_idle, still_room, then_unused}
use Rattle.seed_mover.proofs.Noted.{cause_then}
use Rattle.seed_mover.proofs.Refusals.{decides}
use Rattle.seed_mover.proofs.Stepping.{front_one, front_stopped, front_then, mid_folded, mid_stands}
use Rattle.seed_mover.proofs.site.Site.drop_records.Goals as goal

pub record-requires-clause-may : goal.record-requires-clause-may
record-requires-clause-may g c = may_drop_file c.args.side c.args.self.now c.args.name.now c.requires.idle c.requires.holder

pub drop_unused-requires-clause-fresh : goal.drop_unused-requires-clause-fresh
drop_unused-requires-clause-fresh g c = c.in-Ok.ensures.appends.1.spent ∙ c.requires.fresh

pub drop_unused-requires-clause-idle : goal.drop_unused-requires-clause-idle
drop_unused-requires-clause-idle g c = still_idle c.args.self.now c.record.new.self c.args.name.now c.args.side c.requires.holder c.in-Ok.ensures.appends.1 c.requires.idle

pub drop_unused-requires-clause-room : goal.drop_unused-requires-clause-room
drop_unused-requires-clause-room g c = still_room c.args.self.now c.record.new.self c.args.name.now c.args.side c.in-Ok.ensures.appends c.requires.chunk_room

pub returns-in-Ok-clause-cause : goal.returns-in-Ok-clause-cause
returns-in-Ok-clause-cause g c =
    let faults = g.R.Rack.faults in
    cause_then RackFault (faults c.args.rack.now) (faults c.record.new.rack) (faults c.drop_unused.new.rack) tt c.drop_unused.result c.in-Ok.ensures.cause c.drop_unused.ensures.cause

pub returns-in-Ok-clause-runs : goal.returns-in-Ok-clause-runs
returns-in-Ok-clause-runs g c =
    let v = c.args.self.now in
    let u = c.record.new.self in
    let w = c.drop_unused.new.self in
    let name = c.args.name.now in
    let side = c.args.side in
    let x = append_to side (DropFileRecord name) in
    let one = c.in-Ok.ensures.appends in
    subst (λ (p : List Append). RunsPlan v w p c.drop_unused.result) (sym (then_unused v u name side c.requires.holder one.1))
    (plan_then v u w (x ∷ []) (unused_of side u) c.drop_unused.result (one.0, tt) one.1 (unused_runs side u w c.drop_unused.result c.drop_unused.ensures.drops))

pub returns-in-Ok-clause-dropped : goal.returns-in-Ok-clause-dropped
returns-in-Ok-clause-dropped g c = λ s honest stands is.
    let rack = g.R.Rack in
    let old = c.args.rack.now in
    let mid = c.record.new.rack in
    let new = c.drop_unused.new.rack in
    let v = c.args.self.now in
    let u = c.record.new.self in
    let w = c.drop_unused.new.self in
    let name = c.args.name.now in
    let side = c.args.side in
    let x = append_to side (DropFileRecord name) in
    let may = may_drop_file_of side v name (rack.disk old) s c.requires.idle c.requires.holder stands in
    let one = front_one rack.disk rack.moment rack.left_since refuses old mid v u s x is (λ y left. g.met.R.Rack.only_now _ y honest left) stands may decides (Ok tt) (c.in-Ok.ensures.adds honest) in
    let now = mid_stands rack.disk rack.moment rack.left_since refuses old mid new v u w s (x ∷ []) (unused_of side u) tt one in
    let site = mid_folded rack.disk rack.moment rack.left_since refuses old mid new v u w s (x ∷ []) (unused_of side u) tt one is in
    subst (λ (p : List Append). RunsFront rack.disk rack.moment rack.left_since refuses old new v w s p c.drop_unused.result) (sym (then_unused v u name side c.requires.holder c.in-Ok.ensures.appends.1))
    (front_then rack.disk rack.moment rack.left_since refuses old mid new v u w s (x ∷ []) (unused_of side u) tt one c.drop_unused.result (c.drop_unused.ensures.dropped (after_plan s (x ∷ [])) (c.in-Ok.ensures.honest ∙ honest) now site))

pub returns-in-Err-clause-runs : goal.returns-in-Err-clause-runs
returns-in-Err-clause-runs g c =
    let v = c.args.self.now in
    let w = c.record.new.self in
    let name = c.args.name.now in
    let side = c.args.side in
    let x = append_to side (DropFileRecord name) in
    plan_stopped v w (x ∷ []) (unused_plan side (without_file (on_side side v).shape name)) c.in-Err.error (one_plan v w x (Err c.in-Err.error) (room_for_file side v name c.requires.file_room) c.in-Err.ensures.appends)

pub returns-in-Err-clause-dropped : goal.returns-in-Err-clause-dropped
returns-in-Err-clause-dropped g c = λ s honest stands is.
    let rack = g.R.Rack in
    let old = c.args.rack.now in
    let new = c.record.new.rack in
    let v = c.args.self.now in
    let w = c.record.new.self in
    let name = c.args.name.now in
    let side = c.args.side in
    let x = append_to side (DropFileRecord name) in
    front_stopped rack.disk rack.moment rack.left_since refuses old new v w s (x ∷ []) (unused_plan side (without_file (on_side side v).shape name)) c.in-Err.error
    (front_one rack.disk rack.moment rack.left_since refuses old new v w s x is (λ y left. g.met.R.Rack.only_now _ y honest left) stands (may_drop_file_of side v name (rack.disk old) s c.requires.idle c.requires.holder stands) decides (Err c.in-Err.error)
    (c.in-Err.ensures.adds honest))
