use Rattle.std.proofs.Common.{subst}
use Rattle.std.specs.Prelude.{Err}
use Rattle.site_core.specs.Events.{Shapes, shapes_of}
use Rattle.site_runs.specs.Runs.{RunsFront}
use Rattle.site_runs.proofs.Settled.{shapes_same}
use Rattle.seed_mover.specs.declared.errors.SiteError.{SiteError}
use Rattle.seed_mover.specs.Beginning.{begin_plan}
use Rattle.seed_mover.specs.BeginParts.{ReadiesBegin}
use Rattle.seed_mover.specs.Errors.{refuses}
use Rattle.seed_mover.proofs.BeginRuns.{begins_refused, begins_run, ready_now, refused_same}
use Rattle.seed_mover.proofs.Noted.{cause_none}
use Rattle.seed_mover.proofs.Same.{stands_same}
use Rattle.seed_mover.proofs.Stepping.{front_from, front_nothing}
use Rattle.seed_mover.proofs.site.Site.begin.Goals as goal

pub begin_with-requires-clause-ready : goal.begin_with-requires-clause-ready
begin_with-requires-clause-ready g c = ready_now c.args.self.now c.ready_to_begin.new.self c.ready_to_begin.new.self c.args.names c.in-Ok.ensures.1 c.in-Ok.ensures.0

pub begin_with-requires-clause-room : goal.begin_with-requires-clause-room
begin_with-requires-clause-room g c = c.in-Ok.ensures.2

pub returns-in-Ok-clause-begins : goal.returns-in-Ok-clause-begins
returns-in-Ok-clause-begins g c = begins_run c.args.self.now c.ready_to_begin.new.self c.begin_with.new.self c.args.names c.in-Ok.ensures.1 c.in-Ok.ensures.0 c.begin_with.result c.begin_with.ensures.begins

pub returns-in-Ok-clause-runs : goal.returns-in-Ok-clause-runs
returns-in-Ok-clause-runs g c = λ s honest stands is.
    let rack = g.R.Rack in
    let old = c.args.rack.now in
    let new = c.begin_with.new.rack in
    let v = c.args.self.now in
    let u = c.ready_to_begin.new.self in
    let w = c.begin_with.new.self in
    let names = c.args.names in
    let now = stands_same v u (rack.disk old) s c.in-Ok.ensures.1 stands in
    front_from rack.disk rack.moment rack.left_since refuses old new v u w s (begin_plan (shapes_of s) names) c.begin_with.result
    (subst (λ (t : Shapes). RunsFront rack.disk rack.moment rack.left_since refuses old new u w s (begin_plan t names) c.begin_with.result) (shapes_same u s (rack.disk old) now) (c.begin_with.ensures.begun s honest now is))

pub returns-in-Err-clause-cause : goal.returns-in-Err-clause-cause
returns-in-Err-clause-cause g c =
    cause_none (g.R.Rack.faults c.args.rack.now) c.in-Err.error (λ is. subst (λ (error : SiteError). ReadiesBegin c.args.self.now c.ready_to_begin.new.self c.args.names (Err error)) is c.in-Err.ensures)

pub returns-in-Err-clause-begins : goal.returns-in-Err-clause-begins
returns-in-Err-clause-begins g c = begins_refused c.args.self.now c.ready_to_begin.new.self c.args.names c.in-Err.error c.in-Err.ensures

pub returns-in-Err-clause-runs : goal.returns-in-Err-clause-runs
returns-in-Err-clause-runs g c = λ s honest stands is.
    let rack = g.R.Rack in
    let old = c.args.rack.now in
    let v = c.args.self.now in
    let u = c.ready_to_begin.new.self in
    front_nothing rack.disk rack.moment rack.left_since refuses old v u s (begin_plan (shapes_of s) c.args.names) c.in-Err.error (λ y left. g.met.R.Rack.only_now _ y honest left)
    (stands_same v u (rack.disk old) s (refused_same v u c.args.names c.in-Err.error c.in-Err.ensures) stands)
