use Rattle.std.proofs.Common.{List, [], refl, sym, ◌∙◌, ap, subst}
use Rattle.std.specs.Prelude.{Err}
use Rattle.site_core.specs.Events.{Append, Shapes, shapes_of}
use Rattle.site_core.specs.Plans.{IsFrontOf}
use Rattle.site_runs.specs.Runs.{Runs}
use Rattle.site_runs.proofs.Fronts.{front_none}
use Rattle.site_runs.proofs.RunEnds.{runs_nothing}
use Rattle.site_runs.proofs.Runs.{run_begins}
use Rattle.site_runs.proofs.Settled.{shapes_same}
use Rattle.seed_mover.specs.declared.errors.SiteError.{SiteError}
use Rattle.seed_mover.specs.DropParts.{ReadiesDrop}
use Rattle.seed_mover.specs.Dropping.{drop_plan}
use Rattle.seed_mover.specs.Errors.{refuses}
use Rattle.seed_mover.proofs.DropRuns.{drops_done, drops_refused, plan_is, refused_same}
use Rattle.seed_mover.proofs.Noted.{cause_none}
use Rattle.seed_mover.proofs.Same.{stands_same}
use Rattle.seed_mover.proofs.Stepping.{runs_from}
use Rattle.seed_mover.proofs.site.Site.drop_name.Goals as goal

pub drop_held-requires : goal.drop_held-requires
drop_held-requires g c = c.in-Ok.ensures.1

pub returns-in-Ok-clause-drops : goal.returns-in-Ok-clause-drops
returns-in-Ok-clause-drops g c =
    drops_done c.args.self.now c.ready_to_drop.new.self c.args.name.now c.in-Ok.ensures.0 c.drop_held.new.self c.in-Ok.side c.drop_held.result c.in-Ok.ensures.1 c.drop_held.ensures.drops

pub returns-in-Ok-clause-runs : goal.returns-in-Ok-clause-runs
returns-in-Ok-clause-runs g c = λ s honest stands is.
    let rack = g.R.Rack in
    let old = c.args.rack.now in
    let new = c.drop_held.new.rack in
    let v = c.args.self.now in
    let u = c.ready_to_drop.new.self in
    let w = c.drop_held.new.self in
    let name = c.args.name.now in
    let now = stands_same v u (rack.disk old) s c.in-Ok.ensures.0 stands in
    let plan = ap (λ (t : Shapes). drop_plan t name) (sym (shapes_same u s (rack.disk old) now)) ∙ plan_is c.in-Ok.side u name c.in-Ok.ensures.1.holder in
    runs_from rack.disk rack.moment rack.left_since refuses old new v u w s (drop_plan (shapes_of s) name) c.drop_held.result
    (subst (λ (p : List Append). Runs rack.disk rack.moment rack.left_since refuses old new u w s p c.drop_held.result) (sym plan) (c.drop_held.ensures.runs s honest now is))

pub returns-in-Err-clause-cause : goal.returns-in-Err-clause-cause
returns-in-Err-clause-cause g c =
    cause_none (g.R.Rack.faults c.args.rack.now) c.in-Err.error (λ is. subst (λ (error : SiteError). ReadiesDrop c.args.self.now c.ready_to_drop.new.self c.args.name.now (Err error)) is c.in-Err.ensures)

pub returns-in-Err-clause-drops : goal.returns-in-Err-clause-drops
returns-in-Err-clause-drops g c = drops_refused c.args.self.now c.ready_to_drop.new.self c.args.name.now c.in-Err.error c.in-Err.ensures

pub returns-in-Err-clause-runs : goal.returns-in-Err-clause-runs
returns-in-Err-clause-runs g c = λ s honest stands is.
    let rack = g.R.Rack in
    let old = c.args.rack.now in
    let v = c.args.self.now in
    let u = c.ready_to_drop.new.self in
    let now = stands_same v u (rack.disk old) s (refused_same v u c.args.name.now c.in-Err.error c.in-Err.ensures) stands in
    runs_nothing rack.disk rack.moment rack.left_since refuses old old v u s (drop_plan (shapes_of s) c.args.name.now) c.in-Err.error
    (run_begins rack.disk rack.moment rack.left_since (IsFrontOf []) s old u (front_none []) (λ y left. g.met.R.Rack.only_now _ y honest left) now) (λ device. refl)
