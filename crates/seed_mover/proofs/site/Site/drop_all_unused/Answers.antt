use Rattle.std.proofs.Common.{List, ◌∙◌, subst}
use Rattle.std.specs.Prelude.{Err}
use Rattle.site_core.specs.Events.{Append}
use Rattle.site_core.specs.Plans.{after_plan}
use Rattle.site_runs.specs.Runs.{RunsFront}
use Rattle.seed_mover.specs.declared.entries.Side.TheVariants.{A, B}
use Rattle.seed_mover.specs.declared.errors.SiteError.TheVariants.{RackFault}
use Rattle.seed_mover.specs.Errors.{refuses}
use Rattle.seed_mover.specs.Unused.{unused_of}
use Rattle.seed_mover.proofs.BeginRuns.{all_runs, same_b, still_idle}
use Rattle.seed_mover.proofs.Chained.{plan_stopped, unused_runs}
use Rattle.seed_mover.proofs.Noted.{cause_then}
use Rattle.seed_mover.proofs.Stepping.{front_stopped, front_then, mid_folded, mid_stands}
use Rattle.seed_mover.proofs.site.Site.drop_all_unused.Goals as goal

pub drop_unused-requires-in-Ok-clause-fresh : goal.drop_unused-requires-in-Ok-clause-fresh
drop_unused-requires-in-Ok-clause-fresh g c = c.in-Ok.ensures.drops.1.spent ∙ c.requires.fresh

pub drop_unused-requires-in-Ok-clause-idle : goal.drop_unused-requires-in-Ok-clause-idle
drop_unused-requires-in-Ok-clause-idle g c = still_idle c.args.self.now c.drop_unused.new.self c.in-Ok.ensures.drops.1 c.requires.idle

pub returns-in-Ok-clause-cause : goal.returns-in-Ok-clause-cause
returns-in-Ok-clause-cause g c =
    let faults = g.R.Rack.faults in
    cause_then RackFault (faults c.args.rack.now) (faults c.drop_unused.new.rack) (faults c.drop_unused-in-Ok.new.rack) tt c.drop_unused-in-Ok.result c.in-Ok.ensures.cause c.drop_unused-in-Ok.ensures.cause

pub returns-in-Ok-clause-drops : goal.returns-in-Ok-clause-drops
returns-in-Ok-clause-drops g c = all_runs c.args.self.now c.drop_unused.new.self c.drop_unused-in-Ok.new.self c.drop_unused-in-Ok.result c.in-Ok.ensures.drops c.drop_unused-in-Ok.ensures.drops

pub returns-in-Ok-clause-dropped : goal.returns-in-Ok-clause-dropped
returns-in-Ok-clause-dropped g c = λ s honest stands is.
    let rack = g.R.Rack in
    let old = c.args.rack.now in
    let mid = c.drop_unused.new.rack in
    let new = c.drop_unused-in-Ok.new.rack in
    let v = c.args.self.now in
    let u = c.drop_unused.new.self in
    let w = c.drop_unused-in-Ok.new.self in
    let first = unused_of A v in
    let one = c.in-Ok.ensures.dropped s honest stands is in
    let now = mid_stands rack.disk rack.moment rack.left_since refuses old mid new v u w s first (unused_of B v) tt one in
    let site = mid_folded rack.disk rack.moment rack.left_since refuses old mid new v u w s first (unused_of B v) tt one is in
    front_then rack.disk rack.moment rack.left_since refuses old mid new v u w s first (unused_of B v) tt one c.drop_unused-in-Ok.result
    (subst (λ (p : List Append). RunsFront rack.disk rack.moment rack.left_since refuses mid new u w (after_plan s first) p c.drop_unused-in-Ok.result) (same_b v u c.in-Ok.ensures.drops.1)
    (c.drop_unused-in-Ok.ensures.dropped (after_plan s first) (c.in-Ok.ensures.honest ∙ honest) now site))

pub returns-in-Err-clause-drops : goal.returns-in-Err-clause-drops
returns-in-Err-clause-drops g c =
    let v = c.args.self.now in
    record { runs = plan_stopped v c.drop_unused.new.self (unused_of A v) (unused_of B v) c.in-Err.error (unused_runs A v c.drop_unused.new.self (Err c.in-Err.error) c.in-Err.ensures.drops); bodies = tt }

pub returns-in-Err-clause-dropped : goal.returns-in-Err-clause-dropped
returns-in-Err-clause-dropped g c = λ s honest stands is.
    let rack = g.R.Rack in
    let v = c.args.self.now in
    front_stopped rack.disk rack.moment rack.left_since refuses c.args.rack.now c.drop_unused.new.rack v c.drop_unused.new.self s (unused_of A v) (unused_of B v) c.in-Err.error (c.in-Err.ensures.dropped s honest stands is)
