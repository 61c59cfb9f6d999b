use Rattle.std.proofs.Common.{List, [], ◌∷◌, ◌∙◌, subst, arith}
use Rattle.std.specs.Prelude.{Err}
use Rattle.site_forms.specs.JournalRecords.JournalRecord.{BeginRecord}
use Rattle.site_core.specs.Events.{Append}
use Rattle.site_core.specs.Events.Append.{ToJournal}
use Rattle.site_core.specs.Plans.{after_plan}
use Rattle.site_runs.specs.Runs.{RunsFront}
use Rattle.seed_mover.specs.declared.errors.SiteError.TheVariants.{RackFault}
use Rattle.seed_mover.specs.BeginParts.{RunsPlan, all_unused}
use Rattle.seed_mover.specs.Errors.{refuses}
use Rattle.seed_mover.proofs.BeginRuns.{begin_whole, may_begin, may_begin_of, now_idle}
use Rattle.seed_mover.proofs.Chained.{one_plan, plan_stopped, plan_then}
use Rattle.seed_mover.proofs.LawfulNames.{names_listed}
use Rattle.seed_mover.proofs.Noted.{cause_then}
use Rattle.seed_mover.proofs.Refusals.{decides}
use Rattle.seed_mover.proofs.Stepping.{front_one, front_stopped, front_then, mid_folded, mid_stands}
use Rattle.seed_mover.proofs.site.Site.begin_with.Goals as goal

pub drop_all_unused-requires-clause-fresh : goal.drop_all_unused-requires-clause-fresh
drop_all_unused-requires-clause-fresh g c = c.requires.ready.fresh

pub drop_all_unused-requires-clause-idle : goal.drop_all_unused-requires-clause-idle
drop_all_unused-requires-clause-idle g c = c.requires.ready.idle

pub drop_all_unused-requires-clause-room_a : goal.drop_all_unused-requires-clause-room_a
drop_all_unused-requires-clause-room_a g c = c.requires.room.a

pub drop_all_unused-requires-clause-room_b : goal.drop_all_unused-requires-clause-room_b
drop_all_unused-requires-clause-room_b g c = c.requires.room.b

pub mark_begin-requires-clause-fresh : goal.mark_begin-requires-clause-fresh
mark_begin-requires-clause-fresh g c = c.in-Ok.ensures.drops.runs.1.spent ∙ c.requires.ready.fresh

pub mark_begin-requires-clause-idle : goal.mark_begin-requires-clause-idle
mark_begin-requires-clause-idle g c =
    now_idle c.args.self.now c.drop_all_unused.new.self c.args.names c.requires.ready c.in-Ok.ensures.drops.runs.1 (names_listed c.args.names c.len-count.ensures.names c.requires.distinct)

pub mark_begin-requires-clause-may : goal.mark_begin-requires-clause-may
mark_begin-requires-clause-may g c =
    may_begin c.args.self.now c.drop_all_unused.new.self c.args.names c.requires.ready c.in-Ok.ensures.drops.runs.1 (names_listed c.args.names c.len-count.ensures.names c.requires.distinct)

pub returns-in-Ok-clause-cause : goal.returns-in-Ok-clause-cause
returns-in-Ok-clause-cause g c =
    let faults = g.R.Rack.faults in
    cause_then RackFault (faults c.args.rack.now) (faults c.drop_all_unused.new.rack) (faults c.mark_begin.new.rack) tt c.mark_begin.result c.in-Ok.ensures.cause c.mark_begin.ensures.cause

pub returns-in-Ok-clause-begins : goal.returns-in-Ok-clause-begins
returns-in-Ok-clause-begins g c =
    let v = c.args.self.now in
    let u = c.drop_all_unused.new.self in
    let w = c.mark_begin.new.self in
    let names = c.args.names in
    let x = ToJournal (BeginRecord names) in
    let drops = c.in-Ok.ensures.drops in
    subst (λ (p : List Append). RunsPlan v w p c.mark_begin.result) (begin_whole v names)
    (plan_then v u w (all_unused v) (x ∷ []) c.mark_begin.result drops.runs.0 drops.runs.1 (one_plan u w x c.mark_begin.result (omega (arith, c.requires.room.journal, drops.bodies)) c.mark_begin.ensures.appends))

pub returns-in-Ok-clause-begun : goal.returns-in-Ok-clause-begun
returns-in-Ok-clause-begun g c = λ s honest stands is.
    let rack = g.R.Rack in
    let old = c.args.rack.now in
    let mid = c.drop_all_unused.new.rack in
    let new = c.mark_begin.new.rack in
    let v = c.args.self.now in
    let u = c.drop_all_unused.new.self in
    let w = c.mark_begin.new.self in
    let names = c.args.names in
    let x = ToJournal (BeginRecord names) in
    let first = all_unused v in
    let all = c.in-Ok.ensures.drops.runs.1 in
    let still = c.in-Ok.ensures.honest ∙ honest in
    let lawful = names_listed names c.len-count.ensures.names c.requires.distinct in
    let one = c.in-Ok.ensures.dropped s honest stands is in
    let now = mid_stands rack.disk rack.moment rack.left_since refuses old mid new v u w s first (x ∷ []) tt one in
    let site = mid_folded rack.disk rack.moment rack.left_since refuses old mid new v u w s first (x ∷ []) tt one is in
    let may = may_begin_of v u names c.requires.ready all lawful (rack.disk mid) (after_plan s first) now in
    subst (λ (p : List Append). RunsFront rack.disk rack.moment rack.left_since refuses old new v w s p c.mark_begin.result) (begin_whole v names)
    (front_then rack.disk rack.moment rack.left_since refuses old mid new v u w s first (x ∷ []) tt one c.mark_begin.result
    (front_one rack.disk rack.moment rack.left_since refuses mid new u w (after_plan s first) x site (λ y left. g.met.R.Rack.only_now _ y still left) now may decides c.mark_begin.result (c.mark_begin.ensures.adds still)))

pub returns-in-Err-clause-begins : goal.returns-in-Err-clause-begins
returns-in-Err-clause-begins g c =
    let v = c.args.self.now in
    let u = c.drop_all_unused.new.self in
    let x = ToJournal (BeginRecord c.args.names) in
    subst (λ (p : List Append). RunsPlan v u p (Err c.in-Err.error)) (begin_whole v c.args.names) (plan_stopped v u (all_unused v) (x ∷ []) c.in-Err.error c.in-Err.ensures.drops.runs)

pub returns-in-Err-clause-begun : goal.returns-in-Err-clause-begun
returns-in-Err-clause-begun g c = λ s honest stands is.
    let rack = g.R.Rack in
    let old = c.args.rack.now in
    let new = c.drop_all_unused.new.rack in
    let v = c.args.self.now in
    let u = c.drop_all_unused.new.self in
    let x = ToJournal (BeginRecord c.args.names) in
    subst (λ (p : List Append). RunsFront rack.disk rack.moment rack.left_since refuses old new v u {T = Unit {0}} s p (Err c.in-Err.error)) (begin_whole v c.args.names)
    (front_stopped rack.disk rack.moment rack.left_since refuses old new v u s (all_unused v) (x ∷ []) c.in-Err.error (c.in-Err.ensures.dropped s honest stands is))
