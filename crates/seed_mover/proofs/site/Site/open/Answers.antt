use Rattle.seed_mover.specs.declared.errors.SiteError.TheVariants.{RackFault}
use Rattle.seed_mover.proofs.Judging.{answers_judged, answers_parts, judged_cause, site_not_opened, site_opened}
use Rattle.seed_mover.proofs.Noted.{cause_same, cause_then}
use Rattle.seed_mover.proofs.site.Site.open.Goals as goal

pub judged-requires-clause-a : goal.judged-requires-clause-a
judged-requires-clause-a g c = c.in-Ok.ensures.answers.volumes.a.fresh

pub judged-requires-clause-b : goal.judged-requires-clause-b
judged-requires-clause-b g c = c.in-Ok.ensures.answers.volumes.b.fresh

pub judged-requires-clause-journal : goal.judged-requires-clause-journal
judged-requires-clause-journal g c = c.in-Ok.ensures.answers.journal.fresh

pub returns-in-Ok-clause-cause : goal.returns-in-Ok-clause-cause
returns-in-Ok-clause-cause g c =
    let faults = g.R.Rack.faults in
    cause_then RackFault (faults c.args.rack.now) (faults c.open_parts.new.rack) (faults c.open_parts.new.rack) c.in-Ok.parts c.judged.result c.in-Ok.ensures.cause
    (judged_cause (faults c.open_parts.new.rack) c.in-Ok.parts c.judged.result c.judged.ensures)

pub returns-in-Ok-clause-answers : goal.returns-in-Ok-clause-answers
returns-in-Ok-clause-answers g c = answers_judged c.args.limit c.in-Ok.parts c.judged.result c.in-Ok.ensures.answers c.judged.ensures

pub returns-in-Ok-clause-opened : goal.returns-in-Ok-clause-opened
returns-in-Ok-clause-opened g c = λ honest.
    let rack = g.R.Rack in
    let old = c.args.rack.now in
    let new = c.open_parts.new.rack in
    site_opened rack.moment rack.left_since old new (rack.disk old) (rack.disk new) (λ device. g.met.R.Rack.reads_alike _ device honest) c.in-Ok.parts c.judged.result (c.in-Ok.ensures.opened honest) c.judged.ensures

pub returns-in-Err-clause-cause : goal.returns-in-Err-clause-cause
returns-in-Err-clause-cause g c = cause_same (g.R.Rack.faults c.args.rack.now) (g.R.Rack.faults c.open_parts.new.rack) c.in-Err.error c.in-Err.ensures.cause

pub returns-in-Err-clause-answers : goal.returns-in-Err-clause-answers
returns-in-Err-clause-answers g c = answers_parts c.args.limit c.in-Err.error c.in-Err.ensures.answers

pub returns-in-Err-clause-opened : goal.returns-in-Err-clause-opened
returns-in-Err-clause-opened g c = λ honest.
    let rack = g.R.Rack in
    let old = c.args.rack.now in
    let new = c.open_parts.new.rack in
    site_not_opened rack.moment rack.left_since old new (rack.disk old) (rack.disk new) (λ device. g.met.R.Rack.reads_alike _ device honest) c.in-Err.error (c.in-Err.ensures.opened honest)
