use Rattle.std.proofs.Common.{sym, ◌∙◌, subst}
use Rattle.std.specs.Prelude.{Err}
use Rattle.fault_count.specs.Counts.{HandsOn}
use Rattle.move_journal.specs.declared.errors.JournalError.TheVariants.{RackFault as JournalFault}
use Rattle.seed_mover.specs.declared.errors.SiteError.{SiteError}
use Rattle.seed_mover.specs.declared.errors.SiteError.TheVariants.{RackFault}
use Rattle.seed_mover.specs.Parts.{AnswersParts, AreNewParts, OpensParts}
use Rattle.seed_mover.proofs.Noted.{cause_ok, cause_same, cause_then, journal_told}
use Rattle.seed_mover.proofs.Opened.{all_opened, answers_journal, last_refused, new_journal, parts_answered, volumes_refused}
use Rattle.seed_mover.proofs.opening.open_parts.Goals as goal

pub returns-in-Err-clause-cause : goal.returns-in-Err-clause-cause
returns-in-Err-clause-cause g c = cause_same (g.R.Rack.faults c.args.rack.now) (g.R.Rack.faults c.open_volumes.new.rack) c.in-Err.error c.in-Err.ensures.cause

pub returns-in-Err-clause-answers : goal.returns-in-Err-clause-answers
returns-in-Err-clause-answers g c = parts_answered c.args.limit c.in-Err.error c.in-Err.ensures.answers

pub returns-in-Err-clause-opened : goal.returns-in-Err-clause-opened
returns-in-Err-clause-opened g c = λ honest.
    let rack = g.R.Rack in
    let old = c.args.rack.now in
    let new = c.open_volumes.new.rack in
    volumes_refused rack.moment rack.left_since old new new (rack.disk old) (rack.disk new) (rack.disk new) c.in-Err.error (c.in-Err.ensures.opened honest)

pub returns-in-Ok-open-clause-cause : goal.returns-in-Ok-open-clause-cause
returns-in-Ok-open-clause-cause g c =
    let faults = g.R.Rack.faults in
    cause_then RackFault (faults c.args.rack.now) (faults c.open_volumes.new.rack) (faults c.open.new.rack) c.in-Ok.volumes _ c.in-Ok.ensures.cause
    (cause_ok c.in-Ok-open.journal _ JournalFault (faults c.open_volumes.new.rack) (faults c.open.new.rack) c.in-Ok-open.ensures.cause)

pub returns-in-Ok-open-clause-answers : goal.returns-in-Ok-open-clause-answers
returns-in-Ok-open-clause-answers g c = record { volumes = c.in-Ok.ensures.answers; journal = new_journal c.args.limit c.in-Ok-open.journal c.in-Ok-open.ensures.answers }

pub returns-in-Ok-open-clause-opened : goal.returns-in-Ok-open-clause-opened
returns-in-Ok-open-clause-opened g c = λ honest.
    let rack = g.R.Rack in
    let old = c.args.rack.now in
    let mid = c.open_volumes.new.rack in
    let new = c.open.new.rack in
    let still = c.in-Ok.ensures.honest ∙ honest in
    all_opened rack.moment rack.left_since old mid new (rack.disk old) (rack.disk mid) (rack.disk new) c.in-Ok.volumes (λ t x le crash. g.met.R.Rack.counts_now _ t x still le crash) (c.in-Ok.ensures.opened honest) c.in-Ok-open.journal
    (c.in-Ok-open.ensures.opened still)

pub returns-in-Err-open-clause-cause : goal.returns-in-Err-open-clause-cause
returns-in-Err-open-clause-cause g c =
    let faults = g.R.Rack.faults in
    let before = faults c.args.rack.now in
    let mid = faults c.open_volumes.new.rack in
    let now = faults c.open.new.rack in
    cause_then RackFault before mid now c.in-Ok.volumes (Err c.from.result) c.in-Ok.ensures.cause
    (subst (λ (error : SiteError). HandsOn RackFault mid now (Err error)) (sym c.from.ensures) (journal_told mid now c.in-Err-open.error c.in-Err-open.ensures.cause))

pub returns-in-Err-open-clause-answers : goal.returns-in-Err-open-clause-answers
returns-in-Err-open-clause-answers g c =
    let limit = c.args.limit in
    subst (λ (error : SiteError). AnswersParts limit (Err error)) (sym c.from.ensures) (answers_journal (AreNewParts limit) limit c.in-Err-open.error c.in-Err-open.ensures.answers)

pub returns-in-Err-open-clause-opened : goal.returns-in-Err-open-clause-opened
returns-in-Err-open-clause-opened g c = λ honest.
    let rack = g.R.Rack in
    let old = c.args.rack.now in
    let mid = c.open_volumes.new.rack in
    let new = c.open.new.rack in
    let still = c.in-Ok.ensures.honest ∙ honest in
    subst (λ (error : SiteError). OpensParts rack.moment rack.left_since old new (rack.disk old) (rack.disk new) (Err error)) (sym c.from.ensures)
    (last_refused rack.moment rack.left_since old mid new (rack.disk old) (rack.disk mid) (rack.disk new) c.in-Ok.volumes (λ t x le crash. g.met.R.Rack.counts_now _ t x still le crash) (c.in-Ok.ensures.opened honest) c.in-Err-open.error
    (c.in-Err-open.ensures.opened still))
