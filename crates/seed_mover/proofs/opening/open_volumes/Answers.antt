use Rattle.std.proofs.Common.{sym, ◌∙◌, subst}
use Rattle.std.specs.Prelude.{Err}
use Rattle.fault_count.specs.Counts.{HandsOn}
use Rattle.chunk_volume.specs.declared.errors.VolError.TheVariants.{RackFault as VolumeFault}
use Rattle.seed_mover.specs.declared.errors.SiteError.{SiteError}
use Rattle.seed_mover.specs.declared.errors.SiteError.TheVariants.{RackFault}
use Rattle.seed_mover.specs.Parts.{AnswersVolumes, AreNewVolumes, OpensVolumes}
use Rattle.seed_mover.proofs.Noted.{cause_ok, cause_then, volume_told}
use Rattle.seed_mover.proofs.Opened.{answers_a, answers_b, both_opened, first_refused, new_log, second_refused}
use Rattle.seed_mover.proofs.opening.open_volumes.Goals as goal

pub returns-in-Err-clause-cause : goal.returns-in-Err-clause-cause
returns-in-Err-clause-cause g c =
    let before = g.R.Rack.faults c.args.rack.now in
    let now = g.R.Rack.faults c.open.new.rack in
    subst (λ (error : SiteError). HandsOn RackFault before now (Err error)) (sym c.from.ensures) (volume_told before now c.in-Err.error c.in-Err.ensures.cause)

pub returns-in-Err-clause-answers : goal.returns-in-Err-clause-answers
returns-in-Err-clause-answers g c =
    let limit = c.args.limit in
    subst (λ (error : SiteError). AnswersVolumes limit (Err error)) (sym c.from.ensures) (answers_a (AreNewVolumes limit) limit c.in-Err.error c.in-Err.ensures.answers)

pub returns-in-Err-clause-opened : goal.returns-in-Err-clause-opened
returns-in-Err-clause-opened g c = λ honest.
    let rack = g.R.Rack in
    let old = c.args.rack.now in
    let new = c.open.new.rack in
    subst (λ (error : SiteError). OpensVolumes rack.moment rack.left_since old new (rack.disk old) (rack.disk new) (Err error)) (sym c.from.ensures)
    (first_refused rack.moment rack.left_since old new new (rack.disk old) (rack.disk new) (rack.disk new) c.in-Err.error (c.in-Err.ensures.opened honest))

pub returns-in-Ok-open-clause-cause : goal.returns-in-Ok-open-clause-cause
returns-in-Ok-open-clause-cause g c =
    let faults = g.R.Rack.faults in
    cause_ok c.in-Ok-open.b _ VolumeFault (faults c.args.rack.now) (faults c.open-2.new.rack)
    (cause_then VolumeFault (faults c.args.rack.now) (faults c.open.new.rack) (faults c.open-2.new.rack) c.in-Ok.a _ c.in-Ok.ensures.cause c.in-Ok-open.ensures.cause)

pub returns-in-Ok-open-clause-answers : goal.returns-in-Ok-open-clause-answers
returns-in-Ok-open-clause-answers g c = record { a = new_log 0 c.args.limit c.in-Ok.a c.in-Ok.ensures.answers; b = new_log 1 c.args.limit c.in-Ok-open.b c.in-Ok-open.ensures.answers }

pub returns-in-Ok-open-clause-opened : goal.returns-in-Ok-open-clause-opened
returns-in-Ok-open-clause-opened g c = λ honest.
    let rack = g.R.Rack in
    let old = c.args.rack.now in
    let mid = c.open.new.rack in
    let new = c.open-2.new.rack in
    let still = c.in-Ok.ensures.honest ∙ honest in
    both_opened rack.moment rack.left_since old mid new (rack.disk old) (rack.disk mid) (rack.disk new) c.in-Ok.a (λ t x le crash. g.met.R.Rack.counts_now _ t x still le crash) (c.in-Ok.ensures.opened honest) c.in-Ok-open.b
    (c.in-Ok-open.ensures.opened still)

pub returns-in-Err-open-clause-cause : goal.returns-in-Err-open-clause-cause
returns-in-Err-open-clause-cause g c =
    let faults = g.R.Rack.faults in
    let before = faults c.args.rack.now in
    let now = faults c.open-2.new.rack in
    subst (λ (error : SiteError). HandsOn RackFault before now (Err error)) (sym c.from-in-Err-open.ensures)
    (volume_told before now c.in-Err-open.error (cause_then VolumeFault before (faults c.open.new.rack) now c.in-Ok.a (Err c.in-Err-open.error) c.in-Ok.ensures.cause c.in-Err-open.ensures.cause))

pub returns-in-Err-open-clause-answers : goal.returns-in-Err-open-clause-answers
returns-in-Err-open-clause-answers g c =
    let limit = c.args.limit in
    subst (λ (error : SiteError). AnswersVolumes limit (Err error)) (sym c.from-in-Err-open.ensures) (answers_b (AreNewVolumes limit) limit c.in-Err-open.error c.in-Err-open.ensures.answers)

pub returns-in-Err-open-clause-opened : goal.returns-in-Err-open-clause-opened
returns-in-Err-open-clause-opened g c = λ honest.
    let rack = g.R.Rack in
    let old = c.args.rack.now in
    let mid = c.open.new.rack in
    let new = c.open-2.new.rack in
    let still = c.in-Ok.ensures.honest ∙ honest in
    subst (λ (error : SiteError). OpensVolumes rack.moment rack.left_since old new (rack.disk old) (rack.disk new) (Err error)) (sym c.from-in-Err-open.ensures)
    (second_refused rack.moment rack.left_since old mid new (rack.disk old) (rack.disk mid) (rack.disk new) c.in-Ok.a (λ t x le crash. g.met.R.Rack.counts_now _ t x still le crash) (c.in-Ok.ensures.opened honest) c.in-Err-open.error
    (c.in-Err-open.ensures.opened still))
