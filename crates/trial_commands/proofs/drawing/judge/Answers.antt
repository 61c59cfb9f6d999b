use Rattle.std.proofs.Common.{ap, subst, inl, inr}
use Rattle.std.specs.Prelude.{Err}
use Rattle.seed_model.specs.Tables.{TableValue}
use Rattle.cert_check.specs.declared.checking.CheckError.{CheckError}
use Rattle.cert_check.specs.Checking.{IsChecked}
use Rattle.command_endings.specs.declared.limits.TheConstants.{MOST_CERTIFICATE_BYTES}
use Rattle.command_texts.proofs.HaltLemmas.{through_halt}
use Rattle.trial_commands.proofs.GenLemmas.{heard_judged, lacks_valid, long_valid, ok_two, told_passed}
use Rattle.trial_commands.proofs.drawing.judge.Goals as goal

pub returns-in-Ok-clause-told : goal.returns-in-Ok-clause-told
returns-in-Ok-clause-told g c = λ tells valid.
    let is = subst (λ (table : TableValue). IsChecked table MOST_CERTIFICATE_BYTES valid.bytes c.in-Ok.checked) c.requires.table (c.in-Ok.ensures.judged tells valid.bytes valid.held) in
    through_halt _ _ c.report_on.result c.or_halt.result c.or_halt.ensures.ok (ok_two _ _ c.report_on.result c.report_on.ensures.status c.report_on.ensures.text)
    (λ report reports. told_passed c.certificate_laws.ensures.failed _ _ _ _ c.in-Ok.checked _ _ valid is reports.0 reports.1)

pub returns-in-Ok-clause-heard : goal.returns-in-Ok-clause-heard
returns-in-Ok-clause-heard g c =
    through_halt _ _ c.report_on.result c.or_halt.result c.or_halt.ensures.ok (ok_two _ _ c.report_on.result c.report_on.ensures.status c.report_on.ensures.text)
    (λ report reports. heard_judged _ _ _ c.in-Ok.checked.verdict _ _ reports.0 reports.1)

pub returns-in-Err-NotThere-clause-told : goal.returns-in-Err-NotThere-clause-told
returns-in-Err-NotThere-clause-told g c = λ tells valid.
    absurd (lacks_valid _ _ valid (c.in-Err-NotThere.ensures.lacks tells (ap (λ (e : CheckError). Err e) c.in-Err-NotThere.field-0-is)))

pub returns-in-Err-NotThere-clause-heard : goal.returns-in-Err-NotThere-clause-heard
returns-in-Err-NotThere-clause-heard g c =
    through_halt _ _ c.refused.result c.or_halt-in-Err-NotThere.result c.or_halt-in-Err-NotThere.ensures.ok c.refused.ensures (λ report refuses. inr (inr (inl refuses)))

pub returns-in-Err-TooLong-clause-told : goal.returns-in-Err-TooLong-clause-told
returns-in-Err-TooLong-clause-told g c = λ tells valid.
    let gave = c.in-Err-TooLong.ensures.long (ap (λ (e : CheckError). Err e) c.in-Err-TooLong.field-0-is) in
    absurd (long_valid _ _ valid gave.bytes (gave.told tells) gave.more)

pub returns-in-Err-TooLong-clause-heard : goal.returns-in-Err-TooLong-clause-heard
returns-in-Err-TooLong-clause-heard g c =
    through_halt _ _ c.refused-in-Err-TooLong.result c.or_halt-in-Err-TooLong.result c.or_halt-in-Err-TooLong.ensures.ok c.refused-in-Err-TooLong.ensures (λ report refuses. inr (inr (inr refuses)))
