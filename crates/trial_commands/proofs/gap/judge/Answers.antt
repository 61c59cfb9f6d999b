use Rattle.std.proofs.Common.{ap, subst, inl, inr}
use Rattle.std.specs.Prelude.{Err}
use Rattle.seed_model.specs.Tables.{TableValue}
use Rattle.bound_cert.specs.Within.{RunsOn}
use Rattle.cert_check.specs.declared.checking.CheckError.{CheckError}
use Rattle.cert_check.specs.Checking.{IsChecked, IsSound}
use Rattle.command_endings.specs.declared.limits.TheConstants.{MOST_CERTIFICATE_BYTES}
use Rattle.command_texts.proofs.HaltLemmas.{through_halt}
use Rattle.planning_commands.proofs.CheckLemmas.{some_bytes}
use Rattle.trial_commands.proofs.TrialLemmas.{heard_beside, told_beside, told_long}
use Rattle.trial_commands.proofs.gap.judge.Goals as goal

pub returns-in-Ok-clause-told : goal.returns-in-Ok-clause-told
returns-in-Ok-clause-told g c = λ tells.
    let read = c.in-Ok.ensures in
    let held = some_bytes _ (read.there tells) in
    let is = subst (λ (table : TableValue). IsChecked table MOST_CERTIFICATE_BYTES held.0 c.in-Ok.checked) c.requires.table (read.judged tells held.0 held.1) in
    through_halt _ _ c.report_on.result c.or_halt.result c.or_halt.ensures.ok c.report_on.ensures (λ report reports. told_beside _ _ held.0 _ c.in-Ok.checked _ _ held.1 is reports)

pub returns-in-Ok-clause-heard : goal.returns-in-Ok-clause-heard
returns-in-Ok-clause-heard g c =
    let sound = subst (λ (table : TableValue). IsSound table c.in-Ok.checked) c.requires.table c.in-Ok.ensures.sound in
    through_halt _ _ c.report_on.result c.or_halt.result c.or_halt.ensures.ok c.report_on.ensures (λ report reports. heard_beside c.merge_laws.ensures.sums _ _ c.in-Ok.checked _ _ sound reports)

pub returns-in-Err-NotThere-clause-told : goal.returns-in-Err-NotThere-clause-told
returns-in-Err-NotThere-clause-told g c = λ tells.
    let is = ap (λ (e : CheckError). Err e) c.in-Err-NotThere.field-0-is in
    through_halt _ _ c.refused.result c.or_halt-in-Err-NotThere.result c.or_halt-in-Err-NotThere.ensures.ok c.refused.ensures
    (λ report refuses. inl (record { lacks = c.in-Err-NotThere.ensures.lacks tells is; refuses = refuses }))

pub returns-in-Err-NotThere-clause-heard : goal.returns-in-Err-NotThere-clause-heard
returns-in-Err-NotThere-clause-heard g c =
    through_halt _ _ c.refused.result c.or_halt-in-Err-NotThere.result c.or_halt-in-Err-NotThere.ensures.ok c.refused.ensures (λ report refuses. inl refuses)

pub returns-in-Err-TooLong-clause-told : goal.returns-in-Err-TooLong-clause-told
returns-in-Err-TooLong-clause-told g c = λ tells.
    let is = ap (λ (e : CheckError). Err e) c.in-Err-TooLong.field-0-is in
    let gave = c.in-Err-TooLong.ensures.long is in
    let runs = subst (λ (table : TableValue). RunsOn table MOST_CERTIFICATE_BYTES gave.bytes) c.requires.table (c.in-Err-TooLong.ensures.runs_on tells gave.bytes (gave.told tells) is) in
    through_halt _ _ c.refused-in-Err-TooLong.result c.or_halt-in-Err-TooLong.result c.or_halt-in-Err-TooLong.ensures.ok c.refused-in-Err-TooLong.ensures
    (λ report refuses. told_long _ _ _ _ _ gave.bytes (gave.told tells) runs refuses)

pub returns-in-Err-TooLong-clause-heard : goal.returns-in-Err-TooLong-clause-heard
returns-in-Err-TooLong-clause-heard g c =
    through_halt _ _ c.refused-in-Err-TooLong.result c.or_halt-in-Err-TooLong.result c.or_halt-in-Err-TooLong.ensures.ok c.refused-in-Err-TooLong.ensures (λ report refuses. inr (inl refuses))
