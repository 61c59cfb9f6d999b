use Rattle.std.proofs.Common.{◌∙◌, ap, subst, inl, inr}
use Rattle.std.specs.Prelude.{Err}
use Rattle.std.proofs.lemmas.Result.{IfOk-weaker}
use Rattle.seed_model.specs.Tables.{TableValue}
use Rattle.bound_cert.specs.Within.{RunsOn}
use Rattle.cert_check.specs.declared.checking.CheckError.{CheckError}
use Rattle.cert_check.specs.Checking.{IsChecked}
use Rattle.command_endings.specs.declared.limits.TheConstants.{MOST_CERTIFICATE_BYTES}
use Rattle.command_texts.proofs.HaltLemmas.{through_halt}
use Rattle.planning_commands.proofs.CheckLemmas.{ok_both, some_bytes}
use Rattle.order_commands.proofs.ToldLemmas.{heard_checked, left_checked, told_checked}
use Rattle.order_commands.proofs.carry.judge.Goals as goal

pub returns-in-Ok-clause-told : goal.returns-in-Ok-clause-told
returns-in-Ok-clause-told g c = λ tells.
    let read = c.in-Ok.ensures in
    let held = some_bytes _ (read.there tells) in
    let is = subst (λ (table : TableValue). IsChecked table MOST_CERTIFICATE_BYTES held.0 c.in-Ok.checked) c.requires.table (read.judged tells held.0 held.1) in
    ok_both c.carry_checked.result (λ told. c.carry_checked.ensures.refused) c.carry_checked.ensures.report
    (λ report unchanged reports. told_checked c.merge_laws.ensures.sums _ _ _ _ _ held.0 _ c.in-Ok.checked _ _ held.1 is (rw read.map at (unchanged tells)) (rw (read.tells ∙ tells, read.map) at reports))

pub returns-in-Ok-clause-heard : goal.returns-in-Ok-clause-heard
returns-in-Ok-clause-heard g c =
    let read = c.in-Ok.ensures in
    IfOk-weaker c.carry_checked.result _ _ (λ report reports. heard_checked _ _ _ _ _ c.in-Ok.checked _ _ _ (rw (read.tells, read.map) at reports)) c.carry_checked.ensures.report

pub returns-in-Ok-clause-left : goal.returns-in-Ok-clause-left
returns-in-Ok-clause-left g c = λ tells.
    let read = c.in-Ok.ensures in
    let held = some_bytes _ (read.there tells) in
    let is = subst (λ (table : TableValue). IsChecked table MOST_CERTIFICATE_BYTES held.0 c.in-Ok.checked) c.requires.table (read.judged tells held.0 held.1) in
    left_checked _ _ _ held.0 _ c.in-Ok.checked _ _ held.1 is (rw read.map at (c.carry_checked.ensures.left (read.tells ∙ tells)))

pub returns-in-Err-NotThere-clause-told : goal.returns-in-Err-NotThere-clause-told
returns-in-Err-NotThere-clause-told g c = λ tells.
    let is = ap (λ (e : CheckError). Err e) c.in-Err-NotThere.field-0-is in
    through_halt _ _ c.refused.result c.or_halt.result c.or_halt.ensures.ok c.refused.ensures
    (λ report refuses. inl (record { lacks = c.in-Err-NotThere.ensures.lacks tells is; refuses = refuses }))

pub returns-in-Err-NotThere-clause-heard : goal.returns-in-Err-NotThere-clause-heard
returns-in-Err-NotThere-clause-heard g c = through_halt _ _ c.refused.result c.or_halt.result c.or_halt.ensures.ok c.refused.ensures (λ report refuses. inl refuses)

pub returns-in-Err-TooLong-clause-told : goal.returns-in-Err-TooLong-clause-told
returns-in-Err-TooLong-clause-told g c = λ tells.
    let is = ap (λ (e : CheckError). Err e) c.in-Err-TooLong.field-0-is in
    let gave = c.in-Err-TooLong.ensures.long is in
    let runs = subst (λ (table : TableValue). RunsOn table MOST_CERTIFICATE_BYTES gave.bytes) c.requires.table (c.in-Err-TooLong.ensures.runs_on tells gave.bytes (gave.told tells) is) in
    through_halt _ _ c.refused-in-Err-TooLong.result c.or_halt-in-Err-TooLong.result c.or_halt-in-Err-TooLong.ensures.ok c.refused-in-Err-TooLong.ensures
    (λ report refuses. inr (inl (record { bytes = gave.bytes; held = gave.told tells; runs = runs; refuses = refuses })))

pub returns-in-Err-TooLong-clause-heard : goal.returns-in-Err-TooLong-clause-heard
returns-in-Err-TooLong-clause-heard g c =
    through_halt _ _ c.refused-in-Err-TooLong.result c.or_halt-in-Err-TooLong.result c.or_halt-in-Err-TooLong.ensures.ok c.refused-in-Err-TooLong.ensures (λ report refuses. inr (inl refuses))

pub returns-in-Ok-clause-refused : goal.returns-in-Ok-clause-refused
returns-in-Ok-clause-refused g c = rw c.in-Ok.ensures.map at c.carry_checked.ensures.refused
