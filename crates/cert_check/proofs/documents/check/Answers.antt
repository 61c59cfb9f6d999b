use Rattle.std.proofs.Common.{◌≡◌, ℕ, List, subst, ◌∙◌}
use Rattle.bound_cert.specs.Documents.{document_text}
use Rattle.cert_check.specs.Checking.{IsVerdict}
use Rattle.cert_check.proofs.Verdicts.{ok_still, verdict_valid, verdict_sound}
use Rattle.cert_check.proofs.documents.check.Goals as goal

pub returns-clause-valid : goal.returns-clause-valid
returns-clause-valid c =
    let table = c.args.table.now in
    let document = c.args.document.now in
    let laws = c.laws_of.ensures in
    let text : c.deref.result.now ≡ document_text document.heading document.nodes = c.deref.ensures.value ∙ c.in_ok-text.ensures in
    ok_still c.check_lines.result (λ v is. verdict_valid table document.heading document.nodes v laws.one laws.failed document.lawful (subst (λ (t : List ℕ). IsVerdict table t v) text is)) c.check_lines.ensures

pub returns-clause-sound : goal.returns-clause-sound
returns-clause-sound c =
    let table = c.args.table.now in
    let document = c.args.document.now in
    let laws = c.laws_of.ensures in
    let text : c.deref.result.now ≡ document_text document.heading document.nodes = c.deref.ensures.value ∙ c.in_ok-text.ensures in
    ok_still c.check_lines.result (λ v is. verdict_sound table document.heading document.nodes v laws.one laws.failed laws.sound laws.table document.lawful (subst (λ (t : List ℕ). IsVerdict table t v) text is)) c.check_lines.ensures
