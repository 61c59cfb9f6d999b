-- Verdicts on the texts of documents.
use Rattle.std.proofs.Common.{◌≡◌, ℕ, List, Result, Ok, Err, refl, sym, subst}
use Rattle.std.specs.Prelude.{◌↔◌, IfOk}
use Rattle.std.proofs.Math.Logic.{∥∥₁_elim}
use denote.Struct.Props.{props}
use Rattle.seed_model.specs.Tables.{TableValue, IsTable}
use Rattle.bound_cert.specs.declared.heading.Heading.{Heading}
use Rattle.bound_cert.specs.declared.node_line.NodeLine.{NodeLine}
use Rattle.bound_cert.specs.Documents.{IsDocument, document_text}
use Rattle.bound_cert.specs.Laws.{FailureIsNotValid, OneDocument, ValidIsSo, Says, plan_named}
use Rattle.bound_cert.specs.Sets.{root_of}
use Rattle.bound_cert.specs.Valid.{IsValid, IsValidText}
use Rattle.cert_check.specs.declared.judged.Verdict.{Verdict}
use Rattle.cert_check.specs.declared.judged.Verdict.TheVariants.{Yes, No}
use Rattle.cert_check.specs.Checking.{IsVerdict}

pub ok_still : {X E : Type 0} {P Q : X → Type 0} (r : Result X E) → ((x : X) → P x → Q x) → IfOk r P → IfOk r Q
ok_still (Ok x) f h = f x h
ok_still (Err e) f h = tt

heading_prop : (h k : Heading) → IsProp (h ≡ k)
heading_prop h k = hlevel props

nodes_prop : (ns ms : List NodeLine) → IsProp (ns ≡ ms)
nodes_prop ns ms = hlevel props

none_prop : IsProp ⊥
none_prop = hlevel props

-- a document whose text is valid is valid
valid_named : (table : TableValue) (heading : Heading) (nodes : List NodeLine) → OneDocument → ∥ IsDocument heading nodes ∥₁ → IsValidText table (document_text heading nodes) → IsValid table heading nodes
valid_named table heading nodes law lawful v =
    let same : heading ≡ v.heading = ∥∥₁_elim lawful (heading_prop heading v.heading) (λ d. (law heading v.heading nodes v.nodes d v.document v.text_is).0) in
    let alike : nodes ≡ v.nodes = ∥∥₁_elim lawful (nodes_prop nodes v.nodes) (λ d. (law heading v.heading nodes v.nodes d v.document v.text_is).1) in
    subst (λ (h : Heading). IsValid table h nodes) (sym same) (subst (λ (ns : List NodeLine). IsValid table v.heading ns) (sym alike) v.valid)

not_failed : (table : TableValue) (heading : Heading) (nodes : List NodeLine) (line rule : ℕ) → FailureIsNotValid → ∥ IsDocument heading nodes ∥₁ → IsVerdict table (document_text heading nodes) (No line rule) → IsValid table heading nodes → ⊥
not_failed table heading nodes line rule law lawful fails valid =
    ∥∥₁_elim lawful none_prop (λ d. law table (document_text heading nodes) line rule fails (record { heading = heading; nodes = nodes; document = d; text_is = refl; valid = valid }))

-- a verdict on a document's text is one on the document
pub verdict_valid : (table : TableValue) (heading : Heading) (nodes : List NodeLine) (verdict : Verdict) → OneDocument → FailureIsNotValid → ∥ IsDocument heading nodes ∥₁ → IsVerdict table (document_text heading nodes) verdict
    → (verdict ≡ Yes) ↔ IsValid table heading nodes
verdict_valid table heading nodes Yes one failed lawful is = (λ e. valid_named table heading nodes one lawful is, λ v. refl)
verdict_valid table heading nodes (No line rule) one failed lawful is = (λ e. absurd cc, λ v. absurd (not_failed table heading nodes line rule failed lawful is v))

pub verdict_sound : (table : TableValue) (heading : Heading) (nodes : List NodeLine) (verdict : Verdict) → OneDocument → FailureIsNotValid → ValidIsSo → IsTable table → ∥ IsDocument heading nodes ∥₁ → IsVerdict table (document_text heading nodes) verdict
    → verdict ≡ Yes → Says table heading.range (root_of table.files heading.pins) heading.answer (plan_named table.files heading.plan) heading.bound
verdict_sound table heading nodes verdict one failed sound is_table lawful is e = sound table heading nodes is_table ((verdict_valid table heading nodes verdict one failed lawful is).0 e)
