-- The judgements and the valid documents.
use Rattle.std.proofs.Common.{◌≡◌, ℕ, ◌+◌, List, [], ◌∷◌, ◌++◌, length, sym, ◌∙◌, ap, subst, arith, append_assoc, inl, inr}
use Rattle.std.proofs.lemmas.List.{length-append}
use Rattle.seed_model.specs.Tables.{TableValue}
use Rattle.bound_cert.specs.declared.place.Place.{Place}
use Rattle.bound_cert.specs.declared.place.Place.TheVariants.{AtTitle, Past}
use Rattle.bound_cert.specs.Lines.{Entry, line_text}
use Rattle.bound_cert.specs.Grammar.{LeadsOn, after, text_of}
use Rattle.bound_cert.specs.Documents.{document_entries}
use Rattle.bound_cert.specs.Valid.{IsValidText}
use Rattle.bound_cert.specs.Judgements.{Told, Tells, Keeps, PassesAll, FailsByForm, FailsByRule, told_by, nothing_told}
use Rattle.bound_cert.specs.Laws.{ValidPasses, FailureIsNotValid}
use Rattle.bound_cert.proofs.LineTexts.{line_some}
use Rattle.bound_cert.proofs.FirstLines.{one_first}
use Rattle.bound_cert.proofs.Placing.{some_same}
use Rattle.bound_cert.proofs.OneReading.{one_front, no_front, not_bad, some_at, past_bad}
use Rattle.bound_cert.proofs.Judging.{valid_passes}
use Rattle.bound_cert.proofs.Telling.{led, tells_lead, all_told}

pub valid_text_passes : (table : TableValue) (text : List ℕ) → IsValidText table text → PassesAll table text
valid_text_passes table text v =
    let p = valid_passes table v.heading v.nodes v.document v.valid in
    record { lines = document_entries v.heading v.nodes; end = p.end; tells = p.tells; past = p.past; text_is = v.text_is }

pub passed_is_valid : (table : TableValue) (text : List ℕ) → PassesAll table text → IsValidText table text
passed_is_valid table text p =
    let d = all_told table p.lines p.end p.tells p.past in
    record {
      heading = d.heading;
      nodes = d.nodes;
      document = subst (λ (es : List Entry). LeadsOn AtTitle es) d.is (tells_lead table nothing_told p.end p.lines p.tells p.past);
      text_is = p.text_is ∙ ap text_of d.is;
      valid = d.valid;
    }

pub valid_passes_all : ValidPasses
valid_passes_all table text = (passed_is_valid table text, valid_text_passes table text)

-- what a text that was told in part has left
record Left (table : TableValue) (told end : Told) (rest : List ℕ) : Type 0 where
  lines : List Entry
  text : rest ≡ text_of lines
  tells : Tells table told lines end

-- one reading of the front
left_of : (table : TableValue) (start told end : Told) (front es : List Entry) (rest : List ℕ) → Tells table start front told → Tells table start es end → end.place ≡ Past → text_of front ++ rest ≡ text_of es → Left table told end rest
left_of table start told end [] es rest f t past is = record { lines = es; text = is; tells = subst (λ (s : Told). Tells table s es end) f t }
left_of table start told end (d ∷ front) [] rest f t past is = absurd (no_front d front rest is)
left_of table start told end (d ∷ front) (e ∷ es) rest f t past is =
    let lf = led table start d front told f in
    let lt = led table start e es end t in
    let one = one_front d e front es rest f.0 t.0 is in
    let same : d ≡ e = one.0 in
    let place : lf.place ≡ lt.place = some_same (sym lf.placed ∙ ap (after start.place) same ∙ lt.placed) in
    let told_same : told_by table.files start lt.place e ≡ told_by table.files start lf.place d = ap (λ (p : Place). told_by table.files start p e) (sym place) ∙ ap (told_by table.files start lf.place) (sym same) in
    left_of table (told_by table.files start lf.place d) told end front es rest lf.tells (subst (λ (s : Told). Tells table s es end) told_same lt.tells) past one.1

-- so no judgement fails
none_by_form : (table : TableValue) (told end : Told) (number line rule : ℕ) (rest : List ℕ) (es : List Entry) → rest ≡ text_of es → Tells table told es end → end.place ≡ Past → FailsByForm told number rest line rule → ⊥
none_by_form table told end number line rule rest [] is t past f = past_bad told.place rest (ap (λ (s : Told). s.place) t ∙ past) is f.0
none_by_form table told end number line rule rest (e ∷ es) is t past f =
    let l = led table told e es end t in
    not_bad told.place rest (text_of es) e f.0 t.0 (some_at (after told.place e) l.place l.placed) (is ∙ append_assoc (line_text e) (10 ∷ []) (text_of es))

none_by_rule : (table : TableValue) (told end : Told) (number line rule : ℕ) (rest : List ℕ) (es : List Entry) → rest ≡ text_of es → Tells table told es end → FailsByRule table told number rest line rule → ⊥
none_by_rule table told end number line rule rest [] is t f =
    let a = line_some f.entry in omega (arith, a, ap length (sym is ∙ f.is), length-append (line_text f.entry) (10 ∷ f.more))
none_by_rule table told end number line rule rest (e ∷ es) is t f =
    let same : f.entry ≡ e = one_first rest f.entry e f.more (text_of es) f.lawful t.0 f.is (is ∙ append_assoc (line_text e) (10 ∷ []) (text_of es)) in
    f.first.breaks (subst (λ (x : Entry). Keeps table told x f.broken) (sym same) (t.1 f.broken))

pub failure_is_not_valid : FailureIsNotValid
failure_is_not_valid table text line rule f v =
    let p = valid_text_passes table text v in
    let left = left_of table nothing_told f.told p.end f.front p.lines f.rest f.tells p.tells p.past (sym f.split ∙ p.text_is) in
    elim f.fails [
      | inl form ↦ none_by_form table f.told p.end (length f.front + 1) line rule f.rest left.lines left.text left.tells p.past form
      | inr broken ↦ none_by_rule table f.told p.end (length f.front + 1) line rule f.rest left.lines left.text left.tells broken
    ]
