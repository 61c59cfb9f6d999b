-- A judge, behind a line more or the end of the text.
use Rattle.std.proofs.Common.{◌≡◌, ◌≢◌, ℕ, ◌+◌, ◌^◌, ◌<◌, ◌++◌, List, [], ◌∷◌, length, Bool, true, false, Option, Some, None, refl, sym, ◌∙◌, ap, subst, arith, length-append}
use Rattle.std.specs.Prelude.{is_none}
use Rattle.std.proofs.lemmas.List.{append-nil, nil_from_length}
use Rattle.seed_model.specs.Tables.{TableValue}
use Rattle.seed_io.specs.Lines.{LineText, listed}
use Rattle.bound_cert.specs.declared.place.Place.{Place}
use Rattle.bound_cert.specs.declared.place.Place.TheVariants.{AtTitle, AtSpan, AtPins, AtAnswer, AtPlan, AtBound, AtNode, AtGive, Past}
use Rattle.bound_cert.specs.Grammar.{nodes_at}
use Rattle.bound_cert.specs.Judgements.{Told, nothing_told}
use Rattle.cert_check.specs.declared.judged.Judged.{Judged}
use Rattle.cert_check.specs.declared.judged.Judged.TheVariants.{More, Failed, Valid}
use Rattle.cert_check.specs.declared.kept.Kept.{Kept}
use Rattle.cert_check.specs.Histories.{IsTold, AllFail}
use Rattle.cert_check.specs.Judging.{JudgeValue, IsGoing, IsJudge, Going, Stands, StandsFor, TakesNext, Says, judged_end}
use Rattle.cert_check.specs.Keeping.{IsKept, IsAt, KeepsTold}
use Rattle.cert_check.proofs.Taking.{missing_line, still_fails}

-- one line more can be counted
pub few_more : (table : TableValue) (lines : ℕ) (kept : Kept) → lines < 2 ^ 62 → IsGoing table lines kept → kept.branchings + 1 < 2 ^ 64
few_more table lines kept few g = let e = g.keeps.branchings in let b = g.branchings in omega (arith, e, b, few)

pub nodes_more : (table : TableValue) (lines : ℕ) (kept : Kept) → lines < 2 ^ 62 → IsGoing table lines kept → nodes_at kept.place + 1 < 2 ^ 64
nodes_more table lines kept few g = let e = ap nodes_at g.keeps.place in let n = g.nodes in omega (arith, e, n, few)

not_more : (place : Place) (number : ℕ) → judged_end place number ≢ More
not_more AtTitle number e = cc
not_more (AtSpan v) number e = cc
not_more AtPins number e = cc
not_more AtAnswer number e = cc
not_more AtPlan number e = cc
not_more AtBound number e = cc
not_more (AtNode n) number e = cc
not_more (AtGive n k l) number e = cc
not_more Past number e = cc

only_past : (place : Place) (number : ℕ) → judged_end place number ≡ Valid → place ≡ Past
only_past AtTitle number e = absurd cc
only_past (AtSpan v) number e = absurd cc
only_past AtPins number e = absurd cc
only_past AtAnswer number e = absurd cc
only_past AtPlan number e = absurd cc
only_past AtBound number e = absurd cc
only_past (AtNode n) number e = absurd cc
only_past (AtGive n k l) number e = absurd cc
only_past Past number e = refl

pub still_judge : (table : TableValue) (lines : ℕ) (old new : Kept) (given : Option LineText) (result : Judged) → IsGoing table lines old → TakesNext table (lines + 1) old new given result → IsJudge table (lines + 1) result new
still_judge table lines old new None result g t = record {
  goes = λ e. absurd (not_more old.place (lines + 1) (sym t.0 ∙ e));
  read = λ e.
      let past : old.place ≡ Past = only_past old.place (lines + 1) (sym t.0 ∙ e) in
      let none : IsAt Past (length old.path.waiting) old.leaf.class old.leaf.gives = subst (λ (p : Place). IsAt p (length old.path.waiting) old.leaf.class old.leaf.gives) past g.kept_fits.at in
      ap (λ (k : Kept). k.path.waiting) t.1 ∙ nil_from_length old.path.waiting none;
}
still_judge table lines old new (Some line) result g t = record {
  goes = λ e.
      let more = t.grows e g.told g.keeps in
      record {
        kept_fits = t.fits e;
        told = more.next;
        keeps = more.keeps;
        nodes = let x = more.nodes in let y = g.nodes in omega (arith, x, y);
        branchings = let x = more.branchings in let y = g.branchings in omega (arith, x, y);
      };
  read = λ e. absurd (t.not_valid e);
}

-- what is said of a line is what a judge stands for
says_stands : (result : Judged) (table : TableValue) (new : Kept) (count : ℕ) (lines : List LineText) → count ≡ length lines → Says result table new lines false → Stands result table new count lines false
says_stands More table new count lines e s = record { unended = refl; told = s.0; is_told = s.1; keeps = s.2; counted = e }
says_stands (Failed line rule) table new count lines e s = s
says_stands Valid table new count lines e s = absurd s

-- at the end of the text
ends_short : (table : TableValue) (kept : Kept) (number : ℕ) (lines : List LineText) (told : Told) → told.place ≢ Past → number ≡ length lines + 1 → IsTold table lines told → AllFail table true lines number 1
ends_short table kept number lines told short e t = subst (λ (n : ℕ). AllFail table true lines n 1) (sym e) (missing_line table lines told short t)

ends_by : (place : Place) (table : TableValue) (kept : Kept) (count number : ℕ) (lines : List LineText) (told : Told) → told.place ≡ place → number ≡ length lines + 1 → IsTold table lines told → KeepsTold table kept told → Stands (judged_end place number) table kept count lines true
ends_by Past table kept count number lines told at e t k = record { whole = refl; told = told; is_told = t; past = at; keeps = k }
ends_by AtTitle table kept count number lines told at e t k = ends_short table kept number lines told (λ p. let x : AtTitle ≡ Past = sym at ∙ p in cc) e t
ends_by (AtSpan v) table kept count number lines told at e t k = ends_short table kept number lines told (λ p. let x : AtSpan v ≡ Past = sym at ∙ p in cc) e t
ends_by AtPins table kept count number lines told at e t k = ends_short table kept number lines told (λ p. let x : AtPins ≡ Past = sym at ∙ p in cc) e t
ends_by AtAnswer table kept count number lines told at e t k = ends_short table kept number lines told (λ p. let x : AtAnswer ≡ Past = sym at ∙ p in cc) e t
ends_by AtPlan table kept count number lines told at e t k = ends_short table kept number lines told (λ p. let x : AtPlan ≡ Past = sym at ∙ p in cc) e t
ends_by AtBound table kept count number lines told at e t k = ends_short table kept number lines told (λ p. let x : AtBound ≡ Past = sym at ∙ p in cc) e t
ends_by (AtNode n) table kept count number lines told at e t k = ends_short table kept number lines told (λ p. let x : AtNode n ≡ Past = sym at ∙ p in cc) e t
ends_by (AtGive n g l) table kept count number lines told at e t k = ends_short table kept number lines told (λ p. let x : AtGive n g l ≡ Past = sym at ∙ p in cc) e t

pub taken_next : (table : TableValue) (lines : ℕ) (old new : Kept) (given : Option LineText) (result : Judged) (before : List LineText) → TakesNext table (lines + 1) old new given result → Going table old lines before false
    → Stands result table new (lines + 1) (before ++ listed given) (is_none given)
taken_next table lines old new None result before t g =
    let same : before ≡ before ++ [] = sym (append-nil before) in
    let number : lines + 1 ≡ length before + 1 = ap (λ (n : ℕ). n + 1) g.counted in
    let ends = ends_by old.place table old (lines + 1) (lines + 1) before g.told (sym g.keeps.place) number g.is_told g.keeps in
    let s1 = subst (λ (j : Judged). Stands j table old (lines + 1) before true) (sym t.0) ends in
    let s2 = subst (λ (k : Kept). Stands result table k (lines + 1) before true) (sym t.1) s1 in
    subst (λ (ls : List LineText). Stands result table new (lines + 1) ls true) same s2
taken_next table lines old new (Some line) result before t g =
    let number : lines + 1 ≡ length before + 1 = ap (λ (n : ℕ). n + 1) g.counted in
    let says = t.judged before g.told false number g.is_told g.keeps in
    says_stands result table new (lines + 1) (before ++ line ∷ []) (number ∙ sym (length-append before (line ∷ []))) says

pub takes_on : (judge : JudgeValue) (table : TableValue) (lines : ℕ) (judged : Judged) (old new : Kept) (given : Option LineText) (result : Judged) (before : List LineText) → judge ≡ record { table = table; lines = lines; judged = judged; kept = old } → judged ≡ More
    → TakesNext table (lines + 1) old new given result → StandsFor judge before false → Stands result table new (lines + 1) (before ++ listed given) (is_none given)
takes_on judge table lines judged old new given result before view more t s =
    taken_next table lines old new given result before t
    (subst (λ (j : Judged). Stands j table old lines before false) more (subst (λ (j : JudgeValue). StandsFor j before false) view s))

-- a judge that has come to a verdict stays with it
pub stands_still : (judged : Judged) (table : TableValue) (kept : Kept) (count : ℕ) (before more : List LineText) (ended : Bool) → judged ≢ More → Stands judged table kept count before false → Stands judged table kept count (before ++ more) ended
stands_still More table kept count before more ended over s = absurd (over refl)
stands_still (Failed line rule) table kept count before more ended over s = still_fails table before more ended line rule s
stands_still Valid table kept count before more ended over s = absurd (let x : false ≡ true = s.whole in cc)

-- a judge that has taken no line
pub new_judge : (table : TableValue) (kept : Kept) → IsKept table kept → KeepsTold table kept nothing_told → IsJudge table 0 More kept
new_judge table kept fits keeps = record {
  goes = λ _. record { kept_fits = fits; told = nothing_told; keeps = keeps; nodes = omega arith; branchings = omega arith };
  read = λ e. absurd cc;
}

pub new_stands : (table : TableValue) (kept : Kept) → KeepsTold table kept nothing_told → Stands More table kept 0 [] false
new_stands table kept keeps = record {
  unended = refl;
  told = nothing_told;
  is_told = record { entries = []; tells = refl; lines_are = refl };
  keeps = keeps;
  counted = refl;
}

-- a text that ends too soon
pub ends_bad : (place : Place) (number : ℕ) → place ≢ Past → judged_end place number ≡ Failed number 1
ends_bad AtTitle number ne = refl
ends_bad (AtSpan v) number ne = refl
ends_bad AtPins number ne = refl
ends_bad AtAnswer number ne = refl
ends_bad AtPlan number ne = refl
ends_bad AtBound number ne = refl
ends_bad (AtNode n) number ne = refl
ends_bad (AtGive n g l) number ne = refl
ends_bad Past number ne = absurd (ne refl)
