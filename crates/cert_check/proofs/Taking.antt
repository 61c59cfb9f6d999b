-- Lines of a text taken one by one, and the judgements on them.
use Rattle.std.proofs.Common.{◌≡◌, ◌≢◌, ◌⊎◌, ℕ, ◌+◌, ◌++◌, List, [], ◌∷◌, length, Bool, true, false, Option, Some, None, map, refl, sym, ◌∙◌, ap, subst, arith, inl, inr, append_assoc, cond}
use Rattle.std.specs.Prelude.{nat_lt, IsSome, IsSomeAnd}
use Rattle.std.proofs.lemmas.Bool.Decides.{nat_tests}
use Rattle.std.proofs.lemmas.Bool.{cases_Bool, cases_eq, ne_eqb, ltb-true, ltb-false}
use Rattle.std.proofs.lemmas.List.{length-map, append-nil, map-append}
use Rattle.std.proofs.lemmas.List.Elements.{recursion_from_All, All-from_recursion}
use Rattle.seed_model.specs.Tables.{TableValue}
use Rattle.seed_io.specs.Lines.{LineText, Whole, Wide, Unended, lines_of, is_lf, HasNoLf, longest_line}
use Rattle.seed_io.proofs.LineLaws.{whole_first, wide_first, end_first}
use Rattle.bound_cert.specs.declared.place.Place.{Place}
use Rattle.bound_cert.specs.declared.place.Place.TheVariants.{Past}
use Rattle.bound_cert.specs.Grammar.{after, text_of, IsNextBad}
use Rattle.bound_cert.specs.Judgements.{Told, Rule, Keeps, IsFirstBroken, number_of, line_of, nothing_told, told_next, Tells}
use Rattle.bound_cert.specs.Lines.{Entry, line_text, IsLine}
use Rattle.bound_cert.proofs.FirstLines.{next_bad}
use Rattle.bound_cert.proofs.LineTexts.{line_free}
use Rattle.bound_cert.proofs.ShortLines.{lines_are_short}
use Rattle.cert_check.specs.Histories.{whole_line, IsTold, AllFail}

-- a text at its first LF
Cut : List ℕ → Type 0
Cut text = HasNoLf text ⊎ ((line : List ℕ) × (rest : List ℕ) × HasNoLf line × (text ≡ line ++ 10 ∷ rest))

free_more : (b : ℕ) (text : List ℕ) → is_lf b ≡ false → HasNoLf text → HasNoLf (b ∷ text)
free_more b text e h = All-from_recursion (λ byte. is_lf byte ≡ false) (b ∷ text) (e, recursion_from_All (λ byte. is_lf byte ≡ false) text h)

free_none : HasNoLf []
free_none = All-from_recursion (λ byte. is_lf byte ≡ false) [] tt

cut : (text : List ℕ) → Cut text
unfolding Cut
cut [] = inl free_none
cut (b ∷ text) = elim (cases_eq b 10) [
  | inl e ↦ inr ([], text, free_none, ap (λ x. x ∷ text) e)
  | inr ne ↦ elim (cut text) [
    | inl h ↦ inl (free_more b text (ne_eqb b 10 ne) h)
    | inr c ↦ inr (b ∷ c.0, c.1, free_more b c.0 (ne_eqb b 10 ne) c.2, ap (λ t. b ∷ t) c.3)
  ]
]

-- what a text has as its lines, by its first LF
data Seen (text : List ℕ) : Type 0 where
  nothing : text ≡ [] → lines_of text ≡ [] → Seen text
  whole : (line rest : List ℕ) → text ≡ line ++ 10 ∷ rest → lines_of text ≡ Whole line ∷ lines_of rest → Seen text
  wide : lines_of text ≡ Wide ∷ [] → Seen text
  unended : lines_of text ≡ Unended ∷ [] → Seen text

some_length : (b : ℕ) (text : List ℕ) → nat_lt 0 (length (b ∷ text)) ≡ true
some_length b text = grind (arith, nat_tests)

seen_end : (text : List ℕ) → HasNoLf text → Seen text
seen_end [] h = nothing refl (end_first [] h (omega arith))
seen_end (b ∷ text) h = elim (cases_Bool (nat_lt longest_line (length (b ∷ text)))) [
  | inl t ↦ wide (subst (λ (xs : List ℕ). lines_of xs ≡ Wide ∷ []) (append-nil (b ∷ text)) (wide_first (b ∷ text) [] h (ltb-true longest_line (length (b ∷ text)) t)))
  | inr f ↦ unended (end_first (b ∷ text) h (ltb-false longest_line (length (b ∷ text)) f) ∙ ap (λ c. cond c (Unended ∷ []) []) (some_length b text))
]

seen : (text : List ℕ) → Seen text
unfolding Cut
seen text = elim (cut text) [
  | inl h ↦ seen_end text h
  | inr c ↦ elim (cases_Bool (nat_lt longest_line (length c.0))) [
    | inl t ↦ wide (ap lines_of c.3 ∙ wide_first c.0 (10 ∷ c.1) c.2 (ltb-true longest_line (length c.0) t))
    | inr f ↦ whole c.0 c.1 c.3 (ap lines_of c.3 ∙ whole_first c.0 c.1 c.2 (ltb-false longest_line (length c.0) f))
  ]
]

head_of : {X : Type 0} {x y : X} {xs ys : List X} → x ∷ xs ≡ y ∷ ys → x ≡ y
head_of e = cc

tail_of : {X : Type 0} {x y : X} {xs ys : List X} → x ∷ xs ≡ y ∷ ys → xs ≡ ys
tail_of e = cc

-- the first line of a text, where it is whole
pub record FirstWhole (text line : List ℕ) (more : List LineText) : Type 0 where
  pub rest : List ℕ
  pub text_is : text ≡ line ++ 10 ∷ rest
  pub lines_are : lines_of rest ≡ more

pub first_whole : (text line : List ℕ) (more : List LineText) → lines_of text ≡ Whole line ∷ more → FirstWhole text line more
first_whole text line more e = by (seen text)
  where
    by : Seen text → FirstWhole text line more
    by (nothing n l) = let f : [] ≡ Whole line ∷ more = sym l ∙ e in absurd cc
    by (whole w rest t l) =
        let f : Whole w ∷ lines_of rest ≡ Whole line ∷ more = sym l ∙ e in
        let g : w ≡ line = cc in
        record { rest = rest; text_is = t ∙ ap (λ x. x ++ 10 ∷ rest) g; lines_are = tail_of f }
    by (wide l) = let f : Wide ∷ [] ≡ Whole line ∷ more = sym l ∙ e in absurd cc
    by (unended l) = let f : Unended ∷ [] ≡ Whole line ∷ more = sym l ∙ e in absurd cc

pub no_lines : (text : List ℕ) → lines_of text ≡ [] → text ≡ []
no_lines text e = by (seen text)
  where
    by : Seen text → text ≡ []
    by (nothing n l) = n
    by (whole w rest t l) = let f : Whole w ∷ lines_of rest ≡ [] = sym l ∙ e in absurd cc
    by (wide l) = let f : Wide ∷ [] ≡ [] = sym l ∙ e in absurd cc
    by (unended l) = let f : Unended ∷ [] ≡ [] = sym l ∙ e in absurd cc

none_of_none : lines_of [] ≡ []
none_of_none = end_first [] free_none (omega arith)

-- a lawful line comes first among the lines of its text
lawful_first : (e : Entry) (more : List ℕ) → IsLine e → lines_of (line_text e ++ 10 ∷ more) ≡ whole_line e ∷ lines_of more
lawful_first e more l =
    whole_first (line_text e) more (All-from_recursion (λ byte. is_lf byte ≡ false) (line_text e) (line_free e l)) (lines_are_short e l)

-- a text that begins with lawful lines
pub record Behind (entries : List Entry) (text : List ℕ) (more : List LineText) : Type 0 where
  pub rest : List ℕ
  pub text_is : text ≡ text_of entries ++ rest
  pub lines_are : lines_of rest ≡ more

pub behind_lines : (entries : List Entry) (text : List ℕ) (more : List LineText) → lines_of text ≡ map whole_line entries ++ more → Behind entries text more
behind_lines [] text more e = record { rest = text; text_is = refl; lines_are = e }
behind_lines (d ∷ entries) text more e =
    let f = first_whole text (line_text d) (map whole_line entries ++ more) e in
    let b = behind_lines entries f.rest more f.lines_are in
    record {
      rest = b.rest;
      text_is = f.text_is ∙ (ap (λ r. line_text d ++ 10 ∷ r) b.text_is ∙ (sym (append_assoc (line_text d) (10 ∷ []) (text_of entries ++ b.rest)) ∙ sym (append_assoc (line_text d ++ 10 ∷ []) (text_of entries) b.rest)));
      lines_are = b.lines_are;
    }

-- more lines are told
some_and_still : {X : Type 0} {P Q : X → Type 0} (o : Option X) → ((x : X) → P x → Q x) → IsSomeAnd o P → IsSomeAnd o Q
some_and_still None f h = h
some_and_still (Some x) f h = f x h

tells_more : (table : TableValue) (told mid next : Told) (es : List Entry) (e : Entry) → Tells table told es mid → IsLine e → ((rule : Rule) → Keeps table mid e rule) → told_next table.files mid e ≡ Some next → Tells table told (es ++ e ∷ []) next
tells_more table told mid next [] e t l k n =
    let at : told_next table.files told e ≡ Some next = ap (λ (x : Told). told_next table.files x e) t ∙ n in
    let last : IsSomeAnd (Some next) (λ (x : Told). Tells table x [] next) = refl in
    (l, subst (λ (x : Told). (rule : Rule) → Keeps table x e rule) (sym t) k, subst (λ (o : Option Told). IsSomeAnd o (λ x. Tells table x [] next)) (sym at) last)
tells_more table told mid next (d ∷ es) e t l k n =
    (t.0, t.1, some_and_still (told_next table.files told d) (λ x h. tells_more table x mid next es e h l k n) t.2)

pub told_more : (table : TableValue) (lines : List LineText) (told next : Told) (e : Entry) → IsTold table lines told → IsLine e → ((rule : Rule) → Keeps table told e rule) → told_next table.files told e ≡ Some next → IsTold table (lines ++ whole_line e ∷ []) next
told_more table lines told next e t l k n = record {
  entries = t.entries ++ e ∷ [];
  tells = tells_more table nothing_told told next t.entries e t.tells l k n;
  lines_are = ap (λ xs. xs ++ whole_line e ∷ []) t.lines_are ∙ sym (map-append whole_line t.entries (e ∷ []));
}

-- what may not begin what is left
bad_next : (place : Place) (rest : List ℕ) → rest ≢ [] → ((e : Entry) (more : List ℕ) → IsLine e → IsSome (after place e) → rest ≢ line_text e ++ 10 ∷ more) → IsNextBad place rest
bad_next Past rest some none = some
bad_next place rest some none = none

-- a line that may not stand there
pub bad_line : (table : TableValue) (lines : List LineText) (told : Told) (line : LineText) (ended : Bool) → IsTold table lines told
    → ((e : Entry) → IsLine e → IsSome (after told.place e) → line ≢ whole_line e) → AllFail table ended (lines ++ line ∷ []) (length lines + 1) 1
bad_line table lines told line ended t bad text begins =
    let all : lines_of text ≡ map whole_line t.entries ++ (line ∷ begins.more) =
    begins.lines_are ∙ (append_assoc lines (line ∷ []) begins.more ∙ ap (λ xs. xs ++ (line ∷ begins.more)) t.lines_are) in
    let b = behind_lines t.entries text (line ∷ begins.more) all in
    let many : length lines ≡ length t.entries = ap length t.lines_are ∙ length-map t.entries whole_line in
    let none : (e : Entry) (more : List ℕ) → IsLine e → IsSome (after told.place e) → b.rest ≢ line_text e ++ 10 ∷ more =
    λ e more l may is. bad e l may (head_of (sym b.lines_are ∙ (ap lines_of is ∙ lawful_first e more l))) in
    let some : b.rest ≢ [] = λ is. (let f : line ∷ begins.more ≡ [] = sym b.lines_are ∙ (ap lines_of is ∙ none_of_none) in cc) in
    record {
      failure = record {
        front = t.entries;
        rest = b.rest;
        told = told;
        tells = t.tells;
        split = b.text_is;
        fails = inl (bad_next told.place b.rest some none, ap (λ n. n + 1) many, refl);
      };
      more = line ∷ [];
      before = ap (λ xs. xs ++ line ∷ []) t.lines_are;
      some = λ e. absurd (let f : line ∷ [] ≡ [] = e in cc);
    }

-- a line that breaks a rule first
pub broken_line : (table : TableValue) (lines : List LineText) (told : Told) (e : Entry) (rule : Rule) (line number : ℕ) (ended : Bool) → IsTold table lines told → IsLine e → IsSome (after told.place e)
    → IsFirstBroken table told e rule → line ≡ line_of told e rule (length lines + 1) → number ≡ number_of rule → AllFail table ended (lines ++ whole_line e ∷ []) line number
broken_line table lines told e rule line number ended t l may first at by text begins =
    let all : lines_of text ≡ map whole_line t.entries ++ (whole_line e ∷ begins.more) =
    begins.lines_are ∙ (append_assoc lines (whole_line e ∷ []) begins.more ∙ ap (λ xs. xs ++ (whole_line e ∷ begins.more)) t.lines_are) in
    let b = behind_lines t.entries text (whole_line e ∷ begins.more) all in
    let f = first_whole b.rest (line_text e) begins.more b.lines_are in
    let many : length lines ≡ length t.entries = ap length t.lines_are ∙ length-map t.entries whole_line in
    record {
      failure = record {
        front = t.entries;
        rest = b.rest;
        told = told;
        tells = t.tells;
        split = b.text_is;
        fails = inr (record { entry = e; more = f.rest; broken = rule; is = f.text_is; lawful = l; placed = may; first = first; at_line = at ∙ ap (λ n. line_of told e rule (n + 1)) many; by_number = by });
      };
      more = whole_line e ∷ [];
      before = ap (λ xs. xs ++ whole_line e ∷ []) t.lines_are;
      some = λ x. absurd (let f : whole_line e ∷ [] ≡ [] = x in cc);
    }

-- the text ends
pub missing_line : (table : TableValue) (lines : List LineText) (told : Told) → told.place ≢ Past → IsTold table lines told → AllFail table true lines (length lines + 1) 1
missing_line table lines told not_past t text begins =
    let none : begins.more ≡ [] = begins.none refl in
    let all : lines_of text ≡ map whole_line t.entries ++ [] = begins.lines_are ∙ (ap (λ m. lines ++ m) none ∙ ap (λ xs. xs ++ []) t.lines_are) in
    let b = behind_lines t.entries text [] all in
    let empty : b.rest ≡ [] = no_lines b.rest b.lines_are in
    let many : length lines ≡ length t.entries = ap length t.lines_are ∙ length-map t.entries whole_line in
    record {
      failure = record {
        front = t.entries;
        rest = b.rest;
        told = told;
        tells = t.tells;
        split = b.text_is;
        fails = inl (next_bad told.place b.rest not_past (λ e more l may is. let f : [] ≡ whole_line e ∷ lines_of more = sym b.lines_are ∙ (ap lines_of is ∙ lawful_first e more l) in cc), ap (λ n. n + 1) many, refl);
      };
      more = [];
      before = t.lines_are ∙ sym (append-nil (map whole_line t.entries));
      some = λ e. refl;
    }

-- a text of no other lines than these
pub all_read : (table : TableValue) (lines : List LineText) (told : Told) (t : IsTold table lines told) (text : List ℕ) → lines_of text ≡ lines → text ≡ text_of t.entries
all_read table lines told t text is =
    let all : lines_of text ≡ map whole_line t.entries ++ [] = is ∙ (t.lines_are ∙ sym (append-nil (map whole_line t.entries))) in
    let b = behind_lines t.entries text [] all in
    b.text_is ∙ (ap (λ r. text_of t.entries ++ r) (no_lines b.rest b.lines_are) ∙ append-nil (text_of t.entries))

-- a failure stays the first whatever comes behind it
pub still_fails : (table : TableValue) (lines more : List LineText) (ended : Bool) (line rule : ℕ) → AllFail table false lines line rule → AllFail table ended (lines ++ more) line rule
still_fails table lines more ended line rule f text begins =
    let not_ended : false ≢ true = λ e. let x : false ≡ true = e in cc in
    let fails = f text (record { more = more ++ begins.more; lines_are = begins.lines_are ∙ append_assoc lines more begins.more; none = λ e. absurd (not_ended e) }) in
    record {
      failure = fails.failure;
      more = fails.more ++ more;
      before = ap (λ xs. xs ++ more) fails.before ∙ append_assoc (map whole_line fails.failure.front) fails.more more;
      some = λ e. absurd (not_ended (fails.some (none_before fails.more more e)));
    }
  where
    none_before : (xs ys : List LineText) → xs ++ ys ≡ [] → xs ≡ []
    none_before [] ys e = refl
    none_before (x ∷ xs) ys e = absurd (let f : x ∷ (xs ++ ys) ≡ [] = e in cc)
