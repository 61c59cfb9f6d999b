-- Lawful names as a test.
use Rattle.std.proofs.Common.{◌≡◌, inl, inr, ℕ, ◌≤◌, List, [], ◌∷◌, length, Bool, true, false, sym, ◌∙◌, ap, arith}
use Rattle.std.specs.Prelude.{nat_le, ◌==◌, ◌&&◌, not, ◌↔◌}
use Rattle.std.specs.Char.{is_control}
use Rattle.std.specs.List.{list_any}
use Rattle.std.specs.Str.{chars, is_utf8}
use Rattle.std.proofs.lemmas.Bool.{true≢false, not-true, and_parts, and_from, leb-true, le-leb, eqb-true, cases_Bool}
use Rattle.std.proofs.lemmas.Str.{IsUtf8-from_is_utf8, is_utf8-from_IsUtf8}
use Rattle.file_names.specs.FileNames.{IsFileName, StartsWithMark}
use Rattle.file_names.proofs.Marks.{name_from, plain_name, utf8_name, unmarked_bytes}
use Rattle.site_forms.specs.Names.{is_marked, is_name}

unmarked_from : (name : List ℕ) → is_marked name ≡ false → ¬ StartsWithMark name
unmarked_from name fails begins = let holds : is_marked name ≡ true = ap is_marked begins.1 in true≢false (sym holds ∙ fails)

marked_from : (name : List ℕ) → is_marked name ≡ true → StartsWithMark name
marked_from [] holds = absurd (true≢false (sym holds))
marked_from (x ∷ []) holds = absurd (true≢false (sym holds))
marked_from (x ∷ y ∷ []) holds = absurd (true≢false (sym holds))
marked_from (x ∷ y ∷ z ∷ rest) holds =
    let first = and_parts (x == 0xEF) (y == 0xBB && z == 0xBF) holds in
    let others = and_parts (y == 0xBB) (z == 0xBF) first.1 in (
      rest,
      ap (λ (n : ℕ). n ∷ y ∷ z ∷ rest) (eqb-true x 0xEF first.0) ∙ ap (λ (n : ℕ). 0xEF ∷ n ∷ z ∷ rest) (eqb-true y 0xBB others.0) ∙ ap (λ (n : ℕ). 0xEF ∷ 0xBB ∷ n ∷ rest) (eqb-true z 0xBF others.1),
    )

unmarked_name : (name : List ℕ) → IsFileName name → is_marked name ≡ false
unmarked_name name lawful = elim (cases_Bool (is_marked name)) as (λ _. is_marked name ≡ false) [ inl holds ↦ absurd (unmarked_bytes name lawful (marked_from name holds)) | inr fails ↦ fails ]

-- the tests that follow the lengths
abbrev plain_text : List ℕ → Bool
plain_text name = not (is_marked name) && not (list_any is_control (chars name))

pub name_test : (name : List ℕ) → (is_name name ≡ true) ↔ IsFileName name
name_test name = (
  λ holds.
      let one = and_parts (nat_le 1 (length name)) (nat_le (length name) 255 && (is_utf8 name && plain_text name)) holds in
      let two = and_parts (nat_le (length name) 255) (is_utf8 name && plain_text name) one.1 in
      let three = and_parts (is_utf8 name) (plain_text name) two.1 in
      let four = and_parts (not (is_marked name)) (not (list_any is_control (chars name))) three.1 in
      let some = leb-true 1 (length name) one.0 in
      name_from name (IsUtf8-from_is_utf8 name three.0) (omega (arith, some)) (leb-true (length name) 255 two.0) (unmarked_from name (not-true (is_marked name) four.0)) (not-true (list_any is_control (chars name)) four.1),
  λ lawful.
      let some : 1 ≤ length name = omega (arith, lawful.some) in
      and_from _ _ (le-leb 1 (length name) some)
      (and_from _ _ (le-leb (length name) 255 lawful.short)
      (and_from _ _ (is_utf8-from_IsUtf8 name (utf8_name name lawful))
      (and_from _ _ (ap not (unmarked_name name lawful)) (ap not (plain_name name lawful))))),
)
