-- A text whose first field begins with no byte order mark begins with none.
use Rattle.std.proofs.Common.{◌≡◌, ◌++◌, ◌∷◌, [], ℕ, List, Bool, true, false, refl, ap, length, arith, inl, inr}
use Rattle.std.specs.Prelude.{◌&&◌, ◌==◌}
use Rattle.std.proofs.lemmas.Bool.{cases_Bool}
use Rattle.csv.specs.Reading.{strip_bom, is_bom}
use Rattle.csv.specs.Writing.{field_text, default_writer, needs_quotes}

and_false : (a : Bool) → (a && false) ≡ false
and_false true = refl
and_false false = refl

at_three : (a b c : ℕ) (rest : List ℕ) → is_bom a b c ≡ false → strip_bom (a ∷ b ∷ c ∷ rest) ≡ a ∷ b ∷ c ∷ rest
unfolding strip_bom
at_three a b c rest e = rw e refl

no_mark : (a b c : ℕ) (rest : List ℕ) → strip_bom (a ∷ b ∷ c ∷ rest) ≡ a ∷ b ∷ c ∷ rest → is_bom a b c ≡ false
unfolding strip_bom
no_mark a b c rest e = elim (cases_Bool (is_bom a b c)) [
  | inl t ↦ let same : rest ≡ a ∷ b ∷ c ∷ rest = rw t at e in absurd (omega (arith, ap length same))
  | inr f ↦ f
]

-- a field with no mark, and a comma
pub plain_keeps : (name rest : List ℕ) → strip_bom name ≡ name → strip_bom (name ++ 44 ∷ rest) ≡ name ++ 44 ∷ rest
unfolding strip_bom
plain_keeps [] [] e = refl
plain_keeps [] (x ∷ []) e = refl
plain_keeps [] (x ∷ y ∷ rest) e = refl
plain_keeps (a ∷ []) [] e = refl
plain_keeps (a ∷ []) (x ∷ rest) e = rw (and_false (a == 239)) refl
plain_keeps (a ∷ b ∷ []) rest e = rw (and_false ((a == 239) && (b == 187))) refl
plain_keeps (a ∷ b ∷ c ∷ more) rest e = at_three a b c (more ++ 44 ∷ rest) (no_mark a b c more e)

quote_keeps : (rest : List ℕ) → strip_bom (34 ∷ rest) ≡ 34 ∷ rest
unfolding strip_bom
quote_keeps [] = refl
quote_keeps (x ∷ []) = refl
quote_keeps (x ∷ y ∷ rest) = refl

pub field_keeps : (name rest : List ℕ) → strip_bom name ≡ name → strip_bom (field_text default_writer name ++ 44 ∷ rest) ≡ field_text default_writer name ++ 44 ∷ rest
field_keeps name rest e = elim (cases_Bool (needs_quotes default_writer name)) [
  | inl t ↦ rw t (quote_keeps _)
  | inr f ↦ rw f (plain_keeps name rest e)
]
