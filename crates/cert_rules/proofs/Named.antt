-- The sets that words name, and where sets differ.
use Rattle.std.specs.Prelude.{◌↔◌, IsTrue}
use Rattle.std.proofs.Common.{◌≡◌, ◌∙◌, ℕ, List, Bool, length, sym, ap, inl, inr, arith}
use Rattle.std.proofs.lemmas.Bool.{cases_lt}
use Rattle.std.proofs.lemmas.List.FromFn.{length-map-range_with_len}
use Rattle.seed_model.specs.Differences.{IsFirstDifference}
use Rattle.seed_text.specs.SetTexts.{set_text}
use Rattle.bound_cert.specs.Sets.{IsSetOf, set_named}
use Rattle.bound_cert.proofs.SetsNamed.{texts_name}

-- a set is named by its text
pub named : (files : ℕ) (word : List ℕ) (s : List Bool) → length s ≡ files → word ≡ set_text s → s ≡ set_named files word
named files word s len e = sym (ap (set_named files) e ∙ (ap (λ (n : ℕ). set_named n (set_text s)) (sym len) ∙ texts_name s))

pub length-named : (files : ℕ) (word : List ℕ) → length (set_named files word) ≡ files
length-named files word = length-map-range_with_len _ 0 files

-- a word names a set where it is the text of one
pub names_set : (b : Bool) (files : ℕ) (word : List ℕ) → IsTrue b ↔ ((s : List Bool) × (length s ≡ files) × (word ≡ set_text s)) → IsTrue b ↔ IsSetOf files word
names_set b files word told = (
  λ t. let x = told.0 t in x.2 ∙ ap set_text (named files word x.0 x.1 x.2),
  λ e. told.1 (set_named files word, length-named files word, e),
)

-- two sets have one first difference
pub one_difference : (one other : List Bool) (a b : ℕ) → IsFirstDifference one other a → IsFirstDifference one other b → a ≡ b
one_difference one other a b x y = elim (cases_lt a b) [
  | inl lt ↦ absurd (x.differs (y.first a lt))
  | inr ge ↦ elim (cases_lt b a) [
    | inl lt ↦ absurd (y.differs (x.first b lt))
    | inr le ↦ omega arith
  ]
]
