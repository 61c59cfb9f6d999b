-- The fields of a row, and the names that they spell.
use Rattle.std.specs.Prelude.{◌/◌, Option, Result, Ok, IsSome, MatchResult, option_map}
use Rattle.std.proofs.Common.{◌≡◌, ◌∙◌, ◌∷◌, ◌<◌, ◌≤◌, [], ℕ, List, Some, None, refl, sym, ap, subst, length, get_or, arith, inl, inr, Bor}
use Rattle.std.proofs.lemmas.List.{get_or_default}
use Rattle.csv.specs.Records.{field_at}
use Rattle.csv.proofs.RecordFacts.{field-get, field-there}
use Rattle.hex.specs.Hex.{decode_of, decode_pairs, decode_sized}
use Rattle.hex.specs.declared.error.FromHexError.{FromHexError}
use Rattle.hex.proofs.HexLemmas.{decode_of-ok}
use Rattle.recipe_reader.specs.Lawful.{IsChunkName}
use Rattle.recipe_reader.specs.Parts.{NamesChunk}
use Rattle.recipe_reader.specs.Reading.{HasChunkName}

-- a field that is there
pub field_there : (fields : List (List ℕ)) (i : ℕ) (o : Option (Bor (List ℕ))) → i < length fields → option_map (λ s. s.now) o ≡ field_at fields i → IsSome o
field_there fields i None lt e = absurd (field-there fields i lt (sym e))
field_there fields i (Some x) lt e = refl

pub field_is : (fields : List (List ℕ)) (i : ℕ) (o : Option (Bor (List ℕ))) (x : Bor (List ℕ)) → o ≡ Some x → option_map (λ s. s.now) o ≡ field_at fields i → x.now ≡ get_or fields i []
field_is fields i o x some e = sym (field-get fields i x.now (sym e ∙ ap (option_map (λ s. s.now)) some))

pub three_fields : (fields : List (List ℕ)) → length fields ≡ 3 → fields ≡ get_or fields 0 [] ∷ get_or fields 1 [] ∷ get_or fields 2 [] ∷ []
three_fields [] e = absurd (omega arith)
three_fields (a ∷ []) e = absurd (omega arith)
three_fields (a ∷ b ∷ []) e = absurd (omega arith)
three_fields (a ∷ b ∷ c ∷ []) e = refl
three_fields (a ∷ b ∷ c ∷ d ∷ more) e = absurd (omega arith)

-- decoding into room of half the length is decoding
pub decode_sized-half : (text : List ℕ) → decode_sized text (length text / 2) ≡ decode_of text
decode_sized-half text = grind arith

-- what decodes to a short name spells it, or is empty
pub names_chunk : (text name : List ℕ) → decode_of text ≡ Ok name → length text / 2 ≤ 64 → NamesChunk text name
names_chunk text [] decoded short =
    let twice = (decode_of-ok text [] decoded).2 in
    inl (empty text (omega (arith, twice)), refl)
  where
    empty : (xs : List ℕ) → length xs ≡ 0 → xs ≡ []
    empty [] e = refl
    empty (x ∷ xs) e = absurd (omega arith)
names_chunk text (b ∷ name) decoded short =
    let twice = (decode_of-ok text (b ∷ name) decoded).2 in
    inr record { digits = decoded; some = omega arith; short = omega (arith, twice) }

-- a text of more digits names no chunk
pub too_long : (text : List ℕ) → 64 < length text / 2 → ¬ HasChunkName text
too_long text long (inl empty) = let none = ap length empty in absurd (omega (arith, none))
too_long text long (inr (name, spelled)) =
    let twice = (decode_of-ok text name spelled.digits).2 in
    let short = spelled.short in
    absurd (omega (arith, twice, short))

decode_sized-nothing : decode_sized [] 0 ≡ Ok []
unfolding decode_pairs
decode_sized-nothing = refl

-- a text that does not decode names no chunk
pub undecoded : (text : List ℕ) (room : ℕ) (P : List ℕ → Type 0) (Q : FromHexError → Type 0) → room ≡ length text / 2 → MatchResult (decode_sized text room) P Q → ((name : List ℕ) → ¬ P name)
    → ¬ HasChunkName text
undecoded text room P Q half told none (inl empty) =
    let nothing : decode_sized text room ≡ Ok [] = rw (half, empty) decode_sized-nothing in
    let M : Result (List ℕ) FromHexError → Type 0 = λ r. MatchResult r P Q in
    none [] (subst M nothing told)
undecoded text room P Q half told none (inr (name, spelled)) =
    let decoded : decode_sized text room ≡ Ok name = rw half (decode_sized-half text ∙ spelled.digits) in
    let M : Result (List ℕ) FromHexError → Type 0 = λ r. MatchResult r P Q in
    none name (subst M decoded told)

-- the bytes of a name that a text spells may name a chunk
pub named_lawful : (text name : List ℕ) → NamesChunk text name → 0 < length name → IsChunkName name
named_lawful text name (inl none) some = let nothing = ap (λ (t : List ℕ). length t) none.1 in absurd (omega (arith, nothing, some))
named_lawful text name (inr spelled) some = record {
  bytes = λ i d h. rw (get_or_default name i 0 d h) at ((decode_of-ok text name spelled.digits).3 i);
  some = spelled.some;
  short = spelled.short;
}
