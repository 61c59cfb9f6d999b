-- The half in force, and what a body more does to it.
use Rattle.std.proofs.Common.{◌≡◌, ◌≢◌, ◌⊎◌, inl, inr, ℕ, zero, suc, ◌+◌, ◌^◌, ◌<◌, List, [], ◌∷◌, ◌++◌, length, take, drop, Bool, true, false, Option, Some, None, refl, sym, ◌∙◌, ap, subst, arith, eq-eqb, ne_eqb, le-leb}
use Rattle.std.proofs.lemmas.Bool.{cases_eq}
use Rattle.std.proofs.lemmas.List.{length-take-le, length-drop}
use Rattle.std.proofs.lemmas.Nat.{from_be_bytes-to_be_bytes_8}
use Rattle.std.proofs.lemmas.Option.{none-some}
use Rattle.std.specs.Prelude.{slice_index, nat_le, nat_lt, ◌==◌, ◌&&◌, ⊤, if◌then◌else◌}
use Rattle.std.specs.Int.{w64, from_be_bytes}
use Rattle.site_forms.specs.Logs.{parse, parse_from, body_length, is_block, IsSameOrMore}
use Rattle.site_forms.specs.Logs.Parsed.{Good}
use Rattle.site_forms.specs.Halves.{Half, half_record, half_number, first_number, generation_from, generation, stronger, in_force, without_half, records_in, records_of, pair_records, records_at, IsBelow, IsClosed}
use Rattle.site_forms.specs.Halves.Half.{First, Second}
use Rattle.site_forms.proofs.Agree.{bool_cases, bodies_of, bad_good, step, more_good}

-- the generation of a log goes by its first body
abbrev pub generation_of : List (List ℕ) → Option ℕ
generation_of [] = None
generation_of (body ∷ bodies) = Some (half_number body)

abbrev pub is_second : Option Half → Type 0
is_second None = ⊥
is_second (Some First) = ⊥
is_second (Some Second) = ⊤

abbrev pub is_first : Option Half → Type 0
is_first None = ⊥
is_first (Some First) = ⊤
is_first (Some Second) = ⊥

-- a body of another length is no Half record
other_length : (body : List ℕ) → (length body == 9) ≡ false → half_number body ≡ 0
other_length body other = ap (λ (b : Bool). if b && slice_index body 0 == 32 then from_be_bytes w64 (drop 1 body) else 0) other

first_body : (at : ℕ) (rest : List ℕ) → is_block at rest ≡ true → first_number rest ≡ half_number (take (body_length rest) (drop 4 rest))
first_body at rest block =
    let inside : 4 + body_length rest < length rest = grind (arith, block) in
    let long : length (take (body_length rest) (drop 4 rest)) ≡ body_length rest = length-take-le (body_length rest) (drop 4 rest) (omega (arith, inside, length-drop 4 rest)) in
    elim (cases_eq (body_length rest) 9) as (λ _. first_number rest ≡ half_number (take (body_length rest) (drop 4 rest))) [
      | inl nine ↦ ap (λ (b : Bool). if b then half_number (take 9 (drop 4 rest)) else 0) (eq-eqb (body_length rest) 9 nine) ∙ ap (λ (n : ℕ). half_number (take n (drop 4 rest))) (sym nine)
      | inr other ↦ ap (λ (b : Bool). if b then half_number (take 9 (drop 4 rest)) else 0) (ne_eqb (body_length rest) 9 other) ∙ sym (other_length (take (body_length rest) (drop 4 rest)) (ap (λ (n : ℕ). n == 9) long ∙ ne_eqb (body_length rest) 9 other))
    ]

generation_good_from : (fuel : ℕ) (image : List ℕ) (bodies : List (List ℕ)) (gate : ℕ) → parse_from fuel 0 image ≡ Good bodies gate → generation_from image ≡ generation_of bodies
generation_good_from zero image bodies gate good = absurd (bad_good 0 bodies gate good)
generation_good_from (suc fuel) [] bodies gate good = absurd (bad_good 0 bodies gate good)
generation_good_from (suc fuel) (first ∷ rest) bodies gate good = elim (step fuel 0 first rest bodies gate good) as (λ _. generation_from (first ∷ rest) ≡ generation_of bodies) [
  | inl ended ↦ ap (λ (b : Bool). if b then Some (first_number rest) else None) ended.0 ∙ ap generation_of (sym ended.1)
  | inr block ↦
      let inner = more_good _ _ bodies gate block.2 in
      ap (λ (b : Bool). if b then Some (first_number rest) else None) block.0 ∙ ap (λ (n : ℕ). Some n) (first_body 0 rest block.1) ∙ ap generation_of (sym inner.2)
]

-- the generation of an image that is a log
pub generation_good : (image : List ℕ) (bodies : List (List ℕ)) (gate : ℕ) → parse image ≡ Good bodies gate → generation image ≡ generation_of bodies
generation_good image bodies gate good = elim (bool_cases (nat_le (length image) 1)) as (λ _. generation image ≡ generation_of bodies) [
  | inl small ↦
      ap (λ (b : Bool). if b then None else generation_from image) small
      ∙ ap generation_of (ap bodies_of (sym (ap (λ (b : Bool). if b then Good [] 0 else parse_from (length image) 0 image) small) ∙ good))
  | inr large ↦
      ap (λ (b : Bool). if b then None else generation_from image) large
      ∙ generation_good_from (length image) image bodies gate (sym (ap (λ (b : Bool). if b then Good [] 0 else parse_from (length image) 0 image) large) ∙ good)
]

-- one body more takes no half out of force
first_stays : (bodies : List (List ℕ)) (body : List ℕ) (h : Option ℕ) → stronger (generation_of bodies) h ≡ Some First → stronger (generation_of (bodies ++ body ∷ [])) h ≡ Some First
first_stays [] body None force = refl
first_stays [] body (Some h) force = absurd (subst is_first (sym force) tt)
first_stays (front ∷ bodies) body h force = force

second_stays : (bodies : List (List ℕ)) (body : List ℕ) (g : Option ℕ) → stronger g (generation_of bodies) ≡ Some Second → stronger g (generation_of (bodies ++ body ∷ [])) ≡ Some Second
second_stays [] body None force = absurd (subst is_second (sym force) tt)
second_stays [] body (Some g) force = absurd (subst is_second (sym force) tt)
second_stays (front ∷ bodies) body g force = force

-- a body that is no Half record stays among the records
pub without_half_more : (bodies : List (List ℕ)) (body : List ℕ) → half_number body ≡ 0 → without_half (bodies ++ body ∷ []) ≡ without_half bodies ++ body ∷ []
without_half_more [] body plain = ap (λ (n : ℕ). if nat_le 1 n then [] else body ∷ []) plain
without_half_more (front ∷ bodies) body plain = elim (bool_cases (nat_le 1 (half_number front))) as (λ _. without_half (front ∷ bodies ++ body ∷ []) ≡ without_half (front ∷ bodies) ++ body ∷ []) [
  | inl is_half ↦ ap (λ (b : Bool). if b then bodies ++ body ∷ [] else front ∷ bodies ++ body ∷ []) is_half ∙ sym (ap (λ (b : Bool). (if b then bodies else front ∷ bodies) ++ body ∷ []) is_half)
  | inr other ↦ ap (λ (b : Bool). if b then bodies ++ body ∷ [] else front ∷ bodies ++ body ∷ []) other ∙ sym (ap (λ (b : Bool). (if b then bodies else front ∷ bodies) ++ body ∷ []) other)
]

pub first_force : (x other y body : List ℕ) (bodies : List (List ℕ)) (gate : ℕ) → in_force x y ≡ Some First → parse x ≡ Good bodies gate → IsSameOrMore bodies body gate other → in_force other y ≡ Some First
first_force x other y body bodies gate force good (inl same) = ap (λ g. stronger g (generation y)) (generation_good other bodies gate same ∙ sym (generation_good x bodies gate good)) ∙ force
first_force x other y body bodies gate force good (inr more) =
    ap (λ g. stronger g (generation y)) (generation_good other (bodies ++ body ∷ []) (gate + 5 + length body) more)
    ∙ first_stays bodies body (generation y) (ap (λ g. stronger g (generation y)) (sym (generation_good x bodies gate good)) ∙ force)

pub second_force : (x y other body : List ℕ) (bodies : List (List ℕ)) (gate : ℕ) → in_force x y ≡ Some Second → parse y ≡ Good bodies gate → IsSameOrMore bodies body gate other → in_force x other ≡ Some Second
second_force x y other body bodies gate force good (inl same) = ap (λ g. stronger (generation x) g) (generation_good other bodies gate same ∙ sym (generation_good y bodies gate good)) ∙ force
second_force x y other body bodies gate force good (inr more) =
    ap (λ g. stronger (generation x) g) (generation_good other (bodies ++ body ∷ []) (gate + 5 + length body) more)
    ∙ second_stays bodies body (generation x) (ap (λ g. stronger (generation x) g) (sym (generation_good y bodies gate good)) ∙ force)

pub first_pair : (x y : List ℕ) (bodies records : List (List ℕ)) (gate : ℕ) → in_force x y ≡ Some First → parse x ≡ Good bodies gate → without_half bodies ≡ records → pair_records x y ≡ Some records
first_pair x y bodies records gate force good told = ap (λ f. records_of f x y) force ∙ ap records_in good ∙ ap (λ (l : List (List ℕ)). Some l) told

pub second_pair : (x y : List ℕ) (bodies records : List (List ℕ)) (gate : ℕ) → in_force x y ≡ Some Second → parse y ≡ Good bodies gate → without_half bodies ≡ records → pair_records x y ≡ Some records
second_pair x y bodies records gate force good told = ap (λ f. records_of f x y) force ∙ ap records_in good ∙ ap (λ (l : List (List ℕ)). Some l) told

pub more_told : (bodies records : List (List ℕ)) (body : List ℕ) → half_number body ≡ 0 → without_half bodies ≡ records → without_half (bodies ++ body ∷ []) ≡ records ++ body ∷ []
more_told bodies records body plain told = without_half_more bodies body plain ∙ ap (λ (l : List (List ℕ)). l ++ body ∷ []) told

pub first_more : (x other y body : List ℕ) (bodies records : List (List ℕ)) (gate : ℕ) → in_force other y ≡ Some First → IsSameOrMore bodies body gate other → half_number body ≡ 0 → without_half bodies ≡ records
    → (pair_records other y ≡ Some records) ⊎ (pair_records other y ≡ Some (records ++ body ∷ []))
first_more x other y body bodies records gate force (inl same) plain told = inl (first_pair other y bodies records gate force same told)
first_more x other y body bodies records gate force (inr more) plain told = inr (first_pair other y (bodies ++ body ∷ []) (records ++ body ∷ []) (gate + 5 + length body) force more (more_told bodies records body plain told))

pub second_more : (x y other body : List ℕ) (bodies records : List (List ℕ)) (gate : ℕ) → in_force x other ≡ Some Second → IsSameOrMore bodies body gate other → half_number body ≡ 0 → without_half bodies ≡ records
    → (pair_records x other ≡ Some records) ⊎ (pair_records x other ≡ Some (records ++ body ∷ []))
second_more x y other body bodies records gate force (inl same) plain told = inl (second_pair x other bodies records gate force same told)
second_more x y other body bodies records gate force (inr more) plain told = inr (second_pair x other (bodies ++ body ∷ []) (records ++ body ∷ []) (gate + 5 + length body) force more (more_told bodies records body plain told))

-- a place whose two images are as they were says the same
pub same_records : (place : ℕ) (b c : ℕ → List ℕ) → c place ≡ b place → c (place + 3) ≡ b (place + 3) → records_at c place ≡ records_at b place
same_records place b c one two = ap (λ (x : List ℕ). pair_records x (c (place + 3))) one ∙ ap (λ (y : List ℕ). pair_records (b place) y) two

open_or_none : (image : List ℕ) → slice_index image 0 ≢ 1 → generation_from image ≡ None
open_or_none [] closed = refl
open_or_none (gate ∷ rest) closed = ap (λ (b : Bool). if b then Some (first_number rest) else None) (ne_eqb gate 1 closed)

pub closed_none : (image : List ℕ) → IsClosed image → generation image ≡ None
closed_none image (inl short) = ap (λ (b : Bool). if b then None else generation_from image) (le-leb (length image) 1 short)
closed_none image (inr closed) = elim (bool_cases (nat_le (length image) 1)) as (λ _. generation image ≡ None) [
  | inl small ↦ ap (λ (b : Bool). if b then None else generation_from image) small
  | inr large ↦ ap (λ (b : Bool). if b then None else generation_from image) large ∙ open_or_none image closed
]

pub first_wins : (g h : Option ℕ) → IsBelow h g → stronger g h ≡ Some First
first_wins None None is_below = refl
first_wins (Some g) None is_below = refl
first_wins None (Some h) is_below = absurd is_below
first_wins (Some g) (Some h) is_below =
    let not_above : nat_lt g h ≡ false = grind (arith, is_below) in
    let under : nat_lt h g ≡ true = grind (arith, is_below) in
    ap (λ (b : Bool). if b then Some Second else (if nat_lt h g then Some First else None)) not_above ∙ ap (λ (b : Bool). if b then Some First else None) under

pub second_wins : (g h : Option ℕ) (n : ℕ) → h ≡ Some n → IsBelow g h → stronger g h ≡ Some Second
second_wins g None n some is_below = absurd (none-some n some)
second_wins None (Some h) n some is_below = refl
second_wins (Some g) (Some h) n some is_below =
    let under : nat_lt g h ≡ true = grind (arith, is_below) in
    ap (λ (b : Bool). if b then Some Second else (if nat_lt h g then Some First else None)) under

-- a Half record keeps its generation
pub half_number-half_record : (n : ℕ) → n < 2 ^ 64 → half_number (half_record n) ≡ n
half_number-half_record n fits = from_be_bytes-to_be_bytes_8 n fits
