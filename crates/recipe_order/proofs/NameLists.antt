-- Lists of names, and the numbers of names in them.
use Rattle.std.specs.Prelude.{Contains, map}
use Rattle.std.proofs.Common.{◌≡◌, ◌∙◌, ◌+◌, ◌<◌, ◌≤◌, ◌∷◌, ◌++◌, [], ℕ, List, Bool, Some, None, true, false, refl, sym, ap, subst, length, take, get_or, arith, inl, inr}
use Rattle.std.specs.Cmp.{IsEquivalence}
use Rattle.std.specs.Cmp.Lexicographic.{same_text}
use Rattle.std.specs.List.{AllByRecursion, IsDistinct, list_any, position_or_len}
use Rattle.std.proofs.lemmas.Bool.{cases_Bool}
use Rattle.std.proofs.lemmas.List.{get_or-map, get_or-take, get_or_default, length-map, length-take-le, map-append, take_all, take_more}
use Rattle.std.proofs.lemmas.List.Elements.{All-contains, All-more, All-nil}
use Rattle.std.proofs.lemmas.List.Folds.{list_any_none}
use Rattle.std.proofs.lemmas.Map.Keys.{IsDistinct-cons, IsDistinct-from_apart, apart_from_distinct}
use Rattle.std.proofs.lemmas.Map.Views.{list_any-from_Contains}
use Rattle.list_facts.specs.Firsts.{IsNumberOf}
use Rattle.list_facts.proofs.Numbering.{place}
use Rattle.recipe_reader.specs.Recipes.{NamedChunk, is_chunk, is_named}
use Rattle.recipe_reader.proofs.Keeping.{named_equiv}
use Rattle.recipe_reader.proofs.Sizes.{contains_at}
use Rattle.recipe_reader.proofs.Subsets.{cons_cases, length_within}
use Rattle.recipe_order.specs.Matching.{AreAmong, AreNumbers}
use Rattle.recipe_order.proofs.Names.{no_chunk}

-- the names of chunks differ as the chunks do
pub names_differ : (chunks : List NamedChunk) → IsDistinct (λ (c : NamedChunk). is_chunk c.name) chunks → IsDistinct is_named (map (λ (c : NamedChunk). c.name) chunks)
names_differ chunks differ =
    let name : NamedChunk → List ℕ = λ c. c.name in
    IsDistinct-from_apart is_named (map name chunks) (λ i j d before within.
    let long = length-map chunks name in
    let j_in : j < length chunks = omega (arith, long) in
    let i_in : i < length chunks = omega arith in
    let one = get_or-map name chunks i no_chunk d i_in in
    let two = get_or-map name chunks j no_chunk d j_in in
    rw (one, two) (apart_from_distinct (λ (c : NamedChunk). is_chunk c.name) chunks i j no_chunk differ before j_in))

-- ---- a table of names, one after the other

pub table_new : (names table : List (List ℕ)) (n : ℕ) (name : List ℕ) → IsDistinct is_named names → n < length names → table ≡ take n names → name ≡ get_or names n [] → list_any (is_named name) table ≡ false
table_new names table n name differ within so_far is =
    let next : list_any (is_named (get_or names n [])) (take n names) ≡ false = list_any_none (is_named (get_or names n [])) (take n names) (λ k d lt.
    let short = length-take-le n names (omega arith) in
    let below : k < n = omega (arith, short) in
    let apart = apart_from_distinct is_named names k n d differ below within in
    let here = get_or-take n names k d below in
    let there = get_or_default names n d [] within in
    named_equiv.symm (get_or names n []) (get_or (take n names) k d) ∙ rw (here, ← there) apart) in
    (λ i. list_any (is_named (is i)) (so_far i)) ∙ next

pub table_more : (names table after : List (List ℕ)) (n : ℕ) (name : List ℕ) → n < length names → table ≡ take n names → name ≡ get_or names n [] → after ≡ table ++ name ∷ [] → after ≡ take (n + 1) names
table_more names table after n name within so_far is put = put ∙ ((λ i. so_far i ++ is i ∷ []) ∙ sym (take_more names n [] within))

pub table_all : (names table : List (List ℕ)) (n : ℕ) → table ≡ take n names → length names ≤ n → table ≡ names
table_all names table n so_far end = so_far ∙ take_all n names end

-- ---- the numbers of names

pub numbers_none : (whole : List (List ℕ)) → AreNumbers whole [] []
numbers_none whole = record { among = All-nil (λ name. list_any (is_named name) whole ≡ true); are = refl }

pub numbers_more : (whole part table : List (List ℕ)) (numbers after : List ℕ) (i number : ℕ) (name : List ℕ) → AreNumbers whole (take i part) numbers → i < length part → name ≡ get_or part i []
    → table ≡ whole → IsNumberOf (is_named name) table (Some number) → after ≡ numbers ++ number ∷ [] → AreNumbers whole (take (i + 1) part) after
numbers_more whole part table numbers after i number name h lt is same found put =
    let P : List ℕ → Type 0 = λ n. list_any (is_named n) whole ≡ true in
    let place_of : List ℕ → ℕ = λ n. position_or_len (is_named n) whole in
    let there : P (get_or part i []) = (λ k. list_any (is_named (sym is k)) (sym same k)) ∙ found.0 in
    let at : number ≡ place_of (get_or part i []) = found.1 ∙ (λ k. position_or_len (is_named (is k)) (same k)) in
    record {
      among = All-more P part i [] lt h.among there;
      are = put ∙ ((λ k. h.are k ++ at k ∷ []) ∙ (sym (map-append place_of (take i part) (get_or part i [] ∷ [])) ∙ ap (map place_of) (sym (take_more part i [] lt))));
    }

pub numbers_all : (whole part : List (List ℕ)) (numbers : List ℕ) (i : ℕ) → AreNumbers whole (take i part) numbers → length part ≤ i → AreNumbers whole part numbers
numbers_all whole part numbers i h end = let P : List (List ℕ) → Type 0 = λ t. AreNumbers whole t numbers in subst P (take_all i part end) h

pub not_among : (whole part table : List (List ℕ)) (i : ℕ) (name : List ℕ) → i < length part → name ≡ get_or part i [] → table ≡ whole → IsNumberOf (is_named name) table None → ¬ AreAmong whole part
not_among whole part table i name lt is same none among =
    let lacking : list_any (is_named (get_or part i [])) whole ≡ false = (λ k. list_any (is_named (sym is k)) (sym same k)) ∙ none in
    let there = among i [] lt in
    cc (lacking, there)

pub numbers_length : (whole part : List (List ℕ)) (numbers : List ℕ) → AreNumbers whole part numbers → length numbers ≡ length part
numbers_length whole part numbers h = ap length h.are ∙ length-map part (λ name. position_or_len (is_named name) whole)

pub number_at : (whole part : List (List ℕ)) (numbers : List ℕ) (i : ℕ) → AreNumbers whole part numbers → i < length part → get_or numbers i 0 ≡ position_or_len (is_named (get_or part i [])) whole
number_at whole part numbers i h lt = ap (λ (t : List ℕ). get_or t i 0) h.are ∙ get_or-map (λ name. position_or_len (is_named name) whole) part i [] 0 lt

pub number_within : (whole part : List (List ℕ)) (numbers : List ℕ) (i : ℕ) → AreNumbers whole part numbers → i < length part → get_or numbers i 0 < length whole
number_within whole part numbers i h lt =
    let p = place (is_named (get_or part i [])) whole (h.among i [] lt) in
    omega (arith, number_at whole part numbers i h lt, p.within)

-- names that are found are among the others
pub name_among : (whole part : List (List ℕ)) (name : List ℕ) → AreAmong whole part → Contains part name → Contains whole name
name_among whole part name among there =
    let p = place (is_named name) whole (All-contains (λ name. list_any (is_named name) whole ≡ true) part name among there) in
    let Within : List ℕ → Type 0 = λ t. Contains whole t in
    subst Within (sym (same_text name p.item (sym p.passes))) (contains_at whole _ p.item p.at)

pub among_names : (whole part : List (List ℕ)) → ((name : List ℕ) → Contains part name → Contains whole name) → AreAmong whole part
among_names whole part within i d lt =
    let at = get_or part i d in
    list_any-from_Contains named_equiv at whole (within at (i, lt, get_or_default part i at d lt))

-- ---- as many distinct items as there are

none_alike : {X : Type 0} (same : X → X → Bool) (y : X) (xs : List X) → list_any (same y) xs ≡ false → AllByRecursion (λ x. same y x ≡ false) xs
none_alike same y [] none = tt
none_alike same y (x ∷ xs) none = elim (cases_Bool (same y x)) [
  | inl t ↦ cc (rw t at none)
  | inr f ↦ (f, none_alike same y xs (rw f at none))
]

pub all_there : {X : Type 0} (same : X → X → Bool) → IsEquivalence same → (xs ys : List X) → IsDistinct same xs → ((x : X) → Contains xs x → Contains ys x) → length ys ≤ length xs
    → (y : X) → ((z : X) → Contains xs z → same y z ≡ true → z ≡ y) → Contains ys y → Contains xs y
all_there {X} same laws xs ys differ within few y exact there = elim (cases_Bool (list_any (same y) xs)) [
  | inl t ↦
      let p = place (same y) xs t in
      let in_xs = contains_at xs _ p.item p.at in
      let Within : X → Type 0 = λ z. Contains xs z in
      subst Within (exact p.item in_xs p.passes) in_xs
  | inr f ↦
      let longer = length_within same laws (y ∷ xs) ys (IsDistinct-cons same y xs (none_alike same y xs f) differ) (λ x in_both. elim (cons_cases y xs x in_both) [
        | inl own ↦ rw (← own) there
        | inr behind ↦ within x behind
      ]) in
      absurd (omega (arith, longer))
]
