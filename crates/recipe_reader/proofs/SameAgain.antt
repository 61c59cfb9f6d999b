-- What is read back is the recipe that was written.
use Rattle.std.specs.Prelude.{not, ◌==◌, ◌↔◌, Contains, map, filter, Option, option_map}
use Rattle.std.proofs.Common.{◌≡◌, ◌∙◌, ◌∷◌, ◌++◌, ◌+◌, ◌<◌, ◌≤◌, [], ℕ, zero, suc, List, Bool, Some, None, refl, sym, ap, subst, true, false, length, take, slice_get, get_or, arith, inl, inr, append_assoc}
use Rattle.std.specs.Cmp.{IsEquivalence, nat_eq_equiv}
use Rattle.std.specs.Cmp.Lexicographic.{same_text}
use Rattle.std.specs.List.{IsDistinct, flat_map, range_with_len, filter_map, list_any, cons_option}
use Rattle.std.proofs.lemmas.Bool.{cases_Bool, cases_lt, and_parts, eqb-true}
use Rattle.std.proofs.lemmas.Grind.{flat_map-append}
use Rattle.std.proofs.lemmas.List.{append-nil, map-append, take_more, take_all, get_or_default, get_or-take, get_or-map, length-take-le}
use Rattle.std.proofs.lemmas.List.Folds.{list_any_none}
use Rattle.std.proofs.lemmas.Map.Keys.{apart_from_distinct}
use Rattle.std.proofs.lemmas.Map.Views.{list_any-from_Contains}
use Rattle.std.proofs.lemmas.Option.{slice_get-map, slice_get-get_or, get_or_from_slice_get}
use Rattle.std.proofs.lemmas.List.Elements.{All-contains, Contains-append_cases, Contains-append_left, Contains-append_right}
use Rattle.recipe_reader.specs.Appearance.{firsts, pair_named}
use Rattle.recipe_reader.specs.Lawful.{IsRecipe, IsPairBelow}
use Rattle.recipe_reader.specs.Limits.{KeepsSize}
use Rattle.recipe_reader.specs.Recipes.{NamedChunk, RecipeValue, with_new, is_named, is_chunk, is_pair, file_number, chunk_number}
use Rattle.recipe_reader.specs.RecipeRows.{Row}
use Rattle.recipe_reader.specs.Same.{IsSameRecipe, UsesByName}
use Rattle.recipe_reader.specs.WrittenRows.{chunks_used, file_at}
use Rattle.list_facts.proofs.FirstAppearance.{any_last, firsts-push}
use Rattle.recipe_reader.proofs.Gathering.{SoFar, Stands}
use Rattle.recipe_reader.proofs.Keeping.{named_equiv, pair_equiv}
use Rattle.list_facts.proofs.Numbering.{place}
use Rattle.recipe_reader.proofs.Replaying.{IsPart}
use Rattle.recipe_reader.proofs.Sizes.{contains_at}
use Rattle.recipe_reader.proofs.Subsets.{cons_cases, contains_head, contains_tail}
use Rattle.recipe_reader.proofs.WrittenText.{range-more}
use Rattle.recipe_reader.proofs.WrittenSpelled.{chunk_at, row_at, said_of, said, said_all}

-- a pair that stands is among its file's
used_contains : (pairs : List (ℕ × ℕ)) (file chunk : ℕ) → list_any (is_pair file chunk) pairs ≡ true → Contains (chunks_used pairs file) chunk
used_contains [] file chunk any = cc any
used_contains (p ∷ pairs) file chunk any = elim (cases_Bool (is_pair file chunk p)) [
  | inl t ↦
      let both = and_parts (file == p.0) (chunk == p.1) t in
      let one = eqb-true file p.0 both.0 in
      let two = eqb-true chunk p.1 both.1 in
      let kept : (p.0 == file) ≡ true = rw one (named p.0) in
      rw (kept, two) (contains_head p.1 (chunks_used pairs file))
  | inr f ↦
      let rest = used_contains pairs file chunk (rw f at any) in
      elim (cases_Bool (p.0 == file)) [ inl t ↦ rw t (contains_tail p.1 (chunks_used pairs file) chunk rest) | inr g ↦ rw g rest ]
]
  where
    named : (n : ℕ) → (n == n) ≡ true
    named n = nat_eq_equiv.refl n

contains-map : {X Y : Type 0} (f : X → Y) (xs : List X) (x : X) → Contains xs x → Contains (map f xs) (f x)
contains-map f [] x there = absurd (omega (arith, there.1))
contains-map f (y ∷ xs) x there = elim (cons_cases y xs x there) [ inl own ↦ rw (← own) (contains_head (f y) (map f xs)) | inr behind ↦ contains_tail (f y) (map f xs) (f x) (contains-map f xs x behind) ]

said_of_contains : (r : RecipeValue) (file : ℕ) (chunks : List ℕ) (chunk : ℕ) → Contains chunks chunk → Contains (said_of r file chunks) (row_at r file chunk)
said_of_contains r file [] chunk there = absurd (omega (arith, there.1))
said_of_contains r file (c ∷ chunks) chunk there = contains-map (row_at r file) (c ∷ chunks) chunk there

flat_contains : {Y : Type 0} (f : ℕ → List Y) (a n k : ℕ) (y : Y) → a ≤ k → k < a + n → Contains (f k) y → Contains (flat_map f (range_with_len a n)) y
flat_contains f a zero k y low high there = absurd (omega arith)
flat_contains f a (suc n) k y low high there = elim (cases_lt a k) [
  | inl more ↦ Contains-append_right (f a) (flat_map f (range_with_len (a + 1) n)) y (flat_contains f (a + 1) n k y (omega arith) (omega arith) there)
  | inr not_more ↦ let at : k ≡ a = omega arith in Contains-append_left (f a) (flat_map f (range_with_len (a + 1) n)) y (rw at at there)
]

said_contains : (r : RecipeValue) (file chunk : ℕ) → file < length r.files → list_any (is_pair file chunk) r.pairs ≡ true → Contains (said_all r) (row_at r file chunk)
unfolding said_all
said_contains r file chunk below any =
    flat_contains (λ file. said_of r file (chunks_used r.pairs file)) 0 (length r.files) file (row_at r file chunk) (omega arith) (omega arith)
    (said_of_contains r file (chunks_used r.pairs file) chunk (used_contains r.pairs file chunk any))

-- items that stand in some pair are below its bounds
file_below : (r : RecipeValue) (file chunk : ℕ) → IsRecipe r → list_any (is_pair file chunk) r.pairs ≡ true → file < length r.files
file_below r file chunk h any =
    let p = place (is_pair file chunk) r.pairs any in
    let both = and_parts (file == p.item.0) (chunk == p.item.1) p.passes in
    let one = eqb-true file p.item.0 both.0 in
    let below = (All-contains (IsPairBelow (length r.files) (length r.chunks)) r.pairs p.item h.pairs (contains_at r.pairs _ p.item p.at)).file in
    omega (arith, one, below)

-- a chunk that is there and keeps its size is one of the chunks
contains_kept : (r : RecipeValue) (c : NamedChunk) → list_any (is_chunk c.name) r.chunks ≡ true → KeepsSize r (Some c) → Contains r.chunks c
contains_kept r c any keeps =
    let p = place (is_chunk c.name) r.chunks any in
    let there = contains_at r.chunks _ p.item p.at in
    let name : p.item.name ≡ c.name = sym (same_text c.name p.item.name (sym p.passes)) in
    let size : p.item.size ≡ c.size = keeps p.item there name in
    let Within : NamedChunk → Type 0 = λ k. Contains r.chunks k in
    subst Within (λ i. record { name = name i; size = size i }) there

same_chunks : (r back : RecipeValue) (n : ℕ) → IsRecipe r → SoFar (said_all r) back → IsPart r back n → (c : NamedChunk) → Contains r.chunks c ↔ Contains back.chunks c
same_chunks r back n h so_far part c = (
  λ there.
      let u = h.used there.0 there.1 in
      let row = row_at r u.0 there.0 in
      let in_rows = said_contains r u.0 there.0 (file_below r u.0 there.0 h u.1) u.1 in
      let stands = All-contains (Stands back) (said_all r) row so_far.stands in_rows in
      let keeps = All-contains (λ (row : Row). KeepsSize back row.chunk) (said_all r) row so_far.gathers.sizes in_rows in
      let is : chunk_at r there.0 ≡ c = get_or_default r.chunks there.0 (record { name = []; size = 0 }) c there.1 ∙ there.2 in
      let Within : NamedChunk → Type 0 = λ k. Contains back.chunks k in
      subst Within is (contains_kept back (chunk_at r there.0) stands.chunk keeps),
  part.chunks c,
)

-- ---- the files, in order

push_all : {X : Type 0} → (X → X → Bool) → List X → List X → List X
push_all same front [] = front
push_all same front (y ∷ ys) = push_all same (with_new (same y) front y) ys

firsts-append : {X : Type 0} (same : X → X → Bool) → IsEquivalence same → (xs ys : List X) → firsts same (xs ++ ys) ≡ push_all same (firsts same xs) ys
unfolding push_all
firsts-append same laws xs [] = ap (firsts same) (append-nil xs)
firsts-append same laws xs (y ∷ ys) =
    ap (firsts same) (sym (append_assoc xs (y ∷ []) ys)) ∙ (firsts-append same laws (xs ++ y ∷ []) ys ∙ ap (λ t. push_all same t ys) (firsts-push same laws xs y))

-- a name that is there already, over and over
push_known : (front : List (List ℕ)) (name : List ℕ) (r : RecipeValue) (file : ℕ) (chunks : List ℕ) → list_any (is_named name) front ≡ true → file_at r file ≡ name
    → push_all is_named front (map (λ (row : Row). row.file) (map (row_at r file) chunks)) ≡ front
unfolding push_all
push_known front name r file [] known is = refl
push_known front name r file (chunk ∷ chunks) known is = rw (is, known) (push_known front name r file chunks known is)

push_file : (front : List (List ℕ)) (r : RecipeValue) (file : ℕ) (chunks : List ℕ) → list_any (is_named (file_at r file)) front ≡ false
    → push_all is_named front (map (λ (row : Row). row.file) (said_of r file chunks)) ≡ front ++ file_at r file ∷ []
unfolding push_all
push_file front r file [] new = rw new refl
push_file front r file (chunk ∷ chunks) new =
    let name = file_at r file in
    let put : with_new (is_named name) front name ≡ front ++ name ∷ [] = rw new refl in
    ap (λ t. push_all is_named t (map (λ (row : Row). row.file) (map (row_at r file) chunks))) put
    ∙ push_known (front ++ name ∷ []) name r file chunks (any_last (is_named name) front name (named_equiv.refl name)) refl

-- the first files, and one more
new_name : (files : List (List ℕ)) (n : ℕ) → IsDistinct is_named files → n < length files → list_any (is_named (get_or files n [])) (take n files) ≡ false
new_name files n distinct within =
    list_any_none (is_named (get_or files n [])) (take n files) (λ k d lt.
    let short = length-take-le n files (omega arith) in
    let below : k < n = omega (arith, short) in
    let apart = apart_from_distinct is_named files k n d distinct below within in
    let here = get_or-take n files k d below in
    let there = get_or_default files n d [] within in
    named_equiv.symm (get_or files n []) (get_or (take n files) k d) ∙ rw (here, ← there) apart)

files_said : (r : RecipeValue) (n : ℕ) → IsRecipe r → n ≤ length r.files → firsts is_named (map (λ (row : Row). row.file) (said r (range_with_len 0 n))) ≡ take n r.files
files_said r zero h within = refl
files_said r (suc n) h within =
    let file : Row → List ℕ = λ row. row.file in
    let one : suc n ≡ n + 1 = omega arith in
    let before = files_said r n h (omega arith) in
    let split : said r (range_with_len 0 (n + 1)) ≡ said r (range_with_len 0 n) ++ said_of r n (chunks_used r.pairs n) =
    ap (said r) (range-more n) ∙ (flat_map-append (λ file. said_of r file (chunks_used r.pairs file)) (range_with_len 0 n) (n ∷ []) ∙ ap (λ t. said r (range_with_len 0 n) ++ t) (append-nil (said_of r n (chunks_used r.pairs n)))) in
    let First : ℕ → Type 0 = λ k. firsts is_named (map file (said r (range_with_len 0 k))) ≡ take k r.files in
    subst First (sym one) (ap (λ t. firsts is_named (map file t)) split
    ∙ (ap (firsts is_named) (map-append file (said r (range_with_len 0 n)) (said_of r n (chunks_used r.pairs n)))
    ∙ (firsts-append is_named named_equiv (map file (said r (range_with_len 0 n))) (map file (said_of r n (chunks_used r.pairs n)))
    ∙ (ap (λ t. push_all is_named t (map file (said_of r n (chunks_used r.pairs n)))) before
    ∙ (push_file (take n r.files) r n (chunks_used r.pairs n) (new_name r.files n h.files_differ (omega arith)) ∙ sym (take_more r.files n [] (omega arith)))))))

same_files : (r back : RecipeValue) → IsRecipe r → SoFar (said_all r) back → back.files ≡ r.files
unfolding said_all
same_files r back h so_far = so_far.gathers.files ∙ (files_said r (length r.files) h (omega arith) ∙ take_all (length r.files) r.files (omega arith))

-- ---- the pairs, by name

-- a row of the recipe that names a chunk names a pair of it
record IsFromPair (r : RecipeValue) (row : Row) : Type 0 where
  from : (c : NamedChunk) → row.chunk ≡ Some c → (pair : ℕ × ℕ) × Contains r.pairs pair × (row ≡ row_at r pair.0 pair.1)

used_pair : (pairs : List (ℕ × ℕ)) (file chunk : ℕ) → Contains (chunks_used pairs file) chunk → Contains pairs (file, chunk)
used_pair [] file chunk there = absurd (omega (arith, there.1))
used_pair (p ∷ pairs) file chunk there = elim (cases_Bool (p.0 == file)) [
  | inl t ↦ elim (cons_cases p.1 (chunks_used pairs file) chunk (rw t at there)) [
    | inl own ↦ let one = eqb-true p.0 file t in let same : p ≡ (file, chunk) = λ i. (one i, own i) in rw (← same) (contains_head p pairs)
    | inr behind ↦ contains_tail p pairs (file, chunk) (used_pair pairs file chunk behind)
  ]
  | inr f ↦ contains_tail p pairs (file, chunk) (used_pair pairs file chunk (rw f at there))
]

contains-map_from : {X Y : Type 0} (f : X → Y) (xs : List X) (y : Y) → Contains (map f xs) y → (x : X) × Contains xs x × (y ≡ f x)
contains-map_from f [] y there = absurd (omega (arith, there.1))
contains-map_from f (x ∷ xs) y there = elim (cons_cases (f x) (map f xs) y there) [
  | inl own ↦ (x, contains_head x xs, sym own)
  | inr behind ↦ let r = contains-map_from f xs y behind in (r.0, contains_tail x xs r.0 r.1, r.2)
]

from_file : (r : RecipeValue) (file : ℕ) (chunks : List ℕ) → ((chunk : ℕ) → Contains chunks chunk → Contains r.pairs (file, chunk)) → (row : Row) → Contains (said_of r file chunks) row → IsFromPair r row
from_file r file [] within row there = elim (cons_cases (record { file = file_at r file; chunk = None }) [] row there) [
  | inl own ↦ record { from = λ c is. cc (own, is) }
  | inr none ↦ absurd (omega (arith, none.1))
]
from_file r file (chunk ∷ chunks) within row there =
    let from = contains-map_from (row_at r file) (chunk ∷ chunks) row there in
    record { from = λ c is. ((file, from.0), within from.0 from.1, from.2) }

flat_from : {Y : Type 0} (f : ℕ → List Y) (files : List ℕ) (y : Y) → Contains (flat_map f files) y → (file : ℕ) × Contains (f file) y
flat_from f [] y there = absurd (omega (arith, there.1))
flat_from f (file ∷ files) y there = elim (Contains-append_cases (f file) (flat_map f files) y there) [ inl here ↦ (file, here) | inr later ↦ flat_from f files y later ]

said_from : (r : RecipeValue) (row : Row) → Contains (said_all r) row → IsFromPair r row
unfolding said_all
said_from r row there =
    let f = flat_from (λ file. said_of r file (chunks_used r.pairs file)) (range_with_len 0 (length r.files)) row there in
    from_file r f.0 (chunks_used r.pairs f.0) (used_pair r.pairs f.0) row f.1

contains-filter : {X : Type 0} (p : X → Bool) (xs : List X) (y : X) → Contains xs y → p y ≡ true → Contains (filter p xs) y
contains-filter p [] y there keep = absurd (omega (arith, there.1))
contains-filter p (x ∷ xs) y there keep = elim (cons_cases x xs y there) [
  | inl own ↦ let k = keep in rw (own, k) (contains_head y (filter p xs))
  | inr behind ↦
      let rest = contains-filter p xs y behind keep in
      elim (cases_Bool (p x)) [ inl t ↦ rw t (contains_tail x (filter p xs) y rest) | inr f ↦ rw f rest ]
]

contains-filter_from : {X : Type 0} (p : X → Bool) (xs : List X) (y : X) → Contains (filter p xs) y → Contains xs y
contains-filter_from p [] y there = there
contains-filter_from p (x ∷ xs) y there = elim (cases_Bool (p x)) [
  | inl t ↦ elim (cons_cases x (filter p xs) y (rw t at there)) [ inl own ↦ rw (← own) (contains_head x xs) | inr behind ↦ contains_tail x xs y (contains-filter_from p xs y behind) ]
  | inr f ↦ contains_tail x xs y (contains-filter_from p xs y (rw f at there))
]

contains-firsts : {X : Type 0} (same : X → X → Bool) → ((x y : X) → same x y ≡ true → x ≡ y) → (xs : List X) (y : X) → Contains xs y → Contains (firsts same xs) y
contains-firsts same exact [] y there = absurd (omega (arith, there.1))
contains-firsts same exact (x ∷ xs) y there = elim (cons_cases x xs y there) [
  | inl own ↦ rw (← own) (contains_head x (filter (λ z. not (same x z)) (firsts same xs)))
  | inr behind ↦ elim (cases_Bool (same x y)) [
    | inl t ↦ rw (← exact x y t) (contains_head x (filter (λ z. not (same x z)) (firsts same xs)))
    | inr f ↦
        contains_tail x (filter (λ z. not (same x z)) (firsts same xs)) y
        (contains-filter (λ z. not (same x z)) (firsts same xs) y (contains-firsts same exact xs y behind) (ap not f))
  ]
]

contains-firsts_from : {X : Type 0} (same : X → X → Bool) (xs : List X) (y : X) → Contains (firsts same xs) y → Contains xs y
contains-firsts_from same [] y there = there
contains-firsts_from same (x ∷ xs) y there = elim (cons_cases x (filter (λ z. not (same x z)) (firsts same xs)) y there) [
  | inl own ↦ rw (← own) (contains_head x xs)
  | inr behind ↦ contains_tail x xs y (contains-firsts_from same xs y (contains-filter_from (λ z. not (same x z)) (firsts same xs) y behind))
]

contains-filter_map : {X Y : Type 0} (h : X → Option Y) (xs : List X) (x : X) (y : Y) → Contains xs x → h x ≡ Some y → Contains (filter_map h xs) y
contains-filter_map h [] x y there is = absurd (omega (arith, there.1))
contains-filter_map {X} {Y} h (z ∷ xs) x y there is = elim (cons_cases z xs x there) [
  | inl own ↦ let here : h z ≡ Some y = ap h own ∙ is in rw here (contains_head y (filter_map h xs))
  | inr behind ↦ past (h z) (contains-filter_map h xs x y behind is)
]
  where
    past : (o : Option Y) → Contains (filter_map h xs) y → Contains (cons_option o (filter_map h xs)) y
    past None rest = rest
    past (Some w) rest = contains_tail w (filter_map h xs) y rest

contains-filter_map_from : {X Y : Type 0} (h : X → Option Y) (xs : List X) (y : Y) → Contains (filter_map h xs) y → (x : X) × Contains xs x × (h x ≡ Some y)
contains-filter_map_from h [] y there = absurd (omega (arith, there.1))
contains-filter_map_from {X} {Y} h (z ∷ xs) y there = go (h z) refl (λ rest. contains-filter_map_from h xs y rest) there
  where
    later : (x : X) × Contains xs x × (h x ≡ Some y) → (x : X) × Contains (z ∷ xs) x × (h x ≡ Some y)
    later r = (r.0, contains_tail z xs r.0 r.1, r.2)

    go : (o : Option Y) → h z ≡ o → (Contains (filter_map h xs) y → (x : X) × Contains xs x × (h x ≡ Some y)) → Contains (cons_option o (filter_map h xs)) y
        → (x : X) × Contains (z ∷ xs) x × (h x ≡ Some y)
    go None is more rest = later (more rest)
    go (Some w) is more rest = elim (cons_cases w (filter_map h xs) y rest) [ inl own ↦ (z, contains_head z xs, is ∙ ap Some own) | inr behind ↦ later (more behind) ]

exact_pair : (p q : ℕ × ℕ) → is_pair p.0 p.1 q ≡ true → p ≡ q
exact_pair p q e = let both = and_parts (p.0 == q.0) (p.1 == q.1) e in let one = eqb-true p.0 q.0 both.0 in let two = eqb-true p.1 q.1 both.1 in λ i. (one i, two i)

-- the names of the numbers that a row gets
file_by_number : (back : RecipeValue) (name : List ℕ) → list_any (is_named name) back.files ≡ true → slice_get back.files (file_number back.files name) ≡ Some name
file_by_number back name any = let p = place (is_named name) back.files any in p.at ∙ ap Some (sym (same_text name p.item (sym p.passes)))

chunk_by_number : (back : RecipeValue) (name : List ℕ) → list_any (is_chunk name) back.chunks ≡ true → slice_get (map (λ (c : NamedChunk). c.name) back.chunks) (chunk_number back.chunks name) ≡ Some name
chunk_by_number back name any =
    let p = place (is_chunk name) back.chunks any in
    slice_get-map (λ (c : NamedChunk). c.name) back.chunks (chunk_number back.chunks name) ∙ (ap (option_map (λ (c : NamedChunk). c.name)) p.at ∙ ap Some (sym (same_text name p.item.name (sym p.passes))))

pair_read : (r back : RecipeValue) → IsRecipe r → SoFar (said_all r) back → (file chunk : List ℕ) → UsesByName r file chunk → UsesByName back file chunk
pair_read r back h so_far file chunk u =
    let p = u.pair in
    let none : NamedChunk = record { name = []; size = 0 } in
    let below = All-contains (IsPairBelow (length r.files) (length r.chunks)) r.pairs p h.pairs u.stands in
    let row = row_at r p.0 p.1 in
    let in_rows = said_contains r p.0 p.1 below.file (list_any-from_Contains pair_equiv p r.pairs u.stands) in
    let stands = All-contains (Stands back) (said_all r) row so_far.stands in_rows in
    let is_file : row.file ≡ file = get_or_from_slice_get r.files p.0 file [] u.file_named in
    let is_chunk_name : (chunk_at r p.1).name ≡ chunk =
    sym (get_or-map (λ (c : NamedChunk). c.name) r.chunks p.1 none [] below.chunk) ∙ get_or_from_slice_get (map (λ (c : NamedChunk). c.name) r.chunks) p.1 chunk [] u.chunk_named in
    let pair : ℕ × ℕ = (file_number back.files row.file, chunk_number back.chunks (chunk_at r p.1).name) in
    let named = contains-filter_map (pair_named back) (said_all r) row pair in_rows refl in
    let Within : List (ℕ × ℕ) → Type 0 = λ t. Contains t pair in
    record {
      pair = pair;
      stands = subst Within (sym so_far.gathers.pairs) (contains-firsts (λ (p : ℕ × ℕ). is_pair p.0 p.1) exact_pair (filter_map (pair_named back) (said_all r)) pair named);
      file_named = file_by_number back row.file stands.file ∙ ap Some is_file;
      chunk_named = chunk_by_number back (chunk_at r p.1).name stands.chunk ∙ ap Some is_chunk_name;
    }

pair_from : (r back : RecipeValue) → IsRecipe r → SoFar (said_all r) back → (file chunk : List ℕ) (u : UsesByName back file chunk) (row : Row) (o : Option NamedChunk) → row.chunk ≡ o
    → Contains (said_all r) row → pair_named back row ≡ Some u.pair → UsesByName r file chunk
pair_from r back h so_far file chunk u row None is there named = cc (rw is at named)
pair_from r back h so_far file chunk u row (Some c) is there named =
    let none : NamedChunk = record { name = []; size = 0 } in
    let f = (said_from r row there).from c is in
    let p = f.0 in
    let below = All-contains (IsPairBelow (length r.files) (length r.chunks)) r.pairs p h.pairs f.1 in
    let stands = All-contains (Stands back) (said_all r) row so_far.stands there in
    let known : list_any (is_chunk c.name) back.chunks ≡ true = rw is at stands.chunk in
    let numbers : (file_number back.files row.file, chunk_number back.chunks c.name) ≡ u.pair = cc (rw is at named) in
    let one : file_number back.files row.file ≡ u.pair.0 = λ i. (numbers i).0 in
    let two : chunk_number back.chunks c.name ≡ u.pair.1 = λ i. (numbers i).1 in
    let is_file : row.file ≡ file = cc (sym (file_by_number back row.file stands.file) ∙ (ap (slice_get back.files) one ∙ u.file_named)) in
    let is_name : c.name ≡ chunk = cc (sym (chunk_by_number back c.name known) ∙ (ap (slice_get (map (λ (c : NamedChunk). c.name) back.chunks)) two ∙ u.chunk_named)) in
    let own_file : row.file ≡ file_at r p.0 = ap (λ (row : Row). row.file) f.2 in
    let own_chunk : Some c ≡ Some (chunk_at r p.1) = sym is ∙ ap (λ (row : Row). row.chunk) f.2 in
    let chunk_is : c ≡ chunk_at r p.1 = cc own_chunk in
    record {
      pair = p;
      stands = f.1;
      file_named = slice_get-get_or r.files p.0 [] below.file ∙ ap Some (sym own_file ∙ is_file);
      chunk_named = slice_get-map (λ (c : NamedChunk). c.name) r.chunks p.1 ∙ (ap (option_map (λ (c : NamedChunk). c.name)) (slice_get-get_or r.chunks p.1 none below.chunk)
          ∙ ap Some (ap (λ (c : NamedChunk). c.name) (sym chunk_is) ∙ is_name));
    }

same_pairs : (r back : RecipeValue) → IsRecipe r → SoFar (said_all r) back → (file chunk : List ℕ) → UsesByName r file chunk ↔ UsesByName back file chunk
same_pairs r back h so_far file chunk = (
  pair_read r back h so_far file chunk,
  λ u.
      let Within : List (ℕ × ℕ) → Type 0 = λ t. Contains t u.pair in
      let first = subst Within so_far.gathers.pairs u.stands in
      let row = contains-filter_map_from (pair_named back) (said_all r) u.pair (contains-firsts_from (λ (p : ℕ × ℕ). is_pair p.0 p.1) (filter_map (pair_named back) (said_all r)) u.pair first) in
      pair_from r back h so_far file chunk u row.0 row.0.chunk refl row.1 row.2,
)

pub same_recipe : (r back : RecipeValue) (n : ℕ) → IsRecipe r → SoFar (said_all r) back → IsPart r back n → IsSameRecipe r back
same_recipe r back n h so_far part = record { files = same_files r back h so_far; chunks = same_chunks r back n h so_far part; pairs = same_pairs r back h so_far }
