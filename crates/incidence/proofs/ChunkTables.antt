-- A recipe with a class for each chunk is a table.
use Rattle.std.proofs.Common.{◌≡◌, ◌≢◌, ◌∙◌, ◌+◌, ◌<◌, ◌≤◌, ◌∷◌, [], ◌++◌, ℕ, List, Bool, true, false, refl, sym, ap, length, get_or, arith, inl, inr, append_assoc}
use Rattle.std.specs.Prelude.{◌==◌, ◌&&◌, ◌||◌, filter, map, sum, sum_by, if◌then◌else◌, zero, suc}
use Rattle.std.specs.List.{list_any, range_with_len, AllByRecursion}
use Rattle.std.specs.List.Sorted.{IsStrictlyIncreasing}
use Rattle.std.proofs.lemmas.Bool.{cases_Bool, eqb-true}
use Rattle.std.proofs.lemmas.Bool.Decides.{nat_tests}
use Rattle.std.proofs.lemmas.List.Elements.{All-filter, recursion_from_All, All-from_recursion}
use Rattle.std.proofs.lemmas.List.Sums.{sum_by-cons, sum-map, sum_by-le-sum_by}
use Rattle.std.proofs.lemmas.List.{length-map, length-append}
use Rattle.std.proofs.Math.Seq.{get_or-append_seam}
use Rattle.std.proofs.lemmas.List.Kept.{IsStrictlyIncreasing-filter}
use Rattle.std.proofs.lemmas.List.FromFn.{length-range_with_len, length-map-range_with_len, get_or-range_with_len}
use Rattle.seed_model.specs.declared.table.Class.{Class}
use Rattle.seed_model.specs.Tables.{IsTable, IsClass}
use Rattle.recipe_reader.specs.Lawful.{IsRecipe, IsPairBelow}
use Rattle.recipe_reader.specs.Recipes.{NamedChunk, RecipeValue, is_pair, size_at, bytes_of, chunk_class, table_of}

pub sum_by-map : {X Y : Type 0} (g : Y → ℕ) (f : X → Y) (xs : List X) → sum_by g (map f xs) ≡ sum_by (λ x. g (f x)) xs
sum_by-map g f [] = refl
sum_by-map g f (x ∷ xs) = sum_by-cons g (f x) (map f xs) ∙ (ap (λ (n : ℕ). g (f x) + n) (sum_by-map g f xs) ∙ sym (sum_by-cons (λ x. g (f x)) x xs))

-- a list read place by place
reads_from : (front xs : List ℕ) → map (λ c. get_or (front ++ xs) c 0) (range_with_len (length front) (length xs)) ≡ xs
reads_from front [] = refl
reads_from front (x ∷ xs) =
    let longer : length (front ++ x ∷ []) ≡ length front + 1 = length-append front (x ∷ []) in
    let rest = reads_from (front ++ x ∷ []) xs in
    let rest_all = rw (append_assoc front (x ∷ []) xs, longer) at rest in
    rw (get_or-append_seam front x xs 0) (ap (λ (t : List ℕ). x ∷ t) rest_all)

pub reads : (xs : List ℕ) → map (λ c. get_or xs c 0) (range_with_len 0 (length xs)) ≡ xs
reads xs = reads_from [] xs

sizes : (recipe : RecipeValue) → sum_by (λ (c : Class). c.size) (table_of recipe).classes ≡ bytes_of recipe
sizes recipe =
    let ks = map (λ (k : NamedChunk). k.size) recipe.chunks in
    let len : length ks ≡ length recipe.chunks = length-map recipe.chunks (λ (k : NamedChunk). k.size) in
    sum_by-map (λ (c : Class). c.size) (chunk_class recipe) (range_with_len 0 (length recipe.chunks))
    ∙ (sym (sum-map (size_at recipe) (range_with_len 0 (length recipe.chunks)))
    ∙ (ap (λ (n : ℕ). sum (map (λ c. get_or ks c 0) (range_with_len 0 n))) (sym len)
    ∙ (ap sum (reads ks) ∙ sum-map (λ (k : NamedChunk). k.size) recipe.chunks)))

-- how many of the numbers from a on are one number
ones_past : (k a n : ℕ) → k < a → sum_by (λ c. if c == k then 1 else 0) (range_with_len a n) ≡ 0
ones_past k a zero past = refl
ones_past k a (suc n) past =
    let other : (a == k) ≡ false = grind (arith, nat_tests) in
    sum_by-cons (λ c. if c == k then 1 else 0) a (range_with_len (a + 1) n) ∙ rw (other, ones_past k (a + 1) n (omega arith)) refl

ones : (k a n : ℕ) → sum_by (λ c. if c == k then 1 else 0) (range_with_len a n) ≤ 1
ones k a zero = omega arith
ones k a (suc n) = rw (sum_by-cons (λ c. if c == k then 1 else 0) a (range_with_len (a + 1) n)) (elim (cases_Bool (a == k)) [
  | inl t ↦
      let is = eqb-true a k t in
      rw (t, ones_past k (a + 1) n (omega (arith, is))) (omega arith)
  | inr f ↦ rw f (omega (arith, ones k (a + 1) n))
])

-- how many files use a chunk
uses : List (ℕ × ℕ) → ℕ → ℕ → ℕ
uses pairs files chunk = length (filter (λ file. list_any (is_pair file chunk) pairs) (range_with_len 0 files))

length-filter_or : (a b : ℕ → Bool) (xs : List ℕ) → length (filter (λ x. a x || b x) xs) ≤ length (filter a xs) + length (filter b xs)
length-filter_or a b [] = omega arith
length-filter_or a b (x ∷ xs) =
    let rest = length-filter_or a b xs in
    elim (cases_Bool (a x)) [
      | inl t ↦ elim (cases_Bool (b x)) [ inl u ↦ rw (t, u) (omega (arith, rest)) | inr u ↦ rw (t, u) (omega (arith, rest)) ]
      | inr f ↦ elim (cases_Bool (b x)) [ inl u ↦ rw (f, u) (omega (arith, rest)) | inr u ↦ rw (f, u) (omega (arith, rest)) ]
    ]

filter-none : (xs : List ℕ) → filter (λ x. false) xs ≡ []
filter-none [] = refl
filter-none (x ∷ xs) = filter-none xs

-- one pair gives a chunk one file more at most
found_past : (file a n : ℕ) → file < a → length (filter (λ x. x == file) (range_with_len a n)) ≡ 0
found_past file a zero past = refl
found_past file a (suc n) past =
    let other : (a == file) ≡ false = grind (arith, nat_tests) in
    rw other (found_past file (a + 1) n (omega arith))

found_once : (file a n : ℕ) → length (filter (λ x. x == file) (range_with_len a n)) ≤ 1
found_once file a zero = omega arith
found_once file a (suc n) = elim (cases_Bool (a == file)) [
  | inl t ↦
      let is = eqb-true a file t in
      rw t (omega (arith, found_past file (a + 1) n (omega (arith, is))))
  | inr f ↦ rw f (found_once file (a + 1) n)
]

and_true_test : (file : ℕ) (xs : List ℕ) → filter (λ x. (x == file) && true) xs ≡ filter (λ x. x == file) xs
and_true_test file [] = refl
and_true_test file (x ∷ xs) = elim (cases_Bool (x == file)) [ inl t ↦ rw t (ap (λ (l : List ℕ). x ∷ l) (and_true_test file xs)) | inr f ↦ rw f (and_true_test file xs) ]

and_false_test : (file : ℕ) (xs : List ℕ) → filter (λ x. (x == file) && false) xs ≡ []
and_false_test file [] = refl
and_false_test file (x ∷ xs) = elim (cases_Bool (x == file)) [ inl t ↦ rw t (and_false_test file xs) | inr f ↦ rw f (and_false_test file xs) ]

uses_of_one : (p : ℕ × ℕ) (files chunk : ℕ) → length (filter (λ file. is_pair file chunk p) (range_with_len 0 files)) ≤ (if chunk == p.1 then 1 else 0)
uses_of_one p files chunk = elim (cases_Bool (chunk == p.1)) [
  | inl t ↦ rw (t, and_true_test p.0 (range_with_len 0 files)) (found_once p.0 0 files)
  | inr f ↦ rw (f, and_false_test p.0 (range_with_len 0 files)) (omega arith)
]

uses_more : (p : ℕ × ℕ) (pairs : List (ℕ × ℕ)) (files chunk : ℕ) → uses (p ∷ pairs) files chunk ≤ (if chunk == p.1 then 1 else 0) + uses pairs files chunk
unfolding uses
uses_more p pairs files chunk =
    omega (arith, length-filter_or (λ file. is_pair file chunk p) (λ file. list_any (is_pair file chunk) pairs) (range_with_len 0 files), uses_of_one p files chunk)

sum_by-plus : (f g : ℕ → ℕ) (xs : List ℕ) → sum_by (λ x. f x + g x) xs ≡ sum_by f xs + sum_by g xs
sum_by-plus f g [] = refl
sum_by-plus f g (x ∷ xs) =
    omega (arith, sum_by-cons (λ x. f x + g x) x xs, sum_by-cons f x xs, sum_by-cons g x xs, sum_by-plus f g xs)

no_uses : (files : ℕ) (xs : List ℕ) → sum_by (uses [] files) xs ≡ 0
unfolding uses
no_uses files [] = refl
no_uses files (x ∷ xs) = omega (arith, sum_by-cons (uses [] files) x xs, ap length (filter-none (range_with_len 0 files)), no_uses files xs)

-- all uses together are as many as the pairs at most
all_uses : (pairs : List (ℕ × ℕ)) (files chunks : ℕ) → sum_by (uses pairs files) (range_with_len 0 chunks) ≤ length pairs
all_uses [] files chunks = omega (arith, no_uses files (range_with_len 0 chunks))
all_uses (p ∷ pairs) files chunks =
    let one : ℕ → ℕ = λ c. if c == p.1 then 1 else 0 in
    let step = sum_by-le-sum_by (uses (p ∷ pairs) files) (λ c. one c + uses pairs files c) (range_with_len 0 chunks) (uses_more p pairs files) in
    omega (arith, step, sum_by-plus one (uses pairs files) (range_with_len 0 chunks), ones p.1 0 chunks, all_uses pairs files chunks)

use_counts : (recipe : RecipeValue) → sum_by (λ (c : Class). length c.users) (table_of recipe).classes ≤ length recipe.pairs
unfolding uses
use_counts recipe = rw (sum_by-map (λ (c : Class). length c.users) (chunk_class recipe) (range_with_len 0 (length recipe.chunks))) (all_uses recipe.pairs (length recipe.files) (length recipe.chunks))

pub range-rises : (a n : ℕ) → IsStrictlyIncreasing (range_with_len a n)
range-rises a n = λ k lt.
    let len = length-range_with_len a n in
    rw (get_or-range_with_len a n k 0 (omega (arith, len)), get_or-range_with_len a n (k + 1) 0 (omega (arith, len))) (omega arith)

pub range-below : (a n end : ℕ) → a + n ≤ end → AllByRecursion (λ x. x < end) (range_with_len a n)
range-below a zero end le = tt
range-below a (suc n) end le = (omega arith, range-below (a + 1) n end (omega arith))

-- a number of the range that passes
kept_one : (p : ℕ → Bool) (a n x : ℕ) → a ≤ x → x < a + n → p x ≡ true → 0 < length (filter p (range_with_len a n))
kept_one p a zero x least most passes = absurd (omega arith)
kept_one p a (suc n) x least most passes = elim (cases_Bool (p a)) [
  | inl t ↦ rw t (omega arith)
  | inr f ↦
      let apart : a ≢ x = λ e. cc (ap p e, f, passes) in
      rw f (kept_one p (a + 1) n x (omega (arith, apart)) (omega arith) passes)
]

-- the file of a pair that stands is one of the files
pub file_below : (files chunks file chunk : ℕ) (pairs : List (ℕ × ℕ)) → AllByRecursion (IsPairBelow files chunks) pairs → list_any (is_pair file chunk) pairs ≡ true → file < files
file_below files chunks file chunk [] all any = cc any
file_below files chunks file chunk (p ∷ pairs) all any = elim (cases_Bool (file == p.0)) [
  | inl t ↦ omega (arith, eqb-true file p.0 t, all.0.file)
  | inr f ↦ file_below files chunks file chunk pairs all.1 (rw f at any)
]

chunk_is_class : (recipe : RecipeValue) (chunk : ℕ) → IsRecipe recipe → chunk < length recipe.chunks → IsClass (length recipe.files) (chunk_class recipe chunk)
chunk_is_class recipe chunk r lt =
    let files = length recipe.files in
    let test = λ (file : ℕ). list_any (is_pair file chunk) recipe.pairs in
    let user = r.used chunk lt in
    let below = file_below files (length recipe.chunks) user.0 chunk recipe.pairs (recursion_from_All (IsPairBelow files (length recipe.chunks)) recipe.pairs r.pairs) user.1 in
    record {
      used = kept_one test 0 files user.0 (omega arith) (omega (arith, below)) user.1;
      rising = IsStrictlyIncreasing-filter test (range_with_len 0 files) (range-rises 0 files);
      below = All-filter test (λ file. file < files) (range_with_len 0 files) (All-from_recursion (λ file. file < files) (range_with_len 0 files) (range-below 0 files files (omega arith)));
    }

classes_from : (recipe : RecipeValue) (a n : ℕ) → IsRecipe recipe → a + n ≤ length recipe.chunks → AllByRecursion (IsClass (length recipe.files)) (map (chunk_class recipe) (range_with_len a n))
classes_from recipe a zero r le = tt
classes_from recipe a (suc n) r le = (chunk_is_class recipe a r (omega arith), classes_from recipe (a + 1) n r (omega arith))

pub is_table : (recipe : RecipeValue) → IsRecipe recipe → IsTable (table_of recipe)
is_table recipe r = record {
  files = r.limits.files;
  classes = omega (arith, length-map-range_with_len (chunk_class recipe) 0 (length recipe.chunks), r.limits.chunks);
  pairs = omega (arith, use_counts recipe, r.limits.pairs);
  bytes = omega (arith, sizes recipe, r.limits.bytes);
  each = All-from_recursion (IsClass (length recipe.files)) (table_of recipe).classes (classes_from recipe 0 (length recipe.chunks) r (omega arith));
}
