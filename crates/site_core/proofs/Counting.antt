-- Files that are among others keep the limits of a recipe where those do; and the lengths of chunks never decide.
use Rattle.std.proofs.Common.{◌≡◌, ◌⊎◌, inl, inr, ⊎_elim, ℕ, zero, suc, ◌-◌, ◌*◌, ◌^◌, ◌≤◌, List, [], ◌∷◌, length, Bool, true, false, cond, Option, Some, None, refl, sym, ◌∙◌, ap, arith}
use Rattle.std.specs.Prelude.{All, is_some, ◌&&◌, nat_le, sum_by, unwrap_or}
use Rattle.std.specs.Ordering.{is_eq}
use Rattle.std.specs.Cmp.{tied_itself}
use Rattle.std.specs.Cmp.Lexicographic.{nat_list_cmp_total, texts_ties}
use Rattle.std.specs.declared.cmp.Ordering.{Ordering}
use Rattle.std.specs.FinMap as map
use Rattle.std.proofs.lemmas.Bool.{and_parts, and_from, leb-true, le-leb}
use Rattle.std.proofs.lemmas.List.{length-map}
use Rattle.std.proofs.lemmas.List.Sums.{sum_by-cons}
use Rattle.seed_model.specs.declared.limits.TheConstants.{MOST_FILES, MOST_CHUNKS, MOST_PAIRS, MOST_BYTES}
use Rattle.site_forms.specs.Sites.{length_in}
use Rattle.site_forms.specs.Volumes.{bytes_cmp, Files, Shape, used, distinct_count, pair_count, used_bytes, chunk_or, keeps_limits}
use Rattle.volume_index.proofs.Alls.{get_without, held_value, value_has}
use Rattle.volume_index.proofs.Users.{sum_remove}
use Rattle.site_core.proofs.Maps.{get_left, user_of, used_by}

-- MAPS WITHIN OTHERS

first_in : {X : Type 0} (m : map.FinMap bytes_cmp X) (es : List (List ℕ × X)) → map.entries m ≡ es → length es ≡ 0 ⊎ ((k : List ℕ) × (v : X) × (map.get m k ≡ Some v))
first_in m [] is = inl refl
first_in m (e ∷ es) is = inr (
  e.0,
  e.1,
  map.get-entries m e.0 ∙ ap (map.find bytes_cmp e.0) is ∙ ap (λ (o : Ordering). cond (is_eq o) (Some e.1) (map.find bytes_cmp e.0 es)) (tied_itself nat_list_cmp_total e.0),
)

-- a map that is not empty has an entry
pub some_entry : {X : Type 0} (m : map.FinMap bytes_cmp X) (n : ℕ) → map.len m ≡ suc n → (k : List ℕ) × (v : X) × (map.get m k ≡ Some v)
some_entry m n is = ⊎_elim (λ none. absurd (omega (arith, is, none, map.len-entries m))) (λ entry. entry) (first_in m (map.entries m) refl)

no_values : {X : Type 0} (m : map.FinMap bytes_cmp X) → map.len m ≡ 0 → map.values m ≡ []
no_values m is = none_in (map.values m) (omega (arith, is, map.len-entries m, length-map (map.entries m) (λ (e : List ℕ × _). e.1)))
  where
    none_in : {A : Type 0} (xs : List A) → length xs ≡ 0 → xs ≡ []
    none_in [] is = refl
    none_in (x ∷ xs) is = absurd (omega (arith, is))

module _ {X Y : Type 0} (f : X → ℕ) (g : Y → ℕ) where
  -- each entry of the first has one of the second, with no less
  abbrev pub IsWithin : map.FinMap bytes_cmp X → map.FinMap bytes_cmp Y → Type 0
  IsWithin m n = (q : List ℕ) (v : X) → map.get m q ≡ Some v → (w : Y) × (map.get n q ≡ Some w) × (f v ≤ g w)

  sum_by_size : (size : ℕ) (m : map.FinMap bytes_cmp X) (n : map.FinMap bytes_cmp Y) → map.len m ≡ size → IsWithin m n → sum_by f (map.values m) ≤ sum_by g (map.values n)
  sum_by_size zero m n is within =
      let none : sum_by f (map.values m) ≡ 0 = ap (sum_by f) (no_values m is) in
      omega (arith, none)
  sum_by_size (suc size) m n is within =
      let entry = some_entry m size is in
      let other = within entry.0 entry.1 entry.2 in
      let held : map.contains_key m entry.0 ≡ true = ap is_some entry.2 in
      let fewer : map.len (map.remove m entry.0) ≡ size =
      map.len-remove nat_list_cmp_total m entry.0 ∙ ap (λ (b : Bool). cond b (map.len m - 1) (map.len m)) held ∙ omega (arith, is) in
      let rest = sum_by_size size (map.remove m entry.0) (map.remove n entry.0) fewer
      (get_without (λ q v. (w : Y) × (map.get (map.remove n entry.0) q ≡ Some w) × (f v ≤ g w)) m entry.0
      (λ q v apart found.
      let its = within q v found in
      (its.0, get_left n entry.0 q (texts_ties q entry.0 ∙ apart) ∙ its.1, its.2))) in
      let less = other.2 in
      omega (arith, sum_remove f m entry.0 entry.1 entry.2, sum_remove g n entry.0 other.0 other.1, rest, less)

  pub sum_within : (m : map.FinMap bytes_cmp X) (n : map.FinMap bytes_cmp Y) → IsWithin m n → sum_by f (map.values m) ≤ sum_by g (map.values n)
  sum_within m n within = sum_by_size (map.len m) m n refl within

ones : {X : Type 0} (xs : List X) → sum_by (λ x. 1) xs ≡ length xs
ones [] = refl
ones (x ∷ xs) = omega (arith, sum_by-cons (λ (y : _). 1) x xs, ones xs)

len_ones : {X : Type 0} (m : map.FinMap bytes_cmp X) → sum_by (λ x. 1) (map.values m) ≡ map.len m
len_ones m = ones (map.values m) ∙ length-map (map.entries m) (λ (e : List ℕ × _). e.1) ∙ sym (map.len-entries m)

-- keys that are among others are no more
pub len_within : {X Y : Type 0} (m : map.FinMap bytes_cmp X) (n : map.FinMap bytes_cmp Y) → ((q : List ℕ) → map.contains_key m q ≡ true → map.contains_key n q ≡ true) → map.len m ≤ map.len n
len_within {X} {Y} m n within =
    let sums = sum_within (λ (x : X). 1) (λ (y : Y). 1) m n (λ q v is.
    let held = held_value n q (within q (ap is_some is)) in
    (held.0, held.1, omega arith)) in
    omega (arith, sums, len_ones m, len_ones n)

-- LIMITS

-- the three counts
abbrev pub counts_fit : Files → Bool
counts_fit files = nat_le (map.len files) MOST_FILES && (nat_le (map.len (used files)) MOST_CHUNKS && nat_le (pair_count files) MOST_PAIRS)

-- files that are among others
abbrev pub AreAmong : Files → Files → Type 0
AreAmong files all = (name : List ℕ) (list : List (List ℕ)) → map.get files name ≡ Some list → map.get all name ≡ Some list

pub used_within : (files all : Files) → AreAmong files all → (q : List ℕ) → map.contains_key (used files) q ≡ true → map.contains_key (used all) q ≡ true
used_within files all among q is =
    let user = user_of files q is in
    used_by all user.0 user.1.0 q (among user.0 user.1.0 user.1.1) user.1.2

pub fewer_fit : (files all : Files) → AreAmong files all → counts_fit all ≡ true → counts_fit files ≡ true
fewer_fit files all among fit =
    let p = and_parts (nat_le (map.len all) MOST_FILES) _ fit in
    let q = and_parts (nat_le (map.len (used all)) MOST_CHUNKS) _ p.1 in
    let names = len_within files all (λ name held.
    let list = held_value files name held in
    ap is_some (among name list.0 list.1)) in
    let chunks = len_within (used files) (used all) (used_within files all among) in
    let pairs : pair_count files ≤ pair_count all = sum_within distinct_count distinct_count files all (λ name list is. (list, among name list is, omega arith)) in
    and_from (nat_le (map.len files) MOST_FILES) _ (le-leb (map.len files) MOST_FILES (omega (arith, names, leb-true (map.len all) MOST_FILES p.0)))
    (and_from (nat_le (map.len (used files)) MOST_CHUNKS) _ (le-leb (map.len (used files)) MOST_CHUNKS (omega (arith, chunks, leb-true (map.len (used all)) MOST_CHUNKS q.0)))
    (le-leb (pair_count files) MOST_PAIRS (omega (arith, pairs, leb-true (pair_count all) MOST_PAIRS q.1))))

sum_short : (f : List ℕ → ℕ) → ((x : List ℕ) → f x ≤ 2 ^ 20) → (xs : List (List ℕ)) → sum_by f xs ≤ length xs * 2 ^ 20
sum_short f short [] = omega arith
sum_short f short (x ∷ xs) = omega (arith, sum_by-cons f x xs, short x, sum_short f short xs)

and_true : (b : Bool) → b && true ≡ b
and_true true = refl
and_true false = refl

no_last : (a b c d : Bool) → (b ≡ true → d ≡ true) → a && (b && (c && d)) ≡ a && (b && c)
no_last a true c d follows = ap (λ (x : Bool). a && (true && (c && x))) (follows refl) ∙ ap (λ (x : Bool). a && (true && x)) (and_true c)
no_last a false c d follows = refl

-- chunks of at most 2^20 bytes never pass the limit of bytes
pub counts_decide : (f : List ℕ → ℕ) (files : Files) → ((x : List ℕ) → f x ≤ 2 ^ 20) → keeps_limits f files ≡ counts_fit files
counts_decide f files short =
    let keys = map.keys (used files) in
    let many : length keys ≡ map.len (used files) = length-map (map.entries (used files)) (λ (e : List ℕ × Unit {0}). e.0) ∙ sym (map.len-entries (used files)) in
    no_last (nat_le (map.len files) MOST_FILES) (nat_le (map.len (used files)) MOST_CHUNKS) (nat_le (pair_count files) MOST_PAIRS) (nat_le (used_bytes f files) MOST_BYTES)
    (λ few. le-leb (used_bytes f files) MOST_BYTES (omega (arith, leb-true (map.len (used files)) MOST_CHUNKS few, many, sum_short f short keys)))

abbrev pub AreShort : Shape → Type 0
AreShort shape = All (λ n. n ≤ 2 ^ 20) (map.values shape.chunks)

found_short : (shape : Shape) (o : Option ℕ) (chunk : List ℕ) (other : ℕ) → AreShort shape → map.get shape.chunks chunk ≡ o → other ≤ 2 ^ 20 → unwrap_or o other ≤ 2 ^ 20
found_short shape None chunk other most is less = less
found_short shape (Some n) chunk other most is less = value_has shape.chunks (λ k. k ≤ 2 ^ 20) most chunk n is

pub chunk_short : (shape : Shape) → AreShort shape → (chunk : List ℕ) → chunk_or 0 shape chunk ≤ 2 ^ 20
chunk_short shape most chunk = found_short shape (map.get shape.chunks chunk) chunk 0 most refl (omega arith)

pub length_short : (a b : Shape) → AreShort a → AreShort b → (chunk : List ℕ) → length_in a b chunk ≤ 2 ^ 20
length_short a b most_a most_b chunk = found_short a (map.get a.chunks chunk) chunk (chunk_or 0 b chunk) most_a refl (chunk_short b most_b chunk)
