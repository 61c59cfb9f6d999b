-- Chunks that no file uses: without the first one, and how many there are.
use Rattle.std.proofs.Common.{◌≡◌, ℕ, zero, suc, ◌+◌, ◌<◌, ◌≤◌, List, [], ◌∷◌, ◌++◌, length, get_or, Bool, true, false, cond, Some, refl, sym, ◌∙◌, ap, arith}
use Rattle.std.specs.Prelude.{not, ◌&&◌, ◌||◌, ◌==◌, slice_get}
use Rattle.std.specs.List.{filter, remove}
use Rattle.std.specs.Cmp.{tied_itself}
use Rattle.std.specs.Cmp.Lexicographic.{nat_list_cmp_total}
use Rattle.std.specs.Str.{bytes_eq}
use Rattle.std.specs.declared.cmp.Ordering.TheVariants.{Less, Equal}
use Rattle.std.specs.FinMap as map
use Rattle.std.proofs.lemmas.Bool.{true≢false, false_from_ne_true, ne_eqb}
use Rattle.std.proofs.lemmas.Option.{none-some}
use Rattle.std.proofs.lemmas.List.Folds.{list_any-append}
use Rattle.site_forms.specs.Names.{is_listed}
use Rattle.site_forms.specs.Volumes.{bytes_cmp, Files, Shape, all_lists, used, distinct_count, without_chunk, without_file, with_chunk}
use Rattle.volume_index.specs.HoldingValues.{KeepsShape, held_bytes, orphans}
use Rattle.volume_index.specs.Users.{user_count}
use Rattle.volume_index.specs.declared.chunk_table.ListCounts.{ListCounts}
use Rattle.volume_index.specs.declared.index.Index.TheInside.{Inside}
use Rattle.volume_index.specs.ChunkTables.{CountsList}
use Rattle.volume_index.specs.IndexInside.{view_of, KeepsIndex}
use Rattle.volume_index.specs.MapValues.{map_values}
use Rattle.volume_index.proofs.Indexing.{len_of, list_held, counts_of, chunk_keys}
use Rattle.volume_index.proofs.Joins.{last_filter}
use Rattle.volume_index.proofs.Ranks.{keys_rise, count_keys, place_of, listed_at, keys_without, rank_of_place, less_no_equal}
use Rattle.volume_index.proofs.Sets.{ties_any, set_holds, same_sets, count_first, count_none, joined_count, listed_passes}
use Rattle.volume_index.proofs.Shapes.{lacking_unused}
use Rattle.volume_index.proofs.Users.{listed_users, sum_insert, sum_remove, users_without, used_without}

some_same : {X : Type 0} (x y : X) → Some x ≡ Some y → x ≡ y
some_same x y is = cc

-- WITHOUT THE FIRST

passed_over : (p : List ℕ → Bool) (x : List ℕ) (xs : List (List ℕ)) → p x ≡ false → filter p (x ∷ xs) ≡ filter p xs
passed_over p x xs fails = ap (λ (b : Bool). cond b (x ∷ filter p xs) (filter p xs)) fails

front_out : (p : List ℕ → Bool) (xs : List (List ℕ)) (c : List ℕ) → slice_get (filter p xs) 0 ≡ Some c
    → (k : ℕ) × (k < length xs) × (get_or xs k [] ≡ c) × (filter p xs ≡ c ∷ filter p (remove xs k))
front_out p [] c is = absurd (none-some c is)
front_out p (x ∷ xs) c is =
    elim (p x) as (λ b. p x ≡ b → slice_get (cond b (x ∷ filter p xs) (filter p xs)) 0 ≡ Some c
    → (k : ℕ) × (k < length (x ∷ xs)) × (get_or (x ∷ xs) k [] ≡ c) × (cond b (x ∷ filter p xs) (filter p xs) ≡ c ∷ filter p (remove (x ∷ xs) k))) [
      | true ↦ λ _ first. (zero, omega arith, some_same x c first, ap (λ (y : List ℕ). y ∷ filter p xs) (some_same x c first))
      | false ↦ λ fails later. let rest = front_out p xs c later in
          (suc rest.0, omega (arith, rest.1), rest.2, rest.3 ∙ ap (λ (l : List (List ℕ)). c ∷ l) (sym (passed_over p x (remove xs rest.0) fails)))
    ] refl is

pub orphan_out : (shape : Shape) (name : List ℕ) → slice_get (orphans shape) 0 ≡ Some name → orphans shape ≡ name ∷ orphans (without_chunk shape name)
orphan_out shape name is =
    let p : List ℕ → Bool = λ n. not (map.contains_key (used shape.files) n) in
    let keys = map.keys shape.chunks in
    let found = front_out p keys name is in
    let held : map.contains_key shape.chunks name ≡ true = map.contains_key-keys shape.chunks name ∙ listed_at name keys found.0 found.1 found.2 in
    found.3
    ∙ ap (λ (l : List (List ℕ)). name ∷ filter p l) (sym (keys_without shape.chunks name found.0 (rank_of_place shape.chunks name found.0 found.1 found.2) held))

-- HOW MANY

abbrev Rises : List (List ℕ) → Type 0
Rises xs = (i j : ℕ) → i < j → j < length xs → bytes_cmp (get_or xs i []) (get_or xs j []) ≡ Less

not_itself : (x y : List ℕ) → y ≡ x → bytes_cmp x y ≡ Less → Equal ≡ Less
not_itself x y same less = sym (tied_itself nat_list_cmp_total x) ∙ ap (bytes_cmp x) (sym same) ∙ less

first_apart : (x : List ℕ) (xs : List (List ℕ)) → Rises (x ∷ xs) → is_listed xs x ≡ false
first_apart x xs rises = false_from_ne_true (is_listed xs x) (λ listed.
    let place = place_of x xs (ties_any x xs ∙ listed) in
    absurd (less_no_equal (sym (not_itself x (get_or xs place.0 []) place.2 (rises zero (suc place.0) (omega arith) (omega (arith, place.1)))))))

and_no : (b c : Bool) → b ≡ false → (b && c) ≡ false
and_no true c is = absurd (true≢false is)
and_no false c is = refl

count_rising : (p : List ℕ → Bool) (xs : List (List ℕ)) → Rises xs → distinct_count (filter p xs) ≡ length (filter p xs)
count_rising p [] rises = count_none
count_rising p (x ∷ xs) rises =
    let rest = count_rising p xs (λ i j less inside. rises (suc i) (suc j) (omega (arith, less)) (omega (arith, inside))) in
    let new : is_listed (filter p xs) x ≡ false = listed_passes p xs x ∙ and_no (is_listed xs x) (p x) (first_apart x xs rises) in
    elim (p x) as (λ b. distinct_count (cond b (x ∷ filter p xs) (filter p xs)) ≡ length (cond b (x ∷ filter p xs) (filter p xs))) [
      | true ↦ omega (arith, count_first (filter p xs) x ∙ ap (λ (b : Bool). cond b (distinct_count (filter p xs)) (distinct_count (filter p xs) + 1)) new, rest)
      | false ↦ rest
    ]

all_pass : (xs : List (List ℕ)) → filter (λ _. true) xs ≡ xs
all_pass [] = refl
all_pass (x ∷ xs) = ap (λ (l : List (List ℕ)). x ∷ l) (all_pass xs)

or_implied : (a b : Bool) → (b ≡ true → a ≡ true) → (a || b) ≡ a
or_implied true b h = refl
or_implied false true h = absurd (true≢false (sym (h refl)))
or_implied false false h = refl

-- a volume whose files use only chunks that it holds
abbrev pub UsesHeld : Shape → Type 0
UsesHeld shape = (q : List ℕ) → is_listed (all_lists shape.files) q ≡ true → map.contains_key shape.chunks q ≡ true

pub counts_held : (shape : Shape) → UsesHeld shape → map.len shape.chunks ≡ map.len (used shape.files) + length (orphans shape)
counts_held shape held =
    let keys = map.keys shape.chunks in
    let base = all_lists shape.files in
    let rises = keys_rise shape.chunks in
    let p : List ℕ → Bool = λ n. not (map.contains_key (used shape.files) n) in
    let q : List ℕ → Bool = λ n. not (is_listed base n) in
    let same : p ≡ q = λ i n. not (set_holds base n i) in
    let key : (n : List ℕ) → map.contains_key shape.chunks n ≡ is_listed keys n = λ n. map.contains_key-keys shape.chunks n ∙ ties_any n keys in
    let whole : distinct_count keys ≡ length keys = ap distinct_count (sym (all_pass keys)) ∙ count_rising (λ _. true) keys rises ∙ ap length (all_pass keys) in
    let joined : distinct_count (keys ++ base) ≡ distinct_count keys =
    ap map.len (same_sets (keys ++ base) keys (λ n. list_any-append (bytes_eq n) keys base ∙ or_implied (is_listed keys n) (is_listed base n) (λ listed. sym (key n) ∙ held n listed))) in
    let few : distinct_count (filter q keys) ≡ length (orphans shape) = ap (λ (f : List ℕ → Bool). distinct_count (filter f keys)) (sym same) ∙ count_rising p keys rises in
    omega (arith, whole, joined, joined_count base keys, few, count_keys shape.chunks)

lacks_user : (b : Bool) (n : ℕ) → n ≡ 0 → b ≡ not (n == 0) → b ≡ true → true ≡ false
lacks_user b n none is holds = sym holds ∙ is ∙ ap (λ (k : ℕ). not (k == 0)) none

pub uses_held : (shape : Shape) → KeepsShape shape → UsesHeld shape
uses_held shape keeps q listed = by_cases (map.contains_key shape.chunks q) refl
  where
    by_cases : (b : Bool) → map.contains_key shape.chunks q ≡ b → b ≡ true
    by_cases true is = refl
    by_cases false is = absurd (true≢false (lacks_user (is_listed (all_lists shape.files) q) (user_count shape.files q) (lacking_unused shape q keeps is) (listed_users shape.files q) listed))

pub counts_shape : (shape : Shape) → KeepsShape shape → map.len shape.chunks ≡ map.len (used shape.files) + length (orphans shape)
counts_shape shape keeps = counts_held shape (uses_held shape keeps)

-- BYTES

pub more_bytes : (shape : Shape) (name : List ℕ) (len : ℕ) → map.contains_key shape.chunks name ≡ false → held_bytes (with_chunk shape name len) ≡ len + held_bytes shape
more_bytes shape name len lacking = sum_insert (λ n. n) shape.chunks name len lacking

pub less_bytes : (shape : Shape) (name : List ℕ) (len : ℕ) → map.get shape.chunks name ≡ Some len → held_bytes shape ≡ len + held_bytes (without_chunk shape name)
less_bytes shape name len held = sum_remove (λ n. n) shape.chunks name len held

-- WITHOUT A FILE

used_less : (files : Files) (name q : List ℕ) (list : List (List ℕ)) → map.get files name ≡ Some list → is_listed (all_lists (map.remove files name)) q ≡ true → is_listed (all_lists files) q ≡ true
used_less files name q list found listed =
    fewer (user_count (map.remove files name) q) (user_count files q) (omega (arith, users_without files name list q found)) (is_listed (all_lists files) q) (listed_users files q) (sym listed ∙ listed_users (map.remove files name) q)
  where
    fewer : (m n : ℕ) → m ≤ n → (b : Bool) → b ≡ not (n == 0) → true ≡ not (m == 0) → b ≡ true
    fewer m n less b is some = is ∙ ap not (ne_eqb n 0 (λ (z : n ≡ 0). let none : m ≡ 0 = omega (arith, less, z) in true≢false (some ∙ ap (λ (k : ℕ). not (k == 0)) none)))

pub counts_without : (shape : Shape) (name : List ℕ) (list : List (List ℕ)) → KeepsShape shape → map.get shape.files name ≡ Some list
    → map.len shape.chunks ≡ map.len (used (map.remove shape.files name)) + length (orphans (without_file shape name))
counts_without shape name list keeps found = counts_held (without_file shape name) (λ q listed. uses_held shape keeps q (used_less shape.files name q list found listed))

chunk_count : (a : Inside) → map.len (view_of a).shape.chunks ≡ map.len a.chunks.entries
chunk_count a = sym (count_keys (map_values len_of a.chunks.entries)) ∙ ap (λ (l : List (List ℕ)). length l) (chunk_keys a.chunks.entries) ∙ count_keys a.chunks.entries

-- how many chunks are freed, from the counts
pub freed_count : (a : Inside) (name : List ℕ) (list : List (List ℕ)) (counts : ListCounts) → KeepsIndex a → map.get a.files.files name ≡ Some list → CountsList 1 a.chunks.entries list counts
    → map.len a.chunks.entries + counts.matching ≡ a.used + length (orphans (without_file (view_of a).shape name))
freed_count a name list counts keeps found told =
    let held = sym (list_held a.chunks.entries a.files.files list) ∙ keeps.shape.held name list found in
    let filtered = ap distinct_count (last_filter a.files.files name a.chunks.entries list found (counts_of a keeps) held) in
    let all = counts_without (view_of a).shape name list keeps.shape found in
    omega (arith, told.matching, filtered, keeps.used, used_without a.files.files name list found, all, chunk_count a)

pub used_few : (a : Inside) → KeepsIndex a → a.used ≤ map.len a.chunks.entries
used_few a keeps = omega (arith, keeps.used, counts_shape (view_of a).shape keeps.shape, chunk_count a)
