-- Counts of a list, where some of its chunks are held and some are not.
use Rattle.std.specs.Prelude.{All, ◌≤◌, ◌^◌, nat_le, Option, None, Some, if◌then◌else◌}
use Rattle.std.specs.Cmp.Lexicographic.{nat_list_cmp_total}
use Rattle.std.proofs.lemmas.Option.{none-some}
use Rattle.seed_model.specs.declared.limits.TheConstants.{MOST_FILES, MOST_CHUNKS, MOST_PAIRS}
use Rattle.site_forms.specs.Volumes.{Shape, chunk_or, keeps_limits, used, pair_count}
use Rattle.volume_index.specs.FirstLimits.{first_limit}
use Rattle.volume_index.specs.declared.index.Limit.TheVariants.{Files, Chunks, Pairs}
use Rattle.volume_index.proofs.Limits.{counts_decide}
use Rattle.volume_index.proofs.Users.{used_with, pairs_with}
use Rattle.std.proofs.Common.{◌≡◌, ℕ, ◌+◌, List, [], ◌∷◌, ◌++◌, Bool, true, false, cond, refl, sym, ◌∙◌, ap, arith}
use Rattle.std.specs.Prelude.{not, ◌&&◌}
use Rattle.std.specs.List.{list_all, filter}
use Rattle.std.specs.FinMap as map
use Rattle.site_forms.specs.Names.{is_listed}
use Rattle.site_forms.specs.Volumes.{all_lists, distinct_count}
use Rattle.std.proofs.lemmas.Bool.{true≢false}
use Rattle.volume_index.specs.declared.chunk_table.ListCounts.{ListCounts}
use Rattle.volume_index.specs.declared.index.Index.TheInside.{Inside}
use Rattle.volume_index.specs.ChunkTables.{CountsList}
use Rattle.volume_index.specs.IndexInside.{view_of, KeepsIndex}
use Rattle.volume_index.proofs.Indexing.{counts_of}
use Rattle.volume_index.proofs.Joins.{new_filter}
use Rattle.volume_index.proofs.Orphans.{uses_held}
use Rattle.volume_index.proofs.Sets.{count_first, count_none, joined_count, listed_passes}

split_one : (l b : Bool) (d y n : ℕ) → d ≡ y + n → cond l d (d + 1) ≡ cond b (cond (l && b) y (y + 1)) y + cond b n (cond (l && not b) n (n + 1))
split_one true true d y n is = is
split_one true false d y n is = is
split_one false true d y n is = omega (arith, is)
split_one false false d y n is = omega (arith, is)

passing_count : (p : List ℕ → Bool) (x : List ℕ) (xs : List (List ℕ)) (b : Bool) → p x ≡ b
    → distinct_count (filter p (x ∷ xs)) ≡ cond b (cond (is_listed xs x && b) (distinct_count (filter p xs)) (distinct_count (filter p xs) + 1)) (distinct_count (filter p xs))
passing_count p x xs true is =
    ap (λ (b : Bool). distinct_count (cond b (x ∷ filter p xs) (filter p xs))) is
    ∙ count_first (filter p xs) x
    ∙ ap (λ (b : Bool). cond b (distinct_count (filter p xs)) (distinct_count (filter p xs) + 1)) (listed_passes p xs x ∙ ap (λ (b : Bool). is_listed xs x && b) is)
passing_count p x xs false is = ap (λ (b : Bool). distinct_count (cond b (x ∷ filter p xs) (filter p xs))) is

turned : (b l : Bool) (n : ℕ) → cond (not b) (cond (l && not b) n (n + 1)) n ≡ cond b n (cond (l && not b) n (n + 1))
turned true l n = refl
turned false l n = refl

-- the names of a list are those that pass a test and the others
pub split_count : (p : List ℕ → Bool) (xs : List (List ℕ)) → distinct_count xs ≡ distinct_count (filter p xs) + distinct_count (filter (λ n. not (p n)) xs)
split_count p [] = omega (arith, count_none)
split_count p (x ∷ xs) =
    let q : List ℕ → Bool = λ n. not (p n) in
    let one = split_one (is_listed xs x) (p x) (distinct_count xs) (distinct_count (filter p xs)) (distinct_count (filter q xs)) (split_count p xs) in
    omega (arith, count_first xs x, one, passing_count p x xs (p x) refl, passing_count q x xs (not (p x)) refl ∙ turned (p x) (is_listed xs x) (distinct_count (filter q xs)))

-- a test after another
both_tests : (p q : List ℕ → Bool) (xs : List (List ℕ)) → filter p (filter q xs) ≡ filter q (filter p xs)
both_tests p q [] = refl
both_tests p q (x ∷ xs) =
    elim (p x) as (λ b. p x ≡ b → filter p (cond (q x) (x ∷ filter q xs) (filter q xs)) ≡ filter q (cond b (x ∷ filter p xs) (filter p xs))) [
      | true ↦ λ here. elim (q x) as (λ b. filter p (cond b (x ∷ filter q xs) (filter q xs)) ≡ cond b (x ∷ filter q (filter p xs)) (filter q (filter p xs))) [
        | true ↦ ap (λ (b : Bool). cond b (x ∷ filter p (filter q xs)) (filter p (filter q xs))) here ∙ ap (λ (l : List (List ℕ)). x ∷ l) (both_tests p q xs)
        | false ↦ both_tests p q xs
      ]
      | false ↦ λ here. elim (q x) as (λ b. filter p (cond b (x ∷ filter q xs) (filter q xs)) ≡ filter q (filter p xs)) [
        | true ↦ ap (λ (b : Bool). cond b (x ∷ filter p (filter q xs)) (filter p (filter q xs))) here ∙ both_tests p q xs
        | false ↦ both_tests p q xs
      ]
    ] refl

-- a test that follows from an earlier one
implied_test : (p q : List ℕ → Bool) (xs : List (List ℕ)) → ((x : List ℕ) → p x ≡ true → q x ≡ true) → filter q (filter p xs) ≡ filter p xs
implied_test p q [] follows = refl
implied_test p q (x ∷ xs) follows =
    elim (p x) as (λ b. p x ≡ b → filter q (cond b (x ∷ filter p xs) (filter p xs)) ≡ cond b (x ∷ filter p xs) (filter p xs)) [
      | true ↦ λ here. ap (λ (b : Bool). cond b (x ∷ filter q (filter p xs)) (filter q (filter p xs))) (follows x here) ∙ ap (λ (l : List (List ℕ)). x ∷ l) (implied_test p q xs follows)
      | false ↦ λ _. implied_test p q xs follows
    ] refl

unlisted : (l h : Bool) → (l ≡ true → h ≡ true) → not h ≡ true → not l ≡ true
unlisted true true f is = is
unlisted true false f is = absurd (true≢false (sym (f refl)))
unlisted false h f is = refl

-- the counts of a list, from those of its held chunks and the number of those that are lacking
pub counts_by : (a : Inside) (list held : List (List ℕ)) (lacking : ℕ) (counts : ListCounts) → KeepsIndex a → filter (map.contains_key (view_of a).shape.chunks) list ≡ held → list_all (map.contains_key a.chunks.entries) held ≡ true
    → distinct_count (filter (λ n. not (map.contains_key (view_of a).shape.chunks n)) list) ≡ lacking → CountsList 0 a.chunks.entries held counts
    → (distinct_count (list ++ all_lists a.files.files) ≡ a.used + counts.matching + lacking) × (distinct_count list ≡ counts.distinct + lacking)
counts_by a list held lacking counts keeps are all count told =
    let h : List ℕ → Bool = map.contains_key (view_of a).shape.chunks in
    let no : List ℕ → Bool = λ n. not (h n) in
    let new : List ℕ → Bool = λ n. not (is_listed (all_lists a.files.files) n) in
    let filtered = ap distinct_count (new_filter a.files.files a.chunks.entries held (counts_of a keeps) all) in
    let front : distinct_count (filter h (filter new list)) ≡ distinct_count (filter new held) = ap distinct_count (both_tests h new list ∙ ap (filter new) are) in
    let back : distinct_count (filter no (filter new list)) ≡ distinct_count (filter no list) =
    ap distinct_count (both_tests no new list ∙ implied_test no new list (λ x lacks. unlisted (is_listed (all_lists a.files.files) x) (h x) (uses_held (view_of a).shape keeps.shape x) lacks)) in
    let held_count : distinct_count (filter h list) ≡ distinct_count held = ap distinct_count are in
    (omega (arith, joined_count (all_lists a.files.files) list, keeps.used, told.matching, filtered, split_count h (filter new list), front, back, count), omega (arith, split_count h list, held_count, told.distinct, count))

-- WITHIN THE LIMITS

none_broken : (x y z : Bool) → (if x then (if y then (if z then None else Some Pairs) else Some Chunks) else Some Files) ≡ None → (x && (y && z)) ≡ true
none_broken true true true is = refl
none_broken true true false is = absurd (none-some Pairs (sym is))
none_broken true false z is = absurd (none-some Chunks (sym is))
none_broken false y z is = absurd (none-some Files (sym is))

pub within_limits : (shape other : Shape) (name : List ℕ) (list : List (List ℕ)) → All (λ n. n ≤ 2 ^ 20) (map.values other.chunks) → map.contains_key shape.files name ≡ false → first_limit shape list ≡ None
    → keeps_limits (λ chunk. chunk_or 0 other chunk) (map.insert shape.files name list) ≡ true
within_limits shape other name list most lacking is =
    let files = map.insert shape.files name list in
    let longer : map.len files ≡ map.len shape.files + 1 =
    map.len-insert nat_list_cmp_total shape.files name list ∙ ap (λ (b : Bool). cond b (map.len shape.files) (map.len shape.files + 1)) lacking in
    let more : map.len (used files) ≡ distinct_count (list ++ all_lists shape.files) = omega (arith, used_with shape.files name list lacking, joined_count (all_lists shape.files) list) in
    counts_decide other files most
    ∙ (λ i. nat_le (longer i) MOST_FILES && (nat_le (more i) MOST_CHUNKS && nat_le (pairs_with shape.files name list lacking i) MOST_PAIRS))
    ∙ none_broken (nat_le (map.len shape.files + 1) MOST_FILES) (nat_le (distinct_count (list ++ all_lists shape.files)) MOST_CHUNKS) (nat_le (distinct_count list + pair_count shape.files) MOST_PAIRS) is
