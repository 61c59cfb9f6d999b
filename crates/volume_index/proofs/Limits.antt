-- The lengths of chunks never decide whether files keep the limits of a recipe.
use Rattle.std.proofs.Common.{◌≡◌, ℕ, ◌*◌, ◌^◌, ◌≤◌, List, [], ◌∷◌, length, Bool, true, false, Option, Some, None, refl, sym, ◌∙◌, ap, subst, arith}
use Rattle.std.specs.Prelude.{All, cond, ◌&&◌, nat_le, unwrap_or, sum_by, map as each}
use Rattle.std.specs.Ordering.{eq_by_cmp}
use Rattle.std.specs.FinMap as map
use Rattle.std.proofs.lemmas.Bool.{leb-true, le-leb}
use Rattle.std.proofs.lemmas.List.{length-map}
use Rattle.std.proofs.lemmas.List.Elements.{All-head, All-tail}
use Rattle.std.proofs.lemmas.List.Sums.{sum_by-cons}
use Rattle.std.proofs.lemmas.Option.{none-some}
use Rattle.seed_model.specs.declared.limits.TheConstants.{MOST_FILES, MOST_CHUNKS, MOST_PAIRS, MOST_BYTES}
use Rattle.site_forms.specs.Volumes.{bytes_cmp, Files, Shape, used, pair_count, used_bytes, chunk_or, keeps_limits}

some_same : {X : Type 0} (x y : X) → Some x ≡ Some y → x ≡ y
some_same x y is = cc

-- what holds of all values holds of one that is found
found_all : {X : Type 0} (P : X → Type 0) (q : List ℕ) (es : List (List ℕ × X)) (v : X) → All P (each (λ e. e.1) es) → map.find bytes_cmp q es ≡ Some v → P v
found_all P q [] v all is = absurd (none-some v is)
found_all P q (e ∷ es) v all is =
    elim (eq_by_cmp bytes_cmp q e.0) as (λ b. cond b (Some e.1) (map.find bytes_cmp q es) ≡ Some v → P v) [
      | true ↦ λ same. subst P (some_same e.1 v same) (All-head P e.1 (each (λ x. x.1) es) all)
      | false ↦ λ later. found_all P q es v (All-tail P e.1 (each (λ x. x.1) es) all) later
    ] is

-- a chunk that is held, or lacking
short_by : (shape : Shape) (chunk : List ℕ) (o : Option ℕ) → All (λ n. n ≤ 2 ^ 20) (map.values shape.chunks) → map.get shape.chunks chunk ≡ o → unwrap_or o 0 ≤ 2 ^ 20
short_by shape chunk None most is = omega arith
short_by shape chunk (Some n) most is = found_all (λ k. k ≤ 2 ^ 20) chunk (map.entries shape.chunks) n most (sym (map.get-entries shape.chunks chunk) ∙ is)

pub short_chunk : (shape : Shape) → All (λ n. n ≤ 2 ^ 20) (map.values shape.chunks) → (chunk : List ℕ) → chunk_or 0 shape chunk ≤ 2 ^ 20
short_chunk shape most chunk = short_by shape chunk (map.get shape.chunks chunk) most refl

sum_short : (f : List ℕ → ℕ) → ((x : List ℕ) → f x ≤ 2 ^ 20) → (xs : List (List ℕ)) → sum_by f xs ≤ length xs * 2 ^ 20
sum_short f short [] = omega arith
sum_short f short (x ∷ xs) = omega (arith, sum_by-cons f x xs, short x, sum_short f short xs)

and_true : (b : Bool) → b && true ≡ b
and_true true = refl
and_true false = refl

-- a last test that follows from an earlier one
no_last : (a b c d : Bool) → (b ≡ true → d ≡ true) → a && (b && (c && d)) ≡ a && (b && c)
no_last a true c d follows = ap (λ (x : Bool). a && (true && (c && x))) (follows refl) ∙ ap (λ (x : Bool). a && (true && x)) (and_true c)
no_last a false c d follows = refl

-- the three counts decide alone
pub counts_decide : (shape : Shape) (files : Files) → All (λ n. n ≤ 2 ^ 20) (map.values shape.chunks)
    → keeps_limits (λ chunk. chunk_or 0 shape chunk) files ≡ nat_le (map.len files) MOST_FILES && (nat_le (map.len (used files)) MOST_CHUNKS && nat_le (pair_count files) MOST_PAIRS)
counts_decide shape files most =
    let bytes = used_bytes (λ chunk. chunk_or 0 shape chunk) files in
    let keys = map.keys (used files) in
    let many : length keys ≡ map.len (used files) = length-map (map.entries (used files)) (λ (e : List ℕ × Unit {0}). e.0) ∙ sym (map.len-entries (used files)) in
    no_last (nat_le (map.len files) MOST_FILES) (nat_le (map.len (used files)) MOST_CHUNKS) (nat_le (pair_count files) MOST_PAIRS) (nat_le bytes MOST_BYTES)
    (λ few. le-leb bytes MOST_BYTES (omega (arith, leb-true (map.len (used files)) MOST_CHUNKS few, many, sum_short (λ chunk. chunk_or 0 shape chunk) (short_chunk shape most) keys)))
