-- A chunk that is found has the name that was looked for.
use Rattle.std.proofs.Common.{◌≡◌, ◌∙◌, ◌<◌, ◌≤◌, ◌∷◌, ◌++◌, [], ℕ, List, Some, false, ap, sym, subst, slice_get, length, get_or, inl, inr, arith}
use Rattle.std.specs.Prelude.{All, Result, Ok, Err, OnOk, OnErr}
use Rattle.std.specs.List.{list_any}
use Rattle.std.proofs.lemmas.Bool.{cases_Bool}
use Rattle.std.proofs.lemmas.List.Elements.{All-push}
use Rattle.std.proofs.lemmas.List.Folds.{list_any_none}
use Rattle.std.specs.Cmp.Lexicographic.{same_text}
use Rattle.list_facts.specs.Firsts.{IsNumberOf}
use Rattle.recipe_reader.specs.Recipes.{NamedChunk, is_chunk}
use Rattle.list_facts.proofs.Numbering.{place}

pub chunk_found : (name : List ℕ) (chunks : List NamedChunk) (i : ℕ) (chunk : NamedChunk) → IsNumberOf (is_chunk name) chunks (Some i) → slice_get chunks i ≡ Some chunk
    → slice_get chunks i ≡ Some record { name = name; size = chunk.size }
chunk_found name chunks i chunk number at =
    let first = place (is_chunk name) chunks number.0 in
    let same : first.item ≡ chunk = cc (first.at, number.1, at) in
    let named : name ≡ chunk.name = same_text name chunk.name (sym (rw same at first.passes)) in
    at ∙ ap (λ (n : List ℕ). Some (record { name = n; size = chunk.size })) (sym named)

-- no chunk has a name that is longer than theirs
pub none_longer : (name : List ℕ) (chunks : List NamedChunk) (most : ℕ) → All (λ c. length c.name ≤ most) chunks → most < length name → list_any (is_chunk name) chunks ≡ false
none_longer name chunks most short long = list_any_none (is_chunk name) chunks (λ i d within. elim (cases_Bool (is_chunk name (get_or chunks i d))) [
  | inl same ↦
      let equal : name ≡ (get_or chunks i d).name = same_text name (get_or chunks i d).name (sym same) in
      let len = ap (λ (n : List ℕ). length n) equal in
      absurd (omega (arith, short i d within, long, len))
  | inr differ ↦ differ
])

-- once a chunk is put last, or is not for want of memory, no chunk has a longer name
pub short_after : {T E : Type 0} (result : Result T E) (old new : List NamedChunk) (chunk : NamedChunk) (most : ℕ) → All (λ c. length c.name ≤ most) old → length chunk.name ≤ most
    → OnOk result (new ≡ old ++ chunk ∷ []) → OnErr result (new ≡ old) → All (λ c. length c.name ≤ most) new
short_after (Ok value) old new chunk most short fits ok err = subst (All (λ (c : NamedChunk). length c.name ≤ most)) (sym ok) (All-push (λ (c : NamedChunk). length c.name ≤ most) old chunk short fits)
short_after (Err error) old new chunk most short fits ok err = subst (All (λ (c : NamedChunk). length c.name ≤ most)) (sym err) short
