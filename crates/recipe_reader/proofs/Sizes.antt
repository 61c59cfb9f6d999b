-- Chunks keep their sizes.
use Rattle.std.specs.Prelude.{Contains}
use Rattle.std.proofs.Common.{◌≡◌, ◌∙◌, ℕ, List, Some, sym, ap, true, false, slice_get, get_or, inl, inr}
use Rattle.std.specs.Cmp.Lexicographic.{nat_list_eq_equiv}
use Rattle.std.specs.List.{IsDistinct, list_any}
use Rattle.std.proofs.lemmas.Bool.{cases_order}
use Rattle.std.proofs.lemmas.List.{get_or_default}
use Rattle.std.proofs.lemmas.Map.Keys.{apart_from_distinct}
use Rattle.std.proofs.lemmas.Map.Views.{list_any-from_Contains}
use Rattle.std.proofs.lemmas.Option.{slice_get_within, get_or_from_slice_get}
use Rattle.recipe_reader.specs.Limits.{KeepsSize}
use Rattle.recipe_reader.specs.Recipes.{NamedChunk, RecipeValue, is_chunk}
use Rattle.recipe_reader.proofs.Keeping.{chunk_equiv}

-- no chunk has the name of a new one
pub keeps_new : (r : RecipeValue) (c : NamedChunk) → list_any (is_chunk c.name) r.chunks ≡ false → KeepsSize r (Some c)
keeps_new r c new known there same =
    let found : list_any (is_chunk known.name) r.chunks ≡ true = list_any-from_Contains chunk_equiv known r.chunks there in
    cc (rw same at found, new)

-- two chunks of one name are one
pub one_of_name : (chunks : List NamedChunk) (a b : NamedChunk) → IsDistinct (λ c. is_chunk c.name) chunks → Contains chunks a → Contains chunks b → a.name ≡ b.name → a ≡ b
one_of_name chunks a b distinct p q same = elim (cases_order p.0 q.0) [
  | inl at ↦ sym p.2 ∙ (ap (λ k. get_or chunks k a) at ∙ (get_or_default chunks q.0 a b q.1 ∙ q.2))
  | inr (inl before) ↦
      let apart = apart_from_distinct (λ (c : NamedChunk). is_chunk c.name) chunks p.0 q.0 a distinct before q.1 in
      let second : get_or chunks q.0 a ≡ b = get_or_default chunks q.0 a b q.1 ∙ q.2 in
      cc (rw (p.2, second) at apart, equal)
  | inr (inr after) ↦
      let apart = apart_from_distinct (λ (c : NamedChunk). is_chunk c.name) chunks q.0 p.0 a distinct after p.1 in
      let first : get_or chunks q.0 a ≡ b = get_or_default chunks q.0 a b q.1 ∙ q.2 in
      cc (rw (p.2, first) at apart, flipped)
]
  where
    equal : is_chunk a.name b ≡ true
    equal = rw same (nat_list_eq_equiv.refl b.name)

    flipped : is_chunk b.name a ≡ true
    flipped = rw same (nat_list_eq_equiv.refl b.name)

-- the chunk with a number is among them
pub contains_at : {X : Type 0} (xs : List X) (i : ℕ) (x : X) → slice_get xs i ≡ Some x → Contains xs x
contains_at xs i x at = (i, slice_get_within xs i x at, get_or_from_slice_get xs i x x at)

-- a known chunk has one size
pub keeps_known : (r : RecipeValue) (i : ℕ) (c : NamedChunk) → IsDistinct (λ c. is_chunk c.name) r.chunks → slice_get r.chunks i ≡ Some c → KeepsSize r (Some c)
keeps_known r i c distinct at known there same = ap (λ (k : NamedChunk). k.size) (one_of_name r.chunks known c distinct there (contains_at r.chunks i c at) same)
