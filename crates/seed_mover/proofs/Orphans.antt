-- Chunks that no file uses, once the first of them is dropped.
use Rattle.std.proofs.Common.{◌≡◌, ℕ, zero, suc, ◌<◌, List, [], ◌∷◌, length, get_or, Bool, true, false, cond, Some, None, refl, sym, ◌∙◌, ap, subst, arith}
use Rattle.std.specs.Prelude.{not, slice_get}
use Rattle.std.specs.List.{filter, remove}
use Rattle.std.specs.FinMap as map
use Rattle.std.proofs.lemmas.Bool.{and_from}
use Rattle.site_forms.specs.Names.{is_listed}
use Rattle.site_forms.specs.Sites.{HoldsChunk}
use Rattle.site_forms.specs.Volumes.{Shape, may_drop_chunk, used, without_chunk}
use Rattle.volume_index.specs.HoldingValues.{orphans}
use Rattle.volume_index.proofs.Ranks.{keys_without, rank_of_place}
use Rattle.site_core.proofs.Lists.{listed_at}
use Rattle.site_core.proofs.Maps.{key_held}

-- where the first that passes stands, and the list without it
pub record FirstPassing (test : List ℕ → Bool) (xs : List (List ℕ)) (first : List ℕ) (rest : List (List ℕ)) : Type 0 where
  pub place : ℕ
  pub inside : place < length xs
  pub at : get_or xs place [] ≡ first
  pub passes : test first ≡ true
  pub left : filter test (remove xs place) ≡ rest

first_of : (x : List ℕ) (xs ys : List (List ℕ)) (first : List ℕ) (rest : List (List ℕ)) → x ∷ ys ≡ first ∷ rest → (x ≡ first) × (ys ≡ rest)
first_of x xs ys first rest is = (cc, cc)

module _ (test : List ℕ → Bool) (x : List ℕ) (xs : List (List ℕ)) (first : List ℕ) (rest : List (List ℕ)) where
  by_test : (b : Bool) → test x ≡ b → filter test (x ∷ xs) ≡ first ∷ rest → (filter test xs ≡ first ∷ rest → FirstPassing test xs first rest) → FirstPassing test (x ∷ xs) first rest
  by_test true passes is later =
      let its = first_of x xs (filter test xs) first rest (sym (ap (λ (c : Bool). cond c (x ∷ filter test xs) (filter test xs)) passes) ∙ is) in
      record { place = zero; inside = omega arith; at = its.0; passes = ap test (sym its.0) ∙ passes; left = its.1 }
  by_test false fails is later =
      let its = later (sym (ap (λ (c : Bool). cond c (x ∷ filter test xs) (filter test xs)) fails) ∙ is) in
      record {
        place = suc its.place;
        inside = omega (arith, its.inside);
        at = its.at;
        passes = its.passes;
        left = ap (λ (c : Bool). cond c (x ∷ filter test (remove xs its.place)) (filter test (remove xs its.place))) fails ∙ its.left;
      }

first_passing : (test : List ℕ → Bool) (xs : List (List ℕ)) (first : List ℕ) (rest : List (List ℕ)) → filter test xs ≡ first ∷ rest → FirstPassing test xs first rest
first_passing test [] first rest is = let never : ⊥ = cc in absurd never
first_passing test (x ∷ xs) first rest is = by_test test x xs first rest (test x) refl is (first_passing test xs first rest)

module _ (shape : Shape) (chunk : List ℕ) (rest : List (List ℕ)) (is : orphans shape ≡ chunk ∷ rest) where
  its : FirstPassing (λ name. not (map.contains_key (used shape.files) name)) (map.keys shape.chunks) chunk rest
  its = first_passing (λ name. not (map.contains_key (used shape.files) name)) (map.keys shape.chunks) chunk rest is

  pub orphan_held : HoldsChunk shape chunk
  orphan_held = key_held shape.chunks chunk (subst (λ (c : List ℕ). is_listed (map.keys shape.chunks) c ≡ true) its.at (listed_at (map.keys shape.chunks) its.place its.inside))

  -- the first may be dropped
  pub orphan_may : may_drop_chunk shape chunk ≡ true
  orphan_may = and_from (map.contains_key shape.chunks chunk) (not (map.contains_key (used shape.files) chunk)) orphan_held its.passes

  -- and the others are left
  pub orphans_rest : orphans (without_chunk shape chunk) ≡ rest
  orphans_rest =
      ap (filter (λ name. not (map.contains_key (used shape.files) name)))
      (keys_without shape.chunks chunk its.place (rank_of_place shape.chunks chunk its.place its.inside its.at) orphan_held)
      ∙ its.left

-- what the first of a list tells
pub first_in : (xs : List (List ℕ)) (first : List ℕ) → Some first ≡ slice_get xs 0 → (rest : List (List ℕ)) × (xs ≡ first ∷ rest)
first_in [] first is = let no : ⊥ = cc in absurd no
first_in (x ∷ xs) first is = let same : x ≡ first = cc in (xs, ap (λ y. y ∷ xs) same)

pub none_in : (xs : List (List ℕ)) → None ≡ slice_get xs 0 → xs ≡ []
none_in [] is = refl
none_in (x ∷ xs) is = let no : ⊥ = cc in absurd no
