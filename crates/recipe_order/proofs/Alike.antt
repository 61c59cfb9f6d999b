-- What is in range, or best, in a recipe is so by name in one that is equal but for its order.
use Rattle.std.proofs.Common.{◌∙◌, ℕ, Bool, sym, ap, length, arith}
use Rattle.seed_model.specs.declared.range.Range.{Range}
use Rattle.seed_model.specs.Best.{IsBest, NoneInRange}
use Rattle.seed_model.specs.Ranges.{InRange}
use Rattle.seed_model.specs.SumLaws.{AgreesBelow}
use Rattle.seed_model.proofs.ClassSums.{files_alone}
use Rattle.incidence.proofs.ChunkTables.{is_table}
use Rattle.recipe_reader.specs.Lawful.{IsRecipe}
use Rattle.recipe_reader.specs.Recipes.{RecipeValue, table_of}
use Rattle.recipe_order.specs.Laws.{AreAlike, HaveSameSums, KeepsRange, KeepsBest, KeepsNone, CarriesSums, CarriesRange, CarriesBest, IsReflexive, IsSymmetric, IsTransitive, HoldsOfSame}
use Rattle.recipe_order.specs.Reordered.{named_set, names_of, carried_set}
use Rattle.recipe_order.proofs.Names.{keyed, number_of_file}
use Rattle.recipe_order.proofs.NamedSums.{keeps_sums, turned}

-- a set of files is the set of its names
same_set : (r : RecipeValue) (set : ℕ → Bool) → IsRecipe r → AgreesBelow (length r.files) set (named_set r (names_of r set))
same_set r set h file lt = ap set (sym (number_of_file r file (keyed r h) lt))

by_names : (r : RecipeValue) (set : ℕ → Bool) → IsRecipe r → HaveSameSums r r set (named_set r (names_of r set))
by_names r set h =
    let s = files_alone (table_of r) set (named_set r (names_of r set)) (is_table r h) (same_set r set h) in
    record { migrated = s.0; touched = s.1; replicated = s.2 }

joined : (a b c : RecipeValue) (x y z : ℕ → Bool) → HaveSameSums a b x y → HaveSameSums b c y z → HaveSameSums a c x z
joined a b c x y z s t = record { migrated = s.migrated ∙ t.migrated; touched = s.touched ∙ t.touched; replicated = s.replicated ∙ t.replicated }

flipped : (a b : RecipeValue) (x y : ℕ → Bool) → HaveSameSums a b x y → HaveSameSums b a y x
flipped a b x y s = record { migrated = sym s.migrated; touched = sym s.touched; replicated = sym s.replicated }

pub carries_sums : CarriesSums
carries_sums a b set h =
    joined a a b set (named_set a (names_of a set)) (carried_set a b set) (by_names a set h.first) (keeps_sums a b (names_of a set) h)

range_over : (a b : RecipeValue) (range : Range) (x y : ℕ → Bool) → HaveSameSums a b x y → InRange (table_of a) range x → InRange (table_of b) range y
range_over a b range x y s r = let m = s.migrated in record { enough = omega (arith, m, r.enough); no_more = omega (arith, m, r.no_more) }

pub keeps_range : KeepsRange
keeps_range a b range names h =
    let s = keeps_sums a b names h in
    (range_over a b range (named_set a names) (named_set b names) s, range_over b a range (named_set b names) (named_set a names) (flipped a b (named_set a names) (named_set b names) s))

pub carries_range : CarriesRange
carries_range a b range set h =
    let s = carries_sums a b set h in
    (range_over a b range set (carried_set a b set) s, range_over b a range (carried_set a b set) set (flipped a b set (carried_set a b set) s))

best_over : (a b : RecipeValue) (range : Range) (x y : ℕ → Bool) → AreAlike a b → HaveSameSums a b x y → IsBest (table_of a) range x → IsBest (table_of b) range y
best_over a b range x y h s best = record {
  in_range = range_over a b range x y s best.in_range;
  least = λ rival r.
      let t = carries_sums b a rival (turned a b h) in
      let least = best.least (carried_set b a rival) (range_over b a range rival (carried_set b a rival) t r) in
      omega (arith, least, s.replicated, t.replicated);
}

pub keeps_best : KeepsBest
keeps_best a b range names h =
    let s = keeps_sums a b names h in
    (best_over a b range (named_set a names) (named_set b names) h s, best_over b a range (named_set b names) (named_set a names) (turned a b h) (flipped a b (named_set a names) (named_set b names) s))

pub carries_best : CarriesBest
carries_best a b range set h =
    let s = carries_sums a b set h in
    (best_over a b range set (carried_set a b set) h s, best_over b a range (carried_set a b set) set (turned a b h) (flipped a b set (carried_set a b set) s))

none_over : (a b : RecipeValue) (range : Range) → AreAlike a b → NoneInRange (table_of a) range → NoneInRange (table_of b) range
none_over a b range h none set r = none (carried_set b a set) (range_over b a range set (carried_set b a set) (carries_sums b a set (turned a b h)) r)

pub keeps_none : KeepsNone
keeps_none a b range h = (none_over a b range h, none_over b a range (turned a b h))

pub is_reflexive : IsReflexive
is_reflexive a = record { files = λ name. (λ x. x, λ x. x); chunks = λ chunk. (λ x. x, λ x. x); pairs = λ file chunk. (λ x. x, λ x. x) }

pub is_symmetric : IsSymmetric
is_symmetric a b h = record {
  files = λ name. ((h.files name).1, (h.files name).0);
  chunks = λ chunk. ((h.chunks chunk).1, (h.chunks chunk).0);
  pairs = λ file chunk. ((h.pairs file chunk).1, (h.pairs file chunk).0);
}

pub is_transitive : IsTransitive
is_transitive a b c g h = record {
  files = λ name. (λ x. (h.files name).0 ((g.files name).0 x), λ x. (g.files name).1 ((h.files name).1 x));
  chunks = λ chunk. (λ x. (h.chunks chunk).0 ((g.chunks chunk).0 x), λ x. (g.chunks chunk).1 ((h.chunks chunk).1 x));
  pairs = λ file chunk. (λ x. (h.pairs file chunk).0 ((g.pairs file chunk).0 x), λ x. (g.pairs file chunk).1 ((h.pairs file chunk).1 x));
}

pub holds_of_same : HoldsOfSame
holds_of_same a b h = record {
  files = λ name. (λ x. rw h.files x, λ x. rw (← h.files) x);
  chunks = h.chunks;
  pairs = h.pairs;
}
