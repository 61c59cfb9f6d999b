-- What recipes that are one but for their order have in common.
use Rattle.std.specs.Prelude.{◌≡◌, ◌↔◌, ℕ, List, Bool}
use Rattle.seed_model.specs.declared.range.Range.{Range}
use Rattle.seed_model.specs.Best.{IsBest, NoneInRange}
use Rattle.seed_model.specs.Ranges.{InRange}
use Rattle.seed_model.specs.Sums.{migrated_of, touched_of, replicated_of}
use Rattle.recipe_reader.specs.Lawful.{IsRecipe}
use Rattle.recipe_reader.specs.Recipes.{RecipeValue, bytes_of, table_of}
use Rattle.recipe_reader.specs.Same.{IsSameRecipe}
use Rattle.recipe_order.specs.Orders.{IsOrder}
use Rattle.recipe_order.specs.Reordered.{IsReordered, named_set, carried_set}
use Rattle.recipe_order.specs.Sorted.{IsSorted}

-- two lawful recipes that are one but for their order
pub record AreAlike (a b : RecipeValue) : Type 0 where
  pub first : IsRecipe a
  pub second : IsRecipe b
  pub reordered : IsReordered a b

-- a set of one recipe and a set of another have the same three sums
pub record HaveSameSums (a b : RecipeValue) (one other : ℕ → Bool) : Type 0 where
  pub migrated : migrated_of one (table_of a) ≡ migrated_of other (table_of b)
  pub touched : touched_of one (table_of a) ≡ touched_of other (table_of b)
  pub replicated : replicated_of one (table_of a) ≡ replicated_of other (table_of b)

-- every set of names has the same sums in both; and both have the same bytes
abbrev pub KeepsSums : Type 0
KeepsSums = (a b : RecipeValue) (names : List ℕ → Bool) → AreAlike a b → HaveSameSums a b (named_set a names) (named_set b names)

abbrev pub KeepsBytes : Type 0
KeepsBytes = (a b : RecipeValue) → AreAlike a b → bytes_of a ≡ bytes_of b

-- so it is in range, or best, in the one exactly where it is in the other
abbrev pub KeepsRange : Type 0
KeepsRange = (a b : RecipeValue) (range : Range) (names : List ℕ → Bool) → AreAlike a b
    → InRange (table_of a) range (named_set a names) ↔ InRange (table_of b) range (named_set b names)

abbrev pub KeepsBest : Type 0
KeepsBest = (a b : RecipeValue) (range : Range) (names : List ℕ → Bool) → AreAlike a b
    → IsBest (table_of a) range (named_set a names) ↔ IsBest (table_of b) range (named_set b names)

-- and no set is in range of the one exactly where none is of the other
abbrev pub KeepsNone : Type 0
KeepsNone = (a b : RecipeValue) (range : Range) → AreAlike a b → NoneInRange (table_of a) range ↔ NoneInRange (table_of b) range

-- the same of a set of files, and the set of the other recipe that has the same names
abbrev pub CarriesSums : Type 0
CarriesSums = (a b : RecipeValue) (set : ℕ → Bool) → AreAlike a b → HaveSameSums a b set (carried_set a b set)

abbrev pub CarriesRange : Type 0
CarriesRange = (a b : RecipeValue) (range : Range) (set : ℕ → Bool) → AreAlike a b → InRange (table_of a) range set ↔ InRange (table_of b) range (carried_set a b set)

abbrev pub CarriesBest : Type 0
CarriesBest = (a b : RecipeValue) (range : Range) (set : ℕ → Bool) → AreAlike a b → IsBest (table_of a) range set ↔ IsBest (table_of b) range (carried_set a b set)

-- a recipe is like itself, likeness goes both ways and on, and what a recipe's text reads to is like it
abbrev pub IsReflexive : Type 0
IsReflexive = (a : RecipeValue) → IsReordered a a

abbrev pub IsSymmetric : Type 0
IsSymmetric = (a b : RecipeValue) → IsReordered a b → IsReordered b a

abbrev pub IsTransitive : Type 0
IsTransitive = (a b c : RecipeValue) → IsReordered a b → IsReordered b c → IsReordered a c

abbrev pub HoldsOfSame : Type 0
HoldsOfSame = (a b : RecipeValue) → IsSameRecipe a b → IsReordered a b

-- a recipe has one order
abbrev pub HasOneOrder : Type 0
HasOneOrder = (recipe : RecipeValue) (one other : List ℕ) → IsOrder recipe one → IsOrder recipe other → one ≡ other

-- and is sorted in one way
abbrev pub HasOneSorted : Type 0
HasOneSorted = (recipe a b : RecipeValue) → IsSorted recipe a → IsSorted recipe b → a ≡ b
