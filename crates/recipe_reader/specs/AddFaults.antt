-- Why a file or a pair is not added.
use Rattle.std.specs.Prelude.{◌≡◌, ◌≢◌, ℕ, Contains, Some}
use Rattle.recipe_reader.specs.Limits.{IsWithinLimits, PassesFirst, KeepsSize}
use Rattle.recipe_reader.specs.Recipes.{NamedChunk, RecipeValue, with_pair}
use Rattle.recipe_reader.specs.declared.error.AddError.{AddError}
use Rattle.recipe_reader.specs.declared.error.AddError.TheVariants.{Clash, TooMany, Memory}

-- the recipe that would be passes this limit first; or memory ran out, and it passes none
abbrev pub IsLimitFault : RecipeValue → AddError → Type 0
IsLimitFault after (Clash first now) = ⊥
IsLimitFault after (TooMany what) = PassesFirst after what
IsLimitFault after Memory = IsWithinLimits after

-- the chunk is known with another size; else it is a limit, or memory
abbrev pub IsPairFault : RecipeValue → ℕ → NamedChunk → AddError → Type 0
IsPairFault recipe file chunk (Clash first now) = (chunk.size ≡ now) × (first ≢ now) × Contains recipe.chunks (record { name = chunk.name; size = first })
IsPairFault recipe file chunk (TooMany what) = KeepsSize recipe (Some chunk) × PassesFirst (with_pair recipe file chunk) what
IsPairFault recipe file chunk Memory = KeepsSize recipe (Some chunk) × IsWithinLimits (with_pair recipe file chunk)
