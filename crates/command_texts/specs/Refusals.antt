-- Refusals: their numbers, and what they print.
use Rattle.std.specs.Prelude.{◌≡◌, ℕ, List, [], ◌∷◌, ◌++◌, codes}
use Rattle.std.specs.List.{flat_map}
use Rattle.std.specs.Fmt.{decimal}
use Rattle.recipe_reader.specs.declared.error.What.{What}
use Rattle.recipe_reader.specs.declared.error.What.TheVariants.{Files, Chunks, Bytes, Pairs}
use Rattle.recipe_reader.specs.declared.error.RecipeError.{RecipeError}
use Rattle.recipe_reader.specs.declared.error.RecipeError.TheVariants.{BadRow, BadName, BadChunkName, BadSize, SizeClash, TooMany, Memory}
use Rattle.command_texts.specs.declared.status.Status.{Status}
use Rattle.command_texts.specs.declared.status.Status.TheVariants.{Refused}
use Rattle.command_texts.specs.Lines.{line}

-- a refusal's number, and the words behind it
pub record Refusal : Type 0 where
  pub number : ℕ
  pub words : List (List ℕ)

-- `refused N` and the words, with a space before each
abbrev pub refusal_text : Refusal → List ℕ
refusal_text refusal = line (codes "refused " ++ decimal refusal.number ++ flat_map (λ word. 32 ∷ word) refusal.words)

-- a command that is refused prints the refusal, and nothing else
pub record Refuses (refusal : Refusal) (status : Status) (text : List ℕ) : Type 0 where
  pub answers : status ≡ Refused refusal.number
  pub prints : text ≡ refusal_text refusal

-- 1: the words are no command
abbrev pub usage : Refusal
usage = record { number = 1; words = [] }

-- 2: no byte string has this name
abbrev pub not_there : List ℕ → Refusal
not_there name = record { number = 2; words = name ∷ [] }

-- 3: the byte string of this name is longer than is read
abbrev pub too_long : List ℕ → Refusal
too_long name = record { number = 3; words = name ∷ [] }

-- the word for what a recipe has too many of
abbrev pub what_word : What → List ℕ
what_word Files = codes "files"
what_word Chunks = codes "chunks"
what_word Bytes = codes "bytes"
what_word Pairs = codes "pairs"

-- 4 to 9: the text is no recipe; want of memory is no fault of a text, and has no number
abbrev pub no_recipe : RecipeError → Refusal
no_recipe (BadRow row) = record { number = 4; words = decimal row ∷ [] }
no_recipe (BadName row) = record { number = 5; words = decimal row ∷ [] }
no_recipe (BadChunkName row) = record { number = 6; words = decimal row ∷ [] }
no_recipe (BadSize row) = record { number = 7; words = decimal row ∷ [] }
no_recipe (SizeClash row first now) = record { number = 8; words = decimal row ∷ decimal first ∷ decimal now ∷ [] }
no_recipe (TooMany row what) = record { number = 9; words = decimal row ∷ what_word what ∷ [] }
no_recipe Memory = record { number = 0; words = [] }

-- 10: the word at this place is not spelled as it must be
abbrev pub bad_word : ℕ → Refusal
bad_word place = record { number = 10; words = decimal place ∷ [] }

-- 11: more files than those of which every set is tried
abbrev pub too_many_files : ℕ → Refusal
too_many_files files = record { number = 11; words = decimal files ∷ [] }

-- 18: the document has no plan
abbrev pub no_plan : Refusal
no_plan = record { number = 18; words = [] }

-- 27: the recipes are not one but for the order of their files and chunks
abbrev pub other_recipe : Refusal
other_recipe = record { number = 27; words = [] }
