-- How `sort` ends.
use Rattle.std.specs.Prelude.{◌≡◌, ◌⊎◌, ℕ, List, ◌++◌, length, map, take, codes, Bool, true, Option, Some}
use Rattle.csv_rows.specs.Rows.{rows_of, rows_text}
use Rattle.seed_io.specs.Shelf.{Told}
use Rattle.recipe_reader.specs.Reading.{Leads}
use Rattle.recipe_reader.specs.Recipes.{RecipeValue, empty_recipe}
use Rattle.recipe_reader.specs.WrittenRows.{file_at, rows_of_recipe}
use Rattle.recipe_order.specs.Reordered.{IsReordered}
use Rattle.recipe_order.specs.Sorted.{IsSorted}
use Rattle.command_texts.specs.declared.status.Status.{Status}
use Rattle.command_texts.specs.declared.status.Status.TheVariants.{Done}
use Rattle.command_texts.specs.Lines.{number_line}
use Rattle.planning_commands.specs.Reading.{RecipeEnds}
use Rattle.order_commands.specs.declared.sort.Made.{Made}

-- what `sort` prints: how many files and pairs there are
abbrev pub sort_text : RecipeValue → List ℕ
sort_text recipe = number_line (codes "files") (length recipe.files) ++ number_line (codes "pairs") (length recipe.pairs)

-- The bytes are the text of the recipe sorted. They read to a recipe that is this one but for the order of its files and chunks,
-- with its files by falling shared bytes, equal ones in their old order.
pub record IsSortedText (recipe : RecipeValue) (bytes : List ℕ) : Type 0 where
  pub sorted : RecipeValue
  pub is_sorted : IsSorted recipe sorted
  pub text_is : bytes ≡ rows_text (rows_of_recipe sorted)
  pub back : RecipeValue
  pub reads : Leads empty_recipe (rows_of bytes) back
  pub same : IsReordered recipe back
  pub files : back.files ≡ map (file_at recipe) is_sorted.order

-- that text stands behind a name, and how much it has is printed
pub record PrintsSorted (recipe : RecipeValue) (status : Status) (text : List ℕ) (now : Option (List ℕ)) : Type 0 where
  pub bytes : List ℕ
  pub held : now ≡ Some bytes
  pub sorted : IsSortedText recipe bytes
  pub answers : status ≡ Done
  pub prints : text ≡ sort_text recipe

-- how `sort` ends over its recipe
abbrev pub SortOf : Status → List ℕ → Option (List ℕ) → RecipeValue → Type 0
SortOf status text now recipe = PrintsSorted recipe status text now

-- how `sort RECIPE OUT` ends over these byte strings, and what it leaves behind OUT
abbrev pub SortEnds : List ℕ → Told → Status → List ℕ → Option (List ℕ) → Type 0
SortEnds name given status text now = RecipeEnds given name status text (SortOf status text now)

-- bytes and a report that are made of a recipe
abbrev pub IsMade : RecipeValue → Made → Type 0
IsMade recipe made = PrintsSorted recipe made.report.status made.report.text.items (Some made.bytes.items)

-- the recipe was sorted and that was printed, and the text stands behind its name of a shelf that tells its bytes
pub record HasSorted (tells : Bool) (recipe : RecipeValue) (status : Status) (text : List ℕ) (now : Option (List ℕ)) : Type 0 where
  pub whole : List ℕ
  pub printed : PrintsSorted recipe status text (Some whole)
  pub held : tells ≡ true → now ≡ Some whole

-- behind a name stands a front of the text of the recipe sorted
pub record HoldsSortedFront (recipe : RecipeValue) (now : Option (List ℕ)) : Type 0 where
  pub status : Status
  pub text : List ℕ
  pub whole : List ℕ
  pub printed : PrintsSorted recipe status text (Some whole)
  pub count : ℕ
  pub front : now ≡ Some (take count whole)

-- that, or what stood there
abbrev pub LeavesSorted : RecipeValue → Option (List ℕ) → Option (List ℕ) → Type 0
LeavesSorted recipe old now = (now ≡ old) ⊎ HoldsSortedFront recipe now
