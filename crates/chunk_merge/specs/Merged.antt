-- Chunks with one set of users, taken together.
use Rattle.std.specs.Prelude.{◌≡◌, ◌↔◌, ℕ, List, Bool, map, nat_eq, sum_by, if◌then◌else◌}
use Rattle.std.specs.List.{list_any}
use Rattle.std.specs.Cmp.Lexicographic.{pointwise}
use Rattle.list_facts.specs.Firsts.{firsts}
use Rattle.seed_model.specs.declared.range.Range.{Range}
use Rattle.seed_model.specs.declared.table.Class.{Class}
use Rattle.seed_model.specs.Best.{IsFirstBest, NoneInRange}
use Rattle.seed_model.specs.Sums.{bytes_where, total_of}
use Rattle.seed_model.specs.Tables.{TableValue, IsTable}
use Rattle.recipe_reader.specs.Lawful.{IsRecipe}
use Rattle.recipe_reader.specs.Recipes.{RecipeValue, table_of}
use Rattle.incidence.specs.Incidences.{incidence_of, chunk_table}

-- whether two lists name the same users
abbrev pub same_users : List ℕ → List ℕ → Bool
same_users one other = pointwise nat_eq one other

-- each list once, where it first stands
abbrev pub each_once : List (List ℕ) → List (List ℕ)
each_once lists = firsts (λ users other. same_users other users) lists

-- all chunks with these users, as one class
abbrev pub joined : List Class → List ℕ → Class
joined chunks users = record { size = bytes_where (λ other. same_users other users) chunks; users = users }

-- a class for each set of users, in the order of their first chunks
abbrev pub classes_of : List Class → List Class
classes_of chunks = map (joined chunks) (each_once (map (λ c. c.users) chunks))

-- a table with a class for each set of users
abbrev pub merged : TableValue → TableValue
merged table = record { files = table.files; classes = classes_of table.classes }

-- whatever test of users one sums by, the sum stays; so what every set of files migrates, touches and replicates stays
abbrev pub KeepsSums : Type 0
KeepsSums = (table : TableValue) (test : List ℕ → Bool) → bytes_where test (merged table).classes ≡ bytes_where test table.classes

-- all bytes together stay
abbrev pub KeepsTotal : Type 0
KeepsTotal = (table : TableValue) → total_of (merged table) ≡ total_of table

-- no two classes have the same users, and none is lost
abbrev pub HasEachOnce : Type 0
HasEachOnce = (table : TableValue) (users : List ℕ)
    → sum_by (λ (c : Class). if same_users c.users users then 1 else 0) (merged table).classes
    ≡ (if list_any (λ (c : Class). same_users c.users users) table.classes then 1 else 0)

-- merging keeps to the limits of a table
abbrev pub KeepsTables : Type 0
KeepsTables = (table : TableValue) → IsTable table → IsTable (merged table)

-- the first best set of a recipe's merged table is that of a class for each chunk
abbrev pub KeepsBest : Type 0
KeepsBest = (recipe : RecipeValue) (range : Range) (set : ℕ → Bool) → IsRecipe recipe
    → IsFirstBest (merged (chunk_table (incidence_of recipe))) range set ↔ IsFirstBest (table_of recipe) range set

-- and where no set is in range of the one, none is of the other
abbrev pub KeepsNone : Type 0
KeepsNone = (recipe : RecipeValue) (range : Range) → IsRecipe recipe → NoneInRange (merged (chunk_table (incidence_of recipe))) range ↔ NoneInRange (table_of recipe) range

-- the merged table of a recipe's incidence is the recipe's table, merged
abbrev pub MergesRecipes : Type 0
MergesRecipes = (recipe : RecipeValue) → IsRecipe recipe → merged (chunk_table (incidence_of recipe)) ≡ merged (table_of recipe)
