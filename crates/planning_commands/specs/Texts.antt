-- The texts that the commands on plans print. Each line ends with a line feed.
use Rattle.std.specs.Prelude.{ℕ, ◌==◌, List, [], ◌∷◌, ◌++◌, Bool, length, filter, codes, if◌then◌else◌, Option, Some, None}
use Rattle.seed_model.specs.Files.{holds}
use Rattle.seed_model.specs.Sums.{migrated_of, touched_of, replicated_of}
use Rattle.seed_model.specs.Tables.{TableValue}
use Rattle.seed_model.specs.declared.table.Class.{Class}
use Rattle.seed_text.specs.SetTexts.{set_text}
use Rattle.bound_cert.specs.declared.heading.Answer.{Answer}
use Rattle.bound_cert.specs.declared.heading.Answer.TheVariants.{Optimal, Infeasible, Open}
use Rattle.recipe_reader.specs.Recipes.{RecipeValue, bytes_of, table_of}
use Rattle.chunk_merge.specs.Merged.{merged}
use Rattle.command_texts.specs.Lines.{line, lines_of, number_line, numbers_line}

-- a line for a file, where the set has it
abbrev pub file_line : (ℕ → Bool) → ℕ × List ℕ → List ℕ
file_line set (number, name) = if set number then line (codes "file" ++ codes " " ++ name) else []

-- a line for each file of the set, by number
abbrev pub file_lines : (ℕ → Bool) → List (List ℕ) → List ℕ
file_lines set names = lines_of (file_line set) names

-- a plan by its set's text, and its sums
abbrev pub plan_lines : List ℕ → ℕ → ℕ → List ℕ
plan_lines set migrated replicated =
    line (codes "plan" ++ codes " " ++ set) ++ number_line (codes "migrated") migrated ++ number_line (codes "replicated") replicated

-- what a certificate shows, as it is printed
abbrev pub answer_word : Answer → List ℕ
answer_word Optimal = codes "optimal"
answer_word Infeasible = codes "infeasible"
answer_word Open = codes "open"

abbrev pub answer_line : Answer → List ℕ
answer_line answer = line (codes "answer " ++ answer_word answer)

-- a plan, or none, with its sums
abbrev pub planned_lines : Option (List Bool) → ℕ → ℕ → List ℕ
planned_lines (Some plan) migrated replicated = plan_lines (set_text plan) migrated replicated
planned_lines None migrated replicated = line (codes "plan none")

-- a bound, or none
abbrev pub bound_line : Option ℕ → List ℕ
bound_line (Some bound) = number_line (codes "bound") bound
bound_line None = line (codes "bound none")

-- the files of a plan, if there is one
abbrev pub planned_files : Option (List Bool) → List (List ℕ) → List ℕ
planned_files (Some plan) names = file_lines (holds plan) names
planned_files None names = []

-- an answer with its plan, its bound, and how many branchings it took
abbrev pub answer_lines : List (List ℕ) → Answer → Option (List Bool) → ℕ → ℕ → Option ℕ → ℕ → List ℕ
answer_lines names answer plan migrated replicated bound branchings =
    answer_line answer ++ planned_lines plan migrated replicated ++ bound_line bound ++ number_line (codes "branchings") branchings ++ planned_files plan names

-- what `best` prints of a best set
abbrev pub best_text : RecipeValue → List Bool → List ℕ
best_text recipe plan =
    line (codes "answer optimal")
    ++ plan_lines (set_text plan) (migrated_of (holds plan) (table_of recipe)) (replicated_of (holds plan) (table_of recipe))
    ++ file_lines (holds plan) recipe.files

-- what `best` prints where no set is in range
abbrev pub none_text : List ℕ
none_text = line (codes "answer infeasible") ++ line (codes "plan none")

-- how many of the users are in the set
abbrev pub users_inside : (ℕ → Bool) → List ℕ → ℕ
users_inside set users = length (filter set users)

-- a line for a class, where a user of it is in the set: its number, its bytes, its users, and how many of them are in the set
abbrev pub class_line : (ℕ → Bool) → ℕ × Class → List ℕ
class_line set (number, class) =
    let inside = users_inside set class.users in
    if inside == 0 then [] else numbers_line (codes "class") (number ∷ class.size ∷ length class.users ∷ inside ∷ [])

-- a line for each class with a user in the set, by number
abbrev pub class_lines : (ℕ → Bool) → List Class → List ℕ
class_lines set classes = lines_of (class_line set) classes

-- how much there is of a recipe
abbrev pub recipe_lines : RecipeValue → List ℕ
recipe_lines recipe =
    number_line (codes "files") (length recipe.files)
    ++ number_line (codes "chunks") (length recipe.chunks)
    ++ number_line (codes "classes") (length (merged (table_of recipe)).classes)
    ++ number_line (codes "total") (bytes_of recipe)

-- the three sums of a set
abbrev pub sum_lines : (ℕ → Bool) → TableValue → List ℕ
sum_lines set table =
    number_line (codes "touched") (touched_of set table)
    ++ number_line (codes "migrated") (migrated_of set table)
    ++ number_line (codes "replicated") (replicated_of set table)

-- what `weigh` prints of a set: how much there is of the recipe, the set's sums, and each class with a user in the set, all chunks with
-- one set of users being a class
abbrev pub weigh_text : RecipeValue → List Bool → List ℕ
weigh_text recipe set =
    recipe_lines recipe
    ++ sum_lines (holds set) (table_of recipe)
    ++ class_lines (holds set) (merged (table_of recipe)).classes
