-- The texts of the commands that draw recipes and that choose greedily. Each line ends with a line feed.
use Rattle.std.specs.Prelude.{ℕ, ◌-◌, List, ◌++◌, Bool, length, codes}
use Rattle.seed_model.specs.Files.{holds}
use Rattle.seed_model.specs.Sums.{migrated_of, replicated_of}
use Rattle.seed_text.specs.SetTexts.{set_text}
use Rattle.recipe_reader.specs.Recipes.{RecipeValue, bytes_of, table_of}
use Rattle.command_texts.specs.Lines.{line, number_line}
use Rattle.planning_commands.specs.Check.{judged_table}
use Rattle.planning_commands.specs.Texts.{file_lines}

-- a set that was found greedily by its text, and its sums
abbrev pub found_lines : List ℕ → ℕ → ℕ → List ℕ
found_lines set migrated replicated =
    line (codes "greedy" ++ codes " " ++ set) ++ number_line (codes "migrated") migrated ++ number_line (codes "replicated") replicated

abbrev pub set_lines : RecipeValue → List Bool → List ℕ
set_lines recipe set = found_lines (set_text set) (migrated_of (holds set) (table_of recipe)) (replicated_of (holds set) (table_of recipe))

-- that none was found
abbrev pub no_set_line : List ℕ
no_set_line = line (codes "greedy none")

-- what `greedy` prints of a set: how many turns and rounds it took, and its files
abbrev pub greedy_text : RecipeValue → List Bool → ℕ → ℕ → List ℕ
greedy_text recipe set turns rounds =
    set_lines recipe set ++ number_line (codes "turns") turns ++ number_line (codes "rounds") rounds ++ file_lines (holds set) recipe.files

-- what it prints where none was found
abbrev pub stuck_text : ℕ → List ℕ
stuck_text turns = no_set_line ++ number_line (codes "turns") turns

-- a bound, and how much more is replicated
abbrev pub gap_lines : ℕ → ℕ → List ℕ
gap_lines replicated bound = number_line (codes "bound") bound ++ number_line (codes "gap") (replicated - bound)

-- what `gap` prints of a set beside a bound
abbrev pub gap_text : RecipeValue → List Bool → ℕ → List ℕ
gap_text recipe set bound = set_lines recipe set ++ gap_lines (replicated_of (holds set) (table_of recipe)) bound

-- how much there is of a recipe that was drawn
abbrev pub drawn_lines : RecipeValue → List ℕ
drawn_lines recipe =
    number_line (codes "files") (length recipe.files)
    ++ number_line (codes "chunks") (length recipe.chunks)
    ++ number_line (codes "pairs") (length recipe.pairs)
    ++ number_line (codes "classes") (length (judged_table recipe).classes)
    ++ number_line (codes "total") (bytes_of recipe)

-- what `gen` prints: how much there is, the lines of the search, and what judging its certificate gave
abbrev pub gen_text : RecipeValue → List ℕ → List ℕ → List ℕ
gen_text recipe searched judged = drawn_lines recipe ++ (searched ++ judged)

abbrev pub yes_line : List ℕ
yes_line = line (codes "check yes")
