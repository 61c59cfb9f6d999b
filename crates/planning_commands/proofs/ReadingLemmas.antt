-- The recipe of a name, from what reading its bytes gives.
use Rattle.std.proofs.Common.{◌≡◌, ◌≤◌, ℕ, List, Bool, true, false, Some, None, Option, refl, inl, inr, length}
use Rattle.std.specs.Prelude.{Result, Ok, Err, IfErr}
use Rattle.csv_rows.specs.Rows.{rows_of}
use Rattle.seed_io.specs.Shelf.{Told, GaveMore}
use Rattle.recipe_reader.specs.Recipes.{RecipeValue, empty_recipe}
use Rattle.recipe_reader.specs.Reading.{Leads}
use Rattle.command_endings.specs.declared.limits.TheConstants.{MOST_RECIPE_BYTES}
use Rattle.command_texts.specs.declared.status.Status.{Status}
use Rattle.command_endings.specs.Worlds.{Over}
use Rattle.planning_commands.specs.Reading.{HoldsRecipe, LacksRecipe, RecipeEnds, RefusesText}
use Rattle.command_texts.specs.Refusals.{Refuses, not_there, too_long}

-- what is weaker holds of a report that was made in place of a recipe
pub weaker_refused : {T E : Type 0} {P Q : E → Type 0} (read : Result T E) → ((report : E) → P report → Q report) → IfErr read P → IfErr read Q
weaker_refused (Ok value) weaker p = tt
weaker_refused (Err report) weaker p = weaker report p

-- byte strings by name: the shelf's where it tells them, else what was found
given_by : Bool → Told → Option (List ℕ) → Told
given_by true map found = map
given_by false map found = λ name. found

given_told : (tells : Bool) (map : Told) (found : Option (List ℕ)) → tells ≡ true → (name : List ℕ) → given_by tells map found name ≡ map name
unfolding given_by
given_told true map found told name = refl
given_told false map found told name = cc told

given_found : (tells : Bool) (map : Told) (found : Option (List ℕ)) (name : List ℕ) → (tells ≡ true → map name ≡ found) → given_by tells map found name ≡ found
unfolding given_by
given_found true map found name held = held refl
given_found false map found name held = refl

pub over_recipe : (tells : Bool) (map : Told) (name bytes : List ℕ) (recipe : RecipeValue) → (tells ≡ true → map name ≡ Some bytes) → length bytes ≤ MOST_RECIPE_BYTES
    → Leads empty_recipe (rows_of bytes) recipe → Over tells map (λ given. HoldsRecipe given name recipe)
over_recipe tells map name bytes recipe held short lawful = record {
  given = given_by tells map (Some bytes);
  told = given_told tells map (Some bytes);
  holds = record { bytes = bytes; reads = record { held = given_found tells map (Some bytes) name held; short = short }; lawful = lawful };
}

pub over_no_recipe : (tells : Bool) (map : Told) (name bytes : List ℕ) (status : Status) (text : List ℕ) → (tells ≡ true → map name ≡ Some bytes) → length bytes ≤ MOST_RECIPE_BYTES
    → RefusesText bytes status text → Over tells map (λ given. LacksRecipe given name status text)
over_no_recipe tells map name bytes status text held short refused = record {
  given = given_by tells map (Some bytes);
  told = given_told tells map (Some bytes);
  holds = inr (inr (record { bytes = bytes; reads = record { held = given_found tells map (Some bytes) name held; short = short }; refused = refused }));
}

pub over_lacking : (tells : Bool) (map : Told) (name : List ℕ) (status : Status) (text : List ℕ) → (tells ≡ true → map name ≡ None) → Refuses (not_there name) status text
    → Over tells map (λ given. LacksRecipe given name status text)
over_lacking tells map name status text lacks refuses = record {
  given = given_by tells map None;
  told = given_told tells map None;
  holds = inl (record { lacks = given_found tells map None name lacks; refuses = refuses });
}

pub over_long : (tells : Bool) (map : Told) (name : List ℕ) (status : Status) (text : List ℕ) → GaveMore tells map name MOST_RECIPE_BYTES → Refuses (too_long name) status text
    → Over tells map (λ given. LacksRecipe given name status text)
over_long tells map name status text more refuses = record {
  given = given_by tells map (Some more.bytes);
  told = given_told tells map (Some more.bytes);
  holds = inr (inl (record { bytes = more.bytes; held = given_found tells map (Some more.bytes) name more.told; long = more.more; refuses = refuses }));
}

-- a command that reads a recipe ends so, where it was refused for want of one, or where the rest holds of the recipe
pub ends_refused : (tells : Bool) (map : Told) (name : List ℕ) (status : Status) (text : List ℕ) (Rest : RecipeValue → Type 0)
    → Over tells map (λ given. LacksRecipe given name status text) → Over tells map (λ given. RecipeEnds given name status text Rest)
ends_refused tells map name status text Rest over = record { given = over.given; told = over.told; holds = inl over.holds }

pub ends_read : (tells : Bool) (map : Told) (name : List ℕ) (status : Status) (text : List ℕ) (recipe : RecipeValue) (Rest : RecipeValue → Type 0)
    → Over tells map (λ given. HoldsRecipe given name recipe) → Rest recipe → Over tells map (λ given. RecipeEnds given name status text Rest)
ends_read tells map name status text recipe Rest over rest = record { given = over.given; told = over.told; holds = inr (record { recipe = recipe; held = over.holds; rest = rest }) }
