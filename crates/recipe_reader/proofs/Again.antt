-- What is written of a recipe reads to an equal one.
use Rattle.std.specs.Prelude.{Result, Ok, Err, IfOk, Vec}
use Rattle.std.proofs.Common.{◌≡◌, ◌∙◌, ◌+◌, ap, sym, subst, ℕ, List, Option, Some}
use Rattle.std.specs.declared.alloc.Global.{Global}
use Rattle.csv_rows.specs.Rows.{rows_of, rows_text}
use Rattle.recipe_reader.specs.Lawful.{IsRecipe}
use Rattle.recipe_reader.specs.Recipes.{RecipeValue}
use Rattle.recipe_reader.specs.Same.{ReadsBack}
use Rattle.recipe_reader.specs.WrittenRows.{rows_of_recipe}
use Rattle.recipe_reader.proofs.ReadBack.{reads_back}
use Rattle.recipe_reader.proofs.Replaying.{uses}
use Rattle.recipe_reader.proofs.SameAgain.{same_recipe}
use Rattle.recipe_reader.proofs.WrittenSpelled.{replayed, said_all}

pub leads_again : (r : RecipeValue) → IsRecipe r → ReadsBack (rows_of_recipe r) r
leads_again r h = let p = replayed r h in record { back = p.back; leads = p.leads; same = same_recipe r p.back (0 + uses (said_all r)) h p.so_far p.part_of }

-- the text that a writer gives is the one that it had taken
pub text_is : {E : Type 0} (written : Option (List ℕ)) (all : List ℕ) (result : Result (Vec ℕ Global) E) → written ≡ Some all → IfOk result (λ text. written ≡ Some text.items) → IfOk result (λ text. text.items ≡ all)
text_is written all (Ok text) h is = let same = sym is ∙ h in cc
text_is written all (Err e) h is = tt

pub text_again : {E : Type 0} (r : RecipeValue) (result : Result (Vec ℕ Global) E) → IsRecipe r → IfOk result (λ text. text.items ≡ rows_text (rows_of_recipe r))
    → IfOk result (λ text. ReadsBack (rows_of text.items) r)
text_again r (Ok text) h items =
    let Back : List (List (List ℕ)) → Type 0 = λ t. ReadsBack t r in
    subst Back (sym (ap rows_of items ∙ reads_back r h)) (leads_again r h)
text_again r (Err e) h items = tt
