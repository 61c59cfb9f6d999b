-- `sort`: what is made of a recipe, and what is left.
use Rattle.std.proofs.Common.{◌≡◌, ◌∙◌, ℕ, List, Bool, true, Option, Some, ap, inl, inr}
use Rattle.csv_rows.specs.Rows.{rows_of, rows_text}
use Rattle.seed_io.specs.Shelf.{Told, OthersStay}
use Rattle.recipe_reader.specs.Recipes.{RecipeValue}
use Rattle.recipe_reader.specs.Same.{ReadsBack}
use Rattle.recipe_reader.specs.WrittenRows.{rows_of_recipe}
use Rattle.recipe_order.specs.Laws.{HoldsOfSame, IsTransitive}
use Rattle.recipe_order.specs.Sorted.{IsSorted}
use Rattle.command_texts.specs.declared.status.Status.{Status}
use Rattle.command_endings.specs.Creating.{HoldsFront, LeavesOthers}
use Rattle.command_endings.specs.Worlds.{Creating, Over, ShelfEnds}
use Rattle.command_endings.proofs.CreatingLemmas.{leaves_creating, not_refused, over_created}
use Rattle.planning_commands.specs.Reading.{HoldsRecipe}
use Rattle.order_commands.specs.Sort.{HasSorted, IsSortedText, LeavesSorted, PrintsSorted, SortEnds}

-- the text of a recipe sorted
pub sorted_text : HoldsOfSame → IsTransitive → (recipe sorted : RecipeValue) (bytes : List ℕ) → IsSorted recipe sorted → bytes ≡ rows_text (rows_of_recipe sorted) → ReadsBack (rows_of bytes) sorted
    → IsSortedText recipe bytes
sorted_text same_holds joins recipe sorted bytes is text_is back = record {
  sorted = sorted;
  is_sorted = is;
  text_is = text_is;
  back = back.back;
  reads = back.leads;
  same = joins recipe sorted back.back is.same (same_holds sorted back.back back.same);
  files = back.same.files ∙ is.files;
}

-- a front of it
pub front_sorted : (recipe : RecipeValue) (status : Status) (text whole : List ℕ) (old new : Told) (out : List ℕ) → PrintsSorted recipe status text (Some whole) → HoldsFront old new out whole
    → LeavesSorted recipe (old out) (new out)
front_sorted recipe status text whole old new out printed (inl before) = inl before
front_sorted recipe status text whole old new out printed (inr some) = inr (record { status = status; text = text; whole = whole; printed = printed; count = some.0; front = some.1 })

module _ (recipe : RecipeValue) (old mid new : Told) (name out : List ℕ) where
  ended_over : (tells : Bool) (status : Status) (text : List ℕ) (now : Option (List ℕ)) → Over tells old (λ given. HoldsRecipe given name recipe) → PrintsSorted recipe status text now
      → Over tells old (λ given. SortEnds name given status text now)
  ended_over tells status text now over printed =
      record { given = over.given; told = over.told; holds = inr (record { recipe = recipe; held = over.holds; rest = printed }) }

  pub sort_ends : (tells : Bool) (status : Status) (text : List ℕ) → mid ≡ old → Over tells old (λ given. HoldsRecipe given name recipe) → (tells ≡ true → OthersStay mid new out)
      → HasSorted tells recipe status text (new out) → ShelfEnds tells old new (Creating out (SortEnds name)) status text
  sort_ends tells status text same over others has =
      over_created (SortEnds name) tells old mid new out has.whole status text same others has.held (not_refused status has.printed.answers) (ended_over tells status text (Some has.whole) over has.printed)

  pub sort_left : (tells : Bool) → mid ≡ old → Over tells old (λ given. HoldsRecipe given name recipe) → OthersStay mid new out → LeavesSorted recipe (mid out) (new out)
      → LeavesOthers tells old new out (Creating out (SortEnds name))
  sort_left tells same over others (inl is) =
      record { others = λ other apart. others other apart ∙ ap (λ (m : Told). m other) same; part = inl (is ∙ ap (λ (m : Told). m out) same) }
  sort_left tells same over others (inr front) =
      leaves_creating (SortEnds name) tells old mid new out front.whole front.status front.text same others (inr (front.count, front.front)) (not_refused front.status front.printed.answers)
      (ended_over tells front.status front.text (Some front.whole) over front.printed)
