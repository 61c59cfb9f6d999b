-- Why a command on the order of files answered as it did, status by status and refusal by refusal.
use Rattle.std.specs.Prelude.{◌≡◌, ℕ, List, length, Bool, Some, None}
use Rattle.seed_io.specs.Shelf.{Told}
use Rattle.seed_model.specs.Best.{IsBest}
use Rattle.seed_model.specs.Files.{holds}
use Rattle.seed_model.specs.Ranges.{InRange}
use Rattle.seed_model.specs.SumLaws.{AgreesBelow}
use Rattle.bound_cert.specs.declared.heading.Answer.TheVariants.{Optimal}
use Rattle.bound_cert.specs.declared.heading.Heading.{Heading}
use Rattle.bound_cert.specs.declared.node_line.NodeLine.{NodeLine}
use Rattle.bound_cert.specs.Laws.{plan_named}
use Rattle.recipe_reader.specs.declared.error.RecipeError.{RecipeError}
use Rattle.recipe_reader.specs.Recipes.{RecipeValue, table_of}
use Rattle.recipe_order.specs.Laws.{HaveSameSums}
use Rattle.recipe_order.specs.Reordered.{IsReordered, carried_set}
use Rattle.recipe_order.specs.Sorted.{IsSorted}
use Rattle.goseed_words.specs.Asked.{Asks, asking}
use Rattle.goseed_words.specs.Commands.{Carry, Sort}
use Rattle.command_texts.specs.declared.status.Status.TheVariants.{Done, No, Unfinished, Refused, Outside, Memory}
use Rattle.command_texts.specs.Refusals.{no_recipe}
use Rattle.command_endings.specs.Laws.{Reason}
use Rattle.command_endings.specs.Reading.{AsksForNone, AsksForMore}
use Rattle.planning_commands.specs.Check.{HoldsCertificate, HoldsFailure}
use Rattle.planning_commands.specs.Reading.{AsksForFault, HoldsRecipe}

-- the words ask to sort this recipe
pub record AsksSort (given : Told) (words : List (List ℕ)) (recipe : RecipeValue) : Type 0 where
  pub name : List ℕ
  pub out : List ℕ
  pub asks : Asks words (asking Sort name out)
  pub held : HoldsRecipe given name recipe

-- why `sort` is done: it has a recipe, which it sorts
pub record HasOrder (given : Told) (words : List (List ℕ)) : Type 0 where
  pub recipe : RecipeValue
  pub asks : AsksSort given words recipe
  pub sorted : RecipeValue
  pub is_sorted : IsSorted recipe sorted

-- the words ask to carry the plan of the certificate of this name from this recipe to that of another name
pub record AsksCarry (given : Told) (words : List (List ℕ)) (first : RecipeValue) (document other : List ℕ) : Type 0 where
  pub name : List ℕ
  pub out : List ℕ
  pub asks : Asks words (asking Carry name document other out)
  pub held : HoldsRecipe given name first

-- the certificate is valid
pub record AsksValid (given : Told) (words : List (List ℕ)) (first : RecipeValue) (heading : Heading) (other : List ℕ) : Type 0 where
  pub document : List ℕ
  pub nodes : List NodeLine
  pub asks : AsksCarry given words first document other
  pub held : HoldsCertificate given document first heading nodes

-- it has a plan, and there is another recipe
pub record AsksPlan (given : Told) (words : List (List ℕ)) (first second : RecipeValue) (heading : Heading) (plan : List Bool) : Type 0 where
  pub other : List ℕ
  pub asks : AsksValid given words first heading other
  pub plan_is : plan_named (length first.files) heading.plan ≡ Some plan
  pub held : HoldsRecipe given other second

-- Why `carry` is done: the other recipe is the same but for its order, and the set of its files with the plan's names has the
-- plan's sums and is in the range. Where the plan was shown to be best among all sets of the first recipe, that set is best
-- among all sets of the other.
pub record HasCarriedPlan (given : Told) (words : List (List ℕ)) : Type 0 where
  pub first : RecipeValue
  pub second : RecipeValue
  pub heading : Heading
  pub plan : List Bool
  pub asks : AsksPlan given words first second heading plan
  pub set : List Bool
  pub same : IsReordered first second
  pub files : length set ≡ length second.files
  pub names : AgreesBelow (length second.files) (holds set) (carried_set first second (holds plan))
  pub sums : HaveSameSums first second (holds plan) (holds set)
  pub in_range : InRange (table_of second) heading.range (holds set)
  pub best : heading.answer ≡ Optimal → heading.pins ≡ None → IsBest (table_of second) heading.range (holds set)

-- why its answer is no: a judgement of the certificate fails
pub record HasFailure (given : Told) (words : List (List ℕ)) : Type 0 where
  pub first : RecipeValue
  pub document : List ℕ
  pub other : List ℕ
  pub asks : AsksCarry given words first document other
  pub line : ℕ
  pub rule : ℕ
  pub held : HoldsFailure given document first line rule

-- why it is refused: the certificate is valid and has no plan
pub record HasNoPlan (given : Told) (words : List (List ℕ)) : Type 0 where
  pub first : RecipeValue
  pub heading : Heading
  pub other : List ℕ
  pub asks : AsksValid given words first heading other
  pub none : heading.plan ≡ None

-- or the recipes are not one but for their order
pub record HasOtherRecipe (given : Told) (words : List (List ℕ)) : Type 0 where
  pub first : RecipeValue
  pub second : RecipeValue
  pub heading : Heading
  pub plan : List Bool
  pub asks : AsksPlan given words first second heading plan
  pub apart : ¬ IsReordered first second

-- why a command is done
pub data DoneCause (given : Told) (words : List (List ℕ)) : Type 0 where
  SortDone : HasOrder given words → DoneCause given words
  CarryDone : HasCarriedPlan given words → DoneCause given words

-- why its answer is no
pub data NoCause (given : Told) (words : List (List ℕ)) : Type 0 where
  CarryFails : HasFailure given words → NoCause given words

-- each refusal by its number, and its cause
pub data RefusalCause (given : Told) (words : List (List ℕ)) : ℕ → Type 0 where
  NotThere : AsksForNone given words → RefusalCause given words 2
  TooLong : AsksForMore given words → RefusalCause given words 3
  NoRecipe : (error : RecipeError) → AsksForFault given words error → RefusalCause given words (no_recipe error).number
  NoPlan : HasNoPlan given words → RefusalCause given words 18
  OtherRecipe : HasOtherRecipe given words → RefusalCause given words 27

-- the cause of a status; a command that was not stopped has no other
abbrev pub OrderCause : Reason
OrderCause found words Done = DoneCause found.files words
OrderCause found words No = NoCause found.files words
OrderCause found words (Refused number) = RefusalCause found.files words number
OrderCause found words Unfinished = ⊥
OrderCause found words Outside = ⊥
OrderCause found words Memory = ⊥
