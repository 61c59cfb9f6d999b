-- Why a command on plans answered as it did, status by status and refusal by refusal.
use Rattle.std.specs.Prelude.{ℕ, List}
use Rattle.recipe_reader.specs.declared.error.RecipeError.{RecipeError}
use Rattle.seed_io.specs.Shelf.{Told}
use Rattle.command_texts.specs.declared.status.Status.TheVariants.{Done, No, Unfinished, Refused, Outside, Memory}
use Rattle.command_texts.specs.Refusals.{no_recipe}
use Rattle.command_endings.specs.Laws.{Reason}
use Rattle.command_endings.specs.Reading.{AsksForNone, AsksForMore}
use Rattle.planning_commands.specs.Best.{HasBest, HasNone, HasMany}
use Rattle.planning_commands.specs.Check.{HasCertificate, HasFailure}
use Rattle.planning_commands.specs.Plan.{HasPlan, HasNoPlan, HasSpentAll, HasNoPins}
use Rattle.planning_commands.specs.Reading.{AsksForFault}
use Rattle.planning_commands.specs.Relax.{HasNode, HasNoNode}
use Rattle.planning_commands.specs.Weigh.{HasSet, HasNoSet}

-- why a command is done
pub data DoneCause (given : Told) (words : List (List ℕ)) : Type 0 where
  BestDone : HasBest given words → DoneCause given words
  WeighDone : HasSet given words → DoneCause given words
  CheckDone : HasCertificate given words → DoneCause given words
  RelaxDone : HasNode given words → DoneCause given words
  PlanDone : HasPlan given words → DoneCause given words

-- why its answer is no
pub data NoCause (given : Told) (words : List (List ℕ)) : Type 0 where
  BestNone : HasNone given words → NoCause given words
  CheckFails : HasFailure given words → NoCause given words
  PlanNone : HasNoPlan given words → NoCause given words

-- why it is unfinished
pub data OpenCause (given : Told) (words : List (List ℕ)) : Type 0 where
  PlanOpen : HasSpentAll given words → OpenCause given words

-- each refusal by its number, and its cause
pub data RefusalCause (given : Told) (words : List (List ℕ)) : ℕ → Type 0 where
  NotThere : AsksForNone given words → RefusalCause given words 2
  TooLong : AsksForMore given words → RefusalCause given words 3
  NoRecipe : (error : RecipeError) → AsksForFault given words error → RefusalCause given words (no_recipe error).number
  NoSet : HasNoSet given words → RefusalCause given words 10
  NoNode : HasNoNode given words → RefusalCause given words 10
  NoPins : HasNoPins given words → RefusalCause given words 10
  TooManyFiles : HasMany given words → RefusalCause given words 11

-- the cause of a status; a command that was not stopped has no other
abbrev pub PlanningCause : Reason
PlanningCause found words Done = DoneCause found.files words
PlanningCause found words No = NoCause found.files words
PlanningCause found words (Refused number) = RefusalCause found.files words number
PlanningCause found words Unfinished = OpenCause found.files words
PlanningCause found words Outside = ⊥
PlanningCause found words Memory = ⊥
