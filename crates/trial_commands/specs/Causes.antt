-- Why a command that draws or chooses greedily answered as it did, status by status and refusal by refusal.
use Rattle.std.specs.Prelude.{ℕ, List}
use Rattle.recipe_reader.specs.declared.error.RecipeError.{RecipeError}
use Rattle.seed_io.specs.Shelf.{Told}
use Rattle.command_texts.specs.declared.status.Status.TheVariants.{Done, No, Unfinished, Refused, Outside, Memory}
use Rattle.command_texts.specs.Refusals.{no_recipe}
use Rattle.command_endings.specs.Laws.{Reason}
use Rattle.command_endings.specs.Reading.{AsksForNone, AsksForMore}
use Rattle.planning_commands.specs.Reading.{AsksForFault}
use Rattle.trial_commands.specs.Gap.{HasGap, HasInvalid, HasNoSet}
use Rattle.trial_commands.specs.Gen.{HasDrawnPlan, HasNoDrawnPlan, HasSpentDrawn}
use Rattle.trial_commands.specs.Greedy.{HasFound, HasStuck}

-- why a command is done
pub data DoneCause (given : Told) (words : List (List ℕ)) : Type 0 where
  GenDone : HasDrawnPlan words → DoneCause given words
  GreedyDone : HasFound given words → DoneCause given words
  GapDone : HasGap given words → DoneCause given words

-- why its answer is no
pub data NoCause (given : Told) (words : List (List ℕ)) : Type 0 where
  GenNone : HasNoDrawnPlan words → NoCause given words
  GreedyStuck : HasStuck given words → NoCause given words
  GapStuck : HasNoSet given words → NoCause given words
  GapFails : HasInvalid given words → NoCause given words

-- why it is unfinished
pub data OpenCause (words : List (List ℕ)) : Type 0 where
  GenOpen : HasSpentDrawn words → OpenCause words

-- each refusal by its number, and its cause
pub data RefusalCause (given : Told) (words : List (List ℕ)) : ℕ → Type 0 where
  NotThere : AsksForNone given words → RefusalCause given words 2
  TooLong : AsksForMore given words → RefusalCause given words 3
  NoRecipe : (error : RecipeError) → AsksForFault given words error → RefusalCause given words (no_recipe error).number

-- the cause of a status; a command that was not stopped has no other
abbrev pub TrialCause : Reason
TrialCause found words Done = DoneCause found.files words
TrialCause found words No = NoCause found.files words
TrialCause found words (Refused number) = RefusalCause found.files words number
TrialCause found words Unfinished = OpenCause words
TrialCause found words Outside = ⊥
TrialCause found words Memory = ⊥
