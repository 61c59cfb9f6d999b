-- The refusals of the code, as numbers and words.
use Rattle.command_texts.specs.declared.refusal.Refusal.{Refusal as Cause}
use Rattle.command_texts.specs.declared.refusal.Refusal.TheVariants.{Usage, NotThere, TooLong, NoRecipe, BadWord, TooManyFiles, NoPlan, OtherRecipe}
use Rattle.command_texts.specs.Refusals.{Refusal, usage, not_there, too_long, no_recipe, bad_word, too_many_files, no_plan, other_recipe}

abbrev pub refusal_of : Cause → Refusal
refusal_of Usage = usage
refusal_of (NotThere name) = not_there name.now
refusal_of (TooLong name) = too_long name.now
refusal_of (NoRecipe error) = no_recipe error
refusal_of (BadWord place) = bad_word place
refusal_of (TooManyFiles files) = too_many_files files
refusal_of NoPlan = no_plan
refusal_of OtherRecipe = other_recipe
