use Rattle.std.proofs.Common.{◌∙◌, ap, refl}
use Rattle.command_texts.specs.Refusals.{no_recipe}
use Rattle.recipe_reader.specs.declared.error.RecipeError.{RecipeError}
use Rattle.command_texts.proofs.RefusalLemmas.{no_word, one_word, two_words, three_words}
use Rattle.command_texts.proofs.refusal.fault_text.Goals as goal

pub returns-in_ok-format-in-BadRow : goal.returns-in_ok-format-in-BadRow
returns-in_ok-format-in-BadRow c = one_word (no_recipe c.args.error.now) _ _ _ c.fault_number-number.ensures (ap (λ (e : RecipeError). (no_recipe e).words) c.in-BadRow.is) c.in_ok-format-in-BadRow.ensures.ok

pub returns-in_ok-format-in-BadName : goal.returns-in_ok-format-in-BadName
returns-in_ok-format-in-BadName c = one_word (no_recipe c.args.error.now) _ _ _ c.fault_number-number.ensures (ap (λ (e : RecipeError). (no_recipe e).words) c.in-BadName.is) c.in_ok-format-in-BadName.ensures.ok

pub returns-in_ok-format-in-BadChunkName : goal.returns-in_ok-format-in-BadChunkName
returns-in_ok-format-in-BadChunkName c = one_word (no_recipe c.args.error.now) _ _ _ c.fault_number-number.ensures (ap (λ (e : RecipeError). (no_recipe e).words) c.in-BadChunkName.is) c.in_ok-format-in-BadChunkName.ensures.ok

pub returns-in_ok-format-in-BadSize : goal.returns-in_ok-format-in-BadSize
returns-in_ok-format-in-BadSize c = one_word (no_recipe c.args.error.now) _ _ _ c.fault_number-number.ensures (ap (λ (e : RecipeError). (no_recipe e).words) c.in-BadSize.is) c.in_ok-format-in-BadSize.ensures.ok

pub returns-in_ok-format-in-Memory : goal.returns-in_ok-format-in-Memory
returns-in_ok-format-in-Memory c = no_word (no_recipe c.args.error.now) _ _ c.fault_number-number.ensures (ap (λ (e : RecipeError). (no_recipe e).words) c.in-Memory.is) c.in_ok-format-in-Memory.ensures.ok

pub returns-in_ok-format-in-SizeClash : goal.returns-in_ok-format-in-SizeClash
returns-in_ok-format-in-SizeClash c = three_words (no_recipe c.args.error.now) _ _ _ _ _ c.fault_number-number.ensures (ap (λ (e : RecipeError). (no_recipe e).words) c.in-SizeClash.is) c.in_ok-format-in-SizeClash.ensures.ok

pub returns-in_ok-format-in-TooMany : goal.returns-in_ok-format-in-TooMany
returns-in_ok-format-in-TooMany c = two_words (no_recipe c.args.error.now) _ _ _ _ c.fault_number-number.ensures (ap (λ (e : RecipeError). (no_recipe e).words) c.in-TooMany.is) (c.in_ok-format-in-TooMany.ensures.ok ∙ rw c.word_of-what.ensures refl)
