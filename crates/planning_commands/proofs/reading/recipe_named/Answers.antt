use Rattle.std.proofs.Common.{ap}
use Rattle.std.specs.Prelude.{Err}
use Rattle.std.proofs.lemmas.Result.{IfOk-weaker}
use Rattle.seed_io.specs.declared.whole.ReadError.{ReadError}
use Rattle.command_texts.proofs.HaltLemmas.{through_halt}
use Rattle.planning_commands.proofs.ReadingLemmas.{weaker_refused, over_recipe, over_no_recipe, over_lacking, over_long}
use Rattle.planning_commands.proofs.reading.recipe_named.Goals as goal

pub returns-in-Ok-clause-recipe : goal.returns-in-Ok-clause-recipe
returns-in-Ok-clause-recipe g c =
    let read = c.in-Ok.ensures in
    through_halt _ _ c.recipe_of_text.result c.or_halt.result c.or_halt.ensures.ok (rw c.deref.ensures.value at c.recipe_of_text.ensures.recipe)
    (λ found. IfOk-weaker found _ _ (λ recipe lawful. over_recipe _ _ _ c.in-Ok.text.items recipe read.whole read.within lawful))

pub returns-in-Ok-clause-refused : goal.returns-in-Ok-clause-refused
returns-in-Ok-clause-refused g c =
    let read = c.in-Ok.ensures in
    through_halt _ _ c.recipe_of_text.result c.or_halt.result c.or_halt.ensures.ok (rw c.deref.ensures.value at c.recipe_of_text.ensures.refused)
    (λ found. weaker_refused found (λ report refused. over_no_recipe _ _ _ c.in-Ok.text.items _ _ read.whole read.within refused))

pub returns-in-Err-NotThere-clause-refused : goal.returns-in-Err-NotThere-clause-refused
returns-in-Err-NotThere-clause-refused g c =
    through_halt _ _ c.no_recipe.result c.or_halt-in-Err-NotThere.result c.or_halt-in-Err-NotThere.ensures.ok c.no_recipe.ensures.refused
    (λ found. weaker_refused found (λ report refuses. over_lacking _ _ _ _ _ (λ tells. c.in-Err-NotThere.ensures.lacks tells (ap (λ (e : ReadError). Err e) c.in-Err-NotThere.field-0-is)) refuses))

pub returns-in-Err-TooLong-clause-refused : goal.returns-in-Err-TooLong-clause-refused
returns-in-Err-TooLong-clause-refused g c =
    through_halt _ _ c.no_recipe-in-Err-TooLong.result c.or_halt-in-Err-TooLong.result c.or_halt-in-Err-TooLong.ensures.ok c.no_recipe-in-Err-TooLong.ensures.refused
    (λ found. weaker_refused found (λ report refuses. over_long _ _ _ _ _ (c.in-Err-TooLong.ensures.long (ap (λ (e : ReadError). Err e) c.in-Err-TooLong.field-0-is)) refuses))
