use Rattle.trial_commands.proofs.DeterminedLemmas.{gap_lawful, gen_lawful, greedy_lawful}
use Rattle.trial_commands.proofs.laws.trial_laws.Goals as goal

pub returns-clause-drawing : goal.returns-clause-drawing
returns-clause-drawing c = let recipes = c.recipe_laws.ensures in gen_lawful c.set_text_laws.ensures.one_spelling recipes.one recipes.one_fault recipes.no_fault c.merge_laws.ensures.sums c.certificate_laws.ensures.one

pub returns-clause-greedy : goal.returns-clause-greedy
returns-clause-greedy c = let recipes = c.recipe_laws.ensures in greedy_lawful c.set_text_laws.ensures.one_spelling recipes.one recipes.one_fault recipes.no_fault

pub returns-clause-gap : goal.returns-clause-gap
returns-clause-gap c =
    let recipes = c.recipe_laws.ensures in
    let certificates = c.certificate_laws.ensures in
    gap_lawful c.set_text_laws.ensures.one_spelling recipes.one recipes.one_fault recipes.no_fault certificates.one_failure certificates.unfailed certificates.failed certificates.one
