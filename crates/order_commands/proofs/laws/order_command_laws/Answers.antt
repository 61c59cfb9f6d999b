use Rattle.order_commands.proofs.DeterminedLemmas.{carry_lawful, sort_lawful}
use Rattle.order_commands.proofs.laws.order_command_laws.Goals as goal

pub returns-clause-sorting : goal.returns-clause-sorting
returns-clause-sorting c = let recipes = c.recipe_laws.ensures in sort_lawful c.set_text_laws.ensures.one_spelling recipes.one recipes.one_fault recipes.no_fault c.one_order_laws.ensures.sorted

pub returns-clause-carrying : goal.returns-clause-carrying
returns-clause-carrying c =
    let recipes = c.recipe_laws.ensures in
    let certificates = c.certificate_laws.ensures in
    let merging = c.merge_laws.ensures in
    let orders = c.order_laws.ensures in
    carry_lawful c.set_text_laws.ensures.one_spelling recipes.one recipes.one_fault recipes.no_fault certificates.one_failure certificates.unfailed certificates.failed certificates.one certificates.sound merging.sums
    merging.tables recipes.lawful orders.carried_sums orders.carried_best
