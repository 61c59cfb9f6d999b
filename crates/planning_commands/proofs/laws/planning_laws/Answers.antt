use Rattle.std.proofs.Common.{subst}
use Rattle.seed_model.specs.Tables.{IsTable}
use Rattle.recipe_reader.specs.Recipes.{table_of}
use Rattle.planning_commands.proofs.DeterminedLemmas.{best_lawful, weigh_lawful, check_lawful, relax_lawful, plan_lawful, pinned_lawful, give_one}
use Rattle.planning_commands.proofs.laws.planning_laws.Goals as goal

pub returns-clause-best : goal.returns-clause-best
returns-clause-best c = let recipes = c.recipe_laws.ensures in best_lawful c.set_text_laws.ensures.one_spelling recipes.one recipes.one_fault recipes.no_fault

pub returns-clause-weigh : goal.returns-clause-weigh
returns-clause-weigh c = let recipes = c.recipe_laws.ensures in weigh_lawful c.set_text_laws.ensures.one_spelling recipes.one recipes.one_fault recipes.no_fault

pub returns-clause-check : goal.returns-clause-check
returns-clause-check c =
    let recipes = c.recipe_laws.ensures in
    let certificates = c.certificate_laws.ensures in
    let merging = c.merge_laws.ensures in
    check_lawful c.set_text_laws.ensures.one_spelling recipes.one recipes.one_fault recipes.no_fault certificates.sound merging.sums certificates.one_failure certificates.unfailed certificates.failed certificates.one
    (λ given name recipe held.
    let is = c.incidence_laws.ensures.recipes recipe (recipes.lawful _ recipe held.lawful) in
    merging.tables (table_of recipe) (subst IsTable is.1 is.0.table))

pub returns-clause-relax : goal.returns-clause-relax
returns-clause-relax c = let recipes = c.recipe_laws.ensures in relax_lawful c.set_text_laws.ensures.one_spelling recipes.one recipes.one_fault recipes.no_fault

pub returns-clause-plan : goal.returns-clause-plan
returns-clause-plan c =
    let recipes = c.recipe_laws.ensures in
    plan_lawful c.set_text_laws.ensures.one_spelling recipes.one recipes.one_fault recipes.no_fault c.merge_laws.ensures.sums

pub returns-clause-pinned : goal.returns-clause-pinned
returns-clause-pinned c =
    let recipes = c.recipe_laws.ensures in
    pinned_lawful c.set_text_laws.ensures.one_spelling recipes.one recipes.one_fault recipes.no_fault c.merge_laws.ensures.sums

pub returns-clause-one : goal.returns-clause-one
returns-clause-one c = let recipes = c.recipe_laws.ensures in give_one c.set_text_laws.ensures.one_spelling recipes.one recipes.one_fault recipes.no_fault
