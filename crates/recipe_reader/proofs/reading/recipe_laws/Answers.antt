use Rattle.recipe_reader.specs.Recipes.{empty_recipe}
use Rattle.recipe_reader.proofs.Gathering.{gathered}
use Rattle.recipe_reader.proofs.Keeping.{empty_keeps}
use Rattle.recipe_reader.proofs.LeadLawful.{leads_lawful}
use Rattle.recipe_reader.proofs.OneFault.{one_fault}
use Rattle.recipe_reader.proofs.OneMeaning.{no_fault, one_recipe}
use Rattle.recipe_reader.proofs.reading.recipe_laws.Goals as goal

pub returns : goal.returns
returns c = record {
  gathered = gathered;
  lawful = λ rows recipe leads. leads_lawful rows empty_recipe recipe empty_keeps leads;
  one = λ rows a b. one_recipe rows empty_recipe a b;
  one_fault = λ rows a b. one_fault rows a b;
  no_fault = λ rows recipe fault. no_fault rows empty_recipe recipe fault;
}
