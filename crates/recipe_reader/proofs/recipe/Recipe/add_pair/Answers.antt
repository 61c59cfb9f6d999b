use Rattle.recipe_reader.proofs.recipe.Recipe.add_pair.Goals as goal

pub returns-clause-keeps : goal.returns-clause-keeps
returns-clause-keeps c = rw c.of.ensures at c.add_named.ensures.keeps

pub returns-clause-fault : goal.returns-clause-fault
returns-clause-fault c = rw c.of.ensures at c.add_named.ensures.fault

pub returns-clause-known : goal.returns-clause-known
returns-clause-known c = rw c.of.ensures at c.add_named.ensures.known
