use Rattle.std.specs.Prelude.{Vec}
use Rattle.std.proofs.Common.{ℕ, Global}
use Rattle.list_facts.proofs.Numbering.{number_of_view}
use Rattle.recipe_reader.specs.Recipes.{is_named}
use Rattle.recipe_order.proofs.name_table.NameTable.find.Goals as goal

pub returns : goal.returns
returns c = rw (← c.self.view_is) (number_of_view (λ (v : Vec ℕ Global). v.items) (is_named c.args.name.now) c.self.inside.names.keys c.get_index_of.result c.get_index_of.ensures.index)
