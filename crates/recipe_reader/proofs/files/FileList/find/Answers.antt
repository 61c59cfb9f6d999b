use Rattle.std.specs.String.{string_bytes}
use Rattle.recipe_reader.specs.Recipes.{is_named}
use Rattle.list_facts.proofs.Numbering.{number_of_view}
use Rattle.recipe_reader.proofs.files.FileList.find.Goals as goal

pub returns : goal.returns
returns c = rw (← c.self.view_is) (number_of_view string_bytes (is_named c.args.name.now) c.self.inside.names.keys c.get_index_of.result c.get_index_of.ensures.index)
