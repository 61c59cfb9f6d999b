use Rattle.recipe_reader.proofs.Fields.{field_there, field_is}
use Rattle.csv.specs.Records.{fields_of}
use Rattle.recipe_reader.proofs.row.field.Goals as goal

pub unwrap-requires : goal.unwrap-requires
unwrap-requires c = field_there (fields_of c.args.row.now) c.args.place c.get.result c.requires c.get.ensures.value

pub returns : goal.returns
returns c = field_is (fields_of c.args.row.now) c.args.place c.get.result c.unwrap.result c.unwrap.ensures c.get.ensures.value
