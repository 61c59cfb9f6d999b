use Rattle.load_gen.proofs.Growing.{only_memory}
use Rattle.load_gen.proofs.Rows.{added_at, paired, want_pair}
use Rattle.load_gen.proofs.drawing.add_row.Goals as goal

pub want_of-requires : goal.want_of-requires
want_of-requires c = only_memory _ _ c.requires.file_room c.in-Err.ensures.fault

pub add_pair-requires-clause-file : goal.add_pair-requires-clause-file
add_pair-requires-clause-file c = added_at c.args.recipe.now c.add_file.new.self c.args.file.now c.in-Ok.file c.in-Ok.ensures.ok c.in-Ok.ensures.number

pub want_of-requires-in-Err-add_pair : goal.want_of-requires-in-Err-add_pair
want_of-requires-in-Err-add_pair c =
    want_pair c.args.recipe.now c.add_file.new.self c.args.file.now c.to_be_bytes.result c.args.chunk c.in-Ok.file c.from-size.result c.in-Err-add_pair.error c.requires
    c.in-Ok.ensures.ok c.in-Ok.ensures.number c.to_be_bytes.ensures c.from-size.ensures c.in-Err-add_pair.ensures.fault

pub returns-in-Ok-add_pair : goal.returns-in-Ok-add_pair
returns-in-Ok-add_pair c =
    paired c.args.recipe.now c.add_file.new.self c.add_pair.new.self c.args.file.now c.to_be_bytes.result c.args.chunk c.in-Ok.file c.from-size.result
    c.in-Ok.ensures.ok c.in-Ok.ensures.number c.to_be_bytes.ensures c.from-size.ensures c.in-Ok-add_pair.ensures.ok
