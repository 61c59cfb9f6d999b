use Rattle.recipe_order.proofs.Steps.{chunk_copied, chunk_memory, chunk_part}
use Rattle.recipe_order.proofs.sorting.copy_chunk.Goals as goal

pub want_of-requires : goal.want_of-requires
want_of-requires c =
    chunk_memory c.args.recipe.now c.args.copy.now c.args.number c.args.chunk c.chunk_name.result.now c.size.result c.in-Err.error c.files-files.ensures.recipe c.requires.part c.requires.number
    c.requires.chunk c.requires.used c.chunk_name.ensures.name c.size.ensures.size c.in-Err.ensures.fault

pub returns-in-Ok-clause-copied : goal.returns-in-Ok-clause-copied
returns-in-Ok-clause-copied c =
    chunk_copied c.args.recipe.now c.args.copy.now c.add_pair.new.self c.args.number c.args.chunk c.chunk_name.result.now c.size.result c.chunk_name.ensures.name c.size.ensures.size c.in-Ok.ensures.ok

pub returns-in-Ok-clause-part : goal.returns-in-Ok-clause-part
returns-in-Ok-clause-part c =
    chunk_part c.args.recipe.now c.args.copy.now c.add_pair.new.self c.args.number c.args.chunk c.requires.part c.requires.number c.requires.chunk c.requires.used
    (returns-in-Ok-clause-copied c) c.in-Ok.ensures.recipe
