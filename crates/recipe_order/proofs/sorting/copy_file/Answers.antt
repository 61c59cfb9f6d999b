use Rattle.std.proofs.Common.{take}
use Rattle.recipe_order.proofs.InOrder.{chunk_listed}
use Rattle.recipe_order.proofs.Steps.{chunk_used, copying_begins, copying_more, file_copied, name_memory, number_below}
use Rattle.recipe_order.proofs.sorting.copy_file.Goals as goal

pub want_of-requires : goal.want_of-requires
want_of-requires c =
    name_memory c.args.recipe.now c.args.copy.now c.args.file c.file_name.result.now c.in-Err.error c.files-files.ensures.recipe c.requires.part c.requires.file c.file_name.ensures.name c.in-Err.ensures.fault

pub loop-chunk-init : goal.loop-chunk-init
loop-chunk-init c =
    copying_begins c.args.recipe.now c.args.copy.now c.add_file.new.self c.args.file c.in-Ok.number c.file_name.result.now c.requires.part c.requires.file c.file_name.ensures.name c.in-Ok.ensures.ok
    c.in-Ok.ensures.number c.in-Ok.ensures.recipe

pub copy_chunk-requires-clause-number : goal.copy_chunk-requires-clause-number
copy_chunk-requires-clause-number c =
    number_below c.args.recipe.now c.args.copy.now c.loop-chunk.copy c.args.file c.in-Ok.number (take c.loop-chunk.chunk-index c.args.chunks.now) c.loop-chunk.invariant

pub copy_chunk-requires-clause-chunk : goal.copy_chunk-requires-clause-chunk
copy_chunk-requires-clause-chunk c =
    chunk_listed c.args.recipe.now c.args.file c.args.chunks.now c.loop-chunk.chunk-index c.files-files.ensures.recipe c.requires.chunks c.loop-chunk-test.true

pub copy_chunk-requires-clause-used : goal.copy_chunk-requires-clause-used
copy_chunk-requires-clause-used c =
    chunk_used c.args.recipe.now c.args.copy.now c.loop-chunk.copy c.args.file c.in-Ok.number (take c.loop-chunk.chunk-index c.args.chunks.now) c.args.chunks.now c.loop-chunk.chunk-index
    c.loop-chunk.invariant c.files-files.ensures.recipe c.requires.chunks c.loop-chunk-test.true

pub loop-chunk-preserved : goal.loop-chunk-preserved
loop-chunk-preserved c =
    copying_more c.args.recipe.now c.args.copy.now c.loop-chunk.copy c.copy_chunk.new.copy c.args.file c.in-Ok.number c.args.chunks.now c.loop-chunk.chunk-index c.loop-chunk.invariant
    c.loop-chunk-test.true c.in_ok-copy_chunk.ensures.copied c.in_ok-copy_chunk.ensures.part

pub returns-clause-copied : goal.returns-clause-copied
returns-clause-copied c =
    file_copied c.args.recipe.now c.args.copy.now c.loop-chunk.copy c.args.file c.in-Ok.number c.args.chunks.now c.loop-chunk.chunk-index c.loop-chunk.invariant c.loop-chunk-test.false c.requires.chunks
