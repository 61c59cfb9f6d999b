use Rattle.std.proofs.Common.{arith}
use Rattle.recipe_order.specs.Matching.{chunk_names}
use Rattle.recipe_order.proofs.Matched.{names_length}
use Rattle.recipe_order.proofs.NameLists.{names_differ, table_all, table_more, table_new}
use Rattle.recipe_order.proofs.name_table.chunk_table.Goals as goal

pub push-requires : goal.push-requires
push-requires c = table_new (chunk_names c.args.recipe.now) c.loop-chunk.table c.loop-chunk.chunk c.chunk_name.result.now (names_differ c.args.recipe.now.chunks c.chunks-chunk-end.ensures.recipe.chunks_differ) (omega (arith, c.loop-chunk-test.true, c.chunks-chunk-end.ensures.chunks, names_length c.args.recipe.now)) c.loop-chunk.invariant c.chunk_name.ensures.name

pub loop-chunk-preserved : goal.loop-chunk-preserved
loop-chunk-preserved c = table_more (chunk_names c.args.recipe.now) c.loop-chunk.table c.push.new.self c.loop-chunk.chunk c.chunk_name.result.now (omega (arith, c.loop-chunk-test.true, c.chunks-chunk-end.ensures.chunks, names_length c.args.recipe.now)) c.loop-chunk.invariant c.chunk_name.ensures.name c.in_ok-push.ensures

pub returns : goal.returns
returns c = table_all (chunk_names c.args.recipe.now) c.loop-chunk.table c.loop-chunk.chunk c.loop-chunk.invariant (omega (arith, c.loop-chunk-test.false, c.chunks-chunk-end.ensures.chunks, names_length c.args.recipe.now))
