use Rattle.std.proofs.Common.{arith}
use Rattle.recipe_reader.specs.Recipes.{NamedChunk, is_chunk}
use Rattle.recipe_reader.proofs.Grouping.{not_before}
use Rattle.recipe_reader.proofs.Keeping.{chunk_equiv}
use Rattle.recipe_reader.proofs.chunks.with_longer_names.Goals as goal

pub put_last-requires : goal.put_last-requires
put_last-requires c =
    let is = c.as_slice-chunk-items.ensures.keys in
    let new = not_before (λ (chunk : NamedChunk). is_chunk chunk.name) chunk_equiv c.args.short.now.keys c.loop-chunk.chunk-index c.chunk-item.result c.as_slice-chunk-items.ensures.unique (rw is at c.loop-chunk-test.true) in
    let short = c.name.ensures.short in
    (omega arith, (omega arith, (rw c.of.ensures (omega (arith, short)), (c.size.ensures.small, rw (c.of.ensures, c.name.ensures.name, c.chunk-item.is, is, c.loop-chunk.invariant) new))))
