use Rattle.std.proofs.Common.{arith}
use Rattle.recipe_reader.specs.Recipes.{NamedChunk}
use Rattle.recipe_reader.proofs.ChunkLemmas.{short_after}
use Rattle.recipe_reader.proofs.chunks.ChunkList.push.Goals as goal

pub invariant_of-self-then-len-le-SHORT : goal.invariant_of-self-then-len-le-SHORT
invariant_of-self-then-len-le-SHORT c = λ _.
    let chunk : NamedChunk = record { name = c.args.name.now; size = c.args.size } in
    let put = c.put_last-then-len-le-SHORT in
    let short = c.if-len-le-SHORT.true in
    short_after put.result c.self.inside.short.keys put.new.chunks.keys chunk 15 (c.self.invariant c.if-self.false) (omega (arith, c.len-len.ensures.len, short)) put.ensures.ok put.ensures.err
