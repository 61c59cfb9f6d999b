use Rattle.std.proofs.Common.{arith}
use Rattle.incidence.proofs.Made.{sizes-more, sizes-all}
use Rattle.incidence.proofs.incidence.sizes_of.Goals as goal

pub loop-chunk-preserved : goal.loop-chunk-preserved
loop-chunk-preserved c =
    sizes-more c.args.recipe.now c.loop-chunk.sizes.items c.push.new.self.items c.loop-chunk.chunk c.size.result c.loop-chunk.invariant c.in_ok-push.ensures.items c.size.ensures.size

pub returns : goal.returns
returns c = sizes-all c.args.recipe.now c.loop-chunk.sizes.items c.loop-chunk.chunk (omega (arith, c.chunks-chunk-end.ensures.chunks)) c.loop-chunk.invariant
