use Rattle.std.proofs.Common.{arith}
use Rattle.recipe_reader.proofs.ChunkLemmas.{none_longer}
use Rattle.recipe_reader.proofs.chunks.ChunkList.find.Goals as goal

pub returns-then-len-gt-SHORT-clause-number : goal.returns-then-len-gt-SHORT-clause-number
returns-then-len-gt-SHORT-clause-number c =
    let long = c.if-len-gt-SHORT.true in
    rw (← c.self.view_is, c.if-self.false) (none_longer c.args.name.now c.self.inside.short.keys 15 (c.self.invariant c.if-self.false) (omega (arith, c.len-len.ensures.len, long)))
