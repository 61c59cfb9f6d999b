use Rattle.std.proofs.Common.{arith}
use Rattle.std.proofs.lemmas.List.{get_or_default}
use Rattle.volume_index.proofs.Marks.{least_more, least_all}
use Rattle.volume_index.proofs.chunk_table.ChunkTable.least_rank.Goals as goal

pub loop-name-preserved : goal.loop-name-preserved
loop-name-preserved c = record {
  most = omega (arith, c.min-least.ensures, c.loop-name.invariant.most);
  before = least_more c.args.self.now.entries c.args.list.now c.loop-name.name-index _ c.rank.result c.loop-name.least c.min-least.result (c.loop-name-test.true, get_or_default _ _ _ _ c.loop-name-test.true) c.rank.ensures
      (omega (arith, c.min-least.ensures)) (omega (arith, c.min-least.ensures)) c.loop-name.invariant.before;
}

pub returns-clause-before : goal.returns-clause-before
returns-clause-before c = least_all c.args.self.now.entries c.args.list.now c.loop-name.name-index c.loop-name.least c.loop-name-test.false c.loop-name.invariant.before
