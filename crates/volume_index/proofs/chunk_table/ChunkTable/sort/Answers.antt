use Rattle.std.proofs.Common.{ap, arith}
use Rattle.volume_index.proofs.TableReads.{sorted_order, same_lookups}
use Rattle.volume_index.specs.ChunkTables.{ChunkTableValue}
use Rattle.volume_index.proofs.chunk_table.ChunkTable.sort.Goals as goal

pub invariant_of-self-2 : goal.invariant_of-self-2
invariant_of-self-2 c =
    let e = c.in_ok-sort_keys.ensures in
    record {
      few = omega (arith, c.self.invariant.few, e.reordered.1);
      ordered = λ _. sorted_order c.sort_keys.new.self.entries c.loop-number.order.items e.sorted e.unique
          (omega (arith, c.loop-number.invariant.long, e.reordered.1, c.len-number-end.ensures.len))
          (λ k inside. c.loop-number.invariant.each k (omega (arith, inside, e.reordered.1, c.len-number-end.ensures.len)));
    }

pub returns-clause-entries : goal.returns-clause-entries
returns-clause-entries c = same_lookups c.self.inside.entries.entries c.sort_keys.new.self.entries c.args.self.now.entries (ap (λ (v : ChunkTableValue). v.entries) c.self.view_is) c.in_ok-sort_keys.ensures.reordered.2
