use Rattle.std.proofs.Common.{refl}
use Rattle.order_commands.proofs.SortLemmas.{sorted_text}
use Rattle.order_commands.proofs.sort.make.Goals as goal

pub returns : goal.returns
returns c = record {
  bytes = c.in_ok-bytes.bytes.items;
  held = refl;
  sorted = sorted_text c.likeness_laws.ensures.same c.likeness_laws.ensures.transitive c.args.recipe.now c.in_ok-sorted.sorted c.in_ok-bytes.bytes.items c.in_ok-sorted.ensures c.in_ok-bytes.ensures.text
      c.in_ok-bytes.ensures.reads_back;
  answers = refl;
  prints = c.in_ok-text.ensures;
}
