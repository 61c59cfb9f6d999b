use Rattle.std.proofs.Common.{ℕ}
use Rattle.recipe_reader.specs.Recipes.{is_pair}
use Rattle.recipe_reader.proofs.Grouping.{not_before}
use Rattle.recipe_reader.proofs.Keeping.{pair_equiv}
use Rattle.recipe_reader.proofs.grouped.GroupedPairs.to_set.Goals as goal

pub put_last-requires : goal.put_last-requires
put_last-requires c =
    let is = c.deref-pair-items.ensures.value in
    rw (c.loop-pair.invariant, ← c.self.view_is, is) (not_before (λ (p : ℕ × ℕ). is_pair p.0 p.1) pair_equiv c.self.inside.pairs.items c.loop-pair.pair-index (0, 0) c.self.invariant.differ
    (rw is at c.loop-pair-test.true))
