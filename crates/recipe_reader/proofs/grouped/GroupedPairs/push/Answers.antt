use Rattle.recipe_reader.proofs.Grouping.{grouped_more}
use Rattle.recipe_reader.proofs.grouped.GroupedPairs.push.Goals as goal

pub invariant_of-self-2 : goal.invariant_of-self-2
invariant_of-self-2 c =
    let a = c.self.inside in
    rw c.in_ok-push.ensures.items (grouped_more a.pairs.items a.latest.items c.make_place.new.latest.items a.last c.args.file c.args.chunk c.self.invariant
    (rw (← c.self.view_is) at c.requires.last) (rw (← c.self.view_is) at c.requires.new) c.make_place.ensures.same c.in_ok-make_place.ensures.place)
