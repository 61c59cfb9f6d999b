use Rattle.recipe_order.proofs.Matched.{large_from, match_told}
use Rattle.recipe_order.proofs.matching.matches.Goals as goal

pub returns-then-are_as_large : goal.returns-then-are_as_large
returns-then-are_as_large c =
    match_told c.args.one.now c.args.other.now c.has_all.result c.files-one.ensures.recipe c.files-other.ensures.recipe (c.are_as_large.ensures.0 c.if-are_as_large.true) c.has_all.ensures

pub returns : goal.returns
returns c = (λ e. cc e, λ s. cc (c.are_as_large.ensures.1 (large_from c.args.one.now c.args.other.now c.files-one.ensures.recipe c.files-other.ensures.recipe s), c.if-are_as_large.false))
