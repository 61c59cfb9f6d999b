use Rattle.std.proofs.Common.{◌∙◌, arith, below_more, refl, sym}
use Rattle.recipe_order.specs.Matching.{chunk_names}
use Rattle.recipe_order.proofs.Matched.{chunk_within, names_length}
use Rattle.recipe_order.proofs.NameLists.{numbers_length}
use Rattle.recipe_order.proofs.matching.has_sizes.Goals as goal

pub bounds-numbers-chunk : goal.bounds-numbers-chunk
bounds-numbers-chunk c =
    omega (arith, numbers_length (chunk_names c.args.whole.now) (chunk_names c.args.part.now) c.args.numbers.now c.requires, names_length c.args.part.now, c.chunks-chunk-end.ensures.chunks, c.loop-chunk-test.true)

pub size-requires : goal.size-requires
size-requires c = chunk_within c.args.whole.now c.args.part.now c.args.numbers.now c.loop-chunk.chunk c.requires (omega (arith, c.chunks-chunk-end.ensures.chunks, c.loop-chunk-test.true))

pub overflow_cast-numbers : goal.overflow_cast-numbers
overflow_cast-numbers c =
    let within = chunk_within c.args.whole.now c.args.part.now c.args.numbers.now c.loop-chunk.chunk c.requires (omega (arith, c.chunks-chunk-end.ensures.chunks, c.loop-chunk-test.true)) in
    omega (arith, within, c.files-whole.ensures.recipe.limits.chunks)

pub loop-chunk-preserved : goal.loop-chunk-preserved
loop-chunk-preserved c = below_more _ _ c.loop-chunk.invariant (sym c.size.ensures.size ∙ (c.if-size.false ∙ c.size-in-loop-chunk.ensures.size))

pub returns-then-size : goal.returns-then-size
returns-then-size c = (λ e chunk lt. cc e, λ all. absurd (c.if-size.true (c.size.ensures.size ∙ (all c.loop-chunk.chunk (omega (arith, c.chunks-chunk-end.ensures.chunks, c.loop-chunk-test.true)) ∙ sym c.size-in-loop-chunk.ensures.size))))

pub returns : goal.returns
returns c = (λ e chunk lt. c.loop-chunk.invariant chunk (omega (arith, lt, c.chunks-chunk-end.ensures.chunks, c.loop-chunk-test.false)), λ all. refl)
