use Rattle.std.specs.Prelude.{All}
use Rattle.std.proofs.Common.{◌∙◌, List, ℕ, ap, arith, get_or, length, refl, subst, sym}
use Rattle.std.proofs.lemmas.List.{take_all}
use Rattle.std.proofs.lemmas.List.Elements.{All-more}
use Rattle.recipe_order.specs.Matching.{StandsIn, chunk_names}
use Rattle.recipe_order.proofs.Matched.{chunk_within, names_length, pair_at, stands_is}
use Rattle.recipe_order.proofs.NameLists.{number_within, numbers_length}
use Rattle.recipe_order.proofs.matching.has_pairs.Goals as goal

pub bounds-files-pair : goal.bounds-files-pair
bounds-files-pair c =
    let below = pair_at c.args.part.now c.pairs-pair-items.result.now c.loop-pair.pair-index c.pairs-pair-items.ensures.recipe c.pairs-pair-items.ensures.pairs c.loop-pair-test.true in
    omega (arith, below.file, numbers_length c.args.whole.now.files c.args.part.now.files c.args.files.now c.requires.files)

pub bounds-chunks-pair : goal.bounds-chunks-pair
bounds-chunks-pair c =
    let below = pair_at c.args.part.now c.pairs-pair-items.result.now c.loop-pair.pair-index c.pairs-pair-items.ensures.recipe c.pairs-pair-items.ensures.pairs c.loop-pair-test.true in
    omega (arith, below.chunk, numbers_length (chunk_names c.args.whole.now) (chunk_names c.args.part.now) c.args.chunks.now c.requires.chunks, names_length c.args.part.now)

pub overflow_cast-file-in-loop-pair : goal.overflow_cast-file-in-loop-pair
overflow_cast-file-in-loop-pair c =
    let p = get_or c.pairs-pair-items.result.now c.loop-pair.pair-index (0, 0) in
    let below = pair_at c.args.part.now c.pairs-pair-items.result.now c.loop-pair.pair-index c.pairs-pair-items.ensures.recipe c.pairs-pair-items.ensures.pairs c.loop-pair-test.true in
    let within = number_within c.args.whole.now.files c.args.part.now.files c.args.files.now p.0 c.requires.files below.file in
    omega (arith, within, c.files-whole.ensures.recipe.limits.files)

pub has_pair-requires-clause-chunk : goal.has_pair-requires-clause-chunk
has_pair-requires-clause-chunk c =
    let p = get_or c.pairs-pair-items.result.now c.loop-pair.pair-index (0, 0) in
    let below = pair_at c.args.part.now c.pairs-pair-items.result.now c.loop-pair.pair-index c.pairs-pair-items.ensures.recipe c.pairs-pair-items.ensures.pairs c.loop-pair-test.true in
    chunk_within c.args.whole.now c.args.part.now c.args.chunks.now p.1 c.requires.chunks below.chunk

pub overflow_cast-chunk-in-loop-pair : goal.overflow_cast-chunk-in-loop-pair
overflow_cast-chunk-in-loop-pair c =
    let p = get_or c.pairs-pair-items.result.now c.loop-pair.pair-index (0, 0) in
    let below = pair_at c.args.part.now c.pairs-pair-items.result.now c.loop-pair.pair-index c.pairs-pair-items.ensures.recipe c.pairs-pair-items.ensures.pairs c.loop-pair-test.true in
    let within = chunk_within c.args.whole.now c.args.part.now c.args.chunks.now p.1 c.requires.chunks below.chunk in
    omega (arith, within, c.files-whole.ensures.recipe.limits.chunks)

pub returns-then-not-has_pair : goal.returns-then-not-has_pair
returns-then-not-has_pair c =
    let told = stands_is c.args.whole.now c.args.part.now c.args.files.now c.args.chunks.now c.pairs-pair-items.result.now c.loop-pair.pair-index c.has_pair.result c.pairs-pair-items.ensures.pairs c.has_pair.ensures in (
      λ e k d lt. cc e,
      λ all.
          let stands = all c.loop-pair.pair-index (0, 0) (omega (arith, ap length c.pairs-pair-items.ensures.pairs, c.loop-pair-test.true)) in
          sym c.if-not-has_pair.true ∙ (told ∙ stands),
    )

pub loop-pair-preserved : goal.loop-pair-preserved
loop-pair-preserved c =
    let told = stands_is c.args.whole.now c.args.part.now c.args.files.now c.args.chunks.now c.pairs-pair-items.result.now c.loop-pair.pair-index c.has_pair.result c.pairs-pair-items.ensures.pairs c.has_pair.ensures in
    let Stands : ℕ × ℕ → Type 0 = λ p. StandsIn c.args.whole.now c.args.files.now c.args.chunks.now p in
    All-more Stands c.args.part.now.pairs c.loop-pair.pair-index (0, 0) (omega (arith, ap length c.pairs-pair-items.ensures.pairs, c.loop-pair-test.true)) c.loop-pair.invariant (sym told ∙ c.if-not-has_pair.false)

pub returns : goal.returns
returns c =
    let Stand : List (ℕ × ℕ) → Type 0 = λ t. All (StandsIn c.args.whole.now c.args.files.now c.args.chunks.now) t in
    (λ e. subst Stand (take_all c.loop-pair.pair-index c.args.part.now.pairs (omega (arith, ap length c.pairs-pair-items.ensures.pairs, c.loop-pair-test.false))) c.loop-pair.invariant, λ all. refl)
