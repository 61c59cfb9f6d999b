use Rattle.std.proofs.Common.{◌≡◌, ◌∙◌, ◌<◌, ◌+◌, ◌-◌, ◌*◌, ap, arith, inl, inr, length, sym}
use Rattle.std.proofs.lemmas.Bool.{cases_lt}
use Rattle.seed_model.specs.Files.{holds}
use Rattle.seed_model.proofs.BitSets.{past_end, told_apart}
use Rattle.seed_model.proofs.plan_set.difference_in_word.Goals as goal

pub overflow_mul-first : goal.overflow_mul-first
overflow_mul-first c = omega (arith, c.requires.within, c.files-files.ensures)

pub returns-then-contains-clause-found : goal.returns-then-contains-clause-found
returns-then-contains-clause-found c =
    let first = 64 * c.args.word in
    let place = c.loop-place.place in (
      omega (arith, c.files-files.ensures, c.min-count.ensures, c.loop-place-test.true),
      told_apart c.contains.result c.contains-in-loop-place.result _ _ c.contains.ensures c.contains-in-loop-place.ensures c.if-contains.true,
      λ file low high.
          let at : first + (file - first) ≡ file = omega (arith, low) in
          sym (ap (holds c.args.one.now) at) ∙ (c.loop-place.invariant (file - first) (omega (arith, low, high)) ∙ ap (holds c.args.other.now) at),
    )

pub returns-clause-none : goal.returns-clause-none
returns-clause-none c =
    let first = 64 * c.args.word in
    λ file low high. elim (cases_lt file (length c.args.one.now)) [
      | inl below ↦
          let at : first + (file - first) ≡ file = omega (arith, low) in
          let before : file - first < c.loop-place.place = omega (arith, low, high, below, c.files-files.ensures, c.min-count.ensures, c.loop-place-test.false) in
          sym (ap (holds c.args.one.now) at) ∙ (c.loop-place.invariant (file - first) before ∙ ap (holds c.args.other.now) at)
      | inr past ↦ past_end c.args.one.now file past ∙ sym (past_end c.args.other.now file (omega (arith, past, c.requires.same)))
    ]
