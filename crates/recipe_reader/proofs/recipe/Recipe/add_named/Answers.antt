use Rattle.std.specs.Prelude.{IfErr}
use Rattle.std.proofs.Common.{◌≡◌, ◌∙◌, ap, sym, subst, Some}
use Rattle.std.proofs.lemmas.Result.{IfErr-weaker}
use Rattle.recipe_reader.specs.AddFaults.{IsLimitFault, IsPairFault}
use Rattle.recipe_reader.specs.RecipeInside.{view_of}
use Rattle.recipe_reader.specs.Recipes.{NamedChunk, RecipeValue, with_pair, with_use}
use Rattle.recipe_reader.specs.Limits.{KeepsSize}
use Rattle.recipe_reader.proofs.OnePairMore.{pair_fault, with_pair-known, known_pair, on_ok}
use Rattle.recipe_reader.proofs.Sizes.{keeps_known, keeps_new, contains_at}
use Rattle.recipe_reader.proofs.recipe.Recipe.add_named.Goals as goal

pub returns-then-first-size-clause-known : goal.returns-then-first-size-clause-known
returns-then-first-size-clause-known c = λ there keeps.
    let known : NamedChunk = record { name = c.args.chunk.now; size = c.in-Some.first } in
    absurd (c.if-first-size.true (keeps known (rw (← c.self.view_is) (contains_at c.self.inside.chunks c.in-Some.number known c.in-Some.ensures.size)) (λ _. c.args.chunk.now)))

pub returns-else-first-size-clause-keeps : goal.returns-else-first-size-clause-keeps
returns-else-first-size-clause-keeps c =
    let r = view_of c.self.inside in
    let chunk : NamedChunk = record { name = c.args.chunk.now; size = c.args.size } in
    let Keeps : RecipeValue → Type 0 = λ a. KeepsSize a (Some chunk) in
    on_ok c.add_use.result (subst Keeps c.self.view_is (keeps_known r c.in-Some.number chunk c.self.invariant.recipe.chunks_differ
    (rw c.if-first-size.false at c.in-Some.ensures.size)))

pub returns-else-first-size-clause-fault : goal.returns-else-first-size-clause-fault
returns-else-first-size-clause-fault c =
    let r = view_of c.self.inside in
    let chunk : NamedChunk = record { name = c.args.chunk.now; size = c.args.size } in
    let keeps = keeps_known r c.in-Some.number chunk c.self.invariant.recipe.chunks_differ (rw c.if-first-size.false at c.in-Some.ensures.size) in
    let number = c.in-Some.ensures.number in
    let same : with_pair r c.args.file chunk ≡ with_use r c.args.file c.in-Some.number = with_pair-known r c.args.file chunk number.0 ∙ ap (λ k. with_use r c.args.file k) (sym number.1) in
    let Fault : RecipeValue → Type 0 = λ a. IfErr c.add_use.result (IsPairFault a c.args.file chunk) in
    subst Fault c.self.view_is (IfErr-weaker c.add_use.result (IsLimitFault (with_use r c.args.file c.in-Some.number)) (IsPairFault r c.args.file chunk)
    (λ e h. pair_fault r (with_use r c.args.file c.in-Some.number) c.args.file chunk e keeps same h) (rw (← c.self.view_is) at c.add_use.ensures.fault))

pub returns-else-first-size-clause-known : goal.returns-else-first-size-clause-known
returns-else-first-size-clause-known c = λ there keeps.
    c.add_use.ensures.known (rw (← c.self.view_is, c.in-Some.ensures.number.1) (rw (← c.self.view_is) at there))

pub returns-in-None-clause-keeps : goal.returns-in-None-clause-keeps
returns-in-None-clause-keeps c =
    let r = view_of c.self.inside in
    let chunk : NamedChunk = record { name = c.args.chunk.now; size = c.args.size } in
    let Keeps : RecipeValue → Type 0 = λ a. KeepsSize a (Some chunk) in
    on_ok c.add_chunk.result (subst Keeps c.self.view_is (keeps_new r chunk c.in-None.ensures.number))

pub returns-in-None-clause-fault : goal.returns-in-None-clause-fault
returns-in-None-clause-fault c =
    let r = view_of c.self.inside in
    let chunk : NamedChunk = record { name = c.args.chunk.now; size = c.args.size } in
    let Fault : RecipeValue → Type 0 = λ a. IfErr c.add_chunk.result (IsPairFault a c.args.file chunk) in
    subst Fault c.self.view_is (IfErr-weaker c.add_chunk.result (IsLimitFault (with_pair r c.args.file chunk)) (IsPairFault r c.args.file chunk)
    (λ e h. pair_fault r (with_pair r c.args.file chunk) c.args.file chunk e (keeps_new r chunk c.in-None.ensures.number) (λ _. with_pair r c.args.file chunk) h)
    (rw (← c.self.view_is) at c.add_chunk.ensures.fault))

pub returns-in-None-clause-known : goal.returns-in-None-clause-known
returns-in-None-clause-known c = λ there keeps.
    let r = view_of c.self.inside in
    absurd (known_pair r c.args.file c.args.chunk.now c.self.invariant.recipe c.in-None.ensures.number (rw (← c.self.view_is) at there))
