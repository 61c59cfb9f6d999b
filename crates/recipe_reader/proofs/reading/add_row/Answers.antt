use Rattle.std.proofs.Common.{◌≢◌, ◌<◌, ◌∙◌, ap, sym, subst, refl, ℕ, Some, length, arith}
use Rattle.std.proofs.lemmas.Bool.{eqb-false}
use Rattle.recipe_reader.specs.AddFaults.{IsPairFault}
use Rattle.recipe_reader.specs.Limits.{KeepsSize, IsWithinLimits}
use Rattle.recipe_reader.specs.Recipes.{NamedChunk, RecipeValue, with_pair, file_number}
use Rattle.recipe_reader.proofs.RowsTaken.{chunk_of-named, with_row-named, file_there, file_refused, pair_refused, follows_named}
use Rattle.recipe_reader.proofs.reading.add_row.Goals as goal

pub returns-in-Some-clause-fault : goal.returns-in-Some-clause-fault
returns-in-Some-clause-fault c = λ other.
    let chunk : NamedChunk = record { name = c.args.name.now; size = c.args.size } in
    let some = rw c.in-Err.ensures.err at c.in-Some.ensures.some in
    (refl, (chunk, chunk_of-named c.args.name.now c.args.size c.in-Some.ensures.named, refl, some.0, some.1))

pub returns-in-Err-clause-fault : goal.returns-in-Err-clause-fault
returns-in-Err-clause-fault c =
    rw c.at_row.ensures (file_refused c.args.recipe.now c.args.number c.args.file.name.now c.args.name.now c.args.size c.in-Err.fault
    (rw c.in-Err.ensures.err at c.in-Err.ensures.recipe) (rw c.in-Err.ensures.err at c.in_default.ensures.none) c.in-Err.ensures.fault)

pub add_named-requires-clause-file : goal.add_named-requires-clause-file
add_named-requires-clause-file c =
    rw (c.in-Ok.ensures.number, c.in-Ok.ensures.ok) (file_there c.args.recipe.now c.args.file.name.now)

pub returns-in-Ok-add_named-clause-ok : goal.returns-in-Ok-add_named-clause-ok
returns-in-Ok-add_named-clause-ok c =
    let chunk : NamedChunk = record { name = c.args.name.now; size = c.args.size } in
    let filled : length c.args.name.now ≢ 0 = eqb-false (length c.args.name.now) 0 (sym c.if-is_empty.ensures) in
    let some : 0 < length c.args.name.now = omega arith in
    c.in-Ok-add_named.ensures.ok ∙ (ap (λ n. with_pair c.add_known.new.self n chunk) c.in-Ok.ensures.number
    ∙ (ap (λ r. with_pair r (file_number r.files c.args.file.name.now) chunk) c.in-Ok.ensures.ok
    ∙ sym (with_row-named c.args.recipe.now c.args.file.name.now c.args.name.now c.args.size some)))

pub returns-in-Ok-add_named-clause-follows : goal.returns-in-Ok-add_named-clause-follows
returns-in-Ok-add_named-clause-follows c =
    let chunk : NamedChunk = record { name = c.args.name.now; size = c.args.size } in
    let filled : length c.args.name.now ≢ 0 = eqb-false (length c.args.name.now) 0 (sym c.if-is_empty.ensures) in
    let some : 0 < length c.args.name.now = omega arith in
    let Keeps : RecipeValue → Type 0 = λ r. KeepsSize r (Some chunk) in
    let Within : RecipeValue → Type 0 = λ r. IsWithinLimits r in
    follows_named c.args.recipe.now c.args.file.name.now c.args.name.now c.args.size some
    (subst Keeps c.in-Ok.ensures.ok c.in-Ok-add_named.ensures.keeps)
    (subst Within (returns-in-Ok-add_named-clause-ok c) c.in-Ok-add_named.ensures.recipe.limits)

pub returns-in-Err-add_named-clause-fault : goal.returns-in-Err-add_named-clause-fault
returns-in-Err-add_named-clause-fault c =
    let chunk : NamedChunk = record { name = c.args.name.now; size = c.args.size } in
    let filled : length c.args.name.now ≢ 0 = eqb-false (length c.args.name.now) 0 (sym c.if-is_empty.ensures) in
    let some : 0 < length c.args.name.now = omega arith in
    let Fault : ℕ → RecipeValue → Type 0 = λ n r. IsPairFault r n chunk c.in-Err-add_named.fault in
    let At : RecipeValue → Type 0 = λ r. Fault (file_number r.files c.args.file.name.now) r in
    let InFile : ℕ → Type 0 = λ n. Fault n c.add_known.new.self in
    rw c.at_row-in-Err-add_named.ensures (pair_refused c.args.recipe.now c.args.number c.args.file.name.now c.args.name.now c.args.size c.in-Err-add_named.fault some
    (subst At c.in-Ok.ensures.ok (subst InFile c.in-Ok.ensures.number c.in-Err-add_named.ensures.fault)))
