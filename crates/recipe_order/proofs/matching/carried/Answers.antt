use Rattle.std.specs.Prelude.{Vec}
use Rattle.std.proofs.Common.{◌∙◌, ◌<◌, Global, ℕ, ap, arith, length, sym}
use Rattle.seed_model.specs.Files.{holds}
use Rattle.recipe_order.specs.Matching.{AreAmong, AreNumbers}
use Rattle.recipe_order.proofs.Matched.{carried_more, if_none, if_some, none_carried, not_carried_more, number_carried, number_read, part_files, part_from}
use Rattle.recipe_order.proofs.matching.carried.Goals as goal
use Rattle.recipe_order.proofs.matching.carried.Goals.{then-contains, else-contains}

pub unreachable-requires : goal.unreachable-requires
unreachable-requires c =
    if_none (¬ AreAmong c.args.from.now.files c.args.to.now.files) c.in_ok-numbers.field-0 c.in_default.is c.in_ok-numbers.ensures.none
    (part_files c.args.from.now c.args.to.now (part_from c.args.from.now c.args.to.now c.files-files.ensures.recipe c.requires.same))

pub loop-file-init : goal.loop-file-init
loop-file-init c =
    none_carried c.args.from.now c.args.to.now c.args.set.now c.in_ok-carried.carried c.files-files.result c.files-files.ensures.files c.in_ok-carried.ensures.empty

pub overflow_cast-index : goal.overflow_cast-index
overflow_cast-index c =
    let Numbers : Vec ℕ Global → Type 0 = λ v. AreNumbers c.args.from.now.files c.args.to.now.files v.items in
    let ns = if_some Numbers c.in_ok-numbers.field-0 c.in-Some.numbers c.in-Some.is c.in_ok-numbers.ensures.found in
    let read = number_read c.args.from.now c.args.to.now c.in-Some.numbers.items c.loop-file.file c.index.result.now ns (omega (arith, c.files-files.ensures.files, c.loop-file-test.true)) c.index.ensures in
    omega (arith, read.1, c.files-from.ensures.recipe.limits.files)

pub contains-requires : goal.contains-requires
contains-requires c =
    let Numbers : Vec ℕ Global → Type 0 = λ v. AreNumbers c.args.from.now.files c.args.to.now.files v.items in
    let ns = if_some Numbers c.in_ok-numbers.field-0 c.in-Some.numbers c.in-Some.is c.in_ok-numbers.ensures.found in
    let read = number_read c.args.from.now c.args.to.now c.in-Some.numbers.items c.loop-file.file c.index.result.now ns (omega (arith, c.files-files.ensures.files, c.loop-file-test.true)) c.index.ensures in
    omega (arith, read.1, c.requires.set)

pub loop-file-preserved : goal.loop-file-preserved
loop-file-preserved c =
    let from = c.args.from.now in
    let to = c.args.to.now in
    let set = c.args.set.now in
    let file = c.loop-file.file in
    let Numbers : Vec ℕ Global → Type 0 = λ v. AreNumbers from.files to.files v.items in
    let ns = if_some Numbers c.in_ok-numbers.field-0 c.in-Some.numbers c.in-Some.is c.in_ok-numbers.ensures.found in
    let lt : file < length to.files = omega (arith, c.files-files.ensures.files, c.loop-file-test.true) in
    let read = number_read from to c.in-Some.numbers.items file c.index.result.now ns lt c.index.ensures in
    let own = sym (number_carried from to c.in-Some.numbers.items set file ns lt) ∙ (ap (holds set) (sym read.0) ∙ sym c.contains.ensures) in
    elim c.if-contains.branch [
      | then-contains w ↦ rw w.carried-is (carried_more from to set c.loop-file.carried w.insert.new.self file c.loop-file.invariant lt (own ∙ w.if-contains.true) w.insert.ensures)
      | else-contains w ↦ rw w.carried-is (not_carried_more from to set c.loop-file.carried file c.loop-file.invariant (own ∙ w.if-contains.false))
    ]

pub returns-clause-same : goal.returns-clause-same
returns-clause-same c = λ file lt. c.loop-file.invariant.same file (omega (arith, lt, c.files-files.ensures.files, c.loop-file-test.false))
