use Rattle.std.proofs.Common.{◌∙◌, [], List, ℕ, arith, subst, sym}
use Rattle.recipe_order.specs.Matching.{AreNumbers}
use Rattle.recipe_order.proofs.NameLists.{numbers_all, numbers_more, numbers_none}
use Rattle.recipe_order.proofs.name_table.file_numbers.Goals as goal

pub loop-file-init : goal.loop-file-init
loop-file-init c = let P : List ℕ → Type 0 = λ t. AreNumbers c.args.whole.now.files [] t in subst P (sym c.new-numbers.ensures.items) (numbers_none c.args.whole.now.files)

pub loop-file-preserved : goal.loop-file-preserved
loop-file-preserved c =
    numbers_more c.args.whole.now.files c.args.part.now.files c.in_ok-table.table c.loop-file.numbers.items c.push.new.self.items c.loop-file.file c.in-Some.number c.as_bytes.result.now c.loop-file.invariant
    (omega (arith, c.loop-file-test.true, c.files-file-end.ensures.files)) (c.as_bytes.ensures.value ∙ c.file_name.ensures.name) c.in_ok-table.ensures c.in-Some.ensures c.in_ok-push.ensures.items

pub returns : goal.returns
returns c = record { found = numbers_all c.args.whole.now.files c.args.part.now.files c.loop-file.numbers.items c.loop-file.file c.loop-file.invariant (omega (arith, c.loop-file-test.false, c.files-file-end.ensures.files)); none = tt }
