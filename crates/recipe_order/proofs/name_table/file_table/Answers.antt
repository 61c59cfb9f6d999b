use Rattle.std.proofs.Common.{◌∙◌, arith}
use Rattle.recipe_order.proofs.NameLists.{table_all, table_more, table_new}
use Rattle.recipe_order.proofs.name_table.file_table.Goals as goal

pub push-requires : goal.push-requires
push-requires c = table_new c.args.recipe.now.files c.loop-file.table c.loop-file.file c.as_bytes.result.now c.files-file-end.ensures.recipe.files_differ (omega (arith, c.loop-file-test.true, c.files-file-end.ensures.files)) c.loop-file.invariant (c.as_bytes.ensures.value ∙ c.file_name.ensures.name)

pub loop-file-preserved : goal.loop-file-preserved
loop-file-preserved c = table_more c.args.recipe.now.files c.loop-file.table c.push.new.self c.loop-file.file c.as_bytes.result.now (omega (arith, c.loop-file-test.true, c.files-file-end.ensures.files)) c.loop-file.invariant (c.as_bytes.ensures.value ∙ c.file_name.ensures.name) c.in_ok-push.ensures

pub returns : goal.returns
returns c = table_all c.args.recipe.now.files c.loop-file.table c.loop-file.file c.loop-file.invariant (omega (arith, c.loop-file-test.false, c.files-file-end.ensures.files))
