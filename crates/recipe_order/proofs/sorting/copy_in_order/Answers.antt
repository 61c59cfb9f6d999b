use Rattle.std.proofs.Common.{◌<◌, ap, arith, get_or, length}
use Rattle.incidence.proofs.Made.{files-below}
use Rattle.recipe_order.proofs.Steps.{in_order_more, list_length, list_read}
use Rattle.recipe_order.proofs.sorting.copy_in_order.Goals as goal

pub group-requires : goal.group-requires
group-requires c = record {
  keys = files-below c.args.recipe.now c.pairs.result.now c.files.result c.pairs.ensures.recipe c.pairs.ensures.pairs c.files.ensures.files;
  few = omega (arith, ap length c.pairs.ensures.pairs, c.pairs.ensures.recipe.limits.pairs);
}

pub list-requires : goal.list-requires
list-requires c =
    omega (arith, list_length c.pairs.result.now c.files.result c.in_ok-by_file.by_file c.in_ok-by_file.ensures, c.files.ensures.files, c.requires c.loop-file.file-index 0 c.loop-file-test.true)

pub copy_file-requires-clause-chunks : goal.copy_file-requires-clause-chunks
copy_file-requires-clause-chunks c =
    let file = get_or c.args.order.now c.loop-file.file-index 0 in
    let below : file < c.files.result = omega (arith, c.files.ensures.files, c.requires c.loop-file.file-index 0 c.loop-file-test.true) in
    list_read c.args.recipe.now.pairs c.pairs.result.now c.files.result file c.in_ok-by_file.by_file c.list.result.now c.in_ok-by_file.ensures c.pairs.ensures.pairs below c.list.ensures

pub loop-file-preserved : goal.loop-file-preserved
loop-file-preserved c =
    in_order_more c.args.recipe.now c.loop-file.copy c.copy_file.new.copy c.args.order.now c.loop-file.file-index c.loop-file.invariant c.loop-file-test.true c.in_ok-copy_file.ensures.copied
    c.in_ok-copy_file.ensures.part
