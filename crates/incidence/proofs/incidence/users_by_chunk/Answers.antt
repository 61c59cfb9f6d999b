use Rattle.std.proofs.Common.{ap, arith, length}
use Rattle.incidence.proofs.Made.{chunks-below, files-below, users-made}
use Rattle.incidence.proofs.incidence.users_by_chunk.Goals as goal

pub group-requires : goal.group-requires
group-requires c = record {
  keys = files-below c.args.recipe.now c.pairs.result.now c.files.result c.pairs.ensures.recipe c.pairs.ensures.pairs c.files.ensures.files;
  few = omega (arith, ap length c.pairs.ensures.pairs, c.pairs.ensures.recipe.limits.pairs);
}

pub transpose-requires : goal.transpose-requires
transpose-requires c =
    chunks-below c.args.recipe.now c.pairs.result.now c.files.result c.chunks.result c.in_ok-by_file.by_file c.pairs.ensures.recipe c.pairs.ensures.pairs c.chunks.ensures.chunks c.in_ok-by_file.ensures

pub returns : goal.returns
returns c =
    users-made c.args.recipe.now c.pairs.result.now c.files.result c.chunks.result c.in_ok-by_file.by_file c.in_ok-transpose.field-0 c.pairs.ensures.recipe c.pairs.ensures.pairs c.files.ensures.files
    c.chunks.ensures.chunks c.in_ok-by_file.ensures c.in_ok-transpose.ensures
