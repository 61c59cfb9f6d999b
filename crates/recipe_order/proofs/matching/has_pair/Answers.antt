use Rattle.std.proofs.Common.{arith}
use Rattle.recipe_order.proofs.Matched.{pair_found}
use Rattle.recipe_order.proofs.Sharing.{chunks_in, users_read}
use Rattle.recipe_order.proofs.matching.has_pair.Goals as goal

pub users-requires : goal.users-requires
users-requires c = omega (arith, chunks_in c.args.recipe.now c.args.incidence.now c.requires.same, c.requires.chunk)

pub returns : goal.returns
returns c =
    pair_found c.args.recipe.now c.users.result.now c.args.file c.args.chunk c.binary_search.result c.is_ok.result c.files-files.ensures.recipe
    (users_read c.args.recipe.now c.args.incidence.now c.args.chunk c.users.result.now c.requires.same c.requires.chunk c.users.ensures.users) c.users.ensures.rising c.binary_search.ensures.position
    c.is_ok.ensures.value
