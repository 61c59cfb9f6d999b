use Rattle.incidence.proofs.Exact.{is_incidence}
use Rattle.incidence.proofs.Made.{chunks-made, users-below}
use Rattle.incidence.proofs.incidence.Incidence.of.Goals as goal

pub transpose-requires : goal.transpose-requires
transpose-requires c = users-below c.args.recipe.now c.files.result c.in_ok-users.users c.files.ensures.files c.in_ok-users.ensures

pub invariant_of-result : goal.invariant_of-result
invariant_of-result c =
    let recipe = c.args.recipe.now in
    let chunks = chunks-made recipe c.files.result c.in_ok-users.users c.in_ok-chunks.chunks c.files.ensures.recipe c.files.ensures.files c.in_ok-users.ensures c.in_ok-chunks.ensures in
    rw (c.in_ok-sizes.ensures, c.in_ok-users.ensures, chunks) (is_incidence recipe c.files.ensures.recipe)

pub returns : goal.returns
returns c =
    let chunks = chunks-made c.args.recipe.now c.files.result c.in_ok-users.users c.in_ok-chunks.chunks c.files.ensures.recipe c.files.ensures.files c.in_ok-users.ensures c.in_ok-chunks.ensures in
    let sizes = c.in_ok-sizes.ensures in
    let users = c.in_ok-users.ensures in
    λ i. record { sizes = sizes i; users = users i; chunks = chunks i }
