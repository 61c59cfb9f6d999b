use Rattle.std.specs.List.{count_by}
use Rattle.seed_model.specs.Files.{holds}
use Rattle.seed_model.specs.Keys.{class_at}
use Rattle.greedy_seed.specs.Shares.{share, AreChanged}
use Rattle.greedy_seed.proofs.Moves.{so_far}
use Rattle.greedy_seed.proofs.sharing.add_shares.Given as goal

abbrev pub invariant-loop-user : goal.invariant-loop-user
invariant-loop-user l =
    let c = class_at l.table.classes l.number in
    AreChanged (so_far c.users l.user-index (λ g. 0)) (so_far c.users l.user-index (λ g. share l.whole (count_by (holds l.set) c.users) (holds l.set g) c.size)) l.fn.shares l.shares
