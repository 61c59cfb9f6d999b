use Rattle.std.specs.List.{count_by}
use Rattle.seed_model.specs.Files.{holds}
use Rattle.seed_model.specs.Keys.{class_at}
use Rattle.greedy_seed.specs.Greedy.{flipped}
use Rattle.greedy_seed.specs.Shares.{share, AreChanged}
use Rattle.greedy_seed.proofs.Moves.{so_far}
use Rattle.greedy_seed.proofs.sharing.move_shares.Given as goal

abbrev pub invariant-loop-user : goal.invariant-loop-user
invariant-loop-user l =
    let c = class_at l.table.classes l.number in
    let other = holds (flipped l.set l.step.file) in
    AreChanged (so_far c.users l.user-index (λ g. share l.whole (count_by (holds l.set) c.users) (holds l.set g) c.size))
    (so_far c.users l.user-index (λ g. share l.whole (count_by other c.users) (other g) c.size)) l.fn.shares l.shares
