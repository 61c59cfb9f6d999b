use Rattle.std.proofs.Common.{ap, arith, length}
use Rattle.seed_model.specs.Files.{holds}
use Rattle.seed_model.specs.Keys.{class_at}
use Rattle.greedy_seed.specs.Greedy.{flipped}
use Rattle.greedy_seed.proofs.Moves.{move_fits, move_next, moved_all}
use Rattle.greedy_seed.proofs.sharing.move_shares.Goals as goal

pub move_share-requires-clause-small : goal.move_share-requires-clause-small
move_share-requires-clause-small c =
    let fits = move_fits c.args.table.now c.args.number (length c.args.set.now) c.args.whole c.loop-user.user-index c.args.step.before c.size-bytes.result (holds c.args.set.now)
    (holds (flipped c.args.set.now c.args.step.file)) c.users-user-items.result.now c.args.shares.now c.loop-user.shares c.requires.class c.users-user-items.ensures.users
    c.loop-user-test.true c.requires.room c.requires.before c.size-bytes.ensures.size c.loop-user.invariant in
    fits.small

pub move_share-requires-clause-room : goal.move_share-requires-clause-room
move_share-requires-clause-room c =
    let fits = move_fits c.args.table.now c.args.number (length c.args.set.now) c.args.whole c.loop-user.user-index c.args.step.before c.size-bytes.result (holds c.args.set.now)
    (holds (flipped c.args.set.now c.args.step.file)) c.users-user-items.result.now c.args.shares.now c.loop-user.shares c.requires.class c.users-user-items.ensures.users
    c.loop-user-test.true c.requires.room c.requires.before c.size-bytes.ensures.size c.loop-user.invariant in
    fits.room

pub loop-user-preserved : goal.loop-user-preserved
loop-user-preserved c =
    move_next c.args.table.now c.args.number (length c.args.set.now) c.args.whole c.loop-user.user-index c.args.step.before c.args.step.after c.size-bytes.result (holds c.args.set.now)
    (holds (flipped c.args.set.now c.args.step.file)) c.users-user-items.result.now c.args.shares.now c.loop-user.shares c.move_share.new.shares c.requires.class
    c.users-user-items.ensures.users c.loop-user-test.true c.requires.room c.requires.before c.requires.after c.size-bytes.ensures.size c.move_share.ensures c.loop-user.invariant

pub returns : goal.returns
returns c =
    moved_all c.args.whole c.loop-user.user-index (holds c.args.set.now) (holds (flipped c.args.set.now c.args.step.file)) (class_at c.args.table.now.classes c.args.number) c.args.shares.now
    c.loop-user.shares (omega (arith, ap length c.users-user-items.ensures.users)) c.loop-user.invariant
