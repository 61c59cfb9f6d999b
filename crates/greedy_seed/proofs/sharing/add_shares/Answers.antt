use Rattle.std.proofs.Common.{ap, arith, get_or, length}
use Rattle.seed_model.specs.Files.{holds}
use Rattle.seed_model.specs.Keys.{class_at}
use Rattle.std.specs.List.{count_by}
use Rattle.greedy_seed.proofs.Moves.{add_fits, add_next, added_all, share_is}
use Rattle.greedy_seed.proofs.sharing.add_shares.Goals as goal

pub overflow_add-shares : goal.overflow_add-shares
overflow_add-shares c =
    let small = add_fits c.args.table.now c.args.number (length c.args.set.now) c.args.whole c.loop-user.user-index (holds c.args.set.now) c.users-user-items.result.now c.args.shares.now
    c.loop-user.shares c.requires.class c.users-user-items.ensures.users c.loop-user-test.true c.requires.room c.loop-user.invariant in
    omega (arith, small, c.share-more.ensures.within, c.size-bytes.ensures.within)

pub loop-user-preserved : goal.loop-user-preserved
loop-user-preserved c =
    let class = class_at c.args.table.now.classes c.args.number in
    let s = holds c.args.set.now in
    let is = share_is c.args.whole c.args.count (count_by s class.users) c.size-bytes.result class.size c.share-more.result c.contains.result
    (s (get_or c.users-user-items.result.now c.loop-user.user-index 0)) c.share-more.ensures.share c.requires.count c.contains.ensures c.size-bytes.ensures.size in
    add_next c.args.table.now c.args.number (length c.args.set.now) c.args.whole c.loop-user.user-index c.share-more.result s c.users-user-items.result.now c.args.shares.now
    c.loop-user.shares c.requires.class c.users-user-items.ensures.users c.loop-user-test.true c.requires.room is c.loop-user.invariant

pub returns : goal.returns
returns c = added_all c.args.whole c.loop-user.user-index (holds c.args.set.now) (class_at c.args.table.now.classes c.args.number) c.args.shares.now c.loop-user.shares (omega (arith, ap length c.users-user-items.ensures.users)) c.loop-user.invariant
