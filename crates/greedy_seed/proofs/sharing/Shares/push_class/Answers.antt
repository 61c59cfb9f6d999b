use Rattle.std.proofs.Common.{◌∙◌, ap, arith, refl}
use Rattle.std.proofs.lemmas.List.{with_items_is}
use Rattle.std.specs.Prelude.{length}
use Rattle.std.specs.Vec.{with_items}
use Rattle.seed_model.specs.Files.{holds}
use Rattle.seed_model.specs.Keys.{class_at}
use Rattle.greedy_seed.specs.declared.sharing.Shares.{Shares}
use Rattle.greedy_seed.proofs.Kept.{changed_from, kept_push, room_for_more}
use Rattle.greedy_seed.proofs.sharing.Shares.push_class.Goals as goal

pub add_shares-requires-clause-room : goal.add_shares-requires-clause-room
add_shares-requires-clause-room c =
    room_for_more (λ class. length class.users) (λ class. holds c.args.set.now) c.args.table.now c.args.number c.args.self.now.gains.items c.deref_mut.result.now c.requires.class.lawful
    (omega (arith, c.requires.class.within)) c.requires.shares.gains c.deref_mut.ensures.value

pub add_shares-requires-2-clause-room : goal.add_shares-requires-2-clause-room
add_shares-requires-2-clause-room c =
    room_for_more (λ class. 1) (λ class. holds c.args.set.now) c.args.table.now c.args.number c.args.self.now.reaches.items c.deref_mut-2.result.now c.requires.class.lawful
    (omega (arith, c.requires.class.within)) c.requires.shares.reaches c.deref_mut-2.ensures.value

pub returns : goal.returns
returns c =
    let class = class_at c.args.table.now.classes c.args.number in
    let s = holds c.args.set.now in
    let old = c.args.self.now in
    let new : Shares = record { counts = c.push.new.self; gains = with_items old.gains c.add_shares.new.shares; reaches = with_items old.reaches c.add_shares-2.new.shares } in
    let gains = changed_from (length c.users.result.now) (length class.users) s class c.deref_mut.result.now old.gains.items c.add_shares.new.shares new.gains.items
    (ap length c.users.ensures.users) c.deref_mut.ensures.value (with_items_is old.gains c.add_shares.new.shares (c.add_shares.ensures.long ∙ c.deref_mut.ensures.len)) c.add_shares.ensures in
    let reaches = changed_from 1 1 s class c.deref_mut-2.result.now old.reaches.items c.add_shares-2.new.shares new.reaches.items
    refl c.deref_mut-2.ensures.value (with_items_is old.reaches c.add_shares-2.new.shares (c.add_shares-2.ensures.long ∙ c.deref_mut-2.ensures.len)) c.add_shares-2.ensures in
    kept_push s c.args.table.now c.args.number c.count_in-count.result old new c.count_in-count.ensures c.in_ok-push.ensures.items gains reaches c.requires.shares
