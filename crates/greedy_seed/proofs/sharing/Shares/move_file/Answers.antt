use Rattle.std.specs.Prelude.{length}
use Rattle.std.proofs.Common.{arith, get_or}
use Rattle.seed_model.specs.Files.{holds}
use Rattle.greedy_seed.specs.Greedy.{flipped}
use Rattle.greedy_seed.proofs.Flags.{flipped_other}
use Rattle.greedy_seed.proofs.Kept.{at_class, count_first, kept_all, kept_next, room_for_move}
use Rattle.greedy_seed.proofs.sharing.Shares.move_file.Goals as goal

pub move_class-requires : goal.move_class-requires
move_class-requires c =
    let table = c.args.table.now in
    let s = holds c.args.set.now in
    let other = holds (flipped c.args.set.now c.args.file) in
    let kept = c.loop-class.invariant in
    let numbers = c.args.classes.now in
    let i = c.loop-class.class-index in
    let at = at_class table c.args.file (length c.args.set.now) numbers i c.requires.table c.requires.set c.requires.classes c.loop-class-test.true in
    let k = get_or numbers i 0 in
    record {
      class = at.has;
      file = c.requires.file;
      user = at.user;
      counts = kept.counts.long;
      count = count_first s other table numbers c.loop-class.self.counts.items i k at.next at.has.within kept.counts;
      gains = room_for_move (λ class. length class.users) s other table numbers c.loop-class.self.gains.items i k c.requires.table at.next at.has.within kept.gains;
      reaches = room_for_move (λ class. 1) s other table numbers c.loop-class.self.reaches.items i k c.requires.table at.next at.has.within kept.reaches;
    }

pub loop-class-preserved : goal.loop-class-preserved
loop-class-preserved c =
    let table = c.args.table.now in
    let numbers = c.args.classes.now in
    let i = c.loop-class.class-index in
    let at = at_class table c.args.file (length c.args.set.now) numbers i c.requires.table c.requires.set c.requires.classes c.loop-class-test.true in
    kept_next (holds c.args.set.now) (holds (flipped c.args.set.now c.args.file)) table numbers c.loop-class.self c.move_class.new.self i (get_or numbers i 0) at.next at.has.within
    c.move_class.ensures.counts c.move_class.ensures.gains c.move_class.ensures.reaches c.loop-class.invariant

pub returns : goal.returns
returns c =
    kept_all (holds c.args.set.now) (holds (flipped c.args.set.now c.args.file)) c.args.table.now c.args.file c.args.classes.now c.loop-class.class-index c.loop-class.self (omega arith)
    c.requires.classes (λ g apart. flipped_other c.args.set.now c.args.file g apart) c.loop-class.invariant
