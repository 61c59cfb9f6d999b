use Rattle.std.proofs.Common.{◌≡◌, ◌∙◌, ◌+◌, ◌-◌, ◌++◌, ℕ, List, take, drop, length, arith, sym, ap}
use Rattle.std.proofs.lemmas.List.{length-take}
use Rattle.std.specs.List.{slice_range}
use Rattle.seed_io.specs.Ahead.{Ahead}
use Rattle.seed_io.proofs.Ranges.{range_grown, range_by_front, written_whole}
use Rattle.seed_io.proofs.read_ahead.ReadAhead.read_more.Given.{Over}
use Rattle.seed_io.proofs.read_ahead.ReadAhead.read_more.Goals as goal
use Rattle.seed_io.proofs.read_ahead.ReadAhead.read_more.Goals.{In_ok-count}

-- where the bytes held end, and the room once more are read behind them
abbrev end_of : (g : Over) → In_ok-count g → ℕ
end_of g c = c.self.inside.end - c.self.inside.split

abbrev room_of : (g : Over) → In_ok-count g → List ℕ
room_of g c =
    let s = c.self.inside in
    let new = c.read_into.new.room in
    take s.room.len (new ++ drop (length new) (take s.room.len (c.to_front.new.room ++ drop (length c.to_front.new.room) s.room.items)))

-- the bytes held come first in it, and those that were read stand behind them
held_first : (g : Over) (c : In_ok-count g)
    → slice_range (room_of g c) 0 (end_of g c + c.in_ok-count.count) ≡ c.args.self.now.held ++ take c.in_ok-count.count (drop (end_of g c) c.read_into.new.room)
held_first g c =
    let s = c.self.inside in
    let end = end_of g c in
    let new = c.read_into.new.room in
    let moved = written_whole c.to_front.new.room s.room.items s.room.len (c.to_front.auto.room ∙ c.deref_mut.ensures.len) in
    let whole = written_whole new (take s.room.len (c.to_front.new.room ++ drop (length c.to_front.new.room) s.room.items)) s.room.len (c.read_into.auto.room ∙ c.deref_mut-2.ensures.len) in
    let sub : end - 0 ≡ end = omega arith in
    let front : slice_range new 0 end ≡ c.args.self.now.held = ap (λ (k : ℕ). take k new) sub
    ∙ c.read_into.ensures.same
    ∙ ap (λ (l : List ℕ). take end l) (c.deref_mut-2.ensures.value ∙ moved)
    ∙ c.to_front.ensures
    ∙ ap (λ (l : List ℕ). slice_range l s.split s.end) c.deref_mut.ensures.value
    ∙ ap (λ (a : Ahead). a.held) c.self.view_is in
    rw whole (range_grown new 0 end c.in_ok-count.count (omega arith) ∙ ap (λ (l : List ℕ). l ++ take c.in_ok-count.count (drop end new)) front)

pub returns-clause-more : goal.returns-clause-more
returns-clause-more g c =
    let a = (goal.at.returns-clause-more g c).In_ok-count in
    let end = end_of g a in
    let new = c.read_into.new.room in
    record {
      added = take c.in_ok-count.count (drop end new);
      is = held_first g a;
      size = omega (arith, c.in_ok-count.ensures.bound, c.read_into.ensures.part, length-take (end + c.args.most - end) (drop end new), length-take c.in_ok-count.count (drop end new));
    }

pub returns-clause-told : goal.returns-clause-told
returns-clause-told g c = λ tells.
    let a = (goal.at.returns-clause-told g c).In_ok-count in
    let got = c.in_ok-count.ensures.told tells in
    let piece = sym (range_by_front c.read_into.new.room (end_of g a) c.in_ok-count.count c.args.most c.in_ok-count.ensures.bound) ∙ got.bytes in
    record {
      file = got.file;
      there = got.held;
      within = got.within;
      bytes = held_first g a ∙ ap (λ (l : List ℕ). c.args.self.now.held ++ l) piece;
      ends = λ some none. got.ends (rw c.read_into.ensures.part some) none;
    }
