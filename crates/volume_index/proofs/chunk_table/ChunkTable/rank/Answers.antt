use Rattle.std.proofs.Common.{◌+◌, ◌-◌, ◌/◌, ◌<◌, sym, arith, length}
use Rattle.std.specs.FinMap as map
use Rattle.volume_index.proofs.Ranks.{count_keys, below_middle, from_middle, no_less, no_less_greater}
use Rattle.volume_index.proofs.TableReads.{key_is}
use Rattle.volume_index.proofs.chunk_table.ChunkTable.rank.Goals as goal

pub halves-init : goal.halves-init
halves-init c = record {
  apart = omega arith;
  within = omega (arith, c.len-high.ensures.len);
  before = λ j less. absurd (omega (arith, less));
  behind = λ j later inside. absurd (omega (arith, later, inside, count_keys c.args.self.now.entries, c.len-high.ensures.len));
}

pub halves-preserved-in-Less : goal.halves-preserved-in-Less
halves-preserved-in-Less c =
    let m = c.args.self.now.entries in
    let middle = c.halves.low + (c.halves.high - c.halves.low) / 2 in
    let inside : middle < length (map.keys m) = omega (arith, c.halves-test.true, c.halves.invariant.within, count_keys m) in
    record {
      apart = omega (arith, c.halves-test.true);
      within = c.halves.invariant.within;
      before = below_middle m c.args.name.now c.name_at.result.now middle inside (key_is m middle c.name_at.result.now c.name_at.ensures) (sym c.in-Less.ensures);
      behind = c.halves.invariant.behind;
    }

pub halves-preserved-in-Equal : goal.halves-preserved-in-Equal
halves-preserved-in-Equal c =
    let m = c.args.self.now.entries in
    let middle = c.halves.low + (c.halves.high - c.halves.low) / 2 in
    record {
      apart = omega (arith, c.halves-test.true);
      within = omega (arith, c.halves-test.true, c.halves.invariant.within);
      before = c.halves.invariant.before;
      behind = from_middle m c.args.name.now c.name_at.result.now middle (key_is m middle c.name_at.result.now c.name_at.ensures) (no_less _ c.in-Equal.ensures);
    }

pub halves-preserved : goal.halves-preserved
halves-preserved c =
    let m = c.args.self.now.entries in
    let middle = c.halves.low + (c.halves.high - c.halves.low) / 2 in
    record {
      apart = omega (arith, c.halves-test.true);
      within = omega (arith, c.halves-test.true, c.halves.invariant.within);
      before = c.halves.invariant.before;
      behind = from_middle m c.args.name.now c.name_at.result.now middle (key_is m middle c.name_at.result.now c.name_at.ensures) (no_less_greater _ c.in-Greater.ensures);
    }

pub returns : goal.returns
returns c = record {
  within = omega (arith, c.halves.invariant.apart, c.halves.invariant.within, count_keys c.args.self.now.entries);
  before = c.halves.invariant.before;
  behind = λ j later. c.halves.invariant.behind j (omega (arith, later, c.halves-test.false));
}
