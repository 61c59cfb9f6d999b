use Rattle.site_forms.specs.Volumes.{bytes_cmp}
use Rattle.std.proofs.Common.{List, ◌≡◌, ◌+◌, ◌-◌, ◌/◌, ◌<◌, ℕ, sym, ◌∙◌, arith, length}
use Rattle.std.specs.FinMap as map
use Rattle.volume_index.proofs.Ranks.{count_keys, below_middle, from_middle, no_less, no_less_greater}
use Rattle.volume_index.proofs.TableReads.{key_is}
use Rattle.volume_index.proofs.file_table.FileTable.rank.Goals as goal

same_bytes : {a b x y : List ℕ} → x ≡ a → y ≡ b → bytes_cmp a b ≡ bytes_cmp x y
same_bytes first second = λ i. bytes_cmp (sym first i) (sym second i)

pub halves-init : goal.halves-init
halves-init c = record {
  apart = omega arith;
  within = omega (arith, c.len-high.ensures);
  before = λ j less. absurd (omega (arith, less));
  behind = λ j later inside. absurd (omega (arith, later, inside, count_keys c.args.self.now.files, c.len-high.ensures));
}

pub halves-preserved-in-Less : goal.halves-preserved-in-Less
halves-preserved-in-Less c =
    let m = c.args.self.now.files in
    let middle = c.halves.low + (c.halves.high - c.halves.low) / 2 in
    let inside : middle < length (map.keys m) = omega (arith, c.halves-test.true, c.halves.invariant.within, count_keys m) in
    record {
      apart = omega (arith, c.halves-test.true);
      within = c.halves.invariant.within;
      before = below_middle m c.args.name.now c.name_at.result.now middle inside (key_is m middle c.name_at.result.now c.name_at.ensures) (same_bytes c.as_bytes.ensures.value c.as_bytes-in-halves.ensures.value ∙ sym c.in-Less.ensures);
      behind = c.halves.invariant.behind;
    }

pub halves-preserved-in-Equal : goal.halves-preserved-in-Equal
halves-preserved-in-Equal c =
    let m = c.args.self.now.files in
    let middle = c.halves.low + (c.halves.high - c.halves.low) / 2 in
    record {
      apart = omega (arith, c.halves-test.true);
      within = omega (arith, c.halves-test.true, c.halves.invariant.within);
      before = c.halves.invariant.before;
      behind = from_middle m c.args.name.now c.name_at.result.now middle (key_is m middle c.name_at.result.now c.name_at.ensures) (no_less (bytes_cmp c.name_at.result.now c.args.name.now) (c.in-Equal.ensures ∙ sym (same_bytes c.as_bytes.ensures.value c.as_bytes-in-halves.ensures.value)));
    }

pub halves-preserved : goal.halves-preserved
halves-preserved c =
    let m = c.args.self.now.files in
    let middle = c.halves.low + (c.halves.high - c.halves.low) / 2 in
    record {
      apart = omega (arith, c.halves-test.true);
      within = omega (arith, c.halves-test.true, c.halves.invariant.within);
      before = c.halves.invariant.before;
      behind = from_middle m c.args.name.now c.name_at.result.now middle (key_is m middle c.name_at.result.now c.name_at.ensures) (no_less_greater (bytes_cmp c.name_at.result.now c.args.name.now) (c.in-Greater.ensures ∙ sym (same_bytes c.as_bytes.ensures.value c.as_bytes-in-halves.ensures.value)));
    }

pub returns : goal.returns
returns c = record {
  within = omega (arith, c.halves.invariant.apart, c.halves.invariant.within, count_keys c.args.self.now.files);
  before = c.halves.invariant.before;
  behind = λ j later. c.halves.invariant.behind j (omega (arith, later, c.halves-test.false));
}
