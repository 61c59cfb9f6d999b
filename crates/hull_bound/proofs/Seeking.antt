-- The search for a slope: where it starts, and what its turns make of a stretch.
use Rattle.std.proofs.Common.{inl, inr, ◌≡◌, ℕ, ◌-◌, ◌≤◌, ◌<◌, Bool, true, false, List, max, refl, sym, ◌∙◌, ap, arith}
use Rattle.std.specs.Int.{IsGcd}
use Rattle.std.proofs.Math.Nat.{one-dvd}
use Rattle.seed_model.specs.declared.node.Node.{Node}
use Rattle.seed_model.specs.declared.range.Range.{Range}
use Rattle.seed_model.specs.Files.{holds}
use Rattle.seed_model.specs.Tables.{TableValue, IsTable}
use Rattle.seed_model.specs.SumLaws.{AgreesBelow}
use Rattle.seed_model.specs.Sums.{migrated_of, touched_of}
use Rattle.seed_model.specs.Nodes.{IsNode, IsMember, smallest_member, largest_member}
use Rattle.seed_model.proofs.ClassSums.{grows, files_alone}
use Rattle.seed_model.proofs.NodeMembers.{ends, between}
use Rattle.seed_ratio.specs.Fractions.{IsLowest}
use Rattle.hull_bound.specs.declared.minima.Minima.{Minima}
use Rattle.hull_bound.specs.declared.search.Corner.{Corner}
use Rattle.hull_bound.specs.declared.search.Stretch.{Stretch}
use Rattle.hull_bound.specs.declared.search.Found.{Found}
use Rattle.hull_bound.specs.Corners.{IsCorner, IsBetween, IsFound, IsAimed, width_of}
use Rattle.hull_bound.specs.Minima.{IsMinimum}
use Rattle.hull_bound.specs.Solutions.{IsSolved}
use Rattle.hull_bound.specs.Stretches.{IsStretch}
use Rattle.hull_bound.proofs.Agree.{member_agrees}
use Rattle.hull_bound.proofs.Turning.{touch_order, steep_here, flat_here, lower_moves, lower_rises, lower_turn, upper_moves, upper_falls, upper_above, upper_turn}
use Rattle.hull_bound.proofs.Valued.{turns_at}

-- the same fraction, of terms that are equal
renamed : (a b c d p q : ℕ) → a ≡ c → b ≡ d → IsLowest a b p q → IsLowest c d p q
renamed a b c d p q e1 e2 h = rw (← e1, ← e2) h

-- the same sums, of equal sets
migrates_as : (table : TableValue) (one other : List Bool) → one ≡ other → migrated_of (holds one) table ≡ migrated_of (holds other) table
migrates_as table one other e = ap (λ (s : List Bool). migrated_of (holds s) table) e

touches_as : (table : TableValue) (one other : List Bool) → one ≡ other → touched_of (holds one) table ≡ touched_of (holds other) table
touches_as table one other e = ap (λ (s : List Bool). touched_of (holds s) table) e

module _ (table : TableValue) (node : Node) (short : Bool) (aim : ℕ) (stretch : Stretch) (lawful : IsTable table) (b : IsBetween table node short aim stretch) where
  abbrev x : ℕ → Bool
  x = holds stretch.lower.set

  abbrev y : ℕ → Bool
  y = holds stretch.upper.set

  pub touched_rise : stretch.lower.touched ≤ stretch.upper.touched
  touched_rise = omega (arith, b.lower.touches, b.upper.touches, touch_order table node short aim x y b.ends)

  pub migrated_rise : stretch.lower.migrated < stretch.upper.migrated
  migrated_rise = omega (arith, b.lower.migrates, b.upper.migrates, b.ends.apart)

  module _ (p q : ℕ) (slope : IsLowest (stretch.upper.touched - stretch.lower.touched) (stretch.upper.migrated - stretch.lower.migrated) p q) where
    line : IsLowest (touched_of y table - touched_of x table) (migrated_of y table - migrated_of x table) p q
    line =
        let e1 : stretch.upper.touched - stretch.lower.touched ≡ touched_of y table - touched_of x table = omega (arith, b.lower.touches, b.upper.touches) in
        let e2 : stretch.upper.migrated - stretch.lower.migrated ≡ migrated_of y table - migrated_of x table = omega (arith, b.lower.migrates, b.upper.migrates) in
        renamed _ _ _ _ p q e1 e2 slope

    pub is_steep : short ≡ true → q ≤ p
    is_steep = steep_here table node short aim x y lawful b.ends p q line

    pub is_flat : short ≡ false → p ≤ q
    is_flat = flat_here table node short aim x y lawful b.ends p q line

    module _ (minima : Minima) (solved : IsSolved table node p q minima) (corner : Corner) (is : IsCorner table corner) where
      abbrev Narrows : Stretch → Type 0
      Narrows next = IsBetween table node short aim next × (width_of next < width_of stretch)

      pub lower_next : corner.set ≡ minima.greatest → migrated_of (holds minima.greatest) table < aim → Narrows (record { lower = corner; upper = stretch.upper })
      lower_next e short_of =
          let turned = lower_turn table node short aim x y lawful b.ends p q line (holds minima.least) (holds minima.greatest) solved.are_minima short_of in
          let moves = lower_moves table node short aim x y lawful b.ends p q line (holds minima.least) (holds minima.greatest) solved.are_minima short_of in
          let rises = lower_rises table node short aim x y lawful b.ends p q line (holds minima.least) (holds minima.greatest) solved.are_minima short_of in
          let there : IsStretch table node short aim (holds corner.set) y = rw e turned in
          let m : corner.migrated ≡ migrated_of (holds minima.greatest) table = is.migrates ∙ migrates_as table corner.set minima.greatest e in
          let a : corner.touched ≡ touched_of (holds minima.greatest) table = is.touches ∙ touches_as table corner.set minima.greatest e in (
            record { lower = is; upper = b.upper; ends = there },
            omega (arith, m, a, moves, rises, short_of, b.lower.migrates, b.lower.touches, b.upper.migrates, b.upper.touches, b.ends.above),
          )

      pub upper_next : corner.set ≡ minima.least → aim < migrated_of (holds minima.least) table → Narrows (record { lower = stretch.lower; upper = corner })
      upper_next e past =
          let turned = upper_turn table node short aim x y lawful b.ends p q line (holds minima.least) (holds minima.greatest) solved.are_minima past in
          let moves = upper_moves table node short aim x y lawful b.ends p q line (holds minima.least) (holds minima.greatest) solved.are_minima past in
          let falls = upper_falls table node short aim x y lawful b.ends p q line (holds minima.least) (holds minima.greatest) solved.are_minima past in
          let above = upper_above table node short aim x y lawful b.ends p q line (holds minima.least) (holds minima.greatest) solved.are_minima past in
          let there : IsStretch table node short aim x (holds corner.set) = rw e turned in
          let m : corner.migrated ≡ migrated_of (holds minima.least) table = is.migrates ∙ migrates_as table corner.set minima.least e in
          let a : corner.touched ≡ touched_of (holds minima.least) table = is.touches ∙ touches_as table corner.set minima.least e in (
            record { lower = b.lower; upper = is; ends = there },
            omega (arith, m, a, moves, falls, above, past, b.lower.migrates, b.lower.touches, b.upper.migrates, b.upper.touches, b.ends.below),
          )

-- where the search starts
module _ (table : TableValue) (range : Range) (node : Node) (lawful : IsTable table) (one : IsNode table.files node) (minima : Minima) (solved : IsSolved table node 1 1 minima)
    (smallest largest : Corner) (is_smallest : IsCorner table smallest) (is_largest : IsCorner table largest)
    (agrees_small : AgreesBelow table.files (smallest_member node) (holds smallest.set)) (agrees_large : AgreesBelow table.files (largest_member node) (holds largest.set)) where
  small_member : IsMember table.files node (holds smallest.set)
  small_member = member_agrees table.files node (smallest_member node) (holds smallest.set) agrees_small (ends table.files node one).0

  large_member : IsMember table.files node (holds largest.set)
  large_member = member_agrees table.files node (largest_member node) (holds largest.set) agrees_large (ends table.files node one).1

  migrates_most : (other : ℕ → Bool) → IsMember table.files node other → migrated_of other table ≤ migrated_of (holds largest.set) table
  migrates_most other member =
      omega (arith, (between table node other lawful member).1, (files_alone table (largest_member node) (holds largest.set) lawful agrees_large).0)

  touches_least : (other : ℕ → Bool) → IsMember table.files node other → touched_of (holds smallest.set) table ≤ touched_of other table
  touches_least other member =
      omega (arith, (between table node other lawful member).2, (files_alone table (smallest_member node) (holds smallest.set) lawful agrees_small).1)

  module _ (corner : Corner) (is : IsCorner table corner) where
    -- all sets that replicate least fall short of the range
    pub begins_short : corner.set ≡ minima.greatest → migrated_of (holds minima.greatest) table < range.low → range.low ≤ largest.migrated
        → IsBetween table node true range.low (record { lower = corner; upper = largest })
    begins_short e short_of enough =
        let m : migrated_of (holds corner.set) table ≡ migrated_of (holds minima.greatest) table = migrates_as table corner.set minima.greatest e in
        let minimum : IsMinimum table 1 1 node (holds corner.set) = rw e solved.are_minima.last_is in
        record {
          lower = is;
          upper = is_largest;
          ends = record {
            lower_member = minimum.member;
            upper_member = large_member;
            below = omega (arith, m, short_of);
            above = omega (arith, enough, is_largest.migrates);
            apart = omega (arith, m, short_of, enough, is_largest.migrates);
            lower_end = record { p = 1; q = 1; some = omega arith; minimum = minimum; steep = λ _. omega arith };
            upper_end = inl (refl, migrates_most);
          };
        }

    -- all of them go past it
    pub begins_past : corner.set ≡ minima.least → range.high < migrated_of (holds minima.least) table → smallest.migrated ≤ range.high
        → IsBetween table node false range.high (record { lower = smallest; upper = corner })
    begins_past e past few =
        let m : migrated_of (holds corner.set) table ≡ migrated_of (holds minima.least) table = migrates_as table corner.set minima.least e in
        let minimum : IsMinimum table 1 1 node (holds corner.set) = rw e solved.are_minima.first_is in
        record {
          lower = is_smallest;
          upper = is;
          ends = record {
            lower_member = small_member;
            upper_member = minimum.member;
            below = omega (arith, few, is_smallest.migrates);
            above = omega (arith, m, past);
            apart = omega (arith, m, past, few, is_smallest.migrates);
            lower_end = record {
              p = 0;
              q = 1;
              some = omega arith;
              minimum = record { member = small_member; least = λ other member. omega (arith, touches_least other member) };
              steep = λ e. absurd (cc e);
            };
            upper_end = inr (record { p = 1; q = 1; some = omega arith; minimum = minimum; flat = λ _. omega arith });
          };
        }

  -- or the range lies among them
  pub meets : (found : Found) → found.minima ≡ minima → found.slope.p ≡ 1 → found.slope.q ≡ 1 → found.aim ≡ max range.low (migrated_of (holds minima.least) table)
      → migrated_of (holds minima.least) table ≤ range.high → range.low ≤ migrated_of (holds minima.greatest) table → IsAimed table range node found
  meets found e_minima e_p e_q e_aim few enough =
      let more = (grows table (holds minima.least) (holds minima.greatest) lawful (solved.are_minima.smallest (holds minima.greatest) solved.are_minima.last_is)).0 in
      record {
        solved = rw (e_p, e_q, e_minima) solved;
        is_aim = record { first = holds minima.least; last = holds minima.greatest; at_one = solved.are_minima; where_ = inl (few, enough, e_p, e_q, e_aim) };
        below = rw e_minima (omega (arith, e_aim));
        above = rw e_minima (omega (arith, e_aim, more, enough));
        lowest = rw (e_p, e_q) one_and_one;
        p_fits = omega (arith, e_p);
        turns = inr (e_p ∙ sym e_q);
      }
    where
      one_and_one : IsGcd 1 1 1
      one_and_one = (one-dvd 1, one-dvd 1, λ d h _. h)

  pub aims_short : (found : Found) → IsFound table node true range.low found → migrated_of (holds minima.greatest) table < range.low → IsAimed table range node found
  aims_short found f short_of = record {
    solved = f.solved;
    is_aim = record { first = holds minima.least; last = holds minima.greatest; at_one = solved.are_minima; where_ = inr (inl (short_of, f.aims)) };
    below = omega (arith, f.below, f.aims);
    above = omega (arith, f.above, f.aims);
    lowest = f.lowest;
    p_fits = f.p_fits;
    turns = turns_at range found.slope.p found.slope.q found.aim true f.aims f.steep f.flat;
  }

  pub aims_past : (found : Found) → IsFound table node false range.high found → range.high < migrated_of (holds minima.least) table → IsAimed table range node found
  aims_past found f past = record {
    solved = f.solved;
    is_aim = record { first = holds minima.least; last = holds minima.greatest; at_one = solved.are_minima; where_ = inr (inr (past, f.aims)) };
    below = omega (arith, f.below, f.aims);
    above = omega (arith, f.above, f.aims);
    lowest = f.lowest;
    p_fits = f.p_fits;
    turns = turns_at range found.slope.p found.slope.q found.aim false f.aims f.steep f.flat;
  }
