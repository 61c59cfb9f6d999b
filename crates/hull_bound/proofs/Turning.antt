-- One turn of the search for a slope: the minima of the slope between two ends take the place of one of them, or enclose
-- the aim.
use Rattle.std.proofs.Common.{inl, inr, ◌≡◌, ℕ, ◌+◌, ◌-◌, ◌*◌, ◌≤◌, ◌<◌, Bool, true, false, arith}
use Rattle.std.proofs.lemmas.Bool.{cases_lt}
use Rattle.seed_model.specs.declared.node.Node.{Node}
use Rattle.seed_model.specs.Tables.{TableValue, IsTable}
use Rattle.seed_model.specs.Sums.{migrated_of, touched_of}
use Rattle.seed_model.proofs.ClassSums.{grows}
use Rattle.seed_ratio.specs.Fractions.{IsLowest}
use Rattle.hull_bound.specs.Minima.{IsMinimum, AreMinima}
use Rattle.hull_bound.specs.Stretches.{IsUpperMinimum, IsStretch}
use Rattle.hull_bound.proofs.Exchange.{touches_less, on_line, steeper, flatter, left_exchange, right_exchange, lower_down, stays_steep, stays_flat}

-- the lower end touches no more than the upper one
pub touch_order : (table : TableValue) (node : Node) (short : Bool) (aim : ℕ) (x y : ℕ → Bool) → IsStretch table node short aim x y → touched_of x table ≤ touched_of y table
touch_order table node short aim x y s =
    touches_less (touched_of x table) (migrated_of x table) (touched_of y table) (migrated_of y table) s.lower_end.p s.lower_end.q s.lower_end.some (omega (arith, s.apart)) (s.lower_end.minimum.least y s.upper_member)

module _ (table : TableValue) (node : Node) (short : Bool) (aim : ℕ) (x y : ℕ → Bool) (lawful : IsTable table) (s : IsStretch table node short aim x y)
    (p q : ℕ) (lowest : IsLowest (touched_of y table - touched_of x table) (migrated_of y table - migrated_of x table) p q) where
  abbrev ax : ℕ
  ax = touched_of x table

  abbrev mx : ℕ
  mx = migrated_of x table

  abbrev ay : ℕ
  ay = touched_of y table

  abbrev my : ℕ
  my = migrated_of y table

  far : 1 ≤ my - mx
  far = omega (arith, s.apart)

  over : my ≡ mx + (my - mx)
  over = omega (arith, s.apart)

  up : ay ≡ ax + (ay - ax)
  up = omega (arith, touch_order table node short aim x y s)

  line : q * ax + p * my ≡ q * ay + p * mx
  line = on_line ax mx ay my p q (ay - ax) (my - mx) over up lowest.same

  from_lower : s.lower_end.p * q ≤ s.lower_end.q * p
  from_lower = steeper ax mx ay my p q (ay - ax) (my - mx) s.lower_end.p s.lower_end.q far over up lowest.same (s.lower_end.minimum.least y s.upper_member)

  from_upper : (u : IsUpperMinimum table node short y) → u.q * p ≤ u.p * q
  from_upper u = flatter ax mx ay my p q (ay - ax) (my - mx) u.p u.q far over up lowest.same (u.minimum.least x s.lower_member)

  -- the slope is at least 1 where sets fall short, and at most 1 where they go past
  pub steep_here : short ≡ true → q ≤ p
  steep_here is = stays_steep p q s.lower_end.p s.lower_end.q s.lower_end.some (s.lower_end.steep is) from_lower

  pub flat_here : short ≡ false → p ≤ q
  flat_here is = elim s.upper_end [
    | inl most ↦ absurd (let e = most.0 in cc (e, is))
    | inr u ↦ stays_flat p q u.p u.q u.some (u.flat is) (from_upper u)
  ]

  module _ (first last : ℕ → Bool) (minima : AreMinima table p q node first last) where
    -- a minimum that is not below the line leaves both ends minima
    lower_minimum : (z : ℕ → Bool) → IsMinimum table p q node z → q * ax + p * migrated_of z table ≤ q * touched_of z table + p * mx → IsMinimum table p q node x
    lower_minimum z m cheap = record { member = s.lower_member; least = λ w member. omega (arith, cheap, m.least w member) }

    upper_minimum : IsMinimum table p q node x → IsMinimum table p q node y
    upper_minimum m = record { member = s.upper_member; least = λ w member. omega (arith, line, m.least w member) }

    last_below : migrated_of last table < aim → q * touched_of last table + p * mx < q * ax + p * migrated_of last table
    last_below short_of = elim (cases_lt (q * touched_of last table + p * mx) (q * ax + p * migrated_of last table)) as (λ _. q * touched_of last table + p * mx < q * ax + p * migrated_of last table) [
      | inl l ↦ l
      | inr g ↦
          absurd (
          let within = minima.largest y (upper_minimum (lower_minimum last minima.last_is g)) in
          let more = (grows table y last lawful within).0 in
          omega (arith, more, short_of, s.above)
          )
    ]

    first_below : aim < migrated_of first table → q * touched_of first table + p * mx < q * ax + p * migrated_of first table
    first_below past = elim (cases_lt (q * touched_of first table + p * mx) (q * ax + p * migrated_of first table)) as (λ _. q * touched_of first table + p * mx < q * ax + p * migrated_of first table) [
      | inl l ↦ l
      | inr g ↦
          absurd (
          let within = minima.smallest x (lower_minimum first minima.first_is g) in
          let more = (grows table first x lawful within).0 in
          omega (arith, more, past, s.below)
          )
    ]

    -- the last minimum takes the place of the lower end
    pub lower_moves : migrated_of last table < aim → mx < migrated_of last table
    lower_moves short_of =
        left_exchange ax mx (touched_of last table) (migrated_of last table) p q s.lower_end.p s.lower_end.q s.lower_end.some from_lower
        (s.lower_end.minimum.least last minima.last_is.member) (last_below short_of)

    pub lower_rises : migrated_of last table < aim → ax ≤ touched_of last table
    lower_rises short_of =
        touches_less ax mx (touched_of last table) (migrated_of last table) s.lower_end.p s.lower_end.q s.lower_end.some (omega (arith, lower_moves short_of))
        (s.lower_end.minimum.least last minima.last_is.member)

    pub lower_turn : migrated_of last table < aim → IsStretch table node short aim last y
    lower_turn short_of = record {
      lower_member = minima.last_is.member;
      upper_member = s.upper_member;
      below = omega (arith, short_of);
      above = s.above;
      apart = omega (arith, short_of, s.above);
      lower_end = record { p = p; q = q; some = lowest.some; minimum = minima.last_is; steep = steep_here };
      upper_end = s.upper_end;
    }

    -- the first minimum takes the place of the upper end
    pub upper_moves : aim < migrated_of first table → migrated_of first table ≤ my
    upper_moves past = elim s.upper_end as (λ _. migrated_of first table ≤ my) [
      | inl most ↦ most.1 first minima.first_is.member
      | inr u ↦
          right_exchange ay my (touched_of first table) (migrated_of first table) p q u.p u.q u.some (from_upper u)
          (u.minimum.least first minima.first_is.member) (omega (arith, line, first_below past))
    ]

    pub upper_falls : aim < migrated_of first table → touched_of first table < ay
    upper_falls past =
        lower_down ay my (touched_of first table) (migrated_of first table) p q (upper_moves past) (omega (arith, line, first_below past))

    pub upper_above : aim < migrated_of first table → ax ≤ touched_of first table
    upper_above past =
        touches_less ax mx (touched_of first table) (migrated_of first table) s.lower_end.p s.lower_end.q s.lower_end.some (omega (arith, past, s.below))
        (s.lower_end.minimum.least first minima.first_is.member)

    pub upper_turn : aim < migrated_of first table → IsStretch table node short aim x first
    upper_turn past = record {
      lower_member = s.lower_member;
      upper_member = minima.first_is.member;
      below = s.below;
      above = omega (arith, past);
      apart = omega (arith, past, s.below);
      lower_end = s.lower_end;
      upper_end = inr (record { p = p; q = q; some = lowest.some; minimum = minima.first_is; flat = flat_here });
    }
