-- The definitions at nodes of a table of five chunks, and of one at the edge of the limits.
use Rattle.std.proofs.Common.{◌≡◌, ◌∷◌, [], ◌<◌, ℕ, zero, suc, Bool, true, false, inl, inr, refl, arith}
use Rattle.seed_model.specs.declared.node.Node.{Node}
use Rattle.seed_model.specs.declared.node.Mix.{Mix}
use Rattle.seed_model.specs.declared.range.Range.{Range}
use Rattle.seed_model.specs.Files.{holds}
use Rattle.seed_model.specs.Tables.{TableValue}
use Rattle.seed_model.specs.Nodes.{IsLow, IsHigh, IsMember}
use Rattle.hull_bound.specs.Minima.{CostsNoMore, AreMinima}
use Rattle.hull_bound.specs.Relaxations.{IsSearchMix}

abbrev five : TableValue
five = record {
  files = 3;
  classes = record { size = 10; users = 0 ∷ 1 ∷ [] } ∷ record { size = 20; users = 0 ∷ [] } ∷ record { size = 30; users = 1 ∷ [] }
      ∷ record { size = 7; users = 1 ∷ 2 ∷ [] } ∷ record { size = 5; users = 2 ∷ [] } ∷ [];
}

abbrev range : Range
range = record { low = 35; high = 45 }

-- a set of the three files
abbrev set : Bool → Bool → Bool → ℕ → Bool
set a b c = holds (a ∷ b ∷ c ∷ [])

-- the first file outside
abbrev without : Node
without = record { inside = false ∷ false ∷ false ∷ []; outside = true ∷ false ∷ false ∷ [] }

-- its mix: 7 parts of no file, and 35 of the other two
abbrev mix_without : Mix
mix_without = record { first = false ∷ false ∷ false ∷ []; second = false ∷ true ∷ true ∷ []; alpha = 7; beta = 35 }

none_costs : (a b c : Bool) → a ≡ false → CostsNoMore five 26 21 (set false false false) (set a b c)
none_costs true b c e = absurd (cc e)
none_costs false true true e = omega arith
none_costs false true false e = omega arith
none_costs false false true e = omega arith
none_costs false false false e = omega arith

pair_costs : (a b c : Bool) → a ≡ false → CostsNoMore five 26 21 (set false true true) (set a b c)
pair_costs true b c e = absurd (cc e)
pair_costs false true true e = omega arith
pair_costs false true false e = omega arith
pair_costs false false true e = omega arith
pair_costs false false false e = omega arith

none_costs_one : (a b c : Bool) → a ≡ false → CostsNoMore five 1 1 (set false false false) (set a b c)
none_costs_one true b c e = absurd (cc e)
none_costs_one false true true e = omega arith
none_costs_one false true false e = omega arith
none_costs_one false false true e = omega arith
none_costs_one false false false e = omega arith

-- at slope 1 no other member costs as little
none_alone : (a b c : Bool) → a ≡ false → CostsNoMore five 1 1 (set a b c) (set false false false) → (b ≡ false) × (c ≡ false)
none_alone true b c e h = absurd (cc e)
none_alone false true true e h = absurd (omega (arith, h))
none_alone false true false e h = absurd (omega (arith, h))
none_alone false false true e h = absurd (omega (arith, h))
none_alone false false false e h = (refl, refl)

no_file : (f : ℕ) → set false false false f ≡ false
no_file zero = refl
no_file (suc zero) = refl
no_file (suc (suc zero)) = refl
no_file (suc (suc (suc f))) = refl

none_there : (f : ℕ) → set false false false f ≡ true → ⊥
none_there f h = let e = no_file f in cc (h, e)

none_member : IsMember 3 without (set false false false)
none_member = record { has = λ f lt h. h; lacks = λ f lt h. no_file f }

first_alone : (f : ℕ) → set true false false f ≡ true → set false true true f ≡ false
first_alone zero h = refl
first_alone (suc zero) h = absurd (cc h)
first_alone (suc (suc zero)) h = absurd (cc h)
first_alone (suc (suc (suc f))) h = refl

pair_member : IsMember 3 without (set false true true)
pair_member = record { has = λ f lt h. absurd (none_there f h); lacks = λ f lt h. first_alone f h }

-- a set without the first file is within the pair of the others
in_pair : (s : ℕ → Bool) (f : ℕ) → f < 3 → s f ≡ true → s 0 ≡ false → set false true true f ≡ true
in_pair s zero lt h a = absurd (cc (h, a))
in_pair s (suc zero) lt h a = refl
in_pair s (suc (suc zero)) lt h a = refl
in_pair s (suc (suc (suc f))) lt h a = absurd (omega (arith, lt))

-- and empty without those too
in_none : (s : ℕ → Bool) (f : ℕ) → f < 3 → s f ≡ true → s 0 ≡ false → (s 1 ≡ false) × (s 2 ≡ false) → ⊥
in_none s zero lt h a bc = cc (h, a)
in_none s (suc zero) lt h a bc = let b = bc.0 in cc (h, b)
in_none s (suc (suc zero)) lt h a bc = let c = bc.1 in cc (h, c)
in_none s (suc (suc (suc f))) lt h a bc = omega (arith, lt)

least_one : (other : ℕ → Bool) → IsMember 3 without other → CostsNoMore five 1 1 (set false false false) other
least_one other m = none_costs_one (other 0) (other 1) (other 2) (m.lacks 0 (omega arith) refl)

at_one : AreMinima five 1 1 without (set false false false) (set false false false)
at_one = record {
  first_is = record { member = none_member; least = least_one };
  last_is = record { member = none_member; least = least_one };
  smallest = λ s m f lt h. absurd (none_there f h);
  largest = λ s m f lt h.
      let out = m.member.lacks 0 (omega arith) refl in
      absurd (in_none s f lt h out (none_alone (s 0) (s 1) (s 2) out (m.least (set false false false) none_member)));
}

at_slope : AreMinima five 26 21 without (set false false false) (set false true true)
at_slope = record {
  first_is = record { member = none_member; least = λ other m. none_costs (other 0) (other 1) (other 2) (m.lacks 0 (omega arith) refl) };
  last_is = record { member = pair_member; least = λ other m. pair_costs (other 0) (other 1) (other 2) (m.lacks 0 (omega arith) refl) };
  smallest = λ s m f lt h. absurd (none_there f h);
  largest = λ s m f lt h. in_pair s f lt h (m.member.lacks 0 (omega arith) refl);
}

-- 25/3 at the slope 26/21
search_without : IsSearchMix five range without 26 21 mix_without
search_without = record {
  aim = 35;
  is_aim = record { first = set false false false; last = set false false false; at_one = at_one; where_ = inr (inl (omega arith, refl)) };
  minima = at_slope;
  below = omega arith;
  above = omega arith;
  alpha = refl;
  beta = refl;
}

-- all files inside are too many, and two of them outside too few
all_high : IsHigh five range (record { inside = true ∷ true ∷ true ∷ []; outside = false ∷ false ∷ false ∷ [] })
all_high = omega arith

last_low : IsLow five range (record { inside = false ∷ false ∷ false ∷ []; outside = true ∷ true ∷ false ∷ [] })
last_low = omega arith

-- Two files at the edge of the limits: a byte of both, and as many of the second alone as there may be.
abbrev edge : TableValue
edge = record { files = 2; classes = record { size = 1; users = 0 ∷ 1 ∷ [] } ∷ record { size = 1125899906842622; users = 1 ∷ [] } ∷ [] }

abbrev edge_range : Range
edge_range = record { low = 100; high = 100 }

abbrev both : Bool → Bool → ℕ → Bool
both a b = holds (a ∷ b ∷ [])

abbrev edge_node : Node
edge_node = record { inside = true ∷ false ∷ []; outside = false ∷ false ∷ [] }

abbrev edge_mix : Mix
edge_mix = record { first = true ∷ false ∷ []; second = true ∷ true ∷ []; alpha = 1125899906842523; beta = 100 }

one_costs : (a b : Bool) → a ≡ true → CostsNoMore edge 1125899906842622 1125899906842623 (both true false) (both a b)
one_costs false b e = absurd (cc e)
one_costs true true e = omega arith
one_costs true false e = omega arith

all_cost : (a b : Bool) → a ≡ true → CostsNoMore edge 1125899906842622 1125899906842623 (both true true) (both a b)
all_cost false b e = absurd (cc e)
all_cost true true e = omega arith
all_cost true false e = omega arith

all_cost_one : (a b : Bool) → a ≡ true → CostsNoMore edge 1 1 (both true true) (both a b)
all_cost_one false b e = absurd (cc e)
all_cost_one true true e = omega arith
all_cost_one true false e = omega arith

all_alone : (a b : Bool) → a ≡ true → CostsNoMore edge 1 1 (both a b) (both true true) → b ≡ true
all_alone false b e h = absurd (cc e)
all_alone true true e h = refl
all_alone true false e h = absurd (omega (arith, h))

in_both : (f : ℕ) → f < 2 → both true true f ≡ true
in_both zero lt = refl
in_both (suc zero) lt = refl
in_both (suc (suc f)) lt = absurd (omega (arith, lt))

none_out : (f : ℕ) → both false false f ≡ true → ⊥
none_out zero h = cc h
none_out (suc zero) h = cc h
none_out (suc (suc f)) h = cc h

first_in : (s : ℕ → Bool) (f : ℕ) → s 0 ≡ true → both true false f ≡ true → s f ≡ true
first_in s zero a h = a
first_in s (suc zero) a h = absurd (cc h)
first_in s (suc (suc f)) a h = absurd (cc h)

two_in : (s : ℕ → Bool) (f : ℕ) → s 0 ≡ true → s 1 ≡ true → both true true f ≡ true → s f ≡ true
two_in s zero a b h = a
two_in s (suc zero) a b h = b
two_in s (suc (suc f)) a b h = absurd (cc h)

one_member : IsMember 2 edge_node (both true false)
one_member = record { has = λ f lt h. h; lacks = λ f lt h. absurd (none_out f h) }

all_member : IsMember 2 edge_node (both true true)
all_member = record { has = λ f lt h. in_both f lt; lacks = λ f lt h. absurd (none_out f h) }

edge_one : AreMinima edge 1 1 edge_node (both true true) (both true true)
edge_one = record {
  first_is = record { member = all_member; least = λ other m. all_cost_one (other 0) (other 1) (m.has 0 (omega arith) refl) };
  last_is = record { member = all_member; least = λ other m. all_cost_one (other 0) (other 1) (m.has 0 (omega arith) refl) };
  smallest = λ s m f lt h.
      let a = m.member.has 0 (omega arith) refl in
      two_in s f a (all_alone (s 0) (s 1) a (m.least (both true true) all_member)) h;
  largest = λ s m f lt h. in_both f lt;
}

edge_slope : AreMinima edge 1125899906842622 1125899906842623 edge_node (both true false) (both true true)
edge_slope = record {
  first_is = record { member = one_member; least = λ other m. one_costs (other 0) (other 1) (m.has 0 (omega arith) refl) };
  last_is = record { member = all_member; least = λ other m. all_cost (other 0) (other 1) (m.has 0 (omega arith) refl) };
  smallest = λ s m f lt h. first_in s f (m.member.has 0 (omega arith) refl) h;
  largest = λ s m f lt h. in_both f lt;
}

search_edge : IsSearchMix edge edge_range edge_node 1125899906842622 1125899906842623 edge_mix
search_edge = record {
  aim = 100;
  is_aim = record { first = both true true; last = both true true; at_one = edge_one; where_ = inr (inr (omega arith, refl)) };
  minima = edge_slope;
  below = omega arith;
  above = omega arith;
  alpha = refl;
  beta = refl;
}
