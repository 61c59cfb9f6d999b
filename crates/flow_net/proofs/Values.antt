-- What a flow carries crosses every source side.
use Rattle.std.proofs.Common.{inl, inr, ◌≡◌, ℕ, zero, suc, ◌+◌, ◌≤◌, ◌<◌, Bool, true, false, cond, ◌&&◌, eqb, ltb, List, [], ◌∷◌, length, refl, sym, ap, subst, arith}
use Rattle.std.proofs.lemmas.Bool.{cases_order, lt-ltb, le-ltb, eq-eqb, eqb-true, ne_eqb}
use Rattle.flow_net.specs.declared.pipes.Pipe.{Pipe}
use Rattle.flow_net.specs.Nets.{NetValue, IsNet, pipe_at}
use Rattle.flow_net.specs.Flows.{amount_on, out_of, into, cost, IsFlow, IsSide, IsTight}
use Rattle.flow_net.specs.Pushes.{part, left_across}
use Rattle.flow_net.specs.Values.{out_at, into_at, CarriesAtMost, SidesBound, TightSidesAreCarried}
use Rattle.flow_net.proofs.Sums.{amount_on-cons}
use Rattle.flow_net.proofs.Carrying.{left_across-out}
use Rattle.flow_net.proofs.Cutting.{tight_none}

-- the nodes of a set that are below a number
below : (ℕ → Bool) → ℕ → ℕ → Bool
below s n u = s u && ltb u n

part_add : (c : Bool) (m n : ℕ) → part c (m + n) ≡ part c m + part c n
part_add true m n = refl
part_add false m n = refl

part_none : (c : Bool) → part c 0 ≡ 0
part_none true = refl
part_none false = refl

-- the bound raised by one takes in the node at the bound
one_more : (s : ℕ → Bool) (n u x : ℕ) → cond (below s (n + 1) u) x 0 ≡ cond (below s n u) x 0 + part (s n) (cond (eqb u n) x 0)
unfolding below
one_more s n u x = elim (cases_order u n) as (λ _. cond (s u && ltb u (n + 1)) x 0 ≡ cond (s u && ltb u n) x 0 + part (s n) (cond (eqb u n) x 0)) [
  | inl same ↦ rw (same, lt-ltb n (n + 1) (omega arith), le-ltb n n (omega arith), eq-eqb n n refl) (at (s n))
  | inr (inl low) ↦ rw (lt-ltb u (n + 1) (omega (arith, low)), lt-ltb u n low, ne_eqb u n (λ e. omega (arith, low, e)), part_none (s n)) (omega arith)
  | inr (inr high) ↦ rw (le-ltb u (n + 1) (omega (arith, high)), le-ltb u n (omega (arith, high)), ne_eqb u n (λ e. omega (arith, high, e)), part_none (s n)) (omega arith)
]
  where
    at : (c : Bool) → cond (c && true) x 0 ≡ cond (c && false) x 0 + part c x
    at true = omega arith
    at false = omega arith

ends_more : (end : Pipe → ℕ) (s : ℕ → Bool) (n : ℕ) (ps : List Pipe) (xs : List ℕ)
    → amount_on (λ p. below s (n + 1) (end p)) ps xs ≡ amount_on (λ p. below s n (end p)) ps xs + part (s n) (amount_on (λ p. eqb (end p) n) ps xs)
ends_more end s n [] xs = omega (arith, part_none (s n))
ends_more end s n (p ∷ ps) [] = omega (arith, part_none (s n))
ends_more end s n (p ∷ ps) (x ∷ xs) =
    let last = ap (λ (m : ℕ). part (s n) m) (amount_on-cons (λ q. eqb (end q) n) p ps x xs) in
    omega (
      arith,
      one_more s n (end p) x,
      ends_more end s n ps xs,
      part_add (s n) (cond (eqb (end p) n) x 0) (amount_on (λ q. eqb (end q) n) ps xs),
      amount_on-cons (λ q. below s (n + 1) (end q)) p ps x xs,
      amount_on-cons (λ q. below s n (end q)) p ps x xs,
      last,
    )

none_below : (s : ℕ → Bool) (u x : ℕ) → cond (below s 0 u) x 0 ≡ 0
unfolding below
none_below s u x = rw (le-ltb u 0 (omega arith)) (at (s u))
  where
    at : (c : Bool) → cond (c && false) x 0 ≡ 0
    at true = refl
    at false = refl

ends_none : (end : Pipe → ℕ) (s : ℕ → Bool) (ps : List Pipe) (xs : List ℕ) → amount_on (λ p. below s 0 (end p)) ps xs ≡ 0
ends_none end s [] xs = refl
ends_none end s (p ∷ ps) [] = refl
ends_none end s (p ∷ ps) (x ∷ xs) =
    omega (arith, amount_on-cons (λ q. below s 0 (end q)) p ps x xs, none_below s (end p) x, ends_none end s ps xs)

all_below : (s : ℕ → Bool) (n u : ℕ) → u < n → below s n u ≡ s u
unfolding below
all_below s n u h = rw (lt-ltb u n h) (at (s u))
  where
    at : (c : Bool) → (c && true) ≡ c
    at true = refl
    at false = refl

ends_all : (end : Pipe → ℕ) (s : ℕ → Bool) (n : ℕ) (ps : List Pipe) (xs : List ℕ) → ((i : ℕ) → i < length ps → end (pipe_at ps i) < n)
    → amount_on (λ p. below s n (end p)) ps xs ≡ amount_on (λ p. s (end p)) ps xs
ends_all end s n [] xs h = refl
ends_all end s n (p ∷ ps) [] h = refl
ends_all end s n (p ∷ ps) (x ∷ xs) h =
    let one : cond (below s n (end p)) x 0 ≡ cond (s (end p)) x 0 = ap (λ (c : Bool). cond c x 0) (all_below s n (end p) (h 0 (omega arith))) in
    omega (
      arith,
      amount_on-cons (λ q. below s n (end q)) p ps x xs,
      amount_on-cons (λ q. s (end q)) p ps x xs,
      one,
      ends_all end s n ps xs (λ i l. h (suc i) (omega (arith, l))),
    )

-- the same, of a node that is in the bound
part_next : (a n d : ℕ) → part (ltb a (n + 1)) d ≡ part (ltb a n) d + part (eqb a n) d
part_next a n d = elim (cases_order a n) as (λ _. part (ltb a (n + 1)) d ≡ part (ltb a n) d + part (eqb a n) d) [
  | inl same ↦ rw (lt-ltb a (n + 1) (omega (arith, same)), le-ltb a n (omega (arith, same)), eq-eqb a n same) (omega arith)
  | inr (inl low) ↦ rw (lt-ltb a (n + 1) (omega (arith, low)), lt-ltb a n low, ne_eqb a n (λ e. omega (arith, low, e))) (omega arith)
  | inr (inr high) ↦ rw (le-ltb a (n + 1) (omega (arith, high)), le-ltb a n (omega (arith, high)), ne_eqb a n (λ e. omega (arith, high, e))) refl
]

module _ (net : NetValue) (a b : ℕ) (xs : List ℕ) (s : ℕ → Bool) (lawful : IsNet net) (a_in : a < net.nodes) (flow : IsFlow net a b xs) (side : IsSide a b s) where
  -- at each node of the side as much flows out as in, but at the source
  at_node : (n : ℕ) → n < net.nodes → (c : Bool) → s n ≡ c → (e : Bool) → eqb a n ≡ e
      → part c (out_at n net.pipes xs) + part e (into_at a net.pipes xs) ≡ part c (into_at n net.pipes xs) + part e (out_at a net.pipes xs)
  at_node n h false out true same = absurd (let is = eqb-true a n same in cc (is, side.0, out))
  at_node n h false out false other = refl
  at_node n h true inside true same = subst (λ (m : ℕ). out_at m net.pipes xs + into_at a net.pipes xs ≡ into_at m net.pipes xs + out_at a net.pipes xs) (eqb-true a n same) (omega arith)
  at_node n h true inside false other =
      let kept = flow.conserved n h (λ e. cc (eq-eqb a n (sym e), other)) (λ e. cc (e, inside, side.1)) in
      omega (arith, kept)

  -- so it is at all nodes of the side below a bound
  IsBalanced : ℕ → Type 0
  IsBalanced n = out_of (below s n) net.pipes xs + part (ltb a n) (into_at a net.pipes xs) ≡ into (below s n) net.pipes xs + part (ltb a n) (out_at a net.pipes xs)

  node_more : (n : ℕ) → n < net.nodes → IsBalanced n → IsBalanced (n + 1)
  unfolding IsBalanced
  node_more n h balanced =
      omega (
        arith,
        balanced,
        at_node n h (s n) refl (eqb a n) refl,
        ends_more (λ (p : Pipe). p.from) s n net.pipes xs,
        ends_more (λ (p : Pipe). p.to) s n net.pipes xs,
        part_next a n (into_at a net.pipes xs),
        part_next a n (out_at a net.pipes xs),
      )

  balance : (n : ℕ) → n ≤ net.nodes → IsBalanced n
  unfolding IsBalanced
  balance zero h =
      rw (ends_none (λ (p : Pipe). p.from) s net.pipes xs, ends_none (λ (p : Pipe). p.to) s net.pipes xs, le-ltb a 0 (omega arith)) refl
  balance (suc n) h =
      let next : n + 1 ≡ suc n = omega arith in
      subst IsBalanced next (node_more n (omega (arith, h)) (balance n (omega (arith, h))))

  -- what leaves the side less what enters it is what leaves the source less what enters it
  across_side : out_of s net.pipes xs + into_at a net.pipes xs ≡ into s net.pipes xs + out_at a net.pipes xs
  unfolding IsBalanced
  across_side =
      let whole = rw (lt-ltb a net.nodes a_in) at (balance net.nodes (omega arith)) in
      rw (ends_all (λ (p : Pipe). p.from) s net.nodes net.pipes xs (λ i l. (lawful.pipes i l).from_is_node), ends_all (λ (p : Pipe). p.to) s net.nodes net.pipes xs (λ i l. (lawful.pipes i l).to_is_node)) at whole

  -- a side costs what the flow carries, and what can still cross it
  cost_of : cost s net.pipes + into_at a net.pipes xs ≡ left_across s net.pipes xs + out_at a net.pipes xs
  cost_of = omega (arith, across_side, left_across-out s net.pipes xs flow.each flow.within)

  side_bounds : out_at a net.pipes xs ≤ into_at a net.pipes xs + cost s net.pipes
  side_bounds = omega (arith, cost_of)

  tight_carried : IsTight s net.pipes xs → out_at a net.pipes xs ≡ into_at a net.pipes xs + cost s net.pipes
  tight_carried tight = omega (arith, cost_of, tight_none s net.pipes xs flow.each tight)

pub sides_bound : SidesBound
sides_bound net a b xs s lawful a_in flow side = side_bounds net a b xs s lawful a_in flow side

pub tight_sides_are_carried : TightSidesAreCarried
tight_sides_are_carried net a b xs s lawful a_in flow side tight = tight_carried net a b xs s lawful a_in flow side tight

-- so a flow that fills a source side is a greatest one
pub tight_greatest : (net : NetValue) (a b : ℕ) (xs : List ℕ) (s : ℕ → Bool) → IsNet net → a < net.nodes → IsFlow net a b xs → IsSide a b s → IsTight s net.pipes xs
    → (other : List ℕ) → IsFlow net a b other → CarriesAtMost net.pipes a other xs
tight_greatest net a b xs s lawful a_in flow side tight other more =
    omega (arith, tight_carried net a b xs s lawful a_in flow side tight, side_bounds net a b other s lawful a_in more side)
