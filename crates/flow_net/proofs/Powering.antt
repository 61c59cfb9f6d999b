use Rattle.std.proofs.Common.{inl, inr, ◌≡◌, ◌≢◌, ℕ, zero, suc, ◌+◌, ◌-◌, ◌*◌, ◌^◌, ◌≤◌, ◌<◌, Bool, true, false, eqb, List, [], ◌∷◌, length, get_or, refl, sym, ◌∙◌, ap, subst, arith}
use Rattle.std.proofs.lemmas.Bool.{cases_lt, lt-ltb, le-ltb, eq-eqb, ne_eqb}
use Rattle.std.proofs.Math.Nat.{mul-le-mul_left, mul-le-mul_right}
use Rattle.std.proofs.lemmas.Grind.{pow_more}
use Rattle.flow_net.specs.declared.pipes.Pipe.{Pipe}
use Rattle.flow_net.specs.Nets.{NetValue, FillingValue, pipe_at}
use Rattle.flow_net.specs.Flows.{IsSide, AreRoomsBelow}
use Rattle.flow_net.specs.Pushes.{across, left_across, AreWithin, IsCarried, Augments}
use Rattle.flow_net.specs.Levels.{unreached, level_of, reached, IsClosed, IsSearched}
use Rattle.flow_net.proofs.Carrying.{augments_on}

-- a bound on each pipe bounds what can cross
pub left_each :
    (s : ℕ → Bool) (ps : List Pipe) (xs : List ℕ) (w : ℕ) → length xs ≡ length ps →
    ((i : ℕ) → i < length ps → across (s (pipe_at ps i).from) (s (pipe_at ps i).to) (pipe_at ps i).room (get_or xs i 0) ≤ w) →
    left_across s ps xs ≤ length ps * w
left_each s [] xs w each h = omega arith
left_each s (p ∷ ps) [] w each h = absurd (omega (arith, each))
left_each s (p ∷ ps) (x ∷ xs) w each h =
    let rest = left_each s ps xs w (omega (arith, each)) (λ i l. h (suc i) (omega (arith, l))) in
    let one = h 0 (omega arith) in
    let more : suc (length ps) * w ≡ length ps * w + w = omega arith in
    omega (arith, rest, one, more)

-- within the rooms no more can cross than the greatest room for each pipe
pub left_rooms :
    (s : ℕ → Bool) (ps : List Pipe) (xs : List ℕ) (w : ℕ) → length xs ≡ length ps → AreWithin ps xs →
    ((i : ℕ) → i < length ps → (pipe_at ps i).room ≤ w) → left_across s ps xs ≤ length ps * w
left_rooms s ps xs w each within rooms =
    left_each s ps xs w each
    (λ i h. one (s (pipe_at ps i).from) (s (pipe_at ps i).to) (pipe_at ps i).room (get_or xs i 0) (within i h) (rooms i h))
  where
    one : (f t : Bool) (r x : ℕ) → x ≤ r → r ≤ w → across f t r x ≤ w
    one true true r x h l = omega arith
    one true false r x h l = omega arith
    one false true r x h l = omega arith
    one false false r x h l = omega arith

-- out of a closed set less than the power can cross each pipe
pub left_closed :
    (s : ℕ → Bool) (ps : List Pipe) (xs : List ℕ) (w : ℕ) → length xs ≡ length ps → IsClosed ps xs w false s →
    left_across s ps xs ≤ length ps * w
left_closed s ps xs w each closed =
    left_each s ps xs w each
    (λ i h. one (s (pipe_at ps i).from) (s (pipe_at ps i).to) (pipe_at ps i).room (get_or xs i 0) (closed i false h) (closed i true h))
  where
    one : (f t : Bool) (r x : ℕ) → (w ≤ r - x → f ≡ true → t ≡ true) → (w ≤ x → t ≡ true → f ≡ true) → across f t r x ≤ w
    one true true r x out back = omega arith
    one true false r x out back =
        elim (cases_lt (r - x) w) as (λ _. r - x ≤ w) [ inl below ↦ omega arith | inr above ↦ absurd (cc (out above refl)) ]
    one false true r x out back =
        elim (cases_lt x w) as (λ _. x ≤ w) [ inl below ↦ omega arith | inr above ↦ absurd (cc (back above refl)) ]
    one false false r x out back = omega arith

-- the source's own side
pub source_side : (a b : ℕ) → a ≢ b → IsSide a b (λ v. eqb v a)
source_side a b apart = (eq-eqb a a refl, ne_eqb b a (λ e. apart (sym e)))

-- a search that missed the sink reached a source side
pub searched_side :
    (ps : List Pipe) (xs : List ℕ) (w : ℕ) (a b : ℕ) (levels : List ℕ) → IsSearched ps xs w false a b levels false →
    IsSide a b (reached levels)
searched_side ps xs w a b levels searched = (
  lt-ltb (level_of levels a) unreached (let e = searched.begin in omega (arith, e)),
  le-ltb (level_of levels b) unreached (let e = searched.goal_missed refl in omega (arith, e)),
)

-- at a lower power
pub augments_one :
    (ps : List Pipe) (a b w : ℕ) (f g : FillingValue) → 1 ≤ w → Augments ps a b w f g → Augments ps a b 1 f g
augments_one ps a b w f g some augments =
    record {
      rises = augments.rises;
      falls =
          λ s side.
          let gap = g.pushes - f.pushes in
          let is : g.pushes ≡ f.pushes + gap = let r = augments.rises in omega (arith, r) in
          let times : g.pushes * w ≡ f.pushes * w + gap * w =
          ap (λ n. n * w) is ∙ (let e : (f.pushes + gap) * w ≡ f.pushes * w + gap * w = omega arith in e) in
          let more : gap * 1 ≤ gap * w = mul-le-mul_left gap some in
          omega (arith, augments.falls s side, times, more, is);
    }

times_cancel : (p q c w : ℕ) → 1 ≤ w → q * w ≤ p * w + c * w → q ≤ p + c
times_cancel p q c w some h =
    elim (cases_lt (p + c) q) as (λ _. q ≤ p + c) [
      | inl above ↦
          let more : ((p + c) + 1) * w ≤ q * w = mul-le-mul_right w (let e : (p + c) + 1 ≤ q = omega arith in e) in
          absurd (omega (arith, more, h, some))
      | inr below ↦ below
    ]

-- the state before the turns that are left
pub record Powering (net : NetValue) (a b all turns : ℕ) (old now : FillingValue) (levels : List ℕ) : Type 0 where
  pub carried : IsCarried net.pipes a b now.amounts
  pub augments : Augments net.pipes a b 1 old now
  pub side : ℕ → Bool
  pub is_side : IsSide a b side
  pub left : left_across side net.pipes now.amounts ≤ length net.pipes * 2 ^ turns
  pub spent : now.pushes + 2 * length net.pipes * turns ≤ old.pushes + 2 * length net.pipes * all
  pub closed : turns < all → IsSearched net.pipes now.amounts (2 ^ turns) false a b levels false

-- the state before the first turn
pub powering_begins :
    (net : NetValue) (a b all : ℕ) (f : FillingValue) (levels : List ℕ) → a ≢ b → IsCarried net.pipes a b f.amounts →
    AreRoomsBelow (2 ^ all) net.pipes → Powering net a b all all f f levels
powering_begins net a b all f levels apart carried rooms =
    record {
      carried = carried;
      augments = record { rises = omega arith; falls = λ s side. omega arith };
      side = λ v. eqb v a;
      is_side = source_side a b apart;
      left = left_rooms (λ v. eqb v a) net.pipes f.amounts (2 ^ all) carried.each carried.within (λ i h. let r = rooms i h in omega (arith, r));
      spent = omega arith;
      closed = λ h. absurd (omega arith);
    }

pub powering_limit :
    (net : NetValue) (a b all t : ℕ) (old now new : FillingValue) (levels : List ℕ) →
    Powering net a b all (t + 1) old now levels → 1 ≤ 2 ^ t → Augments net.pipes a b (2 ^ t) now new →
    new.pushes ≤ now.pushes + 2 * length net.pipes
powering_limit net a b all t old now new levels state some augments =
    let w = 2 ^ t in
    let m = length net.pipes in
    let fall = augments.falls state.side state.is_side in
    let twice : m * 2 ^ (t + 1) ≡ (2 * m) * w = ap (λ n. m * n) (pow_more 2 t) ∙ (let e : m * (w * 2) ≡ (2 * m) * w = omega arith in e) in
    times_cancel now.pushes new.pushes (2 * m) w some (omega (arith, fall, state.left, twice))

-- after a turn
pub powering_on :
    (net : NetValue) (a b all t : ℕ) (old now new : FillingValue) (levels levels2 : List ℕ) →
    Powering net a b all (t + 1) old now levels → 1 ≤ 2 ^ t → Augments net.pipes a b (2 ^ t) now new → IsCarried net.pipes a b new.amounts →
    IsSearched net.pipes new.amounts (2 ^ t) false a b levels2 false → Powering net a b all t old new levels2
powering_on net a b all t old now new levels levels2 state some augments carried searched =
    record {
      carried = carried;
      augments = augments_on net.pipes a b 1 old now new state.augments (augments_one net.pipes a b (2 ^ t) now new some augments);
      side = reached levels2;
      is_side = searched_side net.pipes new.amounts (2 ^ t) a b levels2 searched;
      left = left_closed (reached levels2) net.pipes new.amounts (2 ^ t) carried.each (searched.closed refl);
      spent =
          let limit = powering_limit net a b all t old now new levels state some augments in
          let step : 2 * length net.pipes * (t + 1) ≡ 2 * length net.pipes * t + 2 * length net.pipes = omega arith in
          omega (arith, limit, state.spent, step);
      closed = λ _. searched;
    }

pub one_le_pow : (t : ℕ) → 1 ≤ 2 ^ t
one_le_pow zero = omega arith
one_le_pow (suc t) =
    subst (λ n. 1 ≤ 2 ^ n) (let e : t + 1 ≡ suc t = omega arith in e)
    (let more = pow_more 2 t in omega (arith, more, one_le_pow t))

-- no limit of a turn is near the limit of a filling
pub spent_small :
    (p q m t all : ℕ) → p + 2 * m * t ≤ q + 2 * m * all → all ≤ 104 → m ≤ 2 ^ 24 → q ≤ 2 ^ 32 → p + 2 * m + 1 ≤ 2 ^ 62
spent_small p q m t all h few small begun =
    let a : 2 * m * all ≤ 2 * m * 104 = mul-le-mul_left (2 * m) few in
    omega (arith, a, h, small, begun)

pub spent_upto :
    (p q m all k : ℕ) → p + 2 * m * 0 ≤ q + 2 * m * all → all ≤ k → p ≤ q + 2 * m * k
spent_upto p q m all k h few =
    let a : 2 * m * all ≤ 2 * m * k = mul-le-mul_left (2 * m) few in omega (arith, a, h)
