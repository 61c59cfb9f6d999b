-- Bounds hold for members and for mixes, trees stand for them, and what valid documents say is so.
use Rattle.std.proofs.Common.{inl, inr, ◌≡◌, ℕ, ◌+◌, ◌-◌, ◌*◌, ◌≤◌, ◌<◌, Bool, Option, Some, None, ap, arith}
use Rattle.std.specs.Prelude.{nat_le, IfSome, IsSomeAnd}
use Rattle.std.proofs.lemmas.Bool.{cases_Bool, cases_lt, leb-true, leb-false, MatchBool-at_true, MatchBool-at_false}
use Rattle.std.proofs.lemmas.Nat.{mul-le}
use Rattle.seed_model.specs.declared.node.Node.{Node}
use Rattle.seed_model.specs.declared.range.Range.{Range}
use Rattle.seed_model.specs.Files.{holds}
use Rattle.seed_model.specs.Tables.{TableValue, IsTable}
use Rattle.seed_model.specs.Sums.{migrated_of, touched_of, replicated_of}
use Rattle.seed_model.specs.Nodes.{IsAdmitted, put_inside, put_outside, weight_of, mixed_migrated, mixed_replicated}
use Rattle.seed_model.proofs.ClassSums.{splits}
use Rattle.seed_model.proofs.NodeMembers.{low_none, high_none, members_go_down}
use Rattle.bound_cert.specs.declared.multipliers.Multipliers.{Multipliers}
use Rattle.bound_cert.specs.declared.node_line.NodeLine.TheVariants.{Branch, Low, High, Leaf}
use Rattle.bound_cert.specs.declared.heading.Answer.{Answer}
use Rattle.bound_cert.specs.declared.heading.Answer.TheVariants.{Optimal, Infeasible, Open}
use Rattle.bound_cert.specs.declared.heading.Claimed.{Claimed}
use Rattle.bound_cert.specs.Multipliers.{won, lost, turning_point}
use Rattle.bound_cert.specs.Trees.{Tip, Fork, Stands}
use Rattle.bound_cert.specs.Sets.{root_of}
use Rattle.bound_cert.specs.Valid.{IsClaim, Agrees}
use Rattle.bound_cert.specs.Laws.{BoundsMembers, BoundsMixes, TreesBound, Says, plan_named, ValidIsSo}
use Rattle.bound_cert.proofs.Duality.{weak_duality}

-- where p is at least q, the least migrated bytes bound the most
at_low : (w l p q d m r low : ℕ) → p ≡ q + d → low ≤ m → w + p * m ≤ l + q * (m + r) → w + p * low ≤ l + q * low + q * r
at_low w l p q d m r low e h wd = omega (arith, ap (λ n. n * m) e, ap (λ n. n * low) e, mul-le d low d m (omega arith) h, wd)

-- and where q is above p, the most
at_high : (w l p q d m r high : ℕ) → q ≡ p + d → m ≤ high → w + p * m ≤ l + q * (m + r) → w + p * high ≤ l + q * high + q * r
at_high w l p q d m r high e h wd = omega (arith, ap (λ n. n * m) e, ap (λ n. n * high) e, mul-le d m d high (omega arith) h, wd)

pub bounds_members : BoundsMembers
bounds_members table range node set m t am a =
    let w : ℕ = won table.files node m.gives in
    let l : ℕ = lost table.files node m.gives in
    let moved : ℕ = migrated_of set table in
    let kept : ℕ = replicated_of set table in
    let sum : touched_of set table ≡ moved + kept = splits table set t in
    let wd : w + m.p * moved ≤ l + m.q * (moved + kept) = omega (arith, weak_duality table node set m am a.member, ap (λ n. m.q * n) sum) in
    elim (cases_Bool (nat_le m.q m.p)) as (λ _. w + m.p * turning_point range m.p m.q ≤ l + m.q * turning_point range m.p m.q + m.q * kept) [
      | inl y ↦ rw y (at_low w l m.p m.q (m.p - m.q) moved kept range.low (omega (arith, leb-true m.q m.p y)) a.in_range.enough wd)
      | inr n ↦ rw n (at_high w l m.p m.q (m.q - m.p) moved kept range.high (omega (arith, leb-false m.q m.p n)) a.in_range.no_more wd)
    ]

-- the same for weighted sums
mix_low : (w l p q d o m r low : ℕ) → p ≡ q + d → low * o ≤ m → w * o + p * m ≤ l * o + q * (m + r) → (w + p * low) * o ≤ (l + q * low) * o + q * r
mix_low w l p q d o m r low e h wd = omega (arith, ap (λ n. n * m) e, ap (λ n. n * (low * o)) e, mul-le d (low * o) d m (omega arith) h, wd)

mix_high : (w l p q d o m r high : ℕ) → q ≡ p + d → m ≤ high * o → w * o + p * m ≤ l * o + q * (m + r) → (w + p * high) * o ≤ (l + q * high) * o + q * r
mix_high w l p q d o m r high e h wd = omega (arith, ap (λ n. n * m) e, ap (λ n. n * (high * o)) e, mul-le d m d (high * o) (omega arith) h, wd)

-- two inequalities, weighted
weighted : (a b w l p q m r n s : ℕ) → w + p * m ≤ l + q * (m + r) → w + p * n ≤ l + q * (n + s)
    → w * (a + b) + p * (a * m + b * n) ≤ l * (a + b) + q * ((a * m + b * n) + (a * r + b * s))
weighted a b w l p q m r n s one two =
    omega (arith, mul-le a (w + p * m) a (l + q * (m + r)) (omega arith) one, mul-le b (w + p * n) b (l + q * (n + s)) (omega arith) two)

pub bounds_mixes : BoundsMixes
bounds_mixes table range node mix m t am x =
    let w : ℕ = won table.files node m.gives in
    let l : ℕ = lost table.files node m.gives in
    let o : ℕ = weight_of mix in
    let moved : ℕ = mixed_migrated table mix in
    let kept : ℕ = mixed_replicated table mix in
    let first : touched_of (holds mix.first) table ≡ migrated_of (holds mix.first) table + replicated_of (holds mix.first) table = splits table (holds mix.first) t in
    let second : touched_of (holds mix.second) table ≡ migrated_of (holds mix.second) table + replicated_of (holds mix.second) table = splits table (holds mix.second) t in
    let one = rw first at (weak_duality table node (holds mix.first) m am x.first) in
    let two = rw second at (weak_duality table node (holds mix.second) m am x.second) in
    let wd : w * o + m.p * moved ≤ l * o + m.q * (moved + kept) =
    weighted mix.alpha mix.beta w l m.p m.q (migrated_of (holds mix.first) table) (replicated_of (holds mix.first) table) (migrated_of (holds mix.second) table) (replicated_of (holds mix.second) table) one two in
    elim (cases_Bool (nat_le m.q m.p)) as (λ _. (w + m.p * turning_point range m.p m.q) * o ≤ (l + m.q * turning_point range m.p m.q) * o + m.q * kept) [
      | inl y ↦ rw y (mix_low w l m.p m.q (m.p - m.q) o moved kept range.low (omega (arith, leb-true m.q m.p y)) x.enough wd)
      | inr n ↦ rw n (mix_high w l m.p m.q (m.q - m.p) o moved kept range.high (omega (arith, leb-false m.q m.p n)) x.no_more wd)
    ]

-- a bound that is reached is a bound
below_reached : (a b q z r : ℕ) → a + q * z < b + q → b ≤ a + q * r → z ≤ r
below_reached a b q z r reach h = elim (cases_lt z (r + 1)) [ inl lt ↦ omega (arith, lt) | inr ge ↦ absurd (omega (arith, mul-le q (r + 1) q z (omega arith) ge, reach, h)) ]

tip_bounds : (table : TableValue) (range : Range) (bound : Option ℕ) (node : Node) (m : Multipliers) (set : ℕ → Bool) → IsTable table
    → Stands table range bound node (Tip (Leaf m)) → IsAdmitted table range node set → IsSomeAnd bound (λ z. z ≤ replicated_of set table)
tip_bounds table range None node m set t s a = absurd s.1
tip_bounds table range (Some z) node m set t s a =
    below_reached (lost table.files node m.gives + m.q * turning_point range m.p m.q) (won table.files node m.gives + m.p * turning_point range m.p m.q) m.q z (replicated_of set table)
    s.1.1 (bounds_members table range node set m t s.1.0 a)

pub trees_bound : TreesBound
trees_bound table range bound node (Tip (Branch f p q a b)) set t s admitted = cc (s.0)
trees_bound table range bound node (Tip Low) set t s admitted = absurd ((low_none table range node t s.1).0 set admitted)
trees_bound table range bound node (Tip High) set t s admitted = absurd ((high_none table range node t s.1).0 set admitted)
trees_bound table range bound node (Tip (Leaf m)) set t s admitted = tip_bounds table range bound node m set t s admitted
trees_bound table range bound node (Fork (Branch f p q a b) out inn) set t s admitted =
    let down = members_go_down table.files node f set admitted.member in
    elim (cases_Bool (set f)) [
      | inl y ↦ trees_bound table range bound (put_inside f node) inn set t s.3 (record { member = MatchBool-at_true _ _ y down; in_range = admitted.in_range })
      | inr n ↦ trees_bound table range bound (put_outside f node) out set t s.2 (record { member = MatchBool-at_false _ _ n down; in_range = admitted.in_range })
    ]
trees_bound table range bound node (Fork Low out inn) set t s admitted = cc (s.0)
trees_bound table range bound node (Fork High out inn) set t s admitted = cc (s.0)
trees_bound table range bound node (Fork (Leaf m) out inn) set t s admitted = cc (s.0)

-- what the answer says follows from the bound
says_by : (table : TableValue) (range : Range) (root : Node) (answer : Answer) (plan : Option Claimed) (bound : Option ℕ)
    → IfSome plan (IsClaim table range root) → Agrees answer plan bound
    → ((set : ℕ → Bool) → IsAdmitted table range root set → IsSomeAnd bound (λ z. z ≤ replicated_of set table))
    → Says table range root answer (plan_named table.files plan) bound
says_by table range root Optimal (Some plan) (Some z) claim agrees least =
    record { admitted = claim.admitted; least = λ other a. omega (arith, least other a, agrees, claim.replicated) }
says_by table range root Optimal (Some plan) None claim agrees least = absurd agrees
says_by table range root Optimal None bound claim agrees least = absurd agrees
says_by table range root Infeasible None None claim agrees least = λ set a. least set a
says_by table range root Infeasible None (Some z) claim agrees least = absurd agrees
says_by table range root Infeasible (Some plan) bound claim agrees least = absurd agrees
says_by table range root Open plan (Some z) claim agrees least = least
says_by table range root Open None None claim agrees least = absurd agrees
says_by table range root Open (Some plan) None claim agrees least = absurd agrees

pub valid_is_so : ValidIsSo
valid_is_so table heading nodes t v =
    let root : Node = root_of table.files heading.pins in
    says_by table heading.range root heading.answer heading.plan heading.bound v.plan v.agrees
    (λ set a. trees_bound table heading.range heading.bound root v.tree set t v.stands a)
