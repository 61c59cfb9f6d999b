-- Multipliers of one slope, each attained by a member, prove one bound.
use Rattle.std.proofs.Common.{ℕ, ◌*◌, ap, arith}
use Rattle.seed_model.specs.Sums.{migrated_of, touched_of}
use Rattle.bound_cert.proofs.Duality.{weak_duality}
use Rattle.hull_bound.specs.Laws.{OneBound}

pub one_bound : OneBound
one_bound table node m other here there =
    let set = here.attained.set in
    let at = there.attained.set in
    let low = weak_duality table node set other there.multipliers here.attained.member in
    let high = weak_duality table node at m here.multipliers there.attained.member in
    let p1 = ap (λ (n : ℕ). n * migrated_of set table) there.over in
    let q1 = ap (λ (n : ℕ). n * touched_of set table) there.under in
    let p2 = ap (λ (n : ℕ). n * migrated_of at table) there.over in
    let q2 = ap (λ (n : ℕ). n * touched_of at table) there.under in
    omega (arith, low, high, here.attained.attained, there.attained.attained, p1, q1, p2, q2)
