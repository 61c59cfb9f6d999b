use Rattle.std.proofs.Common.{◌≡◌, ℕ, zero, suc, ◌+◌, ◌-◌, ◌≤◌, ◌<◌, Bool, true, cond, List, [], ◌∷◌, length, get_or, set, refl, ◌∙◌, ap, arith}
use Rattle.std.proofs.lemmas.List.{length-set}
use Rattle.flow_net.specs.declared.pipes.Pipe.{Pipe}
use Rattle.flow_net.specs.declared.pipes.Use.{Use}
use Rattle.flow_net.specs.Nets.{pipe_at}
use Rattle.flow_net.specs.Paths.{start_of, end_of, IsPath, used, pushed}
use Rattle.flow_net.specs.Moves.{IsReady}
use Rattle.flow_net.specs.Flows.{amount_on, out_of, into}
use Rattle.flow_net.proofs.Ready.{ready_rest}
use Rattle.flow_net.proofs.Sums.{amount_on-cons}
use Rattle.flow_net.specs.Pushes.{part}

-- a write changes one term
amount_set :
    (test : Pipe → Bool) (ps : List Pipe) (xs : List ℕ) (i y : ℕ) → i < length ps → length xs ≡ length ps →
    amount_on test ps (set xs i y) + cond (test (pipe_at ps i)) (get_or xs i 0) 0
    ≡ amount_on test ps xs + cond (test (pipe_at ps i)) y 0
amount_set test [] xs i y l e = omega arith
amount_set test (p ∷ ps) [] i y l e = omega arith
amount_set test (p ∷ ps) (x ∷ xs) zero y l e = omega (arith, amount_on-cons test p ps x xs, amount_on-cons test p ps y xs)
amount_set test (p ∷ ps) (x ∷ xs) (suc i) y l e =
    omega (arith, amount_on-cons test p ps x xs, amount_on-cons test p ps x (set xs i y), amount_set test ps xs i y (omega arith) (omega arith))

-- one use moves an amount from its start to its end, seen from every set of nodes
use_moves :
    (s : ℕ → Bool) (ps : List Pipe) (u : Use) (xs : List ℕ) (d : ℕ) → length xs ≡ length ps → u.pipe < length ps →
    (u.back ≡ true → d ≤ get_or xs u.pipe 0) →
    out_of s ps (used d xs u) + into s ps xs + part (s (end_of ps u)) d
    ≡ out_of s ps xs + into s ps (used d xs u) + part (s (start_of ps u)) d
use_moves s ps u xs d e l b =
    let y = cond u.back (get_or xs u.pipe 0 - d) (get_or xs u.pipe 0 + d) in
    let o = amount_set (λ p. s p.from) ps xs u.pipe y l e in
    let i = amount_set (λ p. s p.to) ps xs u.pipe y l e in
    grind (arith, o, i, b)

-- a push along a path moves its amount from the first node to the last
pub push_moves :
    (s : ℕ → Bool) (ps : List Pipe) (us : List Use) (xs : List ℕ) (a b d : ℕ) → length xs ≡ length ps → IsPath ps a b us →
    IsReady d xs us →
    out_of s ps (pushed d xs us) + into s ps xs + part (s b) d ≡ out_of s ps xs + into s ps (pushed d xs us) + part (s a) d
push_moves s ps [] xs a b d e path ready = omega (arith, ap (λ n. part (s n) d) path)
push_moves s ps (u ∷ us) xs a b d e path ready =
    let one = use_moves s ps u xs d e path.0 ready.0.takes in
    let rest = push_moves s ps us (used d xs u) (end_of ps u) b d (length-set xs u.pipe _ ∙ e) path.2 (ready_rest d xs u us ready) in
    let first = ap (λ n. part (s n) d) path.1 in
    omega (arith, one, rest, first)

pub length_pushed : (d : ℕ) (xs : List ℕ) (us : List Use) → length (pushed d xs us) ≡ length xs
length_pushed d xs [] = refl
length_pushed d xs (u ∷ us) = length_pushed d (used d xs u) us ∙ length-set xs u.pipe _
