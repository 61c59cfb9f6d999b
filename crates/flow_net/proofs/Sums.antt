use Rattle.std.proofs.Common.{◌≡◌, ℕ, ◌+◌, Bool, cond, List, ◌∷◌}
use Rattle.std.specs.List.{zip}
use Rattle.std.proofs.lemmas.List.Sums.{sum_by-cons}
use Rattle.flow_net.specs.declared.pipes.Pipe.{Pipe}
use Rattle.flow_net.specs.Flows.{amount_on, pipe_cost, cost}

-- the first amount, and the others
pub amount_on-cons :
    (test : Pipe → Bool) (p : Pipe) (ps : List Pipe) (x : ℕ) (xs : List ℕ) →
    amount_on test (p ∷ ps) (x ∷ xs) ≡ cond (test p) x 0 + amount_on test ps xs
amount_on-cons test p ps x xs = sum_by-cons (λ (q : Pipe × ℕ). cond (test q.0) q.1 0) (p, x) (zip ps xs)

-- the first pipe, and the others
pub cost-cons : (s : ℕ → Bool) (p : Pipe) (ps : List Pipe) → cost s (p ∷ ps) ≡ pipe_cost s p + cost s ps
cost-cons s p ps = sum_by-cons (pipe_cost s) p ps
