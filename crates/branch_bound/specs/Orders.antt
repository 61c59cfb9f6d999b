-- The order in which waiting nodes are taken: the one of least value, and among equals the one made first.
use Rattle.std.specs.Prelude.{◌≡◌, ◌⊎◌, ◌*◌, ◌<◌, ◌≤◌}
use Rattle.std.specs.declared.cmp.Ordering.{Ordering}
use Rattle.std.specs.Ordering.{nat_cmp, on, then_cmp, flip_args}
use Rattle.branch_bound.specs.declared.candidate.Candidate.{Candidate}
use Rattle.branch_bound.specs.Fractions.{Positive, positive_cmp}

abbrev pub fraction_of : Candidate → Positive
fraction_of c = record { over = c.worth; under = c.weight; positive = c.weighed }

-- the greatest is the one that is taken first
abbrev pub candidate_cmp : Candidate → Candidate → Ordering
candidate_cmp = flip_args (then_cmp (on fraction_of positive_cmp) (on (λ c. c.number) nat_cmp))

-- a candidate is taken before another: its value is less, or as great and it was made no later
abbrev pub GoesFirst : Candidate → Candidate → Type 0
GoesFirst c other =
    (c.worth * other.weight < other.worth * c.weight) ⊎ ((c.worth * other.weight ≡ other.worth * c.weight) × (c.number ≤ other.number))
