-- The causes of faults, over several calls.
use Rattle.std.proofs.Common.{◌≡◌, ◌≢◌, ℕ, Result, Ok, Err, ap, arith}
use Rattle.fault_count.specs.Counts.{HandsOn}

err_same : (T E : Type 0) (x y : E) → ◌≡◌ {A = Result T E} (Err x) (Err y) → x ≡ y
err_same T E x y is = cc

-- an error that is handed on, whatever would have been answered
pub hands_over : (S T E : Type 0) (fault error : E) (before now : ℕ) → HandsOn {T = S} fault before now (Err error) → HandsOn {T = T} fault before now (Err error)
hands_over S T E fault error before now hands = record { later = hands.later; failed = λ is. hands.failed (ap (λ (e : E). Err e) (err_same T E error fault is)); kept = λ other. hands.kept (λ same. other (ap (λ (e : E). Err e) (err_same S E error fault same))) }

-- no fault, where the count is as before
pub no_fault : (T E : Type 0) (fault error : E) (before now : ℕ) → error ≢ fault → now ≡ before → HandsOn {T = T} fault before now (Err error)
no_fault T E fault error before now other same = record { later = omega (arith, same); failed = λ is. absurd (other (err_same T E error fault is)); kept = λ _. same }

pub no_fault_ok : (T E : Type 0) (fault : E) (value : T) (before now : ℕ) → now ≡ before → HandsOn {T = T} fault before now (Ok value)
no_fault_ok T E fault value before now same = record { later = omega (arith, same); failed = λ is. cc; kept = λ _. same }
