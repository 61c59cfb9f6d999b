-- The clock of a rack in memory over one call.
use Rattle.std.proofs.Common.{◌≡◌, ◌⊎◌, inl, inr, ℕ, zero, suc, ◌+◌, ◌≤◌, Bool, true, false, ◌∷◌, drop, sym, ap, subst, arith}
use Rattle.std.specs.Prelude.{if◌then◌else◌}
use Rattle.std.proofs.lemmas.Bool.{cases_lt}
use Rattle.fault_count.specs.Counts.{last_count}
use Rattle.volume_disk.specs.Disk.{Images, Crash}
use Rattle.volume_disk.specs.Time.{Elapses}
use Rattle.volume_disk.specs.Record.{Recorded, Step, disk_of, LeftSince, FitsCall, FitsWrite, with_step}
use Rattle.volume_disk.specs.Memory.{MemState, Calls, with_look}

-- whether a call fits
pub fits_call : (r : Recorded) → FitsCall r ⊎ (FitsCall r → ⊥)
fits_call r = elim (cases_lt r.counted r.calls) as (λ _. FitsCall r ⊎ (FitsCall r → ⊥)) [ inl fits ↦ inl fits | inr full ↦ inr (λ fits. omega (arith, fits, full)) ]

-- whether a write fits
pub fits_write : (r : Recorded) (at n : ℕ) → FitsWrite r at n ⊎ (FitsWrite r at n → ⊥)
fits_write r at n =
    elim (cases_lt r.counted r.calls) as (λ _. FitsWrite r at n ⊎ (FitsWrite r at n → ⊥)) [
      | inr full ↦ inr (λ fits. omega (arith, fits.call, full))
      | inl call ↦ elim (cases_lt r.room (at + n)) as (λ _. FitsWrite r at n ⊎ (FitsWrite r at n → ⊥)) [
        | inl past ↦ inr (λ fits. omega (arith, fits.room, past))
        | inr room ↦ elim (cases_lt r.written (r.taken + n)) as (λ _. FitsWrite r at n ⊎ (FitsWrite r at n → ⊥)) [
          | inl past ↦ inr (λ fits. omega (arith, fits.bytes, past))
          | inr bytes ↦ inl (record { call = call; room = room; bytes = bytes })
        ]
      ]
    ]

-- a call changes nothing, or does its step
pub outcome : (old new : MemState) (fits : Type 0) (step : Recorded → Recorded) (failed : Bool) → Calls old new fits step failed → fits ⊎ (fits → ⊥) → (new.devices ≡ old.devices) ⊎ (new.devices ≡ step old.devices)
outcome old new fits step failed calls (inr refused) = inl (calls.refused refused)
outcome old new fits step failed calls (inl fitting) =
    elim (cases_lt old.plan.faults last_count) as (λ _. (new.devices ≡ old.devices) ⊎ (new.devices ≡ step old.devices)) [
      | inl answers ↦ inr (calls.done answers fitting)
      | inr over ↦ inl (ap (λ (s : MemState). s.devices) (calls.over (omega (arith, over, calls.bounded))).1)
    ]

-- no step: the clock stands
pub time_stands : (r s : Recorded) → s ≡ with_look r → Elapses r.moment s.moment (LeftSince r) (LeftSince s) (Crash (disk_of s))
time_stands r s same = subst (λ (x : Recorded). Elapses r.moment x.moment (LeftSince r) (LeftSince x) (Crash (disk_of x))) (sym same) (record {
  later = omega arith;
  nothing_else = λ t c le left. inl left;
  keeps = λ t c le left. left;
})

pub time_same : (r s : Recorded) → s ≡ r → Elapses r.moment s.moment (LeftSince r) (LeftSince s) (Crash (disk_of s))
time_same r s same = subst (λ (x : Recorded). Elapses r.moment x.moment (LeftSince r) (LeftSince x) (Crash (disk_of x))) (sym same) (record {
  later = omega arith;
  nothing_else = λ t c le left. inl left;
  keeps = λ t c le left. left;
})

-- one moment more
left_more : (r : Recorded) (step : Step) (n t : ℕ) (c : Images) (k : ℕ) → k + t ≤ r.moment + 1 → Crash (disk_of (record (with_step r step n) { past = drop k (step ∷ r.past) })) c → LeftSince r t c ⊎ Crash (disk_of (with_step r step n)) c
left_more r step n t c zero bound crash = inr crash
left_more r step n t c (suc k) bound crash = inl (k, omega (arith, bound), crash)

-- a step: the clock goes on
pub time_steps : (r s : Recorded) (step : Step) (n : ℕ) → s ≡ with_step r step n → Elapses r.moment s.moment (LeftSince r) (LeftSince s) (Crash (disk_of s))
time_steps r s step n stepped = subst (λ (x : Recorded). Elapses r.moment x.moment (LeftSince r) (LeftSince x) (Crash (disk_of x))) (sym stepped) (record {
  later = omega arith;
  nothing_else = λ t c le left. left_more r step n t c left.0 left.1 left.2;
  keeps = λ t c le left. (suc left.0, omega (arith, left.1), left.2);
})

-- a call that does a step, or none
pub time_of_call : (old new : MemState) (fits : Type 0) (step : Step) (n : ℕ) (failed : Bool) → Calls old new fits (λ r. with_step r step n) failed → fits ⊎ (fits → ⊥)
    → Elapses old.devices.moment new.devices.moment (LeftSince old.devices) (LeftSince new.devices) (Crash (disk_of new.devices))
time_of_call old new fits step n failed calls decided =
    elim (outcome old new fits (λ r. with_step r step n) failed calls decided) as (λ _. Elapses old.devices.moment new.devices.moment (LeftSince old.devices) (LeftSince new.devices) (Crash (disk_of new.devices))) [
      | inl same ↦ time_same old.devices new.devices same
      | inr stepped ↦ time_steps old.devices new.devices step n stepped
    ]

-- a sync does its step only where it doesn't fail
pub time_of_sync : (old new : MemState) (fits : Type 0) (step : Step) (failed : Bool) → Calls old new fits (λ r. if failed then with_look r else with_step r step 0) failed → fits ⊎ (fits → ⊥)
    → Elapses old.devices.moment new.devices.moment (LeftSince old.devices) (LeftSince new.devices) (Crash (disk_of new.devices))
time_of_sync old new fits step true calls decided =
    elim (outcome old new fits with_look true calls decided) as (λ _. Elapses old.devices.moment new.devices.moment (LeftSince old.devices) (LeftSince new.devices) (Crash (disk_of new.devices))) [
      | inl same ↦ time_same old.devices new.devices same
      | inr stepped ↦ time_stands old.devices new.devices stepped
    ]
time_of_sync old new fits step false calls decided = time_of_call old new fits step 0 false calls decided
