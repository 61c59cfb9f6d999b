-- What stands at a gate.
use Rattle.std.specs.Prelude.{ℕ, ◌+◌, ◌^◌, ◌<◌, ◌≤◌, ◌==◌, Bool, ◌&&◌, nat_le, nat_lt, List, length, drop, slice_index, if◌then◌else◌}
use Rattle.std.specs.Int.{w32, from_be_bytes}
use Rattle.site_forms.specs.declared.gates.Gate.{Gate}
use Rattle.site_forms.specs.declared.gates.Gate.TheVariants.{Shut, Broken, Open}

-- a length of a body behind a gate at a place, and the body and the next gate lie below two places
abbrev pub fits_block : ℕ → ℕ → ℕ → Bool
fits_block at size n = nat_le 1 n && (nat_le n (2 ^ 24) && (nat_lt (at + 5 + n) size && nat_lt (at + 5 + n) (2 ^ 40)))

-- what the first bytes from a gate on say, at most five, of an image of a size
abbrev pub gate_in : List ℕ → ℕ → ℕ → Gate
gate_in head at size =
    if slice_index head 0 == 1 then (if length head == 5 && fits_block at size (from_be_bytes w32 (drop 1 head)) then Open (from_be_bytes w32 (drop 1 head)) else Broken) else Shut

-- an open gate at a place, of an image of a size, has a body and a gate behind it
abbrev pub IsGate : ℕ → ℕ → Gate → Type 0
IsGate at size Shut = Unit {0}
IsGate at size Broken = Unit {0}
IsGate at size (Open n) = (1 ≤ n) × (n ≤ 2 ^ 24) × (at + 5 + n < size) × (at + 5 + n < 2 ^ 40)
