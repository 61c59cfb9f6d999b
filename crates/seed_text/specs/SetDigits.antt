-- The digits of a set's text: four files each.
use Rattle.std.specs.Prelude.{ℕ, ◌+◌, ◌-◌, ◌*◌, ◌^◌, nat_lt, List, Bool, sum_by, if◌then◌else◌}
use Rattle.std.specs.List.{range_with_len}
use Rattle.seed_model.specs.Files.{holds}

-- digit j: the files 4 * j to 4 * j + 3, the first of them as the highest bit
abbrev pub digit_of : List Bool → ℕ → ℕ
digit_of set j = sum_by (λ i. if holds set (4 * j + i) then 2 ^ (3 - i) else 0) (range_with_len 0 4)

-- how a number below 16 is spelled in lower-case hex
abbrev pub hex_digit : ℕ → ℕ
hex_digit value = if nat_lt value 10 then 48 + value else 87 + value
