-- Sets with a file on the other side.
use Rattle.std.proofs.Common.{◌≡◌, ◌≢◌, ℕ, ◌<◌, List, Bool, true, false, not, set, length, ap}
use Rattle.std.proofs.lemmas.List.{get_or-set_same, get_or-set_other}
use Rattle.seed_model.specs.Files.{holds}
use Rattle.greedy_seed.specs.Greedy.{added, flipped}

-- the file itself, and the others
pub flipped_same : (flags : List Bool) (file : ℕ) → file < length flags → holds (flipped flags file) file ≡ not (holds flags file)
flipped_same flags file within = get_or-set_same flags file (not (holds flags file)) false within

pub flipped_other : (flags : List Bool) (file other : ℕ) → other ≢ file → holds (flipped flags file) other ≡ holds flags other
flipped_other flags file other apart = get_or-set_other flags file other (not (holds flags file)) false apart

pub added_same : (flags : List Bool) (file : ℕ) → file < length flags → holds (added flags file) file ≡ true
added_same flags file within = get_or-set_same flags file true false within

pub added_other : (flags : List Bool) (file other : ℕ) → other ≢ file → holds (added flags file) other ≡ holds flags other
added_other flags file other apart = get_or-set_other flags file other true false apart

-- a file that is out is flipped by adding it
pub flips_in : (flags : List Bool) (file : ℕ) → holds flags file ≡ false → flipped flags file ≡ added flags file
flips_in flags file out = ap (λ (b : Bool). set flags file (not b)) out

pub flips_out : (flags : List Bool) (file : ℕ) → holds flags file ≡ true → flipped flags file ≡ set flags file false
flips_out flags file inside = ap (λ (b : Bool). set flags file (not b)) inside
