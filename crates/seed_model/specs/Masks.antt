-- Sets of few files as numbers: file f is bit f.
use Rattle.std.specs.Prelude.{◌≡◌, ℕ, ◌+◌, ◌*◌, ◌%◌, ◌^◌, ◌<◌, ◌==◌, List, Bool, length, slice_index, fold, bit_and, bit_or, if◌then◌else◌}
use Rattle.std.specs.Int.{bit_at, bit_not, w64}
use Rattle.seed_model.specs.Tables.{TableValue}
use Rattle.seed_model.specs.Sums.{bytes_where, migrated_of}

-- the set of a mask
abbrev pub in_mask : ℕ → ℕ → Bool
in_mask mask file = bit_at mask file == 1

-- the mask of these files
abbrev pub mask_of : List ℕ → ℕ
mask_of files = fold (λ mask file. bit_or mask (2 ^ file)) 0 files

-- a mask without a file
abbrev pub without : ℕ → ℕ → ℕ
without mask file = bit_and mask (bit_not w64 (1 * 2 ^ file % 2 ^ 64))

-- a sum for each mask: of the classes whose users are exactly the mask's set
pub record HasExactBytes (table : TableValue) (sums : List ℕ) : Type 0 where
  pub masks : length sums ≡ 2 ^ table.files
  pub each : (mask : ℕ) → mask < 2 ^ table.files → slice_index sums mask ≡ bytes_where (λ users. mask_of users == mask) table.classes

-- a sum for each mask: the bytes that its set migrates
pub record HasMigrated (table : TableValue) (sums : List ℕ) : Type 0 where
  pub masks : length sums ≡ 2 ^ table.files
  pub each : (mask : ℕ) → mask < 2 ^ table.files → slice_index sums mask ≡ migrated_of (in_mask mask) table

-- each mask with the file gets the sum of the mask without it
abbrev pub AddsSubsets : ℕ → List ℕ → List ℕ → Type 0
AddsSubsets file old new = (mask : ℕ) → mask < length old
    → slice_index new mask ≡ slice_index old mask + (if in_mask mask file then slice_index old (without mask file) else 0)
