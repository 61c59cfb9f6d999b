-- Sums of a set with a file flipped, from what the file shares.
use Rattle.std.specs.Prelude.{sum_by}
use Rattle.std.proofs.Common.{◌≡◌, ◌∙◌, ℕ, ◌+◌, ◌-◌, ◌^◌, ◌<◌, ◌≤◌, List, [], Bool, true, false, not, length, get_or, ap, subst, sym, arith}
use Rattle.std.proofs.lemmas.List.{get_or_default, length-set}
use Rattle.seed_model.specs.declared.table.Class.{Class}
use Rattle.seed_model.specs.Files.{holds}
use Rattle.seed_model.specs.Keys.{no_class}
use Rattle.seed_model.specs.Tables.{TableValue, IsTable}
use Rattle.seed_model.proofs.ClassSums.{splits, stays_within_total}
use Rattle.seed_model.proofs.KeySums.{sum_below_entries}
use Rattle.greedy_seed.specs.Greedy.{flipped, migrates, replicates}
use Rattle.greedy_seed.specs.declared.tally.Tally.{Tally}
use Rattle.greedy_seed.specs.Inside.{AreSums, IsTally}
use Rattle.greedy_seed.specs.Shares.{AreAllUses, AreKept, AreShares, AreUses, share_of, gained, reached}
use Rattle.greedy_seed.proofs.Shares.{beside_in, beside_out, differences_small, differences_large}

-- what a file's shares are together
pub read_share : (whole : Class → ℕ) (s : ℕ → Bool) (table : TableValue) (shares : List ℕ) (g : ℕ) → AreShares whole (λ k. s) table (length table.classes) shares → g < table.files
    → get_or shares g 0 ≡ sum_by (λ (c : Class). share_of (whole c) s c g) table.classes
read_share whole s table shares g are lt = are.each g lt ∙ sum_below_entries (λ (c : Class). share_of (whole c) s c g) table.classes no_class

-- what the sums are with a file out, and with it in
pub record AreLess (table : TableValue) (flags : List Bool) (file m r gain reach : ℕ) : Type 0 where
  pub gain_fits : gain ≤ m
  pub reach_fits : reach ≤ r + gain
  pub small : r + gain < 2 ^ 63
  pub migrated : m - gain ≡ migrates table (flipped flags file)
  pub replicated : r + gain - reach ≡ replicates table (flipped flags file)

pub record AreMore (table : TableValue) (flags : List Bool) (file m r gain reach : ℕ) : Type 0 where
  pub gain_fits : gain ≤ r + reach
  pub small : m + gain < 2 ^ 63
  pub reach_small : r + reach < 2 ^ 63
  pub migrated : m + gain ≡ migrates table (flipped flags file)
  pub replicated : r + reach - gain ≡ replicates table (flipped flags file)

pub are_less : (table : TableValue) (flags : List Bool) (file m r gain reach : ℕ) → IsTable table → file < length flags → holds flags file ≡ true → m ≡ migrates table flags
    → r ≡ replicates table flags → gain ≡ gained (holds flags) table.classes file → reach ≡ reached (holds flags) table.classes file → AreLess table flags file m r gain reach
are_less table flags file m r gain reach t lt inside migrated replicated gains reaches =
    let s = holds flags in
    let other = holds (flipped flags file) in
    let beside = beside_out flags file lt inside in
    let law = differences_large table other s file t beside in
    let here = splits table s t in
    let there = splits table other t in
    let most = stays_within_total table s in
    record {
      gain_fits = omega (arith, migrated, gains, law.gain);
      reach_fits = omega (arith, migrated, replicated, gains, reaches, law.gain, law.reach, here, there);
      small = omega (arith, migrated, replicated, gains, law.gain, here, most, t.bytes);
      migrated = omega (arith, migrated, gains, law.gain);
      replicated = omega (arith, migrated, replicated, gains, reaches, law.gain, law.reach, here, there);
    }

pub are_more : (table : TableValue) (flags : List Bool) (file m r gain reach : ℕ) → IsTable table → file < length flags → holds flags file ≡ false → m ≡ migrates table flags
    → r ≡ replicates table flags → gain ≡ gained (holds flags) table.classes file → reach ≡ reached (holds flags) table.classes file → AreMore table flags file m r gain reach
are_more table flags file m r gain reach t lt out migrated replicated gains reaches =
    let s = holds flags in
    let other = holds (flipped flags file) in
    let beside = beside_in flags file lt out in
    let law = differences_small table s other file t beside in
    let here = splits table s t in
    let there = splits table other t in
    let most = stays_within_total table other in
    record {
      gain_fits = omega (arith, migrated, replicated, gains, reaches, law.gain, law.reach, here, there);
      small = omega (arith, migrated, gains, law.gain, there, most, t.bytes);
      reach_small = omega (arith, migrated, replicated, reaches, law.reach, here, there, most, t.bytes);
      migrated = omega (arith, migrated, gains, law.gain);
      replicated = omega (arith, migrated, replicated, gains, reaches, law.gain, law.reach, here, there);
    }

-- a share that is read
pub share_read : (whole : Class → ℕ) (s : ℕ → Bool) (table : TableValue) (shares : List ℕ) (g x : ℕ) → AreShares whole (λ k. s) table (length table.classes) shares → g < table.files
    → x ≡ get_or shares g x → x ≡ sum_by (λ (c : Class). share_of (whole c) s c g) table.classes
share_read whole s table shares g x are lt read = read ∙ (get_or_default shares g x 0 (omega (arith, lt, are.long)) ∙ read_share whole s table shares g are lt)

-- the same, of a tally
pub tally_less : (table : TableValue) (tally : Tally) (file gain reach : ℕ) → IsTally table tally → file < table.files → holds tally.set file ≡ true
    → gain ≡ get_or tally.shares.gains.items file gain → reach ≡ get_or tally.shares.reaches.items file reach
    → AreLess table tally.set file tally.sums.migrated tally.sums.replicated gain reach
tally_less table tally file gain reach is lt inside gains reaches =
    are_less table tally.set file tally.sums.migrated tally.sums.replicated gain reach is.lawful (omega (arith, lt, is.files)) inside is.sums.migrated is.sums.replicated
    (share_read (λ c. length c.users) (holds tally.set) table tally.shares.gains.items file gain is.shares.gains lt gains)
    (share_read (λ c. 1) (holds tally.set) table tally.shares.reaches.items file reach is.shares.reaches lt reaches)

pub tally_more : (table : TableValue) (tally : Tally) (file gain reach : ℕ) → IsTally table tally → file < table.files → holds tally.set file ≡ false
    → gain ≡ get_or tally.shares.gains.items file gain → reach ≡ get_or tally.shares.reaches.items file reach
    → AreMore table tally.set file tally.sums.migrated tally.sums.replicated gain reach
tally_more table tally file gain reach is lt out gains reaches =
    are_more table tally.set file tally.sums.migrated tally.sums.replicated gain reach is.lawful (omega (arith, lt, is.files)) out is.sums.migrated is.sums.replicated
    (share_read (λ c. length c.users) (holds tally.set) table tally.shares.gains.items file gain is.shares.gains lt gains)
    (share_read (λ c. 1) (holds tally.set) table tally.shares.reaches.items file reach is.shares.reaches lt reaches)

-- the classes of one file
pub uses_of_file : (table : TableValue) (uses : List (List ℕ)) (file : ℕ) (classes : List ℕ) → AreAllUses table uses → file < table.files → classes ≡ get_or uses file []
    → AreUses table file classes
uses_of_file table uses file classes all lt read = let P : List ℕ → Type 0 = λ t. AreUses table file t in subst P (sym read) (all.each file lt)

-- the tally of a set with a file flipped
pub tally_flipped : (table : TableValue) (old new : Tally) (file : ℕ) → IsTally table old → new.set ≡ flipped old.set file → AreSums table (flipped old.set file) new.sums → new.uses ≡ old.uses
    → AreKept (λ class. holds (flipped old.set file)) table (length table.classes) new.shares → IsTally table new
tally_flipped table old new file was is sums uses kept = record {
  lawful = was.lawful;
  files = ap length is ∙ (length-set old.set file (not (holds old.set file)) ∙ was.files);
  sums = let P : List Bool → Type 0 = λ f. AreSums table f new.sums in subst P (sym is) sums;
  uses = let P : List (List ℕ) → Type 0 = λ u. AreAllUses table u in subst P (sym uses) was.uses;
  shares = let P : List Bool → Type 0 = λ f. AreKept (λ class. holds f) table (length table.classes) new.shares in subst P (sym is) kept;
}
