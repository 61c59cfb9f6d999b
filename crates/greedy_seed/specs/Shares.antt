-- Shares: what moving one file changes of a set's sums, class by class.
use Rattle.std.specs.Prelude.{◌≡◌, ℕ, ◌+◌, ◌*◌, ◌<◌, ◌≤◌, ◌==◌, List, [], Bool, All, length, sum_by, count_by, slice_index, slice_index_or, if◌then◌else◌}
use Rattle.seed_model.specs.declared.limits.TheConstants.{MOST_BYTES}
use Rattle.seed_model.specs.declared.table.Class.{Class}
use Rattle.seed_model.specs.Keys.{class_at, sum_below}
use Rattle.seed_model.specs.Tables.{TableValue, IsTable}
use Rattle.greedy_seed.specs.declared.sharing.Shares.{Shares}

-- how often a number stands in a list
abbrev pub times : ℕ → List ℕ → ℕ
times number numbers = count_by (λ n. n == number) numbers

-- the size of a class, where as many of its users as the whole are in the set once one user is
abbrev pub share : ℕ → ℕ → Bool → ℕ → ℕ
share whole count inside size = if count + (if inside then 0 else 1) == whole then size else 0

-- that of a file at a class; a file that does not use the class has no share
abbrev pub share_of : ℕ → (ℕ → Bool) → Class → ℕ → ℕ
share_of whole set class file = times file class.users * share whole (count_by set class.users) (set file) class.size

-- what a set migrates more with a file than without it: the classes of which the file alone is missing, or would be
abbrev pub gained : (ℕ → Bool) → List Class → ℕ → ℕ
gained set classes file = sum_by (λ (c : Class). share_of (length c.users) set c file) classes

-- what it touches more: the classes of which the file alone is in the set, or would be
abbrev pub reached : (ℕ → Bool) → List Class → ℕ → ℕ
reached set classes file = sum_by (λ (c : Class). share_of 1 set c file) classes

-- a class of a lawful table, beside a set of so many files
pub record HasClass (table : TableValue) (class set_files : ℕ) : Type 0 where
  pub lawful : IsTable table
  pub within : class < length table.classes
  pub files : set_files ≡ table.files

-- values of files that hold what is to be taken from them, and are small
pub record HaveRoom (files : ℕ) (less : ℕ → ℕ) (values : List ℕ) : Type 0 where
  pub long : length values ≡ files
  pub small : All (λ bytes. bytes ≤ MOST_BYTES) values
  pub room : (file : ℕ) → file < files → less file ≤ slice_index values file

-- values of files once something is taken from each and something else is added
pub record AreChanged (less more : ℕ → ℕ) (before after : List ℕ) : Type 0 where
  pub long : length after ≡ length before
  pub each : (file : ℕ) → file < length before → slice_index after file + less file ≡ slice_index before file + more file

-- the shares of each file at the first classes, where each class sees a set of its own
pub record AreShares (whole : Class → ℕ) (sets : ℕ → ℕ → Bool) (table : TableValue) (classes : ℕ) (shares : List ℕ) : Type 0 where
  pub long : length shares ≡ table.files
  pub each : (file : ℕ) → file < table.files
      → slice_index shares file ≡ sum_below (λ k. share_of (whole (class_at table.classes k)) (sets k) (class_at table.classes k) file) classes

-- how many users each of the first classes has in the set that it sees
pub record AreCounts (sets : ℕ → ℕ → Bool) (table : TableValue) (classes : ℕ) (counts : List ℕ) : Type 0 where
  pub long : length counts ≡ classes
  pub each : (class : ℕ) → class < classes → slice_index counts class ≡ count_by (sets class) (class_at table.classes class).users

-- all of these
pub record AreKept (sets : ℕ → ℕ → Bool) (table : TableValue) (classes : ℕ) (shares : Shares) : Type 0 where
  pub counts : AreCounts sets table classes shares.counts.items
  pub gains : AreShares (λ class. length class.users) sets table classes shares.gains.items
  pub reaches : AreShares (λ class. 1) sets table classes shares.reaches.items

-- the classes that a file uses, each once
pub record AreUses (table : TableValue) (file : ℕ) (classes : List ℕ) : Type 0 where
  pub below : All (λ class. class < length table.classes) classes
  pub each : (class : ℕ) → class < length table.classes → times class classes ≡ times file (class_at table.classes class).users

-- those of each file
pub record AreAllUses (table : TableValue) (uses : List (List ℕ)) : Type 0 where
  pub long : length uses ≡ table.files
  pub each : (file : ℕ) → file < table.files → AreUses table file (slice_index_or uses file [])
