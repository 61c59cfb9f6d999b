-- What is judged of volumes and a phase that fit.
use Rattle.std.specs.Prelude.{◌≡◌, ℕ, ◌<◌, Bool, true, false, List, [], take, slice_index_or, Option, None, if◌then◌else◌}
use Rattle.std.specs.FinMap as map
use Rattle.site_forms.specs.Names.{is_listed}
use Rattle.site_forms.specs.Sites.{HoldsChunk, HoldsFile}
use Rattle.site_forms.specs.Views.{joined_files}
use Rattle.site_forms.specs.Volumes.{Files, Shape, keeps_limits, used, with_file}

-- whether files keep the limits of a recipe by their numbers
abbrev pub counts_keep : Files → Bool
counts_keep files = keeps_limits (λ chunk. 1) files

-- all chunks of a volume are chunks of another
abbrev pub HoldsChunksOf : Shape → Shape → Type 0
HoldsChunksOf volume other = (chunk : List ℕ) → HoldsChunk other chunk → HoldsChunk volume chunk

-- all chunks that the files of a volume use are chunks of another
abbrev pub HoldsUsed : Shape → Shape → Type 0
HoldsUsed volume other = (chunk : List ℕ) → map.contains_key (used other.files) chunk ≡ true → HoldsChunk volume chunk

-- a file is added, or the files with it pass the limits
abbrev pub AddsCopy : Shape → List ℕ → List (List ℕ) → Shape → Bool → Type 0
AddsCopy old name list new true = new ≡ with_file old name list
AddsCopy old name list new false = counts_keep (map.insert old.files name list) ≡ false

-- the list of a name, with the first so many files of others
abbrev pub list_upto : Files → Files → ℕ → List ℕ → Option (List (List ℕ))
list_upto files others count name = if map.contains_key files name then map.get files name else (if is_listed (take count (map.keys others)) name then map.get others name else None)

-- an index holds its old files and the first so many of others
pub record HasUpto (old other : Shape) (count : ℕ) (new : Shape) : Type 0 where
  pub files : (name : List ℕ) → map.get new.files name ≡ list_upto old.files other.files count name
  pub chunks : HoldsChunksOf new old

-- the files of a volume are added that are lacking, or the files with them pass the limits
abbrev pub AddsFiles : Shape → Shape → Shape → Bool → Type 0
AddsFiles old other new true = (new.files ≡ joined_files old.files other.files) × HoldsChunksOf new old
AddsFiles old other new false = counts_keep (joined_files old.files other.files) ≡ false

-- an index holds the first so many named files of another
pub record HasNamed (whole : Shape) (names : List (List ℕ)) (count : ℕ) (new : Shape) : Type 0 where
  pub files : (name : List ℕ) → map.get new.files name ≡ (if is_listed (take count names) name then map.get whole.files name else None)
  pub chunks : HoldsUsed new whole
  pub held : (i : ℕ) → i < count → HoldsFile whole (slice_index_or names i [])

-- the named files of another are added, or one of the names is lacking there
abbrev pub AddsNamed : Shape → List (List ℕ) → Shape → Bool → Type 0
AddsNamed whole names new true = ((name : List ℕ) → map.get new.files name ≡ (if is_listed names name then map.get whole.files name else None)) × ((name : List ℕ) → is_listed names name ≡ true → HoldsFile whole name)
AddsNamed whole names new false = ((name : List ℕ) → is_listed names name ≡ true → HoldsFile whole name) → ⊥

-- the files of both volumes are put together, or they pass the limits
abbrev pub Merges : Shape → Shape → Shape → Bool → Type 0
Merges a b new true = new.files ≡ joined_files a.files b.files
Merges a b new false = counts_keep (joined_files a.files b.files) ≡ false
