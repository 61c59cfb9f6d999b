-- Runs of appends to the logs of the three places.
use Rattle.std.specs.Prelude.{◌≡◌, ℕ, ◌≤◌, ◌==◌, List, [], ◌∷◌, ◌++◌, length, take, Some, if◌then◌else◌}
use Rattle.volume_disk.specs.Disk.{Disk, Images}
use Rattle.site_forms.specs.Halves.{records_at}
use Rattle.chunk_log.specs.LogValues.{LogValue}
use Rattle.chunk_log.specs.Standing.{LogStands}

-- the records of each place once a body is appended at one
abbrev pub added : ℕ → List ℕ → (ℕ → List (List ℕ)) → ℕ → List (List ℕ)
added place body records p = if p == place then records p ++ body ∷ [] else records p

-- the records of each place after all appends of a plan, each a place and a body
abbrev pub after_all : List (ℕ × List ℕ) → (ℕ → List (List ℕ)) → ℕ → List (List ℕ)
after_all [] records = records
after_all (next ∷ plan) records = after_all plan (added next.0 next.1 records)

-- the log of each place, with another one at a place
abbrev pub with_log : ℕ → LogValue → (ℕ → LogValue) → ℕ → LogValue
with_log place log logs p = if p == place then log else logs p

-- six images with these records
abbrev pub Holds : (ℕ → List (List ℕ)) → Images → Type 0
Holds records c = (place : ℕ) → place ≤ 2 → records_at c place ≡ Some (records place)

-- the records after some number of the appends, in order
abbrev pub HoldsPart : List (ℕ × List ℕ) → (ℕ → List (List ℕ)) → Images → Type 0
HoldsPart plan records c = (k : ℕ) × (k ≤ length plan) × Holds (after_all (take k plan) records) c

-- a log stands for each of the three places
abbrev pub AllStand : (ℕ → LogValue) → (ℕ → List (List ℕ)) → Disk → Type 0
AllStand logs records d = (place : ℕ) → place ≤ 2 → LogStands place (records place) (logs place) d
