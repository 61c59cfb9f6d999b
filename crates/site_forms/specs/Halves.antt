-- A place has two halves, the devices p and p + 3: which of them is in force, and what the place says.
use Rattle.std.specs.Prelude.{◌≡◌, ◌≢◌, ◌⊎◌, ℕ, ◌+◌, ◌<◌, ◌≤◌, ⊤, ◌==◌, ◌&&◌, nat_le, nat_lt, List, [], ◌∷◌, ◌++◌, length, take, drop, slice_index, Option, Some, None, if◌then◌else◌}
use Rattle.std.specs.Int.{w64, from_be_bytes, to_be_bytes}
use Rattle.site_forms.specs.Logs.{Parsed, parse, body_length}
use Rattle.site_forms.specs.Logs.Parsed.{Good, Bad}

-- one of the two devices of a place
pub data Half : Type 0 where
  First : Half
  Second : Half

-- the device of a half; the places are 0 for volume A, 1 for volume B and 2 for the journal
abbrev pub device : ℕ → Half → ℕ
device place First = place
device place Second = place + 3

-- a Half record: 20 hex, and a generation in eight bytes, the most significant first
abbrev pub half_record : ℕ → List ℕ
half_record generation = 32 ∷ to_be_bytes w64 generation

-- the generation of a Half record; 0 for any other body
abbrev pub half_number : List ℕ → ℕ
half_number body = if length body == 9 && slice_index body 0 == 32 then from_be_bytes w64 (drop 1 body) else 0

-- the generation of the first body, behind an open gate
abbrev pub first_number : List ℕ → ℕ
first_number rest = if body_length rest == 9 then half_number (take 9 (drop 4 rest)) else 0

-- the same of an image that is not blank
abbrev pub generation_from : List ℕ → Option ℕ
generation_from [] = None
generation_from (gate ∷ rest) = if gate == 1 then Some (first_number rest) else None

-- none for an image that is blank or whose first gate is not open
abbrev pub generation : List ℕ → Option ℕ
generation image = if nat_le (length image) 1 then None else generation_from image

-- the only half that has a generation, or the one with the greater; the first where both have none; none where both have
-- the same
abbrev pub stronger : Option ℕ → Option ℕ → Option Half
stronger None None = Some First
stronger None (Some h) = Some Second
stronger (Some g) None = Some First
stronger (Some g) (Some h) = if nat_lt g h then Some Second else (if nat_lt h g then Some First else None)

-- which half is in force
abbrev pub in_force : List ℕ → List ℕ → Option Half
in_force first second = stronger (generation first) (generation second)

-- without the Half record that a compaction began the half with
abbrev pub without_half : List (List ℕ) → List (List ℕ)
without_half [] = []
without_half (body ∷ bodies) = if nat_le 1 (half_number body) then bodies else body ∷ bodies

-- the records of one half
abbrev pub records_in : Parsed → Option (List (List ℕ))
records_in (Good bodies gate) = Some (without_half bodies)
records_in (Bad gate) = None

-- the records of the half in force
abbrev pub records_of : Option Half → List ℕ → List ℕ → Option (List (List ℕ))
records_of None first second = None
records_of (Some First) first second = records_in (parse first)
records_of (Some Second) first second = records_in (parse second)

-- the records of two halves
abbrev pub pair_records : List ℕ → List ℕ → Option (List (List ℕ))
pair_records first second = records_of (in_force first second) first second

-- what a place says, of an image for each device; none where a half in force is no log or no half is in force
abbrev pub records_at : (ℕ → List ℕ) → ℕ → Option (List (List ℕ))
records_at c place = pair_records (c place) (c (place + 3))

-- every place says the same
abbrev pub SameRecords : (ℕ → List ℕ) → (ℕ → List ℕ) → Type 0
SameRecords b c = (place : ℕ) → place ≤ 2 → records_at c place ≡ records_at b place

-- at the other places the same records, at this one the same or one more
pub record OneMoreAt (place : ℕ) (body : List ℕ) (b c : ℕ → List ℕ) : Type 0 where
  pub others : (other : ℕ) → other ≤ 2 → other ≢ place → records_at c other ≡ records_at b other
  pub records : List (List ℕ)
  pub before : records_at b place ≡ Some records
  pub here : (records_at c place ≡ Some records) ⊎ (records_at c place ≡ Some (records ++ body ∷ []))

-- no generation, or one below this
abbrev pub IsBelow : Option ℕ → Option ℕ → Type 0
IsBelow None g = ⊤
IsBelow (Some h) None = ⊥
IsBelow (Some h) (Some g) = h < g

-- blank, or the first gate is not open
abbrev pub IsClosed : List ℕ → Type 0
IsClosed image = (length image ≤ 1) ⊎ (slice_index image 0 ≢ 1)
