-- Writing a half anew, and what finishing it brings into force.
use Rattle.std.specs.Prelude.{◌≡◌, ◌≢◌, ◌⊎◌, ℕ, ◌+◌, ◌^◌, ◌<◌, ◌≤◌, false, true, List, [], ◌∷◌, ◌++◌, length, drop, All, Some, Result, Ok, Err, OnOk, IfOk, unwrap_or}
use Rattle.volume_disk.specs.Medium.{Medium, at_rest}
use Rattle.volume_disk.specs.Disk.{Disk, Images, Crash, SameElsewhere}
use Rattle.volume_disk.specs.Time.{Passes}
use Rattle.site_forms.specs.Logs.{blocks, log_size, IsBody}
use Rattle.site_forms.specs.Halves.{generation, half_record, records_at, SameRecords}
use Rattle.volume_disk.specs.declared.rack.RackError.{RackError}
use Rattle.volume_disk.specs.declared.rack.RackError.TheVariants.{Fault}
use Rattle.chunk_log.specs.declared.errors.AppendError.{AppendError}
use Rattle.chunk_log.specs.declared.errors.AppendError.TheVariants.{RackFault, DeviceFull, Spent}
use Rattle.chunk_log.specs.Appending.{after_append, after_fault, IsFull}
use Rattle.chunk_log.specs.LogValues.{LogValue}
use Rattle.chunk_log.specs.Retiring.{IsBeside}
use Rattle.chunk_log.specs.Shutting.{IsShut, IsGuarded, IsBlankAtRest, SameOrShut, closed_front}
use Rattle.chunk_log.specs.Standing.{LogStands}

-- the blocks of bodies behind a first gate that is closed
abbrev pub shut_blocks : List (List ℕ) → List ℕ
shut_blocks bodies = 0 ∷ drop 1 (blocks bodies)

-- a half to which these bodies were written, and whose first gate no crash opens
pub record IsWriting (writer : LogValue) (bodies : List (List ℕ)) (m : Medium) : Type 0 where
  pub image : m.image ≡ shut_blocks bodies
  pub shut : IsShut m
  pub guarded : IsGuarded m
  pub ends : writer.end ≡ log_size bodies
  pub lawful : All IsBody bodies
  pub fresh : writer.spent ≡ false

-- what a writer is after a body of n bytes: each refusal has its cause, in this order, and leaves the writer as it was
abbrev pub Adds : LogValue → LogValue → ℕ → Result (Unit {0}) AppendError → Type 0
Adds old new n (Ok done) = (old.spent ≡ false) × (old.end + n + 6 ≤ old.limit) × (new ≡ after_append old n)
Adds old new n (Err Spent) = (old.spent ≡ true) × (new ≡ old)
Adds old new n (Err (DeviceFull device at len)) = (old.spent ≡ false) × IsFull old n × (device ≡ old.device) × (at ≡ old.end) × (len ≡ n) × (new ≡ old)
Adds old new n (Err RackFault) = (old.spent ≡ false) × (old.end + n + 6 ≤ old.limit) × (new ≡ after_fault old)

-- what is kept of a body of n bytes, from what the rack answered
abbrev pub NotedBody : LogValue → LogValue → ℕ → Result (Unit {0}) RackError → Result (Unit {0}) AppendError → Type 0
NotedBody old new n (Ok done) result = (result ≡ Ok tt) × (new ≡ after_append old n)
NotedBody old new n (Err Fault) result = (result ≡ Err RackFault) × (new ≡ after_fault old)

-- a rack is left alone by a refusal that is no fault
abbrev pub LeavesAlone : {D : Type 0} → D → D → Result (Unit {0}) AppendError → Type 0
LeavesAlone old new (Ok done) = Unit {0}
LeavesAlone old new (Err Spent) = new ≡ old
LeavesAlone old new (Err (DeviceFull device at len)) = new ≡ old
LeavesAlone old new (Err RackFault) = Unit {0}

module _ {D : Type 0} (moment : D → ℕ) (left_since : D → ℕ → Images → Type 0) (old new : D) (d e : Disk) where
  -- a crash at any moment leaves the same records at every place
  abbrev pub KeepsRecords : Type 0
  KeepsRecords = Passes moment left_since old new (λ c. (b : Images) × Crash d b × SameRecords b c)

  -- a block is written at the end of a half, whose first gate stays closed
  pub record PutsBlock {E : Type 0} (device end : ℕ) (body : List ℕ) (result : Result (Unit {0}) E) : Type 0 where
    pub others : SameElsewhere device d e
    pub more : (bodies : List (List ℕ)) → (d device).image ≡ shut_blocks bodies → end ≡ log_size bodies → OnOk result ((e device).image ≡ shut_blocks (bodies ++ body ∷ []))
    pub shut : IsShut (d device) → IsShut (e device)
    pub moments : IsShut (d device) → Passes moment left_since old new (λ c. (b : Images) × Crash d b × SameOrShut device b c)

  -- a half is begun beside the one in force: no other device changes; once done the log stands as it did, and no body is
  -- written yet; and a crash at any moment leaves the same records at every place
  pub record BeginsHalf {E : Type 0} (device : ℕ) (result : Result LogValue E) : Type 0 where
    pub others : SameElsewhere device d e
    pub kept : (place : ℕ) (records : List (List ℕ)) (log : LogValue) → IsBeside device log.device → LogStands place records log d → OnOk result (LogStands place records log e)
    pub begun : (place : ℕ) (records : List (List ℕ)) (log : LogValue) → IsBeside device log.device → LogStands place records log d → IfOk result (λ writer. IsWriting writer [] (e device))
    pub moments : (place : ℕ) (records : List (List ℕ)) (log : LogValue) → IsBeside device log.device → LogStands place records log d → KeepsRecords

  -- a body is written behind the others: the same
  pub record AddsBody {E : Type 0} (writer after : LogValue) (body : List ℕ) (result : Result (Unit {0}) E) : Type 0 where
    pub others : SameElsewhere writer.device d e
    pub kept : (place : ℕ) (records bodies : List (List ℕ)) (log : LogValue) → IsBeside writer.device log.device → LogStands place records log d → IsWriting writer bodies (d writer.device)
        → OnOk result (LogStands place records log e)
    pub more : (place : ℕ) (records bodies : List (List ℕ)) (log : LogValue) → IsBeside writer.device log.device → LogStands place records log d → IsWriting writer bodies (d writer.device)
        → OnOk result (IsWriting after (bodies ++ body ∷ []) (e writer.device))
    pub moments : (place : ℕ) (records bodies : List (List ℕ)) (log : LogValue) → IsBeside writer.device log.device → LogStands place records log d → IsWriting writer bodies (d writer.device) → KeepsRecords

-- the records of a place are the same, or these; those of the others are the same
pub record IsSameOrNew (place : ℕ) (records : List (List ℕ)) (b c : Images) : Type 0 where
  pub others : (other : ℕ) → other ≤ 2 → other ≢ place → records_at c other ≡ records_at b other
  pub here : (records_at c place ≡ records_at b place) ⊎ (records_at c place ≡ Some records)

-- a half with this generation, written beside the one in force, is stronger
pub record IsStronger (number : ℕ) (log : LogValue) (d : Disk) : Type 0 where
  pub fits : number < 2 ^ 64
  pub above : unwrap_or (generation (d log.device).image) 0 < number

-- a half is finished beside the one in force, whose generation is lower: no other device changes; once done the device
-- is at rest with the blocks that were written and a closed gate, and the new log stands for the place with their records; and a crash at any moment leaves at this place the same
-- records, or all of those: the same at every place until the first gate is written, behind a sync of all the rest
pub record FinishesHalf {D E : Type 0} (disk : D → Disk) (moment : D → ℕ) (left_since : D → ℕ → Images → Type 0) (old new : D) (d e : Disk) (writer : LogValue) (result : Result LogValue E) : Type 0 where
  pub others : SameElsewhere writer.device d e
  pub image : (bodies : List (List ℕ)) → IsWriting writer bodies (d writer.device) → OnOk result (e writer.device ≡ at_rest (blocks bodies ++ 0 ∷ []))
  pub stands : (place number : ℕ) (records live : List (List ℕ)) (log : LogValue) → IsBeside writer.device log.device → LogStands place records log d
      → IsWriting writer (half_record number ∷ live) (d writer.device) → IsStronger number log d → IfOk result (λ after. LogStands place live after e)
  pub moments : (place number : ℕ) (records live : List (List ℕ)) (log : LogValue) → IsBeside writer.device log.device → LogStands place records log d
      → IsWriting writer (half_record number ∷ live) (d writer.device) → IsStronger number log d → Passes moment left_since old new (λ c. (b : Images) × Crash d b × IsSameOrNew place live b c)
  pub until : (place number : ℕ) (records live : List (List ℕ)) (log : LogValue) → IsBeside writer.device log.device → LogStands place records log d
      → IsWriting writer (half_record number ∷ live) (d writer.device)
      → (OnOk result ⊥ × Passes moment left_since old new (λ c. (b : Images) × Crash d b × SameRecords b c))
      ⊎ ((ending : D) × (disk ending writer.device ≡ at_rest (shut_blocks (half_record number ∷ live) ++ 0 ∷ [])) × Passes moment left_since old ending (λ c. (b : Images) × Crash d b × SameRecords b c))

-- a half is finished beside the one in force on the old device, whose generation is lower, and that one is retired: no
-- device of another place changes; once done the new log stands for the place with the records that were written, the
-- device is at rest with their blocks and a closed gate, and the old one is blank, with its first byte alone, a closed gate
-- where an open one was there; and a crash at any moment leaves at this place the same records, or all of those, and at
-- the others the same
pub record SwitchesHalves {D E : Type 0} (moment : D → ℕ) (left_since : D → ℕ → Images → Type 0) (before after : D) (d e : Disk) (writer : LogValue) (old : ℕ) (result : Result LogValue E) : Type 0 where
  pub others : (other : ℕ) → other ≢ writer.device → other ≢ old → e other ≡ d other
  pub image : (bodies : List (List ℕ)) → IsBeside writer.device old → IsWriting writer bodies (d writer.device) → OnOk result (e writer.device ≡ at_rest (blocks bodies ++ 0 ∷ []))
  pub stands : (place number : ℕ) (records live : List (List ℕ)) (log : LogValue) → IsBeside writer.device log.device → old ≡ log.device → LogStands place records log d
      → IsWriting writer (half_record number ∷ live) (d writer.device) → IsStronger number log d → IfOk result (λ now. LogStands place live now e)
  pub retired : IsBeside writer.device old → 2 ≤ length (d old).image → OnOk result (e old ≡ at_rest (closed_front (d old).image))
  pub blank : (place number : ℕ) (records live : List (List ℕ)) (log : LogValue) → IsBeside writer.device log.device → old ≡ log.device → LogStands place records log d
      → IsWriting writer (half_record number ∷ live) (d writer.device) → IsStronger number log d → OnOk result (IsBlankAtRest (e old))
  pub moments : (place number : ℕ) (records live : List (List ℕ)) (log : LogValue) → IsBeside writer.device log.device → old ≡ log.device → LogStands place records log d
      → IsWriting writer (half_record number ∷ live) (d writer.device) → IsStronger number log d → Passes moment left_since before after (λ c. (b : Images) × Crash d b × IsSameOrNew place live b c)
