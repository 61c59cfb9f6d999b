-- What an append does.
use Rattle.std.specs.Prelude.{◌≡◌, ℕ, ◌+◌, ◌<◌, ◌≤◌, true, false, List, [], ◌∷◌, ◌++◌, Result, OnOk, Ok, Err}
use Rattle.volume_disk.specs.Medium.{at_rest}
use Rattle.volume_disk.specs.Disk.{Disk, Images, Crash, SameElsewhere}
use Rattle.volume_disk.specs.Time.{Passes}
use Rattle.site_forms.specs.Halves.{OneMoreAt, SameRecords, half_number}
use Rattle.volume_disk.specs.declared.rack.RackError.{RackError}
use Rattle.volume_disk.specs.declared.rack.RackError.TheVariants.{Fault}
use Rattle.chunk_log.specs.declared.errors.AppendError.{AppendError}
use Rattle.chunk_log.specs.declared.errors.AppendError.TheVariants.{RackFault, DeviceFull, Spent}
use Rattle.chunk_log.specs.Bodies.{with_block, UntilGate}
use Rattle.chunk_log.specs.LogValues.{LogValue}
use Rattle.chunk_log.specs.Standing.{LogStands}

-- a log once a body of n bytes is added, and once an append has failed
abbrev pub after_append : LogValue → ℕ → LogValue
after_append log n = record { device = log.device; limit = log.limit; end = log.end + 5 + n; spent = log.spent }

abbrev pub after_fault : LogValue → LogValue
after_fault log = record { device = log.device; limit = log.limit; end = log.end; spent = true }

-- a body of n bytes does not fit
abbrev pub IsFull : LogValue → ℕ → Type 0
IsFull log n = log.limit < log.end + n + 6

-- what a log is after an append of n bytes: on Ok the place of the body is answered; each refusal has its cause, in this
-- order, and leaves the log as it was
abbrev pub Appends : LogValue → LogValue → ℕ → Result ℕ AppendError → Type 0
Appends old new n (Ok at) = (old.spent ≡ false) × (old.end + n + 6 ≤ old.limit) × (at ≡ old.end + 5) × (new ≡ after_append old n)
Appends old new n (Err Spent) = (old.spent ≡ true) × (new ≡ old)
Appends old new n (Err (DeviceFull device at len)) = (old.spent ≡ false) × IsFull old n × (device ≡ old.device) × (at ≡ old.end) × (len ≡ n) × (new ≡ old)
Appends old new n (Err RackFault) = (old.spent ≡ false) × (old.end + n + 6 ≤ old.limit) × (new ≡ after_fault old)

-- what an append does to the disk, for a log that stands for a place, and a body that is no Half record: no other device
-- changes; once done the device is at rest with the block of the body, and the log stands with one record more; a crash at
-- any moment leaves at this place the same records or one more, and the same at the others; and until the gate is written
-- the same records at every place
pub record Appended {D E : Type 0} (disk : D → Disk) (moment : D → ℕ) (left_since : D → ℕ → Images → Type 0) (old new : D) (d e : Disk) (log after : LogValue) (body : List ℕ) (result : Result ℕ E) : Type 0 where
  pub others : SameElsewhere log.device d e
  pub image : (image : List ℕ) → d log.device ≡ at_rest image → OnOk result (e log.device ≡ at_rest (with_block image log.end body))
  pub kept : (place : ℕ) (records : List (List ℕ)) → half_number body ≡ 0 → LogStands place records log d → OnOk result (LogStands place (records ++ body ∷ []) after e)
  pub moments : (place : ℕ) (records : List (List ℕ)) → half_number body ≡ 0 → LogStands place records log d
      → Passes moment left_since old new (λ c. (b : Images) × Crash d b × OneMoreAt place body b c)
  pub until : (place : ℕ) (records : List (List ℕ)) → LogStands place records log d
      → UntilGate disk moment left_since old new d log.device log.end body (λ c. (b : Images) × Crash d b × SameRecords b c) result

-- what is kept of an append of n bytes, from what the rack answered
abbrev pub Noted : LogValue → LogValue → ℕ → Result (Unit {0}) RackError → Result ℕ AppendError → Type 0
Noted old new n (Ok done) result = (result ≡ Ok (old.end + 5)) × (new ≡ after_append old n)
Noted old new n (Err Fault) result = (result ≡ Err RackFault) × (new ≡ after_fault old)

-- a rack is left alone by a refusal that is no fault
abbrev pub IsUntouched : {D : Type 0} → D → D → Result ℕ AppendError → Type 0
IsUntouched old new (Ok at) = Unit {0}
IsUntouched old new (Err Spent) = new ≡ old
IsUntouched old new (Err (DeviceFull device at len)) = new ≡ old
IsUntouched old new (Err RackFault) = Unit {0}
