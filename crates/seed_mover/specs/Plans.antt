-- Plans in memory: what is left of the logs and of what is held behind a list of appends.
use Rattle.std.specs.Prelude.{◌≡◌, ◌⊎◌, ℕ, List, [], ◌∷◌, length, Option, Some}
use Rattle.std.specs.Option.{option_and_then}
use Rattle.site_forms.specs.JournalRecords.{journal_body}
use Rattle.site_forms.specs.VolumeRecords.{volume_body}
use Rattle.chunk_log.specs.Appending.{after_append, IsFull}
use Rattle.chunk_log.specs.LogValues.{LogValue}
use Rattle.site_core.specs.Events.{Append, Shapes, happens_to}
use Rattle.site_core.specs.Events.Append.{ToA, ToB, ToJournal}
use Rattle.site_runs.specs.SiteValues.{SiteValue}

-- the logs of the three places
pub record Logs : Type 0 where
  pub a : LogValue
  pub b : LogValue
  pub journal : LogValue

abbrev pub logs_in : SiteValue → Logs
logs_in v = record { a = v.a.log; b = v.b.log; journal = v.journal.log }

-- the body that an append adds
abbrev pub body_of : Append → List ℕ
body_of (ToA r) = volume_body r
body_of (ToB r) = volume_body r
body_of (ToJournal r) = journal_body r

-- the log that it goes to
abbrev pub log_for : Logs → Append → LogValue
log_for l (ToA r) = l.a
log_for l (ToB r) = l.b
log_for l (ToJournal r) = l.journal

-- the logs with it
abbrev pub logs_with : Logs → Append → Logs
logs_with l (ToA r) = record { a = after_append l.a (length (volume_body r)); b = l.b; journal = l.journal }
logs_with l (ToB r) = record { a = l.a; b = after_append l.b (length (volume_body r)); journal = l.journal }
logs_with l (ToJournal r) = record { a = l.a; b = l.b; journal = after_append l.journal (length (journal_body r)) }

abbrev pub logs_after : Logs → List Append → Logs
logs_after l [] = l
logs_after l (x ∷ plan) = logs_after (logs_with l x) plan

-- what is held in memory behind a plan; none where a record does not fold
abbrev pub shapes_after : Shapes → List Append → Option Shapes
shapes_after t [] = Some t
shapes_after t (x ∷ plan) = option_and_then (λ u. shapes_after u plan) (happens_to t x)

-- the device of its log is too full for an append
abbrev pub IsTooFullFor : Logs → Append → Type 0
IsTooFullFor l x = IsFull (log_for l x) (length (body_of x))

-- all appends of a plan have room, one behind the other
abbrev pub AllFit : Logs → List Append → Type 0
AllFit l [] = Unit {0}
AllFit l (x ∷ plan) = (¬ IsTooFullFor l x) × AllFit (logs_with l x) plan

-- a device is too full for an append, at the end where it would stand
pub record IsFullAt (l : Logs) (x : Append) (device at len : ℕ) : Type 0 where
  pub full : IsTooFullFor l x
  pub device_is : device ≡ (log_for l x).device
  pub at_is : at ≡ (log_for l x).end
  pub len_is : len ≡ length (body_of x)

-- the first append of a plan without room
abbrev pub IsFirstFull : Logs → List Append → ℕ → ℕ → ℕ → Type 0
IsFirstFull l [] device at len = ⊥
IsFirstFull l (x ∷ plan) device at len = IsFullAt l x device at len ⊎ ((¬ IsTooFullFor l x) × IsFirstFull (logs_with l x) plan device at len)
