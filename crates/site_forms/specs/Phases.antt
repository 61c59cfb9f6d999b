-- Phases: the fold of the journal's records.
use Rattle.std.specs.Prelude.{ℕ, List, [], Option, Some, None, if◌then◌else◌}
use Rattle.std.specs.Option.{option_and_then}
use Rattle.site_forms.specs.declared.phase.Phase.{Phase}
use Rattle.site_forms.specs.declared.phase.Phase.TheVariants.{Idle, Moving, Moved, Undoing}
use Rattle.site_forms.specs.Names.{is_name_list}
use Rattle.site_forms.specs.JournalRecords.{JournalRecord, journal_record}
use Rattle.site_forms.specs.JournalRecords.JournalRecord.{BeginRecord, MovedRecord, UndoBeginRecord, UndoneRecord, AcceptedRecord}
use Rattle.site_forms.specs.Volumes.{fold_from}

-- one record; none where it does not fold
abbrev pub phase_after : Phase → JournalRecord → Option Phase
phase_after Idle (BeginRecord names) = if is_name_list names then Some (Moving names) else None
phase_after (Moving names) MovedRecord = Some (Moved names)
phase_after (Moving names) UndoBeginRecord = Some (Undoing names)
phase_after (Moved names) UndoBeginRecord = Some (Undoing names)
phase_after (Moved names) AcceptedRecord = Some Idle
phase_after (Undoing names) UndoneRecord = Some Idle
phase_after _ _ = None

-- one body
abbrev pub phase_step : Phase → List ℕ → Option Phase
phase_step phase body = option_and_then (λ r. phase_after phase r) (journal_record body)

-- the phase of records; none where some record does not fold
abbrev pub phase_of : List (List ℕ) → Option Phase
phase_of bodies = fold_from phase_step Idle bodies

-- the names that a phase keeps
abbrev pub names_of : Phase → List (List ℕ)
names_of Idle = []
names_of (Moving names) = names
names_of (Moved names) = names
names_of (Undoing names) = names
