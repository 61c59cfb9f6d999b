-- Records on their way to a volume or to the journal.
use Rattle.std.specs.Prelude.{◌≡◌, Bool, false, Result, Ok, Err}
use Rattle.std.specs.String.{string_bytes}
use Rattle.site_forms.specs.JournalRecords.{JournalRecord}
use Rattle.site_forms.specs.JournalRecords.JournalRecord.{MovedRecord, UndoBeginRecord, UndoneRecord, AcceptedRecord}
use Rattle.site_forms.specs.VolumeRecords.{VolumeRecord}
use Rattle.site_forms.specs.VolumeRecords.VolumeRecord.{ChunkRecord, FileRecord, DropFileRecord, DropChunkRecord}
use Rattle.chunk_volume.specs.declared.errors.VolError.{VolError}
use Rattle.move_journal.specs.declared.errors.JournalError.{JournalError}
use Rattle.chunk_volume.specs.VolumeValues.{VolumeValue}
use Rattle.site_core.specs.Events.{Append}
use Rattle.site_core.specs.Events.Append.{ToA, ToB}
use Rattle.site_runs.specs.SiteValues.{SiteValue}
use Rattle.seed_mover.specs.declared.entries.Entry.{Entry}
use Rattle.seed_mover.specs.declared.entries.Entry.TheVariants.{Chunk, File, DropFile, DropChunk}
use Rattle.seed_mover.specs.declared.entries.Mark.{Mark}
use Rattle.seed_mover.specs.declared.entries.Mark.TheVariants.{Moved, UndoBegin, Undone, Accepted}
use Rattle.seed_mover.specs.declared.entries.Side.{Side}
use Rattle.seed_mover.specs.declared.entries.Side.TheVariants.{A, B}
use Rattle.seed_mover.specs.declared.errors.SiteError.{SiteError}
use Rattle.seed_mover.specs.Errors.{of_volume, of_journal, is_rack_fault}

abbrev pub record_of : Entry → VolumeRecord
record_of (Chunk name bytes) = ChunkRecord name.now bytes.now
record_of (File name chunks) = FileRecord (string_bytes name) chunks.items
record_of (DropFile name) = DropFileRecord name.now
record_of (DropChunk name) = DropChunkRecord name.now

abbrev pub record_of_mark : Mark → JournalRecord
record_of_mark Moved = MovedRecord
record_of_mark UndoBegin = UndoBeginRecord
record_of_mark Undone = UndoneRecord
record_of_mark Accepted = AcceptedRecord

-- a record for one of the volumes
abbrev pub append_to : Side → VolumeRecord → Append
append_to A r = ToA r
append_to B r = ToB r

-- one of the volumes
abbrev pub on_side : Side → SiteValue → VolumeValue
on_side A v = v.a
on_side B v = v.b

-- what is answered, and whether the site is spent, from what a volume answered
abbrev pub NotesVolume : Bool → Result (Unit {0}) VolError → Result (Unit {0}) SiteError → Type 0
NotesVolume spent (Ok done) result = (result ≡ Ok tt) × (spent ≡ false)
NotesVolume spent (Err error) result = (result ≡ Err (of_volume error)) × (spent ≡ is_rack_fault (of_volume error))

abbrev pub NotesJournal : Bool → Result (Unit {0}) JournalError → Result (Unit {0}) SiteError → Type 0
NotesJournal spent (Ok done) result = (result ≡ Ok tt) × (spent ≡ false)
NotesJournal spent (Err error) result = (result ≡ Err (of_journal error)) × (spent ≡ is_rack_fault (of_journal error))

-- whether a chunk was added, left out
abbrev pub without_value : Result Bool VolError → Result (Unit {0}) VolError
without_value (Ok added) = Ok tt
without_value (Err error) = Err error
