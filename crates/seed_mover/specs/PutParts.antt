-- The parts of putting a file.
use Rattle.std.specs.Prelude.{◌≡◌, ◌≢◌, ℕ, ◌+◌, ◌*◌, ◌^◌, ◌<◌, ◌≤◌, ⊤, Bool, true, false, List, length, map as each, All, Result, Ok, Err}
use Rattle.sha2.specs.Sha256.{sha256}
use Rattle.volume_disk.specs.Disk.{Disk, Images}
use Rattle.device_pieces.specs.Quiet.{Quiet}
use Rattle.site_forms.specs.Sites.{HoldsChunk}
use Rattle.site_forms.specs.Views.{State}
use Rattle.site_forms.specs.VolumeRecords.{VolumeRecord}
use Rattle.site_forms.specs.VolumeRecords.VolumeRecord.{ChunkRecord}
use Rattle.site_forms.specs.Volumes.{Shape, Volume}
use Rattle.chunk_log.specs.LogValues.{LogValue}
use Rattle.chunk_volume.specs.declared.errors.VolError.{VolError}
use Rattle.chunk_volume.specs.declared.errors.VolError.TheVariants as vol
use Rattle.chunk_volume.specs.Adding.{IsSame as IsSameVolume}
use Rattle.chunk_volume.specs.ReadingVolumes.{HasBytes, IsBadChunk}
use Rattle.chunk_volume.specs.VolumeValues.{VolumeValue}
use Rattle.site_core.specs.Events.{Append}
use Rattle.site_core.specs.Events.Append.{ToA}
use Rattle.seed_mover.specs.declared.errors.SiteError.{SiteError}
use Rattle.seed_mover.specs.declared.errors.SiteError.TheVariants.{RackFault, Spent, Memory, Exists, NoSuchFile, MigrationOpen, TargetNotEmpty, NothingOpen, NotMoved, Collision, Damage, BadChunk, DeviceFull, VolumeFull}
use Rattle.seed_mover.specs.Errors.{is_rack_fault}
use Rattle.seed_mover.specs.Plans.{AllFit, IsFirstFull, Logs, logs_in}
use Rattle.seed_mover.specs.Putting.{AreKept, FindsBlocks, HasBlock, IsCutAt, IsFirstOther, IsPast, IsWithin, new_chunks, put_plan, put_records}
use Rattle.seed_mover.specs.Running.{IsAfter, IsSameSite}
use Rattle.site_runs.specs.SiteValues.{SiteStands, SiteValue, shapes_in}

-- the append of a block's chunk, and the chunks of a plan
abbrev pub chunk_append : List ℕ → Append
chunk_append block = ToA (ChunkRecord (sha256 block) block)

abbrev pub chunk_plan : Shape → List (List ℕ) → List Append
chunk_plan a blocks = each ToA (new_chunks a blocks)

-- there is room in memory for the chunks of blocks, and for a file of them
pub record HasRoomForChunks (v : VolumeValue) (blocks : List (List ℕ)) : Type 0 where
  pub chunks : length (new_chunks v.shape blocks) ≤ v.room.chunks
  pub bodies : All (λ block. 33 + length block ≤ v.room.body) blocks

pub record HasRoomToPut (v : VolumeValue) (name : List ℕ) (blocks : List (List ℕ)) : Type 0 where
  pub chunks : HasRoomForChunks v blocks
  pub files : 1 ≤ v.room.files
  pub body : 2 + length name + 32 * length blocks ≤ v.room.body

-- ONE BLOCK

-- two chunks of one name have the same bytes, or else it is a collision
abbrev pub SameBytes : List ℕ → List ℕ → List ℕ → Result (Unit {0}) VolError → Type 0
SameBytes name kept own (Ok done) = own ≡ kept
SameBytes name kept own (Err (vol.Collision chunk)) = (chunk ≡ name) × (own ≢ kept)
SameBytes name kept own (Err vol.RackFault) = ⊥
SameBytes name kept own (Err (vol.Damage device at)) = ⊥
SameBytes name kept own (Err (vol.BadChunk chunk found)) = ⊥
SameBytes name kept own (Err vol.Exists) = ⊥
SameBytes name kept own (Err vol.NoSuchFile) = ⊥
SameBytes name kept own (Err (vol.DeviceFull device at len)) = ⊥
SameBytes name kept own (Err vol.Spent) = ⊥
SameBytes name kept own (Err vol.Memory) = ⊥

-- what is answered where chunks of such names are compared, on every rack
abbrev pub Compares : VolumeValue → (List ℕ → Type 0) → Result (Unit {0}) VolError → Type 0
Compares v IsName (Ok done) = ⊤
Compares v IsName (Err vol.Memory) = ⊤
Compares v IsName (Err vol.RackFault) = ⊤
Compares v IsName (Err (vol.Collision chunk)) = IsName chunk
Compares v IsName (Err (vol.Damage device at)) = IsCutAt v IsName device at
Compares v IsName (Err (vol.BadChunk chunk found)) = IsName chunk × HoldsChunk v.shape chunk × (found ≢ chunk)
Compares v IsName (Err vol.Exists) = ⊥
Compares v IsName (Err vol.NoSuchFile) = ⊥
Compares v IsName (Err (vol.DeviceFull device at len)) = ⊥
Compares v IsName (Err vol.Spent) = ⊥

-- what is kept says to a block: the first of its name, or what the volume holds
pub record IsAsKept (a : Volume) (name own kept : List ℕ) (is_repeated : Bool) : Type 0 where
  pub repeated : is_repeated ≡ true → own ≡ kept
  pub held : is_repeated ≡ false → (bytes : List ℕ) → HasBytes a name bytes → bytes ≡ own

pub record IsOther (a : Volume) (name own kept : List ℕ) (is_repeated : Bool) : Type 0 where
  pub repeated : is_repeated ≡ true → own ≢ kept
  pub held : is_repeated ≡ false → (bytes : List ℕ) × HasBytes a name bytes × (bytes ≢ own)

abbrev pub FindsKept : Volume → List ℕ → List ℕ → List ℕ → Bool → Result (Unit {0}) VolError → Type 0
FindsKept a name own kept is_repeated (Ok done) = IsAsKept a name own kept is_repeated
FindsKept a name own kept is_repeated (Err (vol.Collision chunk)) = (chunk ≡ name) × IsOther a name own kept is_repeated
FindsKept a name own kept is_repeated (Err (vol.Damage device at)) = ⊥
FindsKept a name own kept is_repeated (Err (vol.BadChunk chunk found)) = (chunk ≡ name) × (is_repeated ≡ false) × IsBadChunk a name found
FindsKept a name own kept is_repeated (Err vol.RackFault) = ⊤
FindsKept a name own kept is_repeated (Err vol.Exists) = ⊤
FindsKept a name own kept is_repeated (Err vol.NoSuchFile) = ⊤
FindsKept a name own kept is_repeated (Err (vol.DeviceFull device at len)) = ⊤
FindsKept a name own kept is_repeated (Err vol.Spent) = ⊤
FindsKept a name own kept is_repeated (Err vol.Memory) = ⊤

-- ALL BLOCKS

-- what is kept says to all blocks: as `FindsBlocks`
abbrev pub FindsCompared : Volume → List (List ℕ) → Result (Unit {0}) VolError → Type 0
FindsCompared a blocks (Ok done) = AreKept a blocks
FindsCompared a blocks (Err (vol.Collision name)) = IsFirstOther a blocks name
FindsCompared a blocks (Err (vol.Damage device at)) = ⊥
FindsCompared a blocks (Err (vol.BadChunk name found)) = IsBadChunk a name found × IsFirstOther a blocks name
FindsCompared a blocks (Err vol.RackFault) = ⊤
FindsCompared a blocks (Err vol.Exists) = ⊤
FindsCompared a blocks (Err vol.NoSuchFile) = ⊤
FindsCompared a blocks (Err (vol.DeviceFull device at len)) = ⊤
FindsCompared a blocks (Err vol.Spent) = ⊤
FindsCompared a blocks (Err vol.Memory) = ⊤

-- for a site that stands for the disk: nothing changes on the way, and what is kept says this of the blocks
pub record FindsQuietly {D : Type 0} (moment : D → ℕ) (left_since : D → ℕ → Images → Type 0) (old new : D) (d e : Disk) (v : SiteValue) (blocks : List (List ℕ)) (result : Result (Unit {0}) SiteError) : Type 0 where
  pub quiet : Quiet moment left_since old new d e
  pub finds : (s : State) → SiteStands v d s → FindsBlocks s.a blocks result

-- ROOM ON THE DEVICE

-- the end of a log behind a body, where it has room
abbrev pub EndsBehind : LogValue → ℕ → ℕ → Result ℕ SiteError → Type 0
EndsBehind log end n (Ok done) = (end + n + 6 ≤ log.limit) × (done ≡ end + 5 + n) × (done ≤ 2 ^ 40)
EndsBehind log end n (Err (DeviceFull device at len)) = (log.limit < end + n + 6) × (device ≡ log.device) × (at ≡ end) × (len ≡ n)
EndsBehind log end n (Err Spent) = ⊥
EndsBehind log end n (Err Memory) = ⊥
EndsBehind log end n (Err Exists) = ⊥
EndsBehind log end n (Err NoSuchFile) = ⊥
EndsBehind log end n (Err MigrationOpen) = ⊥
EndsBehind log end n (Err TargetNotEmpty) = ⊥
EndsBehind log end n (Err NothingOpen) = ⊥
EndsBehind log end n (Err NotMoved) = ⊥
EndsBehind log end n (Err (Collision chunk)) = ⊥
EndsBehind log end n (Err (Damage device at)) = ⊥
EndsBehind log end n (Err (BadChunk chunk found)) = ⊥
EndsBehind log end n (Err (VolumeFull what)) = ⊥
EndsBehind log end n (Err RackFault) = ⊥

-- the records of a file have room behind a volume's log, or the first of them without room is told
abbrev pub HaveRoom : VolumeValue → List VolumeRecord → Type 0
HaveRoom v records = (l : Logs) → l.a ≡ v.log → AllFit l (each ToA records)

abbrev pub LackRoom : VolumeValue → List VolumeRecord → ℕ → ℕ → ℕ → Type 0
LackRoom v records device at len = (l : Logs) → l.a ≡ v.log → IsFirstFull l (each ToA records) device at len

abbrev pub JudgesRoom : VolumeValue → List ℕ → List (List ℕ) → Result (Unit {0}) SiteError → Type 0
JudgesRoom v name blocks (Ok done) = HaveRoom v (put_records v.shape name blocks)
JudgesRoom v name blocks (Err (DeviceFull device at len)) = LackRoom v (put_records v.shape name blocks) device at len
JudgesRoom v name blocks (Err Spent) = ⊥
JudgesRoom v name blocks (Err Memory) = ⊥
JudgesRoom v name blocks (Err Exists) = ⊥
JudgesRoom v name blocks (Err NoSuchFile) = ⊥
JudgesRoom v name blocks (Err MigrationOpen) = ⊥
JudgesRoom v name blocks (Err TargetNotEmpty) = ⊥
JudgesRoom v name blocks (Err NothingOpen) = ⊥
JudgesRoom v name blocks (Err NotMoved) = ⊥
JudgesRoom v name blocks (Err (Collision chunk)) = ⊥
JudgesRoom v name blocks (Err (Damage device at)) = ⊥
JudgesRoom v name blocks (Err (BadChunk chunk found)) = ⊥
JudgesRoom v name blocks (Err (VolumeFull what)) = ⊥
JudgesRoom v name blocks (Err RackFault) = ⊥

-- BEFORE THE FIRST RECORD

-- a volume
abbrev pub ReadiesVolume : VolumeValue → VolumeValue → List ℕ → List (List ℕ) → Result (Unit {0}) SiteError → Type 0
ReadiesVolume v w name blocks (Ok done) = IsWithin v.shape name blocks × HaveRoom v (put_records v.shape name blocks) × IsSameVolume v w × HasRoomToPut w name blocks
ReadiesVolume v w name blocks (Err Memory) = IsSameVolume v w
ReadiesVolume v w name blocks (Err RackFault) = IsWithin v.shape name blocks × IsSameVolume v w
ReadiesVolume v w name blocks (Err (Collision chunk)) = IsWithin v.shape name blocks × HasBlock blocks chunk × IsSameVolume v w
ReadiesVolume v w name blocks (Err (Damage device at)) = IsWithin v.shape name blocks × IsCutAt v (HasBlock blocks) device at × IsSameVolume v w
ReadiesVolume v w name blocks (Err (BadChunk chunk found)) = IsWithin v.shape name blocks × HasBlock blocks chunk × HoldsChunk v.shape chunk × (found ≢ chunk) × IsSameVolume v w
ReadiesVolume v w name blocks (Err (DeviceFull device at len)) = IsWithin v.shape name blocks × LackRoom v (put_records v.shape name blocks) device at len × IsSameVolume v w
ReadiesVolume v w name blocks (Err (VolumeFull what)) = IsPast v.shape name blocks what × IsSameVolume v w
ReadiesVolume v w name blocks (Err Spent) = ⊥
ReadiesVolume v w name blocks (Err Exists) = ⊥
ReadiesVolume v w name blocks (Err NoSuchFile) = ⊥
ReadiesVolume v w name blocks (Err MigrationOpen) = ⊥
ReadiesVolume v w name blocks (Err TargetNotEmpty) = ⊥
ReadiesVolume v w name blocks (Err NothingOpen) = ⊥
ReadiesVolume v w name blocks (Err NotMoved) = ⊥

-- whether a call answers a fault of the rack
abbrev pub is_fault : Result (Unit {0}) SiteError → Bool
is_fault (Ok done) = false
is_fault (Err error) = is_rack_fault error

-- and the site of it
abbrev pub ReadiesPut : SiteValue → SiteValue → List ℕ → List (List ℕ) → Result (Unit {0}) SiteError → Type 0
ReadiesPut v w name blocks (Ok done) = IsWithin v.a.shape name blocks × AllFit (logs_in v) (put_plan (shapes_in v) name blocks) × IsSameSite v w × HasRoomToPut w.a name blocks
ReadiesPut v w name blocks (Err Memory) = IsSameSite v w
ReadiesPut v w name blocks (Err (Collision chunk)) = IsWithin v.a.shape name blocks × HasBlock blocks chunk × IsSameSite v w
ReadiesPut v w name blocks (Err (Damage device at)) = IsWithin v.a.shape name blocks × IsCutAt v.a (HasBlock blocks) device at × IsSameSite v w
ReadiesPut v w name blocks (Err (BadChunk chunk found)) = IsWithin v.a.shape name blocks × HasBlock blocks chunk × HoldsChunk v.a.shape chunk × (found ≢ chunk) × IsSameSite v w
ReadiesPut v w name blocks (Err (DeviceFull device at len)) = IsWithin v.a.shape name blocks × IsFirstFull (logs_in v) (put_plan (shapes_in v) name blocks) device at len × IsSameSite v w
ReadiesPut v w name blocks (Err (VolumeFull what)) = IsPast v.a.shape name blocks what × IsSameSite v w
ReadiesPut v w name blocks (Err RackFault) = IsWithin v.a.shape name blocks × (w.spent ≡ true)
ReadiesPut v w name blocks (Err Spent) = ⊥
ReadiesPut v w name blocks (Err Exists) = ⊥
ReadiesPut v w name blocks (Err NoSuchFile) = ⊥
ReadiesPut v w name blocks (Err MigrationOpen) = ⊥
ReadiesPut v w name blocks (Err TargetNotEmpty) = ⊥
ReadiesPut v w name blocks (Err NothingOpen) = ⊥
ReadiesPut v w name blocks (Err NotMoved) = ⊥

-- THE RECORDS

-- a plan is run that has room on the device and in memory: only a fault stops it
abbrev pub AddsAll : SiteValue → SiteValue → List Append → Result (Unit {0}) SiteError → Type 0
AddsAll v w plan (Ok done) = IsAfter v w plan
AddsAll v w plan (Err RackFault) = w.spent ≡ true
AddsAll v w plan (Err Spent) = ⊥
AddsAll v w plan (Err Memory) = ⊥
AddsAll v w plan (Err Exists) = ⊥
AddsAll v w plan (Err NoSuchFile) = ⊥
AddsAll v w plan (Err MigrationOpen) = ⊥
AddsAll v w plan (Err TargetNotEmpty) = ⊥
AddsAll v w plan (Err NothingOpen) = ⊥
AddsAll v w plan (Err NotMoved) = ⊥
AddsAll v w plan (Err (Collision chunk)) = ⊥
AddsAll v w plan (Err (Damage device at)) = ⊥
AddsAll v w plan (Err (BadChunk chunk found)) = ⊥
AddsAll v w plan (Err (DeviceFull device at len)) = ⊥
AddsAll v w plan (Err (VolumeFull what)) = ⊥

-- the chunks of it leave the room for the file
abbrev pub AddsChunks : SiteValue → SiteValue → List (List ℕ) → Result (Unit {0}) SiteError → Type 0
AddsChunks v w blocks (Ok done) = IsAfter v w (chunk_plan v.a.shape blocks) × (v.a.room.files ≤ w.a.room.files) × (v.a.room.body ≤ w.a.room.body)
AddsChunks v w blocks (Err RackFault) = w.spent ≡ true
AddsChunks v w blocks (Err Spent) = ⊥
AddsChunks v w blocks (Err Memory) = ⊥
AddsChunks v w blocks (Err Exists) = ⊥
AddsChunks v w blocks (Err NoSuchFile) = ⊥
AddsChunks v w blocks (Err MigrationOpen) = ⊥
AddsChunks v w blocks (Err TargetNotEmpty) = ⊥
AddsChunks v w blocks (Err NothingOpen) = ⊥
AddsChunks v w blocks (Err NotMoved) = ⊥
AddsChunks v w blocks (Err (Collision chunk)) = ⊥
AddsChunks v w blocks (Err (Damage device at)) = ⊥
AddsChunks v w blocks (Err (BadChunk chunk found)) = ⊥
AddsChunks v w blocks (Err (DeviceFull device at len)) = ⊥
AddsChunks v w blocks (Err (VolumeFull what)) = ⊥
