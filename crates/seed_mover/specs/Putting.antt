-- What putting a file does.
use Rattle.std.specs.Prelude.{◌≡◌, ◌≢◌, ◌⊎◌, ◌+◌, ◌-◌, ◌*◌, ◌/◌, ◌^◌, ◌<◌, ◌≤◌, ℕ, ⊤, min, true, false, List, [], ◌∷◌, ◌++◌, length, take, drop, map as each, Contains, Some, Result, Ok, Err, OnOk, if◌then◌else◌}
use Rattle.std.specs.List.{range_with_len}
use Rattle.std.specs.FinMap as map
use Rattle.sha2.specs.Sha256.{sha256}
use Rattle.seed_model.specs.declared.limits.TheConstants.{MOST_FILES, MOST_CHUNKS, MOST_PAIRS, MOST_BYTES}
use Rattle.recipe_reader.specs.declared.error.What.{What}
use Rattle.recipe_reader.specs.declared.error.What.TheVariants.{Files as FilesPast, Chunks, Bytes, Pairs}
use Rattle.volume_disk.specs.Disk.{Disk, Images}
use Rattle.volume_disk.specs.Time.{Passes}
use Rattle.site_forms.specs.declared.phase.Phase.TheVariants.{Idle}
use Rattle.site_forms.specs.Sites.{HoldsChunk, state_of}
use Rattle.site_forms.specs.Views.{State, view}
use Rattle.site_forms.specs.VolumeRecords.{VolumeRecord}
use Rattle.site_forms.specs.VolumeRecords.VolumeRecord.{ChunkRecord, FileRecord}
use Rattle.site_forms.specs.Volumes.{Shape, Files, Volume, chunk_or, used, used_bytes, pair_count, with_chunk}
use Rattle.chunk_volume.specs.ReadingVolumes.{HasBytes, IsBadChunk}
use Rattle.chunk_volume.specs.VolumeValues.{VolumeValue}
use Rattle.volume_index.specs.HoldingValues.{held_bytes}
use Rattle.site_core.specs.Events.{Append, Shapes, shapes_of}
use Rattle.site_core.specs.Events.Append.{ToA}
use Rattle.seed_mover.specs.declared.errors.SiteError.{SiteError}
use Rattle.seed_mover.specs.declared.errors.SiteError.TheVariants.{RackFault, Spent, Memory, Exists, NoSuchFile, MigrationOpen, TargetNotEmpty, NothingOpen, NotMoved, Collision, Damage, BadChunk, DeviceFull, VolumeFull}
use Rattle.seed_mover.specs.Dropping.{IsHeld}
use Rattle.seed_mover.specs.Opening.{IsWhole}
use Rattle.seed_mover.specs.Plans.{AllFit, IsFirstFull, logs_in}
use Rattle.seed_mover.specs.Running.{IsAfter, IsSameSite}
use Rattle.site_runs.specs.Runs.{Runs}
use Rattle.site_runs.specs.SiteValues.{SiteValue, shapes_in}
use Rattle.site_core.specs.Plans.{after_plan}
use Rattle.seed_mover.specs.Errors.{refuses}

-- BLOCKS

-- the ends of blocks, from a place on to a length: each block has 1 to 2^20 bytes
abbrev pub AreEnds : ℕ → ℕ → List ℕ → Type 0
AreEnds from len [] = from ≡ len
AreEnds from len (end ∷ ends) = (from < end) × (end ≤ from + 2 ^ 20) × AreEnds end len ends

-- the blocks of bytes that begin at a place
abbrev pub blocks_from : ℕ → List ℕ → List ℕ → List (List ℕ)
blocks_from from bytes [] = []
blocks_from from bytes (end ∷ ends) = take (end - from) bytes ∷ blocks_from end (drop (end - from) bytes) ends

abbrev pub blocks_of : List ℕ → List ℕ → List (List ℕ)
blocks_of bytes ends = blocks_from 0 bytes ends

-- the ends of blocks of 4,096 bytes, the last of which may be shorter
abbrev pub even_ends : ℕ → List ℕ
even_ends len = each (λ i. min len (4096 * (i + 1))) (range_with_len 0 ((len + 4095) / 4096))

-- THE PLAN

-- a chunk's record for each block whose name the volume lacks, and which no earlier block has
abbrev pub new_chunks : Shape → List (List ℕ) → List VolumeRecord
new_chunks a [] = []
new_chunks a (block ∷ blocks) =
    if map.contains_key a.chunks (sha256 block) then new_chunks a blocks else ChunkRecord (sha256 block) block ∷ new_chunks (with_chunk a (sha256 block) (length block)) blocks

-- these, and then the file's record
abbrev pub put_records : Shape → List ℕ → List (List ℕ) → List VolumeRecord
put_records a name blocks = new_chunks a blocks ++ FileRecord name (each sha256 blocks) ∷ []

abbrev pub put_plan : Shapes → List ℕ → List (List ℕ) → List Append
put_plan t name blocks = each ToA (put_records t.a name blocks)

-- CAUSES

-- whether a file may be put, before anything is said of its bytes
abbrev pub JudgesPut : SiteValue → List ℕ → Result (Unit {0}) SiteError → Type 0
JudgesPut v name (Ok done) = (v.journal.phase ≡ Idle) × (¬ IsHeld v name)
JudgesPut v name (Err MigrationOpen) = v.journal.phase ≢ Idle
JudgesPut v name (Err Exists) = (v.journal.phase ≡ Idle) × IsHeld v name
JudgesPut v name (Err Spent) = ⊥
JudgesPut v name (Err RackFault) = ⊥
JudgesPut v name (Err Memory) = ⊥
JudgesPut v name (Err NoSuchFile) = ⊥
JudgesPut v name (Err TargetNotEmpty) = ⊥
JudgesPut v name (Err NothingOpen) = ⊥
JudgesPut v name (Err NotMoved) = ⊥
JudgesPut v name (Err (Collision chunk)) = ⊥
JudgesPut v name (Err (Damage device at)) = ⊥
JudgesPut v name (Err (BadChunk chunk found)) = ⊥
JudgesPut v name (Err (DeviceFull device at len)) = ⊥
JudgesPut v name (Err (VolumeFull what)) = ⊥

-- a volume holds no file of this name
abbrev pub LacksFile : Shape → List ℕ → Type 0
LacksFile a name = map.contains_key a.files name ≡ false

-- a file may be put
pub record MayPut (v : SiteValue) (name : List ℕ) : Type 0 where
  pub fresh : v.spent ≡ false
  pub idle : v.journal.phase ≡ Idle
  pub lacking : ¬ IsHeld v name

-- a volume with the chunk of a block, and with those of many
abbrev pub with_block : Shape → List ℕ → Shape
with_block a block = if map.contains_key a.chunks (sha256 block) then a else with_chunk a (sha256 block) (length block)

abbrev pub with_blocks : Shape → List (List ℕ) → Shape
with_blocks a [] = a
with_blocks a (block ∷ blocks) = with_blocks (with_block a block) blocks

-- files, with the lengths of their chunks, pass a limit of a recipe
abbrev pub PassesLimit : (List ℕ → ℕ) → Files → What → Type 0
PassesLimit length_of files FilesPast = MOST_FILES < map.len files
PassesLimit length_of files Chunks = MOST_CHUNKS < map.len (used files)
PassesLimit length_of files Bytes = MOST_BYTES < used_bytes length_of files
PassesLimit length_of files Pairs = MOST_PAIRS < pair_count files

-- and no limit before it
abbrev pub PassesFirst : (List ℕ → ℕ) → Files → What → Type 0
PassesFirst length_of files FilesPast = PassesLimit length_of files FilesPast
PassesFirst length_of files Chunks = (¬ PassesLimit length_of files FilesPast) × PassesLimit length_of files Chunks
PassesFirst length_of files Bytes = (¬ PassesLimit length_of files FilesPast) × (¬ PassesLimit length_of files Chunks) × PassesLimit length_of files Bytes
PassesFirst length_of files Pairs = (¬ PassesLimit length_of files FilesPast) × (¬ PassesLimit length_of files Chunks) × (¬ PassesLimit length_of files Bytes) × PassesLimit length_of files Pairs

abbrev pub KeepsAll : (List ℕ → ℕ) → Files → Type 0
KeepsAll length_of files = (what : What) → ¬ PassesLimit length_of files what

-- the same of the files of A and a new one
module _ (a : Shape) (name : List ℕ) (blocks : List (List ℕ)) where
  abbrev pub files_with : Files
  files_with = map.insert a.files name (each sha256 blocks)

  abbrev pub length_with : List ℕ → ℕ
  length_with chunk = chunk_or 0 (with_blocks a blocks) chunk

  abbrev pub IsPast : What → Type 0
  IsPast what = PassesFirst length_with files_with what

  abbrev pub IsWithin : Type 0
  IsWithin = KeepsAll length_with files_with

-- a block has this name
abbrev pub HasBlock : List (List ℕ) → List ℕ → Type 0
HasBlock blocks name = (block : List ℕ) × Contains blocks block × (sha256 block ≡ name)

-- the log of a volume ends before the bytes of a chunk
abbrev pub IsCutAt : VolumeValue → (List ℕ → Type 0) → ℕ → ℕ → Type 0
IsCutAt v IsName device at = (device ≡ v.log.device) × ((chunk : List ℕ) × IsName chunk × (map.get v.places chunk ≡ Some at))

-- what a site is once a file is put, on every rack: the bytes of the added chunks are answered. All refusals but a fault come
-- before the first record, in this order.
abbrev pub Puts : SiteValue → SiteValue → List ℕ → List (List ℕ) → Result ℕ SiteError → Type 0
Puts v w name blocks (Ok added) =
    MayPut v name × IsWithin v.a.shape name blocks × AllFit (logs_in v) (put_plan (shapes_in v) name blocks) × IsAfter v w (put_plan (shapes_in v) name blocks)
    × (held_bytes v.a.shape + added ≡ held_bytes w.a.shape)
Puts v w name blocks (Err Spent) = (v.spent ≡ true) × (w ≡ v)
Puts v w name blocks (Err MigrationOpen) = (v.spent ≡ false) × (v.journal.phase ≢ Idle) × (w ≡ v)
Puts v w name blocks (Err Exists) = (v.spent ≡ false) × (v.journal.phase ≡ Idle) × IsHeld v name × (w ≡ v)
Puts v w name blocks (Err (VolumeFull what)) = MayPut v name × IsPast v.a.shape name blocks what × IsSameSite v w
Puts v w name blocks (Err (BadChunk chunk found)) = MayPut v name × IsWithin v.a.shape name blocks × HasBlock blocks chunk × HoldsChunk v.a.shape chunk × (found ≢ chunk) × IsSameSite v w
Puts v w name blocks (Err (Collision chunk)) = MayPut v name × IsWithin v.a.shape name blocks × HasBlock blocks chunk × IsSameSite v w
Puts v w name blocks (Err (Damage device at)) = MayPut v name × IsWithin v.a.shape name blocks × IsCutAt v.a (HasBlock blocks) device at × IsSameSite v w
Puts v w name blocks (Err (DeviceFull device at len)) =
    MayPut v name × IsWithin v.a.shape name blocks × IsFirstFull (logs_in v) (put_plan (shapes_in v) name blocks) device at len × IsSameSite v w
Puts v w name blocks (Err Memory) = MayPut v name × IsSameSite v w
Puts v w name blocks (Err RackFault) = MayPut v name × IsWithin v.a.shape name blocks × (w.spent ≡ true)
Puts v w name blocks (Err NoSuchFile) = ⊥
Puts v w name blocks (Err TargetNotEmpty) = ⊥
Puts v w name blocks (Err NothingOpen) = ⊥
Puts v w name blocks (Err NotMoved) = ⊥

-- blocks are what is kept under their names: by the volume where it holds the chunk, and by each other
pub record AreKept (a : Volume) (blocks : List (List ℕ)) : Type 0 where
  pub held : (block bytes : List ℕ) → Contains blocks block → HasBytes a (sha256 block) bytes → bytes ≡ block
  pub alike : (block other : List ℕ) → Contains blocks block → Contains blocks other → sha256 other ≡ sha256 block → other ≡ block

-- the first block that is not what is kept under its name
pub record IsFirstOther (a : Volume) (blocks : List (List ℕ)) (name : List ℕ) : Type 0 where
  pub before : List (List ℕ)
  pub block : List ℕ
  pub rest : List (List ℕ)
  pub split : blocks ≡ before ++ block ∷ rest
  pub name_is : sha256 block ≡ name
  pub good : AreKept a before
  pub other : ¬ AreKept a (before ++ block ∷ [])

-- what the disk says to the blocks: never damage; a bad chunk where the bytes that A holds have another digest; a collision
-- where the first block differs from what is kept. Room on the device is judged once all blocks are as they are kept.
abbrev pub FindsBlocks : {T : Type 0} → Volume → List (List ℕ) → Result T SiteError → Type 0
FindsBlocks a blocks (Err (Damage device at)) = ⊥
FindsBlocks a blocks (Err (BadChunk name found)) = IsBadChunk a name found × IsFirstOther a blocks name
FindsBlocks a blocks (Err (Collision name)) = IsFirstOther a blocks name
FindsBlocks a blocks (Ok added) = AreKept a blocks
FindsBlocks a blocks (Err RackFault) = ⊤
FindsBlocks a blocks (Err Spent) = ⊤
FindsBlocks a blocks (Err Memory) = ⊤
FindsBlocks a blocks (Err Exists) = ⊤
FindsBlocks a blocks (Err NoSuchFile) = ⊤
FindsBlocks a blocks (Err MigrationOpen) = ⊤
FindsBlocks a blocks (Err TargetNotEmpty) = ⊤
FindsBlocks a blocks (Err NothingOpen) = ⊤
FindsBlocks a blocks (Err NotMoved) = ⊤
FindsBlocks a blocks (Err (DeviceFull device at len)) = AreKept a blocks
FindsBlocks a blocks (Err (VolumeFull what)) = ⊤

-- a state shows what another does
abbrev pub ShowsSame : State → State → Type 0
ShowsSame s t = (name : List ℕ) → view t name ≡ view s name

-- or that, and under one name these bytes
pub record ShowsWith (s t : State) (name bytes : List ℕ) : Type 0 where
  pub file : view t name ≡ Some bytes
  pub others : (other : List ℕ) → other ≢ name → view t other ≡ view s other

-- images show one of the two
abbrev pub LeavesShown : State → List ℕ → List ℕ → Images → Type 0
LeavesShown s name bytes c = (t : State) → state_of c ≡ Some t → ShowsSame s t ⊎ ShowsWith s t name bytes

-- putting a file, on a site that stands for a state: its plan is run whole, or nothing is done; once done, its bytes are seen
-- under its name, and under every other name what was seen before; a crash at any moment leaves a site that shows this, or
-- what was seen before; and neither damage nor a bad chunk is found
pub record PutsOn {D : Type 0} (disk : D → Disk) (moment : D → ℕ) (left_since : D → ℕ → Images → Type 0) (old new : D) (v w : SiteValue) (name bytes : List ℕ) (ends : List ℕ) (s : State) (result : Result ℕ SiteError) : Type 0 where
  pub runs : Runs disk moment left_since refuses old new v w s (put_plan (shapes_of s) name (blocks_of bytes ends)) result
  pub finds : FindsBlocks s.a (blocks_of bytes ends) result
  pub whole : IsWhole result
  pub done : OnOk result (ShowsWith s (after_plan s (put_plan (shapes_of s) name (blocks_of bytes ends))) name bytes)
  pub shows : Passes moment left_since old new (LeavesShown s name bytes)
