-- What reading a file does.
use Rattle.std.specs.Prelude.{◌≡◌, ℕ, ⊤, List, Some, None, Result, Ok, Err, Vec, if◌then◌else◌}
use Rattle.std.specs.declared.alloc.Global.{Global}
use Rattle.std.specs.FinMap as map
use Rattle.site_forms.specs.Sites.{IsSite}
use Rattle.site_forms.specs.Views.{State, view}
use Rattle.site_forms.specs.Volumes.{Volume}
use Rattle.chunk_volume.specs.declared.errors.VolError.TheVariants as vol
use Rattle.chunk_volume.specs.ReadingVolumes.{ReadsFile, IsFirstBad}
use Rattle.chunk_volume.specs.VolumeValues.{VolumeValue}
use Rattle.seed_mover.specs.declared.errors.SiteError.{SiteError}
use Rattle.seed_mover.specs.declared.errors.SiteError.TheVariants.{RackFault, Spent, Memory, Exists, NoSuchFile, MigrationOpen, TargetNotEmpty, NothingOpen, NotMoved, Collision, Damage, BadChunk, DeviceFull, VolumeFull}
use Rattle.seed_mover.specs.Dropping.{IsHeld}
use Rattle.seed_mover.specs.Opening.{IsWhole}
use Rattle.site_runs.specs.SiteValues.{SiteValue, SiteStands}
use Rattle.volume_disk.specs.Disk.{Disk}

-- the volume that is read: A where A holds the file, else B
abbrev pub holder : SiteValue → List ℕ → VolumeValue
holder v name = if map.contains_key v.a.shape.files name then v.a else v.b

abbrev pub holder_in : State → List ℕ → Volume
holder_in s name = if map.contains_key s.a.files name then s.a else s.b

-- the bytes of a file, on every rack: what its volume answers
abbrev pub Gets : SiteValue → List ℕ → Result (Vec ℕ Global) SiteError → Type 0
Gets v name (Ok bytes) = ReadsFile (holder v name) name (Ok bytes)
Gets v name (Err NoSuchFile) = ¬ IsHeld v name
Gets v name (Err (Damage device at)) = IsHeld v name × ReadsFile (holder v name) name (Err (vol.Damage device at))
Gets v name (Err (BadChunk chunk found)) = IsHeld v name × ReadsFile (holder v name) name (Err (vol.BadChunk chunk found))
Gets v name (Err RackFault) = IsHeld v name
Gets v name (Err Memory) = IsHeld v name
Gets v name (Err Spent) = ⊥
Gets v name (Err Exists) = ⊥
Gets v name (Err MigrationOpen) = ⊥
Gets v name (Err TargetNotEmpty) = ⊥
Gets v name (Err NothingOpen) = ⊥
Gets v name (Err NotMoved) = ⊥
Gets v name (Err (Collision chunk)) = ⊥
Gets v name (Err (DeviceFull device at len)) = ⊥
Gets v name (Err (VolumeFull what)) = ⊥

-- the same for a site that stands for a state: the view, never damage, and a bad chunk exactly where its bytes have another
-- digest
abbrev pub FindsView : State → List ℕ → Result (Vec ℕ Global) SiteError → Type 0
FindsView s name (Ok bytes) = view s name ≡ Some bytes.items
FindsView s name (Err NoSuchFile) = view s name ≡ None
FindsView s name (Err (Damage device at)) = ⊥
FindsView s name (Err (BadChunk chunk found)) = IsFirstBad (holder_in s name) name chunk found
FindsView s name (Err RackFault) = ⊤
FindsView s name (Err Memory) = ⊤
FindsView s name (Err Spent) = ⊤
FindsView s name (Err Exists) = ⊤
FindsView s name (Err MigrationOpen) = ⊤
FindsView s name (Err TargetNotEmpty) = ⊤
FindsView s name (Err NothingOpen) = ⊤
FindsView s name (Err NotMoved) = ⊤
FindsView s name (Err (Collision chunk)) = ⊤
FindsView s name (Err (DeviceFull device at len)) = ⊤
FindsView s name (Err (VolumeFull what)) = ⊤

-- and no bad chunk where the state is a site
pub record GetsFrom (d : Disk) (v : SiteValue) (name : List ℕ) (result : Result (Vec ℕ Global) SiteError) : Type 0 where
  pub found : (s : State) → SiteStands v d s → FindsView s name result
  pub whole : (s : State) → SiteStands v d s → IsSite s → IsWhole result
