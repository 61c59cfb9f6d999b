-- What the calls do that read.
use Rattle.std.specs.Prelude.{◌≡◌, ◌≢◌, ℕ, ⊤, List, ◌∷◌, ◌++◌, length, map as each, All, Contains, Some, Result, Ok, Err, Vec}
use Rattle.std.specs.List.{concat, fold}
use Rattle.std.specs.FinMap as map
use Rattle.std.specs.declared.alloc.Global.{Global}
use Rattle.sha2.specs.Sha256.{sha256}
use Rattle.recipe_reader.specs.Recipes.{RecipeValue, empty_recipe, with_file, with_pair, file_number}
use Rattle.site_forms.specs.Sites.{HoldsFile}
use Rattle.site_forms.specs.Views.{content}
use Rattle.site_forms.specs.Volumes.{Volume, Shape, chunk_or}
use Rattle.chunk_volume.specs.declared.errors.VolError.{VolError}
use Rattle.chunk_volume.specs.declared.errors.VolError.TheVariants.{RackFault, Damage, BadChunk, Collision, Exists, NoSuchFile, DeviceFull, Spent, Memory}
use Rattle.chunk_volume.specs.VolumeValues.{VolumeValue}

-- the bytes of a chunk, on every rack: of the length that is held, and with the name as their digest
abbrev pub ReadsChunk : VolumeValue → List ℕ → Result (Vec ℕ Global) VolError → Type 0
ReadsChunk v name (Ok bytes) = (sha256 bytes.items ≡ name) × (map.get v.shape.chunks name ≡ Some (length bytes.items))
ReadsChunk v name (Err (Damage device at)) = (device ≡ v.log.device) × (map.get v.places name ≡ Some at)
ReadsChunk v name (Err (BadChunk chunk found)) = (chunk ≡ name) × (found ≢ name)
ReadsChunk v name (Err RackFault) = ⊤
ReadsChunk v name (Err Memory) = ⊤
ReadsChunk v name (Err (Collision chunk)) = ⊥
ReadsChunk v name (Err Exists) = ⊥
ReadsChunk v name (Err NoSuchFile) = ⊥
ReadsChunk v name (Err (DeviceFull device at len)) = ⊥
ReadsChunk v name (Err Spent) = ⊥

-- a chunk of a volume has these bytes
abbrev pub HasBytes : Volume → List ℕ → List ℕ → Type 0
HasBytes volume name bytes = map.get volume.chunks name ≡ Some bytes

-- a chunk whose bytes have another digest than its name
abbrev pub IsBadChunk : Volume → List ℕ → List ℕ → Type 0
IsBadChunk volume name found = (held : List ℕ) × HasBytes volume name held × (sha256 held ≡ found) × (found ≢ name)

-- a chunk whose name is the digest of its bytes
abbrev pub IsGoodChunk : Volume → List ℕ → Type 0
IsGoodChunk volume name = (held : List ℕ) × HasBytes volume name held × (sha256 held ≡ name)

-- the same for a volume that stands for a place: never damage, and a bad chunk exactly where the bytes have another digest
abbrev pub FindsChunk : Volume → List ℕ → Result (Vec ℕ Global) VolError → Type 0
FindsChunk volume name (Ok bytes) = HasBytes volume name bytes.items
FindsChunk volume name (Err (Damage device at)) = ⊥
FindsChunk volume name (Err (BadChunk chunk found)) = IsBadChunk volume name found
FindsChunk volume name (Err RackFault) = ⊤
FindsChunk volume name (Err Memory) = ⊤
FindsChunk volume name (Err (Collision chunk)) = ⊤
FindsChunk volume name (Err Exists) = ⊤
FindsChunk volume name (Err NoSuchFile) = ⊤
FindsChunk volume name (Err (DeviceFull device at len)) = ⊤
FindsChunk volume name (Err Spent) = ⊤

-- the bytes of a file, on every rack: pieces with the names of its list as their digests
abbrev pub ReadsFile : VolumeValue → List ℕ → Result (Vec ℕ Global) VolError → Type 0
ReadsFile v name (Ok bytes) = (pieces : List (List ℕ)) × (map.get v.shape.files name ≡ Some (each sha256 pieces)) × (bytes.items ≡ concat pieces)
ReadsFile v name (Err NoSuchFile) = ¬ HoldsFile v.shape name
ReadsFile v name (Err (Damage device at)) = (device ≡ v.log.device) × ((list : List (List ℕ)) × (map.get v.shape.files name ≡ Some list) × ((chunk : List ℕ) × Contains list chunk × (map.get v.places chunk ≡ Some at)))
ReadsFile v name (Err (BadChunk chunk found)) = (found ≢ chunk) × ((list : List (List ℕ)) × (map.get v.shape.files name ≡ Some list) × Contains list chunk)
ReadsFile v name (Err RackFault) = HoldsFile v.shape name
ReadsFile v name (Err Memory) = HoldsFile v.shape name
ReadsFile v name (Err (Collision chunk)) = ⊥
ReadsFile v name (Err Exists) = ⊥
ReadsFile v name (Err (DeviceFull device at len)) = ⊥
ReadsFile v name (Err Spent) = ⊥

-- the first chunk of a file that is bad
pub record IsFirstBad (volume : Volume) (name chunk found : List ℕ) : Type 0 where
  pub front : List (List ℕ)
  pub rest : List (List ℕ)
  pub list : map.get volume.files name ≡ Some (front ++ chunk ∷ rest)
  pub good : All (IsGoodChunk volume) front
  pub bad : IsBadChunk volume chunk found

-- the same for a volume that stands for a place
abbrev pub FindsFile : Volume → List ℕ → Result (Vec ℕ Global) VolError → Type 0
FindsFile volume name (Ok bytes) = content volume name ≡ Some bytes.items
FindsFile volume name (Err (Damage device at)) = ⊥
FindsFile volume name (Err (BadChunk chunk found)) = IsFirstBad volume name chunk found
FindsFile volume name (Err RackFault) = ⊤
FindsFile volume name (Err Memory) = ⊤
FindsFile volume name (Err NoSuchFile) = ⊤
FindsFile volume name (Err (Collision chunk)) = ⊤
FindsFile volume name (Err Exists) = ⊤
FindsFile volume name (Err (DeviceFull device at len)) = ⊤
FindsFile volume name (Err Spent) = ⊤

-- a recipe with a chunk of a file more, and with a file and its chunks more
abbrev pub with_chunk_of : Shape → List ℕ → RecipeValue → List ℕ → RecipeValue
with_chunk_of shape file recipe chunk = with_pair recipe (file_number recipe.files file) (record { name = chunk; size = chunk_or 0 shape chunk })

abbrev pub with_list : Shape → RecipeValue → List ℕ × List (List ℕ) → RecipeValue
with_list shape recipe entry = fold (with_chunk_of shape entry.0) (with_file recipe entry.0) entry.1

-- the recipe of a volume: its files by name, each with its chunks by first appearance, and their lengths as sizes
abbrev pub recipe_of : Shape → RecipeValue
recipe_of shape = fold (with_list shape) empty_recipe (map.entries shape.files)
