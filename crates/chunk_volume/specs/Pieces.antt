-- Bytes of chunks, as they are read from a device.
use Rattle.std.specs.Prelude.{◌≡◌, ◌≢◌, ◌↔◌, ℕ, ◌+◌, ◌<◌, ⊤, true, false, List, length, take, drop, Some, Result, Ok, Err}
use Rattle.std.specs.FinMap as map
use Rattle.sha2.specs.Sha256.{sha256}
use Rattle.chunk_log.specs.declared.errors.LogError.{LogError}
use Rattle.chunk_log.specs.declared.errors.LogError.TheVariants.{RackFault as LogFault, Damage as LogDamage}
use Rattle.chunk_volume.specs.declared.errors.VolError.{VolError}
use Rattle.chunk_volume.specs.declared.errors.VolError.TheVariants.{RackFault, Damage, BadChunk, Collision, Exists, NoSuchFile, DeviceFull, Spent, Memory}
use Rattle.chunk_volume.specs.declared.reading.Compared.{Compared}
use Rattle.chunk_volume.specs.VolumeValues.{VolumeValue}

-- so many bytes of an image from a place on
abbrev pub bytes_at : List ℕ → ℕ → ℕ → List ℕ
bytes_at image at len = take len (drop at image)

-- bytes are judged by their digest
abbrev pub Judges : List ℕ → List ℕ → Result (Unit {0}) VolError → Type 0
Judges name bytes (Ok done) = sha256 bytes ≡ name
Judges name bytes (Err (BadChunk chunk found)) = (chunk ≡ name) × (found ≡ sha256 bytes) × (found ≢ name)
Judges name bytes (Err RackFault) = ⊥
Judges name bytes (Err (Damage device at)) = ⊥
Judges name bytes (Err (Collision chunk)) = ⊥
Judges name bytes (Err Exists) = ⊥
Judges name bytes (Err NoSuchFile) = ⊥
Judges name bytes (Err (DeviceFull device at len)) = ⊥
Judges name bytes (Err Spent) = ⊥
Judges name bytes (Err Memory) = ⊥

-- a chunk of a length and a name is read, on every rack
abbrev pub ReadsPiece : ℕ → ℕ → ℕ → List ℕ → List ℕ → Result (Unit {0}) VolError → Type 0
ReadsPiece device at len name piece (Ok done) = (length piece ≡ len) × (sha256 piece ≡ name)
ReadsPiece device at len name piece (Err (Damage dev place)) = (dev ≡ device) × (place ≡ at)
ReadsPiece device at len name piece (Err (BadChunk chunk found)) = (chunk ≡ name) × (found ≢ name)
ReadsPiece device at len name piece (Err RackFault) = ⊤
ReadsPiece device at len name piece (Err Memory) = ⊤
ReadsPiece device at len name piece (Err (Collision chunk)) = ⊥
ReadsPiece device at len name piece (Err Exists) = ⊥
ReadsPiece device at len name piece (Err NoSuchFile) = ⊥
ReadsPiece device at len name piece (Err (DeviceFull dev place n)) = ⊥
ReadsPiece device at len name piece (Err Spent) = ⊥

-- the same of an image
abbrev pub FindsPiece : List ℕ → ℕ → ℕ → List ℕ → Result (Unit {0}) VolError → Type 0
FindsPiece image at len piece (Ok done) = piece ≡ bytes_at image at len
FindsPiece image at len piece (Err (Damage dev place)) = length image < at + len
FindsPiece image at len piece (Err (BadChunk chunk found)) = found ≡ sha256 (bytes_at image at len)
FindsPiece image at len piece (Err RackFault) = ⊤
FindsPiece image at len piece (Err Memory) = ⊤
FindsPiece image at len piece (Err (Collision chunk)) = ⊤
FindsPiece image at len piece (Err Exists) = ⊤
FindsPiece image at len piece (Err NoSuchFile) = ⊤
FindsPiece image at len piece (Err (DeviceFull dev place n)) = ⊤
FindsPiece image at len piece (Err Spent) = ⊤

-- a chunk that a volume holds is read
pub record ReadsHeld (v : VolumeValue) (name piece : List ℕ) (result : Result (Unit {0}) VolError) : Type 0 where
  pub at : ℕ
  pub len : ℕ
  pub placed : map.get v.places name ≡ Some at
  pub long : map.get v.shape.chunks name ≡ Some len
  pub reads : ReadsPiece v.log.device at len name piece result

-- what a comparison says of bytes that are held under a name: the same, with another digest, or others with this digest
abbrev pub JudgesHeld : List ℕ → Compared → Result (Unit {0}) VolError → Type 0
JudgesHeld name c (Ok done) = c.is_same ≡ true
JudgesHeld name c (Err (BadChunk chunk found)) = (chunk ≡ name) × (found ≡ c.found) × (found ≢ name) × (c.is_same ≡ false)
JudgesHeld name c (Err (Collision chunk)) = (chunk ≡ name) × (c.found ≡ name) × (c.is_same ≡ false)
JudgesHeld name c (Err RackFault) = ⊥
JudgesHeld name c (Err (Damage device at)) = ⊥
JudgesHeld name c (Err Exists) = ⊥
JudgesHeld name c (Err NoSuchFile) = ⊥
JudgesHeld name c (Err (DeviceFull device at len)) = ⊥
JudgesHeld name c (Err Spent) = ⊥
JudgesHeld name c (Err Memory) = ⊥

-- bytes of an image compared with others
abbrev pub ComparesTo : List ℕ → ℕ → ℕ → ℕ → List ℕ → Result Compared LogError → Type 0
ComparesTo image device at len others (Ok c) = (c.found ≡ sha256 (bytes_at image at len)) × ((c.is_same ≡ true) ↔ (others ≡ bytes_at image at len))
ComparesTo image device at len others (Err (LogDamage dev place)) = length image < at + len
ComparesTo image device at len others (Err LogFault) = ⊤
