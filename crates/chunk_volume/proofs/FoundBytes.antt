-- Bytes of chunks that are read from the device of a volume that stands.
use Rattle.std.proofs.Common.{◌≡◌, ℕ, ◌+◌, ◌≤◌, List, length, take, drop, Bool, true, false, Option, Some, None, Result, Ok, Err, Vec, refl, sym, ◌∙◌, ap, arith}
use Rattle.std.specs.Prelude.{is_some, ◌↔◌}
use Rattle.std.specs.Option.{option_map}
use Rattle.std.specs.FinMap as map
use Rattle.std.specs.declared.alloc.Global.{Global}
use Rattle.std.proofs.lemmas.Bool.{true≢false}
use Rattle.std.proofs.lemmas.Option.{none-some}
use Rattle.sha2.specs.Sha256.{sha256}
use Rattle.volume_disk.specs.Disk.{Disk}
use Rattle.volume_disk.specs.Medium.{Medium}
use Rattle.site_forms.specs.Volumes.{Volume, Shape}
use Rattle.chunk_volume.specs.declared.errors.VolError.{VolError}
use Rattle.chunk_volume.specs.declared.errors.VolError.TheVariants.{RackFault, Damage, BadChunk, Collision, Exists, NoSuchFile, DeviceFull, Spent, Memory}
use Rattle.chunk_volume.specs.declared.reading.Compared.{Compared}
use Rattle.chunk_volume.specs.Adding.{FindsHeld}
use Rattle.chunk_volume.specs.Pieces.{bytes_at, ReadsPiece, FindsPiece, ReadsHeld, JudgesHeld}
use Rattle.chunk_volume.specs.ReadingVolumes.{HasBytes, ReadsChunk, FindsChunk}
use Rattle.chunk_volume.specs.Standing.{VolumeStands}
use Rattle.chunk_volume.specs.VolumeValues.{VolumeValue}
use Rattle.chunk_volume.proofs.Writing.{resting}
use Rattle.volume_index.specs.declared.index.Extent.{Extent}
use Rattle.volume_index.proofs.MapValues.{get-map_values}

some_same : {X : Type 0} (x y : X) → Some x ≡ Some y → x ≡ y
some_same x y is = cc

-- the value behind a length
behind_length : (o : Option (List ℕ)) (len : ℕ) → option_map length o ≡ Some len → (bytes : List ℕ) × (o ≡ Some bytes) × (length bytes ≡ len)
behind_length None len is = absurd (none-some len is)
behind_length (Some bytes) len is = (bytes, refl, some_same (length bytes) len is)

-- what a volume in memory says of a chunk is true of the disk that it stands for
pub record Stored (d : Disk) (v : VolumeValue) (volume : Volume) (name : List ℕ) (at len : ℕ) : Type 0 where
  pub bytes : List ℕ
  pub held : HasBytes volume name bytes
  pub same : bytes_at (d v.log.device).image at len ≡ bytes
  pub inside : at + len ≤ length (d v.log.device).image

pub stored : (place : ℕ) (v : VolumeValue) (d : Disk) (volume : Volume) (name : List ℕ) (at len : ℕ) → VolumeStands place v d volume → map.get v.places name ≡ Some at → map.get v.shape.chunks name ≡ Some len → Stored d v volume name at len
stored place v d volume name at len stands is_at is_len =
    let chunk = behind_length (map.get volume.chunks name) len (sym (get-map_values length volume.chunks name) ∙ ap (λ (s : Shape). map.get s.chunks name) (sym stands.shape) ∙ is_len) in
    let kept = stands.bytes name chunk.0 chunk.1 in
    let here : kept.0 ≡ at = some_same kept.0 at (sym kept.1 ∙ is_at) in
    let rest = resting place stands.records v.log d stands.log in
    record {
      bytes = chunk.0;
      held = chunk.1;
      same = (λ i. take (sym chunk.2 i) (drop (sym here i) (d v.log.device).image)) ∙ kept.2.same;
      inside = omega (arith, kept.2.within, here, chunk.2, stands.log.stands.log.gate, ap (λ (m : Medium). length m.image) rest);
    }

-- a chunk is refused as the disk says
pub found_err : (device at len : ℕ) (name piece : List ℕ) (d : Disk) (v : VolumeValue) (volume : Volume) (error : VolError) → Stored d v volume name at len → FindsPiece (d v.log.device).image at len piece (Err error)
    → ReadsPiece device at len name piece (Err error) → FindsChunk volume name (Err error)
found_err device at len name piece d v volume RackFault has finds reads = tt
found_err device at len name piece d v volume (Damage dev place) has finds reads = absurd (omega (arith, finds, has.inside))
found_err device at len name piece d v volume (BadChunk chunk found) has finds reads = (has.bytes, has.held, ap sha256 (sym has.same) ∙ sym finds, reads.1)
found_err device at len name piece d v volume (Collision chunk) has finds reads = tt
found_err device at len name piece d v volume Exists has finds reads = tt
found_err device at len name piece d v volume NoSuchFile has finds reads = tt
found_err device at len name piece d v volume (DeviceFull dev place n) has finds reads = tt
found_err device at len name piece d v volume Spent has finds reads = tt
found_err device at len name piece d v volume Memory has finds reads = tt

pub found_ok : (at len : ℕ) (name : List ℕ) (bytes : Vec ℕ Global) (d : Disk) (v : VolumeValue) (volume : Volume) → Stored d v volume name at len → bytes.items ≡ bytes_at (d v.log.device).image at len → FindsChunk volume name (Ok bytes)
found_ok at len name bytes d v volume has is = has.held ∙ ap Some (sym (is ∙ has.same))

-- A CHUNK THAT IS READ

pub held_extent : {X : Type 0} (f : Extent → X) (o : Option Extent) (held : Option X) → option_map f o ≡ held → is_some held ≡ true → is_some o ≡ true
held_extent f None held same some = absurd (true≢false (sym some ∙ ap is_some (sym same)))
held_extent f (Some extent) held same some = refl

pub read_value : (v : VolumeValue) (name : List ℕ) (bytes : Vec ℕ Global) → ReadsHeld v name bytes.items (Ok tt) → ReadsChunk v name (Ok bytes)
read_value v name bytes held = (held.reads.1, held.long ∙ ap Some (sym held.reads.0))

pub read_refused : (v : VolumeValue) (name piece : List ℕ) (error : VolError) → ReadsHeld v name piece (Err error) → ReadsChunk v name (Err error)
read_refused v name piece RackFault held = tt
read_refused v name piece (Damage device at) held = (held.reads.0, held.placed ∙ ap Some (sym held.reads.1))
read_refused v name piece (BadChunk chunk found) held = held.reads
read_refused v name piece (Collision chunk) held = absurd held.reads
read_refused v name piece Exists held = absurd held.reads
read_refused v name piece NoSuchFile held = absurd held.reads
read_refused v name piece (DeviceFull device at len) held = absurd held.reads
read_refused v name piece Spent held = absurd held.reads
read_refused v name piece Memory held = tt

-- A COMPARISON

never_same : (b : Bool) → b ≡ false → b ≡ true → ⊥
never_same b off on = true≢false (sym on ∙ off)

pub held_found : (at len : ℕ) (name others : List ℕ) (d : Disk) (v : VolumeValue) (volume : Volume) (c : Compared) (result : Result (Unit {0}) VolError) → Stored d v volume name at len → c.found ≡ sha256 (bytes_at (d v.log.device).image at len)
    → (c.is_same ≡ true) ↔ (others ≡ bytes_at (d v.log.device).image at len) → JudgesHeld name c result → FindsHeld volume name others result
held_found at len name others d v volume c (Ok done) has digest same judges = has.held ∙ ap Some (sym has.same ∙ sym (same.0 judges))
held_found at len name others d v volume c (Err (BadChunk chunk found)) has digest same judges = (has.bytes, has.held, ap sha256 (sym has.same) ∙ sym digest ∙ sym judges.1)
held_found at len name others d v volume c (Err (Collision chunk)) has digest same judges =
    (has.bytes, has.held, ap sha256 (sym has.same) ∙ sym digest ∙ judges.1, λ is. never_same c.is_same judges.2 (same.1 (sym is ∙ sym has.same)))
held_found at len name others d v volume c (Err RackFault) has digest same judges = tt
held_found at len name others d v volume c (Err (Damage device place)) has digest same judges = absurd judges
held_found at len name others d v volume c (Err Exists) has digest same judges = tt
held_found at len name others d v volume c (Err NoSuchFile) has digest same judges = tt
held_found at len name others d v volume c (Err (DeviceFull device place n)) has digest same judges = tt
held_found at len name others d v volume c (Err Spent) has digest same judges = tt
held_found at len name others d v volume c (Err Memory) has digest same judges = tt
