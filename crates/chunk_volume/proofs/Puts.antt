-- What the calls that write answer, by what they found.
use Rattle.std.proofs.Common.{◌≡◌, ℕ, ◌≤◌, ◌<◌, List, length, Bool, true, false, Some, None, Result, Ok, Err, refl, sym, ◌∙◌, ap, arith}
use Rattle.std.specs.Prelude.{slice_get, not, nat_le, if◌then◌else◌}
use Rattle.std.specs.FinMap as map
use Rattle.std.proofs.lemmas.Bool.{true≢false, false_from_ne_true, and_from, le-leb}
use Rattle.std.proofs.lemmas.Option.{slice_get_within}
use Rattle.file_names.specs.FileNames.{IsFileName}
use Rattle.volume_disk.specs.Disk.{Disk, Images, Crash}
use Rattle.site_forms.specs.Names.{is_name}
use Rattle.site_forms.specs.Sites.{HoldsChunk, HoldsFile}
use Rattle.site_forms.specs.VolumeRecords.{VolumeRecord}
use Rattle.site_forms.specs.Volumes.{Files, Volume, Shape, chunk_or, holds_all, keeps_limits, may_add_file, may_drop_chunk, shape_after, with_file, without_file, without_chunk, with_chunk}
use Rattle.site_forms.specs.VolumeRecords.VolumeRecord.{ChunkRecord, FileRecord, DropFileRecord, DropChunkRecord}
use Rattle.site_forms.proofs.NameTests.{name_test}
use Rattle.device_pieces.proofs.Quiets.{quiet_begins}
use Rattle.chunk_volume.specs.declared.errors.VolError.{VolError}
use Rattle.chunk_volume.specs.declared.errors.VolError.TheVariants.{RackFault, Damage, BadChunk, Collision, Exists, NoSuchFile, DeviceFull, Spent, Memory}
use Rattle.chunk_volume.specs.Adding.{IsSame, IsRefused, Adds, Compares, ComparesChunk, FindsHeld, PutsChunk, PutsFile, DropsFile, DropsChunk, PutsChunkOn}
use Rattle.chunk_volume.specs.VolumeValues.{VolumeValue}
use Rattle.volume_index.proofs.Ranks.{count_keys}

-- a volume is the same as itself
pub same_itself : (v : VolumeValue) → IsSame v v
same_itself v = record { shape = refl; places = refl; log = refl; room = record { chunks = omega arith; files = omega arith; body = omega arith } }

-- a refusal is one whatever would have been answered
pub adds_any : (S T : Type 0) (v w : VolumeValue) (r : VolumeRecord) (error : VolError) → Adds {T = S} v w r (Err error) → Adds {T = T} v w r (Err error)
adds_any S T v w r RackFault adds = adds
adds_any S T v w r (Damage device at) adds = adds
adds_any S T v w r (BadChunk name found) adds = adds
adds_any S T v w r (Collision name) adds = adds
adds_any S T v w r Exists adds = adds
adds_any S T v w r NoSuchFile adds = adds
adds_any S T v w r (DeviceFull device at len) adds = adds
adds_any S T v w r Spent adds = adds
adds_any S T v w r Memory adds = adds

-- A VOLUME THAT IS SPENT

never : (v : VolumeValue) {P : Type 0} → v.log.spent ≡ true → v.log.spent ≡ false → P
never v spent fresh = absurd (true≢false (sym spent ∙ fresh))

pub puts_chunk_spent : (v : VolumeValue) (name bytes : List ℕ) → v.log.spent ≡ true → PutsChunk v v name bytes (Err Spent)
puts_chunk_spent v name bytes spent = record { spent = λ _. (refl, refl); held = λ fresh _. never v spent fresh; lacking = λ fresh _. never v spent fresh }

pub puts_file_spent : (v : VolumeValue) (name : List ℕ) (list : List (List ℕ)) → v.log.spent ≡ true → PutsFile v v name list (Err Spent)
puts_file_spent v name list spent = record { spent = λ _. (refl, refl); held = λ fresh _. never v spent fresh; lacking = λ fresh _. never v spent fresh }

pub drops_file_spent : (v : VolumeValue) (name : List ℕ) → v.log.spent ≡ true → DropsFile v v name (Err Spent)
drops_file_spent v name spent = record { spent = λ _. (refl, refl); held = λ fresh _. never v spent fresh; lacking = λ fresh _. never v spent fresh }

pub drops_chunk_spent : (v : VolumeValue) (name : List ℕ) → v.log.spent ≡ true → DropsChunk v v name (Err Spent)
drops_chunk_spent v name spent = record { spent = λ _. (refl, refl); held = λ fresh. never v spent fresh }

pub puts_spent : {D : Type 0} (moment : D → ℕ) (left_since : D → ℕ → Images → Type 0) (old : D) (d : Disk) (v : VolumeValue) (name bytes : List ℕ) → ((c : Images) → left_since old (moment old) c → Crash d c) → v.log.spent ≡ true
    → PutsChunkOn moment left_since old old d d v v name bytes (Err Spent)
puts_spent moment left_since old d v name bytes only_now spent = record {
  others = λ other out. refl;
  quiet = λ held. quiet_begins moment left_since old d only_now;
  added = λ place volume stands _. tt;
  held = λ place volume stands _ fresh. never v spent fresh;
  kept = λ place volume stands _. stands;
  alone = λ _ _. refl;
  moments = λ place volume stands _. never v spent stands.log.fresh;
}

-- A CHUNK THAT IS HELD

pub compared_same : (error : VolError) (v w : VolumeValue) (name bytes : List ℕ) → Compares {T = Unit {0}} v w name bytes (Err error) → IsRefused {T = Unit {0}} (Err error) → w ≡ v
compared_same RackFault v w name bytes compares refused = absurd refused
compared_same (Damage device at) v w name bytes compares refused = compares.2
compared_same (BadChunk chunk found) v w name bytes compares refused = compares.2
compared_same (Collision chunk) v w name bytes compares refused = compares.1
compared_same Exists v w name bytes compares refused = absurd compares
compared_same NoSuchFile v w name bytes compares refused = absurd compares
compared_same (DeviceFull device at len) v w name bytes compares refused = absurd compares
compared_same Spent v w name bytes compares refused = absurd compares
compared_same Memory v w name bytes compares refused = absurd compares

-- a refusal is one whatever would have been answered
compares_any : (S T : Type 0) (v w : VolumeValue) (name bytes : List ℕ) (error : VolError) → Compares {T = S} v w name bytes (Err error) → Compares {T = T} v w name bytes (Err error)
compares_any S T v w name bytes RackFault compares = compares
compares_any S T v w name bytes (Damage device at) compares = compares
compares_any S T v w name bytes (BadChunk chunk found) compares = compares
compares_any S T v w name bytes (Collision chunk) compares = compares
compares_any S T v w name bytes Exists compares = compares
compares_any S T v w name bytes NoSuchFile compares = compares
compares_any S T v w name bytes (DeviceFull device at len) compares = compares
compares_any S T v w name bytes Spent compares = compares
compares_any S T v w name bytes Memory compares = compares

pub finds_any : (S T : Type 0) (volume : Volume) (name bytes : List ℕ) (error : VolError) → FindsHeld {T = S} volume name bytes (Err error) → FindsHeld {T = T} volume name bytes (Err error)
finds_any S T volume name bytes RackFault finds = finds
finds_any S T volume name bytes (Damage device at) finds = finds
finds_any S T volume name bytes (BadChunk chunk found) finds = finds
finds_any S T volume name bytes (Collision chunk) finds = finds
finds_any S T volume name bytes Exists finds = finds
finds_any S T volume name bytes NoSuchFile finds = finds
finds_any S T volume name bytes (DeviceFull device at len) finds = finds
finds_any S T volume name bytes Spent finds = finds
finds_any S T volume name bytes Memory finds = finds

pub puts_held : (v w : VolumeValue) (name bytes : List ℕ) → v.log.spent ≡ false → HoldsChunk v.shape name → Compares {T = Unit {0}} v w name bytes (Ok tt) → PutsChunk v w name bytes (Ok false)
puts_held v w name bytes fresh held compares = record { spent = λ spent. never v spent fresh; held = λ _ _. (compares, refl); lacking = λ _ lacking. absurd (lacking held) }

pub puts_not_held : (v w : VolumeValue) (name bytes : List ℕ) (error : VolError) → v.log.spent ≡ false → HoldsChunk v.shape name → Compares {T = Unit {0}} v w name bytes (Err error) → PutsChunk v w name bytes (Err error)
puts_not_held v w name bytes error fresh held compares =
    record { spent = λ spent. never v spent fresh; held = λ _ _. (compares_any (Unit {0}) Bool v w name bytes error compares, tt); lacking = λ _ lacking. absurd (lacking held) }

-- a comparison by itself
pub compares_spent : (v : VolumeValue) (name bytes : List ℕ) → v.log.spent ≡ true → ComparesChunk v v name bytes (Err Spent)
compares_spent v name bytes spent = record { spent = λ _. (refl, refl); fresh = λ fresh. never v spent fresh }

pub compares_fresh : (v w : VolumeValue) (name bytes : List ℕ) (result : Result (Unit {0}) VolError) → v.log.spent ≡ false → Compares v w name bytes result → ComparesChunk v w name bytes result
compares_fresh v w name bytes result fresh compares = record { spent = λ spent. never v spent fresh; fresh = λ _. compares }

-- A CHUNK THAT IS LACKING

pub puts_added : (v w : VolumeValue) (name bytes : List ℕ) → v.log.spent ≡ false → ¬ HoldsChunk v.shape name → Adds {T = Unit {0}} v w (ChunkRecord name bytes) (Ok tt) → PutsChunk v w name bytes (Ok true)
puts_added v w name bytes fresh lacking adds = record { spent = λ spent. never v spent fresh; held = λ _ held. absurd (lacking held); lacking = λ _ _. (adds, refl) }

pub puts_not_added : (v w : VolumeValue) (name bytes : List ℕ) (error : VolError) → v.log.spent ≡ false → ¬ HoldsChunk v.shape name → Adds {T = Unit {0}} v w (ChunkRecord name bytes) (Err error) → PutsChunk v w name bytes (Err error)
puts_not_added v w name bytes error fresh lacking adds =
    record { spent = λ spent. never v spent fresh; held = λ _ held. absurd (lacking held); lacking = λ _ _. (adds_any (Unit {0}) Bool v w (ChunkRecord name bytes) error adds, tt) }

-- FILES

pub place_inside : (files : Files) (place : ℕ) (name : List ℕ) → slice_get (map.keys files) place ≡ Some name → place < map.len files
place_inside files place name at = omega (arith, slice_get_within (map.keys files) place name at, count_keys files)

pub may_put : (shape : Shape) (name : List ℕ) (list : List (List ℕ)) → IsFileName name → map.contains_key shape.files name ≡ false → holds_all shape list ≡ true → length list ≤ 524279
    → keeps_limits (λ chunk. chunk_or 0 shape chunk) (map.insert shape.files name list) ≡ true → may_add_file (λ n. n) 0 shape name list ≡ true
may_put shape name list lawful lacking held short limits =
    and_from (is_name name) _ ((name_test name).1 lawful)
    (and_from (not (map.contains_key shape.files name)) _ (ap not lacking)
    (and_from (holds_all shape list) _ held (and_from (nat_le (length list) 524279) _ (le-leb (length list) 524279 short) limits)))

pub puts_file_held : (v : VolumeValue) (name : List ℕ) (list : List (List ℕ)) → v.log.spent ≡ false → HoldsFile v.shape name → PutsFile v v name list (Err Exists)
puts_file_held v name list fresh held = record { spent = λ spent. never v spent fresh; held = λ _ _. (refl, refl); lacking = λ _ lacking. absurd (lacking held) }

pub puts_file_lacking : (v w : VolumeValue) (name : List ℕ) (list : List (List ℕ)) (result : Result (Unit {0}) VolError) → v.log.spent ≡ false → ¬ HoldsFile v.shape name → Adds v w (FileRecord name list) result → PutsFile v w name list result
puts_file_lacking v w name list result fresh lacking adds = record { spent = λ spent. never v spent fresh; held = λ _ held. absurd (lacking held); lacking = λ _ _. adds }

pub drops_file_held : (v w : VolumeValue) (name : List ℕ) (result : Result (Unit {0}) VolError) → v.log.spent ≡ false → HoldsFile v.shape name → Adds v w (DropFileRecord name) result → DropsFile v w name result
drops_file_held v w name result fresh held adds = record { spent = λ spent. never v spent fresh; held = λ _ _. adds; lacking = λ _ lacking. absurd (lacking held) }

pub drops_file_lacking : (v : VolumeValue) (name : List ℕ) → v.log.spent ≡ false → ¬ HoldsFile v.shape name → DropsFile v v name (Err NoSuchFile)
drops_file_lacking v name fresh lacking = record { spent = λ spent. never v spent fresh; held = λ _ held. absurd (lacking held); lacking = λ _ _. (refl, refl) }

pub drops_chunk : (v w : VolumeValue) (name : List ℕ) (result : Result (Unit {0}) VolError) → v.log.spent ≡ false → Adds v w (DropChunkRecord name) result → DropsChunk v w name result
drops_chunk v w name result fresh adds = record { spent = λ spent. never v spent fresh; held = λ _. adds }

-- WHAT A RECORD DOES TO THE SHAPE

pub chunk_folds : (shape : Shape) (name bytes : List ℕ) → ¬ HoldsChunk shape name → shape_after shape (ChunkRecord name bytes) ≡ Some (with_chunk shape name (length bytes))
chunk_folds shape name bytes lacking = ap (λ (b : Bool). if b then None else Some (with_chunk shape name (length bytes))) (false_from_ne_true (map.contains_key shape.chunks name) lacking)

pub file_folds : (shape : Shape) (name : List ℕ) (list : List (List ℕ)) → may_add_file (λ n. n) 0 shape name list ≡ true → shape_after shape (FileRecord name list) ≡ Some (with_file shape name list)
file_folds shape name list may = ap (λ (b : Bool). if b then Some (with_file shape name list) else None) may

pub drop_file_folds : (shape : Shape) (name : List ℕ) → HoldsFile shape name → shape_after shape (DropFileRecord name) ≡ Some (without_file shape name)
drop_file_folds shape name held = ap (λ (b : Bool). if b then Some (without_file shape name) else None) held

pub drop_chunk_folds : (shape : Shape) (name : List ℕ) → may_drop_chunk shape name ≡ true → shape_after shape (DropChunkRecord name) ≡ Some (without_chunk shape name)
drop_chunk_folds shape name may = ap (λ (b : Bool). if b then Some (without_chunk shape name) else None) may
