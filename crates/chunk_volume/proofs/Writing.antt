-- Records added to volumes on the disk.
use Rattle.std.specs.Result.{OnOk}
use Rattle.std.specs.FinMap.{contains_key}
use Rattle.std.proofs.Common.{◌≡◌, ℕ, ◌+◌, List, [], ◌∷◌, ◌++◌, length, Bool, true, Option, Some, None, Result, Ok, Err, refl, sym, ◌∙◌, ap, subst}
use Rattle.std.specs.Option.{option_map}
use Rattle.std.proofs.lemmas.Option.{none-some}
use Rattle.std.proofs.lemmas.Result.{on_ok_weaker}
use Rattle.volume_disk.specs.Medium.{at_rest}
use Rattle.volume_disk.specs.Disk.{Disk, Images, Crash, SameDisk}
use Rattle.volume_disk.proofs.Moments.{begins}
use Rattle.site_forms.specs.Halves.{Half, OneMoreAt, device}
use Rattle.site_forms.specs.Halves.Half.{First, Second}
use Rattle.site_forms.specs.Sites.{shape_of, HoldsChunk}
use Rattle.site_forms.specs.VolumeRecords.{VolumeRecord, IsVolumeRecord, volume_body}
use Rattle.site_forms.specs.VolumeRecords.VolumeRecord.{ChunkRecord}
use Rattle.site_forms.specs.Volumes.{Volume, Shape, volume_after, shape_after}
use Rattle.chunk_log.specs.Appending.{Appended, after_append}
use Rattle.chunk_log.specs.LogValues.{LogValue}
use Rattle.device_pieces.specs.Quiet.{Quiet}
use Rattle.chunk_log.specs.Standing.{LogStands, half_of}
use Rattle.chunk_log.proofs.Appended.{none_more}
use Rattle.chunk_volume.specs.declared.errors.VolError.{VolError}
use Rattle.chunk_volume.specs.declared.errors.VolError.TheVariants.{RackFault, Damage, BadChunk, Collision, Exists, NoSuchFile, DeviceFull, Spent, Memory}
use Rattle.chunk_volume.specs.Adding.{IsSame, IsAdded, IsRefused, AddsRecord, PutsChunkOn, FindsHeld, StandsAfter}
use Rattle.chunk_volume.specs.Standing.{Keeps, VolumeStands}
use Rattle.chunk_volume.specs.VolumeValues.{VolumeValue}
use Rattle.chunk_volume.proofs.Shapes.{same_held, shape_step}
use Rattle.chunk_volume.proofs.Standing.{no_half, volume_grown}
use Rattle.volume_index.specs.HoldingValues.{Places}

-- the device of a log that stands is at rest
by_half : (half : Half) (place : ℕ) (d : Disk) (image : List ℕ) → half_of half (d place) (d (place + 3)) ≡ at_rest image → d (device place half) ≡ at_rest image
by_half First place d image rest = rest
by_half Second place d image rest = rest

pub resting : (place : ℕ) (records : List (List ℕ)) (log : LogValue) (d : Disk) → (stands : LogStands place records log d) → d log.device ≡ at_rest stands.stands.image
resting place records log d stands = ap d stands.here ∙ by_half stands.half place d stands.stands.image stands.stands.rest

-- THE SAME VOLUME

-- with the same files, chunks, places and log it stands for the same
pub stands_same : (place : ℕ) (v w : VolumeValue) (volume : Volume) (d : Disk) → IsSame v w → VolumeStands place v d volume → VolumeStands place w d volume
stands_same place v w volume d same stands = record {
  records = stands.records;
  log = subst (λ (l : LogValue). LogStands place stands.records l d) (sym same.log) stands.log;
  folds = stands.folds;
  shape = same.shape ∙ stands.shape;
  bytes = subst (λ (l : LogValue). Keeps w.places (d l.device).image l.end volume) (sym same.log) (subst (λ (p : Places). Keeps p (d v.log.device).image v.log.end volume) (sym same.places) stands.bytes);
}

-- over a disk that reads the same it stands for the same
pub stands_quiet : (place : ℕ) (v : VolumeValue) (volume : Volume) (d e : Disk) → SameDisk d e → VolumeStands place v d volume → VolumeStands place v e volume
stands_quiet place v volume d e same stands = subst (λ (x : Disk). VolumeStands place v x volume) (λ i k. sym (same k) i) stands

-- ONE RECORD MORE

some_shape : (o : Option Volume) (shape : Shape) → option_map shape_of o ≡ Some shape → (after : Volume) × (o ≡ Some after)
some_shape None shape is = absurd (none-some shape is)
some_shape (Some after) shape is = (after, refl)

-- a record that folds onto the shape folds onto the volume
pub folded_after : (v w : VolumeValue) (volume : Volume) (r : VolumeRecord) → v.shape ≡ shape_of volume → shape_after v.shape r ≡ Some w.shape → (after : Volume) × (volume_after volume r ≡ Some after)
folded_after v w volume r shape is = some_shape (volume_after volume r) w.shape (sym (shape_step volume r) ∙ ap (λ (s : Shape). shape_after s r) (sym shape) ∙ is)

module _ {D : Type 0} (disk : D → Disk) (moment : D → ℕ) (left_since : D → ℕ → Images → Type 0) (old new : D) (d e : Disk) (v w : VolumeValue) (r : VolumeRecord) (lawful : IsVolumeRecord r) where
  -- once its body is appended the volume with it stands
  pub added_stands : {E : Type 0} (after : LogValue) (at : ℕ) → after ≡ after_append v.log (length (volume_body r)) → IsAdded v w r → Appended {E = E} disk moment left_since old new d e v.log after (volume_body r) (Ok at)
      → (place : ℕ) (volume : Volume) → VolumeStands place v d volume → StandsAfter place w e volume r
  added_stands after at grown added appended place volume stands =
      let next = folded_after v w volume r stands.shape added.shape in
      let rest = resting place stands.records v.log d stands.log in
      let log : LogStands place (stands.records ++ volume_body r ∷ []) (after_append v.log (length (volume_body r))) e =
      subst (λ (l : LogValue). LogStands place (stands.records ++ volume_body r ∷ []) l e) grown (appended.kept place stands.records (no_half r) stands.log) in
      (next.0, next.1, volume_grown place v w volume next.0 r d e stands.log.stands.image lawful next.1 stands added log rest stands.log.stands.log.gate (appended.image stands.log.stands.image rest))

  pub adds_ok : {T E : Type 0} (after : LogValue) (at : ℕ) (done : T) → after ≡ after_append v.log (length (volume_body r)) → IsAdded v w r → Appended {E = E} disk moment left_since old new d e v.log after (volume_body r) (Ok at)
      → AddsRecord moment left_since old new d e v w r (Ok done)
  adds_ok after at done grown added appended = record {
    others = appended.others;
    added = added_stands after at grown added appended;
    kept = λ place volume stands refused. absurd refused;
    alone = λ refused. absurd refused;
    moments = λ place volume stands. appended.moments place stands.records (no_half r) stands.log;
  }

  -- a fault
  pub adds_fault : {T E : Type 0} (after : LogValue) (error : E) → Appended disk moment left_since old new d e v.log after (volume_body r) (Err error) → AddsRecord moment left_since old new d e v w {T = T} r (Err RackFault)
  adds_fault after error appended = record {
    others = appended.others;
    added = λ place volume stands. tt;
    kept = λ place volume stands refused. absurd refused;
    alone = λ refused. absurd refused;
    moments = λ place volume stands. appended.moments place stands.records (no_half r) stands.log;
  }

-- a refusal before any call of the rack
pub adds_refused : {D T : Type 0} (moment : D → ℕ) (left_since : D → ℕ → Images → Type 0) (old : D) (d : Disk) (v w : VolumeValue) (r : VolumeRecord) (error : VolError) → ((c : Images) → left_since old (moment old) c → Crash d c) → IsSame v w
    → AddsRecord moment left_since old old d d v w {T = T} r (Err error)
adds_refused moment left_since old d v w r error only_now same = record {
  others = λ other out. refl;
  added = λ place volume stands. tt;
  kept = λ place volume stands refused. stands_same place v w volume d same stands;
  alone = λ refused. refl;
  moments = λ place volume stands.
      begins moment left_since old (λ c. (b : Images) × Crash d b × OneMoreAt place (volume_body r) b c)
      (λ c left. let crash = only_now c left in (c, crash, none_more place stands.records v.log d (volume_body r) c stands.log crash));
}

-- A CHUNK, LACKING OR HELD

-- a chunk is held by the volume exactly where its shape holds it
pub held_shape : (place : ℕ) (v : VolumeValue) (volume : Volume) (d : Disk) (name : List ℕ) → VolumeStands place v d volume → HoldsChunk volume name → HoldsChunk v.shape name
held_shape place v volume d name stands held = ap (λ (s : Shape). contains_key s.chunks name) stands.shape ∙ same_held volume name ∙ held

-- a refusal that is no fault is one whatever would have been answered
pub told_refused : (error : VolError) → IsRefused {T = Bool} (Err error) → IsRefused {T = Unit {0}} (Err error)
told_refused RackFault refused = absurd refused
told_refused (Damage device at) refused = tt
told_refused (BadChunk chunk found) refused = tt
told_refused (Collision chunk) refused = tt
told_refused Exists refused = tt
told_refused NoSuchFile refused = tt
told_refused (DeviceFull device at len) refused = tt
told_refused Spent refused = tt
told_refused Memory refused = tt

module _ {D : Type 0} (moment : D → ℕ) (left_since : D → ℕ → Images → Type 0) (old new : D) (d e : Disk) (v w : VolumeValue) (name bytes : List ℕ) where
  pub puts_new : ¬ HoldsChunk v.shape name → AddsRecord moment left_since old new d e v w {T = Unit {0}} (ChunkRecord name bytes) (Ok tt) → PutsChunkOn moment left_since old new d e v w name bytes (Ok true)
  puts_new lacking adds = record {
    others = adds.others;
    quiet = λ held. absurd (lacking held);
    added = λ place volume stands _. adds.added place volume stands;
    held = λ place volume stands held _. absurd (lacking (held_shape place v volume d name stands held));
    kept = λ place volume stands refused. absurd refused;
    alone = λ _ refused. absurd refused;
    moments = λ place volume stands _. adds.moments place volume stands;
  }

  pub puts_refused : (error : VolError) → ¬ HoldsChunk v.shape name → AddsRecord moment left_since old new d e v w {T = Unit {0}} (ChunkRecord name bytes) (Err error) → PutsChunkOn moment left_since old new d e v w name bytes (Err error)
  puts_refused error lacking adds = record {
    others = adds.others;
    quiet = λ held. absurd (lacking held);
    added = λ place volume stands _. tt;
    held = λ place volume stands held _. absurd (lacking (held_shape place v volume d name stands held));
    kept = λ place volume stands refused. adds.kept place volume stands (told_refused error refused);
    alone = λ _ refused. adds.alone (told_refused error refused);
    moments = λ place volume stands _. adds.moments place volume stands;
  }

-- a chunk that is held is compared, and nothing changes
pub puts_compared : {D : Type 0} (moment : D → ℕ) (left_since : D → ℕ → Images → Type 0) (old new : D) (d e : Disk) (v w : VolumeValue) (name bytes : List ℕ) (result : Result Bool VolError) → HoldsChunk v.shape name → (IsRefused result → w ≡ v) → OnOk result (w ≡ v)
    → Quiet moment left_since old new d e → ((place : ℕ) (volume : Volume) → VolumeStands place v d volume → FindsHeld volume name bytes result) → PutsChunkOn moment left_since old new d e v w name bytes result
puts_compared moment left_since old new d e v w name bytes result held refused_same ok_same quiet finds =
    let holds : (place : ℕ) (volume : Volume) → VolumeStands place v d volume → HoldsChunk volume name = λ place volume stands.
    sym (same_held volume name) ∙ ap (λ (s : Shape). contains_key s.chunks name) (sym stands.shape) ∙ held in
    let stays : (place : ℕ) (volume : Volume) → VolumeStands place v d volume → w ≡ v → VolumeStands place w e volume = λ place volume stands same.
    subst (λ (x : VolumeValue). VolumeStands place x e volume) (sym same) (stands_quiet place v volume d e quiet.same stands) in
    record {
      others = λ other out. quiet.same other;
      quiet = λ _. quiet;
      added = λ place volume stands lacking. absurd (lacking (holds place volume stands));
      held = λ place volume stands _ _. (finds place volume stands, on_ok_weaker result (stays place volume stands) ok_same);
      kept = λ place volume stands refused. stays place volume stands (refused_same refused);
      alone = λ lacking. absurd (lacking held);
      moments = λ place volume stands lacking. absurd (lacking (holds place volume stands));
    }
