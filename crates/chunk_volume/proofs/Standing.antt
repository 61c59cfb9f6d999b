-- Volumes that stand for places.
use Rattle.std.proofs.Common.{◌≡◌, ◌≢◌, ◌⊎◌, inl, inr, ⊎_elim, ℕ, ◌+◌, ◌≤◌, ◌<◌, List, [], ◌∷◌, ◌++◌, length, Bool, true, false, Some, refl, sym, ◌∙◌, ap, subst, arith}
use Rattle.std.specs.Prelude.{◌==◌, ◌&&◌, if◌then◌else◌}
use Rattle.std.specs.Option.{option_and_then, option_map}
use Rattle.volume_disk.specs.Medium.{Medium, IsAtRest, at_rest}
use Rattle.volume_disk.specs.Disk.{Disk, Images, Crash, SameElsewhere}
use Rattle.site_forms.specs.Halves.{Half, device, half_number, OneMoreAt}
use Rattle.site_forms.specs.Halves.Half.{First, Second}
use Rattle.site_forms.specs.Sites.{shape_of, volume_at}
use Rattle.site_forms.specs.VolumeRecords.{VolumeRecord, IsVolumeRecord, volume_body}
use Rattle.site_forms.specs.VolumeRecords.VolumeRecord.{ChunkRecord, FileRecord, DropFileRecord, DropChunkRecord}
use Rattle.site_forms.specs.Volumes.{Volume, Shape, empty_volume, volume_of, volume_step, volume_after, shape_after}
use Rattle.site_forms.proofs.Folds.{fold_more}
use Rattle.site_forms.proofs.Records.{volume_read}
use Rattle.chunk_log.specs.Appending.{after_append}
use Rattle.chunk_log.specs.Bodies.{with_block}
use Rattle.chunk_log.specs.LogValues.{LogValue}
use Rattle.chunk_log.specs.PlaceHalves.{SameOutside}
use Rattle.chunk_log.specs.Standing.{LogStands}
use Rattle.chunk_log.proofs.Appended.{log_settled}
use Rattle.chunk_log.proofs.Appends.{stands_beside}
use Rattle.chunk_log.proofs.Beside.{apart_from}
use Rattle.chunk_log.proofs.HalfFound.{stands_outside}
use Rattle.chunk_log.proofs.Resting.{log_rests, stands_steps}
use Rattle.chunk_volume.specs.Adding.{IsAdded, places_after}
use Rattle.chunk_volume.specs.Standing.{Keeps, VolumeStands}
use Rattle.chunk_volume.specs.VolumeValues.{VolumeValue}
use Rattle.volume_index.specs.HoldingValues.{Places}
use Rattle.chunk_volume.proofs.Keeping.{keeps_after}
use Rattle.chunk_volume.proofs.Shapes.{shape_step}

-- whatever a crash leaves of the place, it says this volume
pub volume_settled : (place : ℕ) (v : VolumeValue) (volume : Volume) (d : Disk) (c : Images) → VolumeStands place v d volume → Crash d c → volume_at c place ≡ Some volume
volume_settled place v volume d c stands crash = ap (option_and_then volume_of) (log_settled place stands.records v.log d c stands.log crash) ∙ stands.folds

-- nothing is pending on the device of its log
pub volume_rests : (place : ℕ) (v : VolumeValue) (volume : Volume) (d : Disk) → VolumeStands place v d volume → IsAtRest (d v.log.device)
volume_rests place v volume d stands = log_rests place stands.records v.log d stands.log

-- A VOLUME OVER CALLS ELSEWHERE

half_apart : (half : Half) (other dev mine : ℕ) → mine ≡ device other half → (other ≢ dev) × (other + 3 ≢ dev) → mine ≢ dev
half_apart First other dev mine is apart same = apart.0 (sym is ∙ same)
half_apart Second other dev mine is apart same = apart.1 (sym is ∙ same)

outside_apart : (half : Half) (place other mine : ℕ) → place ≤ 2 → other ≤ 2 → other ≢ place → mine ≡ device other half → (mine ≢ place) × (mine ≢ place + 3)
outside_apart First place other mine is_place is_other apart is = (λ same. apart (sym is ∙ same), λ same. omega (arith, is, same, is_other))
outside_apart Second place other mine is_place is_other apart is = (λ same. omega (arith, is, same, is_place), λ same. apart (omega (arith, is, same)))

-- with the same device, the same volume
stands_on : (place : ℕ) (v : VolumeValue) (volume : Volume) (d e : Disk) → (stands : VolumeStands place v d volume) → LogStands place stands.records v.log e → e v.log.device ≡ d v.log.device → VolumeStands place v e volume
stands_on place v volume d e stands log same = record {
  records = stands.records;
  log = log;
  folds = stands.folds;
  shape = stands.shape;
  bytes = subst (λ (m : Medium). Keeps v.places m.image v.log.end volume) (sym same) stands.bytes;
}

pub volume_outside : (place other : ℕ) (v : VolumeValue) (volume : Volume) (d e : Disk) → place ≤ 2 → other ≢ place → SameOutside place d e → VolumeStands other v d volume → VolumeStands other v e volume
volume_outside place other v volume d e is_place apart same stands =
    let free = outside_apart stands.log.half place other v.log.device is_place stands.log.is_place apart stands.log.here in
    stands_on other v volume d e stands (stands_outside place other stands.records v.log d e is_place apart same stands.log) (same v.log.device free.0 free.1)

pub volume_beside : (place other : ℕ) (log : LogValue) (records : List (List ℕ)) (v : VolumeValue) (volume : Volume) (d e : Disk) → other ≢ place → LogStands place records log d → VolumeStands other v d volume
    → SameElsewhere log.device d e → VolumeStands other v e volume
volume_beside place other log records v volume d e apart log_stands stands same =
    let free = apart_from log_stands.half place log.device other log_stands.is_place stands.log.is_place log_stands.here apart in
    stands_on other v volume d e stands (stands_beside place other log v.log records stands.records d e apart log_stands stands.log same)
    (same v.log.device (half_apart stands.log.half other log.device v.log.device stands.log.here free))

-- A VOLUME WITH ONE RECORD MORE

no_generation : (b : Bool) (n : ℕ) → (if b && false then n else 0) ≡ 0
no_generation true n = refl
no_generation false n = refl

-- a record of a volume is no Half record
pub no_half : (r : VolumeRecord) → half_number (volume_body r) ≡ 0
no_half (ChunkRecord name bytes) = no_generation (length (volume_body (ChunkRecord name bytes)) == 9) _
no_half (FileRecord name list) = no_generation (length (volume_body (FileRecord name list)) == 9) _
no_half (DropFileRecord name) = no_generation (length (volume_body (DropFileRecord name)) == 9) _
no_half (DropChunkRecord name) = no_generation (length (volume_body (DropChunkRecord name)) == 9) _

some_same : {X : Type 0} (x y : X) → Some x ≡ Some y → x ≡ y
some_same x y is = cc

-- its records fold to the volume with it
record_folds : (records : List (List ℕ)) (volume after : Volume) (r : VolumeRecord) → IsVolumeRecord r → volume_after volume r ≡ Some after → volume_of records ≡ Some volume → volume_of (records ++ volume_body r ∷ []) ≡ Some after
record_folds records volume after r lawful is folds =
    fold_more volume_step empty_volume records (volume_body r)
    ∙ ap (option_and_then (λ (s : Volume). volume_step s (volume_body r))) folds
    ∙ ap (option_and_then (λ (x : VolumeRecord). volume_after volume x)) (volume_read r lawful)
    ∙ is

-- where a crash leaves it or not, the place says the volume with it or without
pub volume_steps : (place : ℕ) (v : VolumeValue) (volume next : Volume) (r : VolumeRecord) (d : Disk) (b c : Images) → IsVolumeRecord r → volume_after volume r ≡ Some next → VolumeStands place v d volume → Crash d b → OneMoreAt place (volume_body r) b c
    → (volume_at c place ≡ Some volume) ⊎ (volume_at c place ≡ Some next)
volume_steps place v volume next r d b c lawful is stands crash more = ⊎_elim
    (λ none. inl (ap (option_and_then volume_of) none ∙ stands.folds))
    (λ one. inr (ap (option_and_then volume_of) one ∙ record_folds stands.records volume next r lawful is stands.folds))
    (stands_steps place stands.records (volume_body r) v.log d b c stands.log crash more)

-- once the body of a record is appended, the volume with it stands
pub volume_grown : (place : ℕ) (v w : VolumeValue) (volume after : Volume) (r : VolumeRecord) (d e : Disk) (image : List ℕ) → IsVolumeRecord r → volume_after volume r ≡ Some after → (stands : VolumeStands place v d volume)
    → IsAdded v w r → LogStands place (stands.records ++ volume_body r ∷ []) (after_append v.log (length (volume_body r))) e → d v.log.device ≡ at_rest image → v.log.end < length image
    → e v.log.device ≡ at_rest (with_block image v.log.end (volume_body r)) → VolumeStands place w e after
volume_grown place v w volume after r d e image lawful is stands added log rest inside written =
    let body = volume_body r in
    let end = v.log.end + 5 + length body in
    let folded = record_folds stands.records volume after r lawful is stands.folds in
    let shaped : Some w.shape ≡ Some (shape_of after) =
    sym added.shape ∙ ap (λ (s : Shape). shape_after s r) stands.shape ∙ shape_step volume r ∙ ap (option_map shape_of) is in
    let kept : Keeps v.places image v.log.end volume = subst (λ (m : Medium). Keeps v.places m.image v.log.end volume) rest stands.bytes in
    let keeps : Keeps (places_after v.log.end v.places r) (with_block image v.log.end body) end after = keeps_after image v.log.end inside v.places volume after r lawful is kept in
    let there : Keeps (places_after v.log.end v.places r) (e v.log.device).image end after = subst (λ (m : Medium). Keeps (places_after v.log.end v.places r) m.image end after) (sym written) keeps in
    let placed : Keeps w.places (e v.log.device).image end after = subst (λ (p : Places). Keeps p (e v.log.device).image end after) (sym added.places) there in
    record {
      records = stands.records ++ body ∷ [];
      log = subst (λ (l : LogValue). LogStands place (stands.records ++ body ∷ []) l e) (sym added.log) log;
      folds = folded;
      shape = some_same w.shape (shape_of after) shaped;
      bytes = subst (λ (l : LogValue). Keeps w.places (e l.device).image l.end after) (sym added.log) placed;
    }
