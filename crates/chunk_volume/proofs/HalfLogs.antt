-- The log of a half that is opened, and the volume of its records.
use Rattle.std.proofs.Common.{◌≡◌, inl, inr, ℕ, suc, ◌+◌, ◌<◌, List, [], ◌∷◌, ◌++◌, length, take, drop, Bool, true, false, Option, Some, None, Ok, Err, refl, sym, ◌∙◌, ap, subst, arith}
use Rattle.std.specs.Prelude.{nat_le, if◌then◌else◌, Result, OnOk, IsErrAnd}
use Rattle.std.specs.Option.{option_and_then}
use Rattle.std.proofs.lemmas.List.{take-append-drop}
use Rattle.volume_disk.specs.Disk.{Disk, SameDisk}
use Rattle.site_forms.specs.Halves.{half_number, records_at, without_half}
use Rattle.site_forms.specs.Volumes.{Volume, volume_of, volume_step, empty_volume, fold_from}
use Rattle.chunk_log.specs.declared.errors.LogError.{LogError}
use Rattle.chunk_log.specs.declared.errors.LogError.TheVariants.{RackFault as LogFault, Damage as LogDamage}
use Rattle.chunk_log.specs.LogValues.{LogValue}
use Rattle.chunk_log.specs.PlaceHalves.{RestsAt, images_of, IsHalfLog, IsHalfOf, IsOfPlace, AnswersPlace}
use Rattle.chunk_log.specs.Standing.{LogStands}
use Rattle.chunk_log.proofs.PlaceHalves.{place_told}
use Rattle.chunk_volume.specs.declared.errors.VolError.{VolError}
use Rattle.chunk_volume.specs.declared.errors.VolError.TheVariants.{RackFault, Damage, BadChunk, Collision, Exists, NoSuchFile, DeviceFull, Spent, Memory}
use Rattle.chunk_volume.specs.Errors.{of_log}
use Rattle.chunk_volume.specs.Folding.{Folds, GathersLog}
use Rattle.chunk_volume.specs.OpeningVolumes.{AnswersVolume, IsPlaceVolume}
use Rattle.chunk_volume.specs.Standing.{Keeps, VolumeStands}
use Rattle.chunk_volume.specs.VolumeValues.{VolumeValue}
use Rattle.volume_index.specs.HoldingValues.{Places}
use Rattle.volume_index.specs.Indexes.{IndexValue}

-- what fails in front fails
fold_none : (state : Option Volume) (front rest : List (List ℕ)) → option_and_then (λ (s : Volume). fold_from volume_step s front) state ≡ None → option_and_then (λ (s : Volume). fold_from volume_step s (front ++ rest)) state ≡ None
fold_none None front rest none = refl
fold_none (Some s) [] rest none = cc
fold_none (Some s) (body ∷ front) rest none = fold_none (volume_step s body) front rest none

half_apart : (b : Bool) (body : List ℕ) (front rest : List (List ℕ)) → (if b then front ++ rest else body ∷ (front ++ rest)) ≡ (if b then front else body ∷ front) ++ rest
half_apart true body front rest = refl
half_apart false body front rest = refl

pub fails_on : (bodies : List (List ℕ)) (number : ℕ) → number < length bodies → volume_of (without_half (take (suc number) bodies)) ≡ None → volume_of (without_half bodies) ≡ None
fails_on [] number inside none = absurd (omega (arith, inside))
fails_on (body ∷ bodies) number inside none =
    let apart : without_half (body ∷ bodies) ≡ without_half (body ∷ take number bodies) ++ drop number bodies =
    ap (λ (l : List (List ℕ)). without_half (body ∷ l)) (sym (take-append-drop number bodies)) ∙ half_apart (nat_le 1 (half_number body)) body (take number bodies) (drop number bodies) in
    ap volume_of apart ∙ fold_none (Some empty_volume) (without_half (body ∷ take number bodies)) (drop number bodies) none

-- what the place says
pub half_records : (d e : Disk) (place : ℕ) (log : LogValue) → (opened : IsHalfLog d e place log) → records_at (images_of d) place ≡ Some (without_half opened.bodies)
half_records d e place log opened = place_told opened.half (d place).image (d (place + 3)).image opened.bodies log.end opened.is opened.was

-- the volume that was gathered
pub opened_volume : (d e f : Disk) (place : ℕ) (log : LogValue) (v : VolumeValue) (index : IndexValue) → (opened : IsHalfLog d e place log) → SameDisk e f → v.log ≡ log → v.shape ≡ index.shape → v.places ≡ index.places
    → Folds (e log.device).image log.end opened.bodies (Ok index) → IsPlaceVolume d f place (Ok v)
opened_volume d e f place log v index opened same same_log same_shape same_places folds =
    let kept : Keeps v.places (e log.device).image log.end folds.0 = subst (λ (p : Places). Keeps p (e log.device).image log.end folds.0) (sym same_places) folds.2.bytes in
    let kept_here : Keeps v.places (e v.log.device).image v.log.end folds.0 = subst (λ (l : LogValue). Keeps v.places (e l.device).image l.end folds.0) (sym same_log) kept in
    let stands : LogStands place (without_half opened.bodies) v.log e = subst (λ (l : LogValue). LogStands place (without_half opened.bodies) l e) (sym same_log) opened.stands in
    let standing : VolumeStands place v e folds.0 = record { records = without_half opened.bodies; log = stands; folds = folds.1; shape = same_shape ∙ folds.2.shape; bytes = kept_here } in (
      folds.0,
      ap (option_and_then volume_of) (half_records d e place log opened) ∙ folds.1,
      subst (λ (x : Disk). VolumeStands place v x folds.0) (λ i k. sym (same k) i) standing,
    )

-- a walk that was refused
pub opened_refused : (d e f : Disk) (place : ℕ) (log : LogValue) (error : VolError) → (opened : IsHalfLog d e place log) → GathersLog {T = IndexValue} log.device (Err error) → Folds (e log.device).image log.end opened.bodies (Err error) → IsPlaceVolume d f place (Err error)
opened_refused d e f place log RackFault opened answers folds = tt
opened_refused d e f place log Memory opened answers folds = tt
opened_refused d e f place log (Damage device at) opened answers folds = (
  ap (option_and_then volume_of) (half_records d e place log opened) ∙ fails_on opened.bodies folds.number folds.inside folds.fails,
  inr (record { half = opened.half; here = answers ∙ opened.here; is = opened.is; bodies = opened.bodies; gate = log.end; log = opened.was; first = folds }),
)
opened_refused d e f place log (BadChunk name found) opened answers folds = absurd answers
opened_refused d e f place log (Collision name) opened answers folds = absurd answers
opened_refused d e f place log Exists opened answers folds = absurd answers
opened_refused d e f place log NoSuchFile opened answers folds = absurd answers
opened_refused d e f place log (DeviceFull device at len) opened answers folds = absurd answers
opened_refused d e f place log Spent opened answers folds = absurd answers

-- an opening that was refused, of a log
refused_log : (d e : Disk) (place : ℕ) (error : LogError) → IsHalfOf d e place (Err error) → IsPlaceVolume d e place (Err (of_log error))
refused_log d e place LogFault refused = tt
refused_log d e place (LogDamage device at) refused = (ap (option_and_then volume_of) refused.0, inl refused.1)

pub log_refused : (d e : Disk) (place : ℕ) (error : LogError) (other : VolError) → other ≡ of_log error → IsHalfOf d e place (Err error) → IsPlaceVolume d e place (Err other)
log_refused d e place error other is refused = subst (λ (x : VolError). IsPlaceVolume d e place (Err x)) (sym is) (refused_log d e place error refused)

-- what is answered, on every rack
answered_log : (place limit : ℕ) (error : LogError) → AnswersPlace place limit (Err error) → AnswersVolume place limit (Err (of_log error))
answered_log place limit LogFault answers = tt
answered_log place limit (LogDamage device at) answers = answers

pub log_answered : (place limit : ℕ) (error : LogError) (other : VolError) → other ≡ of_log error → AnswersPlace place limit (Err error) → AnswersVolume place limit (Err other)
log_answered place limit error other is answers = subst (λ (x : VolError). AnswersVolume place limit (Err x)) (sym is) (answered_log place limit error answers)

pub walk_answered : (place limit : ℕ) (log : LogValue) (error : VolError) → IsOfPlace place log.device → GathersLog {T = IndexValue} log.device (Err error) → AnswersVolume place limit (Err error)
walk_answered place limit log RackFault of answers = tt
walk_answered place limit log Memory of answers = tt
walk_answered place limit log (Damage device at) of answers = (of.0, answers ∙ of.1)
walk_answered place limit log (BadChunk name found) of answers = answers
walk_answered place limit log (Collision name) of answers = answers
walk_answered place limit log Exists of answers = answers
walk_answered place limit log NoSuchFile of answers = answers
walk_answered place limit log (DeviceFull device at len) of answers = answers
walk_answered place limit log Spent of answers = answers

-- an error that is handed on
pub rests_handed : (place : ℕ) (e : Disk) (result : Result VolumeValue VolError) (error : VolError) → IsErrAnd result (λ other. other ≡ error) → OnOk result (RestsAt place e)
rests_handed place e (Ok volume) error handed = absurd handed
rests_handed place e (Err other) error handed = tt
