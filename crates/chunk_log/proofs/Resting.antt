-- What rests once a place is opened, and what disks that are alike say of a log.
use Rattle.std.proofs.Common.{◌≡◌, ◌⊎◌, inl, inr, ⊎_elim, ℕ, ◌+◌, List, [], ◌∷◌, ◌++◌, Some, Result, Ok, Err, sym, ◌∙◌, ap, subst, arith}
use Rattle.std.specs.Prelude.{OnOk}
use Rattle.std.specs.Result.{IsErrAnd}
use Rattle.volume_disk.specs.Medium.{Medium, IsAtRest, at_rest}
use Rattle.volume_disk.specs.Disk.{Disk, Images, Crash, SameDisk, SameElsewhere}
use Rattle.site_forms.specs.Halves.{Half, device as half_device, records_at, OneMoreAt}
use Rattle.site_forms.specs.Halves.Half.{First, Second}
use Rattle.chunk_log.specs.declared.errors.LogError.{LogError}
use Rattle.chunk_log.specs.LogValues.{LogValue}
use Rattle.chunk_log.specs.Opening.{OpensLog}
use Rattle.chunk_log.specs.PlaceHalves.{RestsAt}
use Rattle.chunk_log.specs.Standing.{Stands, LogStands}
use Rattle.chunk_log.proofs.Appended.{log_settled}
use Rattle.chunk_log.proofs.Standing.{rest_here}

-- a device at rest with some image rests
pub rests : (m : Medium) (image : List ℕ) → m ≡ at_rest image → IsAtRest m
rests m image rest = rest ∙ ap (λ (n : Medium). at_rest n.image) (sym rest)

-- the device of a log that stands
pub log_rests : (place : ℕ) (records : List (List ℕ)) (log : LogValue) (d : Disk) → LogStands place records log d → IsAtRest (d log.device)
log_rests place records log d stands = rests (d log.device) stands.stands.image (rest_here stands.half place log.device log.end records d stands.here stands.stands)

-- both halves are at rest before the one in force is opened, and that one is again
pub rests_opened : (half : Half) (place dev : ℕ) (m e : Disk) (x y : List ℕ) (result : Result LogValue LogError) → dev ≡ half_device place half → m place ≡ at_rest x → m (place + 3) ≡ at_rest y → SameElsewhere dev m e → OpensLog (m dev).image (e dev) result
    → OnOk result (RestsAt place e)
rests_opened First place dev m e x y (Ok log) is one two others opens = (
  subst (λ (k : ℕ). IsAtRest (e k)) is (rests (e dev) opens.now opens.rest),
  rests (e (place + 3)) y (others (place + 3) (λ same. omega (arith, same, is)) ∙ two),
)
rests_opened Second place dev m e x y (Ok log) is one two others opens = (
  rests (e place) x (others place (λ same. omega (arith, same, is)) ∙ one),
  subst (λ (k : ℕ). IsAtRest (e k)) is (rests (e dev) opens.now opens.rest),
)
rests_opened half place dev m e x y (Err error) is one two others opens = tt

-- an error that is handed on
pub rests_handed : (place : ℕ) (e : Disk) (result : Result LogValue LogError) (error : LogError) → IsErrAnd result (λ other. other ≡ error) → OnOk result (RestsAt place e)
rests_handed place e (Ok log) error handed = absurd handed
rests_handed place e (Err other) error handed = tt

-- where no device has changed a log stands as before
pub stands_same : (place : ℕ) (records : List (List ℕ)) (log : LogValue) (d e : Disk) → SameDisk d e → LogStands place records log d → LogStands place records log e
stands_same place records log d e same stands = record {
  is_place = stands.is_place;
  half = stands.half;
  here = stands.here;
  stands = subst (λ (m : Medium). Stands stands.half records log.end m (e (place + 3))) (sym (same place)) (subst (λ (m : Medium). Stands stands.half records log.end (d place) m) (sym (same (place + 3))) stands.stands);
  fresh = stands.fresh;
}

records_same : (records others : List (List ℕ)) → Some records ≡ Some others → records ≡ others
records_same records others is = cc

-- where a record more or none is left, of what a log stood for
pub stands_steps : (place : ℕ) (records : List (List ℕ)) (body : List ℕ) (log : LogValue) (d : Disk) (b c : Images) → LogStands place records log d → Crash d b → OneMoreAt place body b c
    → (records_at c place ≡ Some records) ⊎ (records_at c place ≡ Some (records ++ body ∷ []))
stands_steps place records body log d b c stands crash more =
    let same : more.records ≡ records = records_same more.records records (sym more.before ∙ log_settled place records log d b stands crash) in
    ⊎_elim (λ none. inl (none ∙ ap (λ (l : List (List ℕ)). Some l) same)) (λ one. inr (one ∙ ap (λ (l : List (List ℕ)). Some (l ++ body ∷ [])) same)) more.here

-- over calls that change no device the halves stay at rest
pub rests_same : (place : ℕ) (d e : Disk) → SameDisk d e → RestsAt place d → RestsAt place e
rests_same place d e same rest = (subst IsAtRest (sym (same place)) rest.0, subst IsAtRest (sym (same (place + 3))) rest.1)
