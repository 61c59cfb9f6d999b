-- The half in force, where a log stands for the place.
use Rattle.std.proofs.Common.{◌≡◌, ◌≢◌, ℕ, ◌+◌, ◌≤◌, List, Option, Some, None, Ok, Err, sym, ◌∙◌, ap, subst, arith}
use Rattle.std.specs.Prelude.{Result, OnOk, unwrap_or}
use Rattle.volume_disk.specs.Medium.{Medium, MayLeave, at_rest}
use Rattle.volume_disk.specs.Disk.{Disk}
use Rattle.site_forms.specs.Halves.{Half, device, generation}
use Rattle.site_forms.specs.Halves.Half.{First, Second}
use Rattle.chunk_log.specs.declared.errors.LogError.{LogError}
use Rattle.chunk_log.specs.declared.errors.LogError.TheVariants.{RackFault, Damage}
use Rattle.chunk_log.specs.LogValues.{LogValue}
use Rattle.chunk_log.specs.Standing.{Stands, StandsAt, LogStands}
use Rattle.chunk_log.specs.PlaceHalves.{half_image, IsHalf, FindsLog, SameOutside}
use Rattle.chunk_log.proofs.PlaceHalves.{dormant_at_rest}
use Rattle.chunk_log.proofs.Standing.{force}

-- a half, or the first
abbrev half_or : Option Half → Half
half_or None = First
half_or (Some half) = half

abbrev is_some : Option Half → Type 0
is_some None = ⊥
is_some (Some half) = Unit {0}

image_by : (half : Half) (place : ℕ) (x y : List ℕ) (e : Disk) → e place ≡ at_rest x → e (place + 3) ≡ at_rest y → (e (device place half)).image ≡ half_image half x y
image_by First place x y e one two = ap (λ (m : Medium). m.image) one
image_by Second place x y e one two = ap (λ (m : Medium). m.image) two

-- both halves are synced as they read
synced_stands : (half : Half) (place gate : ℕ) (records : List (List ℕ)) (d e : Disk) → MayLeave (d place) (d place).image → MayLeave (d (place + 3)) (d (place + 3)).image
    → e place ≡ at_rest (d place).image → e (place + 3) ≡ at_rest (d (place + 3)).image → StandsAt place half records gate d → StandsAt place half records gate e
synced_stands First place gate records d e one_alike two_alike one two stands = record {
  image = stands.image;
  rest = one ∙ ap (λ (m : Medium). at_rest m.image) stands.rest;
  bodies = stands.bodies;
  log = stands.log;
  told = stands.told;
  dormant = dormant_at_rest stands.image (d (place + 3)).image (e (place + 3)) two (stands.dormant.lower (d (place + 3)).image two_alike);
  begun = stands.begun;
}
synced_stands Second place gate records d e one_alike two_alike one two stands = record {
  image = stands.image;
  rest = two ∙ ap (λ (m : Medium). at_rest m.image) stands.rest;
  bodies = stands.bodies;
  log = stands.log;
  told = stands.told;
  dormant = dormant_at_rest stands.image (d place).image (e place) one (stands.dormant.lower (d place).image one_alike);
  begun = stands.begun;
}

-- the half that is found is that of the log
pub finds_log : (d e : Disk) (place : ℕ) (records : List (List ℕ)) (log : LogValue) (result : Result (ℕ × ℕ) LogError) → MayLeave (d place) (d place).image → MayLeave (d (place + 3)) (d (place + 3)).image
    → OnOk result (e place ≡ at_rest (d place).image) → OnOk result (e (place + 3) ≡ at_rest (d (place + 3)).image) → IsHalf (d place).image (d (place + 3)).image place result → LogStands place records log d
    → FindsLog place records log e result
finds_log d e place records log (Err RackFault) one_alike two_alike one two is stands = tt
finds_log d e place records log (Err (Damage dev at)) one_alike two_alike one two is stands =
    let found = force stands.half records log.end (d place) (d (place + 3)) stands.stands (d place).image (d (place + 3)).image one_alike two_alike in
    absurd (subst is_some (sym found ∙ is) tt)
finds_log d e place records log (Ok answer) one_alike two_alike one two is stands =
    let x = (d place).image in
    let y = (d (place + 3)).image in
    let found = force stands.half records log.end (d place) (d (place + 3)) stands.stands x y one_alike two_alike in
    let same : is.half ≡ stands.half = ap half_or (sym is.is ∙ found) in (
      is.here ∙ ap (λ (h : Half). device place h) same ∙ sym stands.here,
      is.counted ∙ ap (λ (h : Half). unwrap_or (generation (half_image h x y)) 0) same
          ∙ ap (λ (l : List ℕ). unwrap_or (generation l) 0) (sym (ap (λ (n : ℕ). (e n).image) stands.here ∙ image_by stands.half place x y e one two)),
      record {
        is_place = stands.is_place;
        half = stands.half;
        here = stands.here;
        stands = synced_stands stands.half place log.end records d e one_alike two_alike one two stands.stands;
        fresh = stands.fresh;
      },
    )

-- calls on the two devices of a place keep the log of another place standing
pub stands_outside : (place other : ℕ) (records : List (List ℕ)) (log : LogValue) (d e : Disk) → place ≤ 2 → other ≢ place → SameOutside place d e → LogStands other records log d → LogStands other records log e
stands_outside place other records log d e is_place apart same stands =
    let low = stands.is_place in
    let one : e other ≡ d other = same other apart (λ is. omega (arith, is, low)) in
    let two : e (other + 3) ≡ d (other + 3) = same (other + 3) (λ is. omega (arith, is, is_place)) (λ is. apart (omega (arith, is))) in
    record {
      is_place = stands.is_place;
      half = stands.half;
      here = stands.here;
      stands = subst (λ (m : Medium). Stands stands.half records log.end m (e (other + 3))) (sym one) (subst (λ (m : Medium). Stands stands.half records log.end (d other) m) (sym two) stands.stands);
      fresh = stands.fresh;
    }
