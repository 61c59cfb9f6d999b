-- The half beside the one in force, whose first gate is closed.
use Rattle.std.proofs.Common.{◌≡◌, ◌≢◌, inl, inr, ⊎_elim, ℕ, ◌+◌, ◌≤◌, List, Option, Some, refl, sym, ◌∙◌, ap, subst, arith}
use Rattle.std.proofs.lemmas.Bool.{cases_eq}
use Rattle.volume_disk.specs.Medium.{Medium, MayLeave}
use Rattle.volume_disk.specs.Disk.{Disk, Images, Crash, SameElsewhere}
use Rattle.volume_disk.proofs.Rest.{only_image}
use Rattle.site_forms.specs.Logs.{parse}
use Rattle.site_forms.specs.Halves.{Half, device, generation, in_force, records_at, SameRecords, IsBelow}
use Rattle.site_forms.specs.Halves.Half.{First, Second}
use Rattle.site_forms.proofs.Halves.{closed_none, first_wins, second_wins, first_pair, second_pair, same_records}
use Rattle.chunk_log.specs.LogValues.{LogValue}
use Rattle.chunk_log.specs.Standing.{StandsAt, LogStands, IsDormant}
use Rattle.chunk_log.specs.Shutting.{IsShut, IsGuarded, IsBlankAtRest, SameOrShut}
use Rattle.chunk_log.specs.Retiring.{IsBeside}
use Rattle.chunk_log.proofs.Shutting.{shut_left}
use Rattle.chunk_log.proofs.PlaceHalves.{dormant_at_rest}
use Rattle.chunk_log.proofs.Standing.{settled, is_there}

-- the other half of a place
abbrev pub other_half : Half → Half
other_half First = Second
other_half Second = First

-- a device beside the one in force is that of the other half
pub is_other : (half : Half) (place dev in_use : ℕ) → place ≤ 2 → dev ≤ 5 → in_use ≡ device place half → IsBeside dev in_use → dev ≡ device place (other_half half)
is_other First place dev in_use is_place is_device is (inl above) = omega (arith, above, is)
is_other First place dev in_use is_place is_device is (inr under) = absurd (omega (arith, under, is, is_place))
is_other Second place dev in_use is_place is_device is (inl above) = absurd (omega (arith, above, is, is_device))
is_other Second place dev in_use is_place is_device is (inr under) = omega (arith, under, is)

-- THE OTHER HALF IS DORMANT

dormant_by : (half : Half) (place dev gate : ℕ) (records : List (List ℕ)) (d : Disk) → dev ≡ device place (other_half half) → (stands : StandsAt place half records gate d) → IsDormant stands.image (d dev)
dormant_by First place dev gate records d is stands = subst (λ (n : ℕ). IsDormant stands.image (d n)) (sym is) stands.dormant
dormant_by Second place dev gate records d is stands = subst (λ (n : ℕ). IsDormant stands.image (d n)) (sym is) stands.dormant

pub guarded_beside : (place dev : ℕ) (records : List (List ℕ)) (log : LogValue) (d : Disk) → dev ≤ 5 → IsBeside dev log.device → LogStands place records log d → IsGuarded (d dev)
guarded_beside place dev records log d is_device beside stands =
    (dormant_by stands.half place dev log.end records d (is_other stands.half place dev log.device stands.is_place is_device stands.here beside) stands.stands).guarded

-- THE RECORDS STAY

-- a lower generation, or none
below_or_none : (dev : ℕ) (image : List ℕ) (d : Disk) (b c : Images) → dev ≤ 5 → IsDormant image (d dev) → Crash d b → SameOrShut dev b c → IsBelow (generation (c dev)) (generation image)
below_or_none dev image d b c is_device dormant crash change = ⊎_elim
    (λ same. subst (λ (l : List ℕ). IsBelow (generation l) (generation image)) (sym same) (dormant.lower (b dev) (crash dev is_device)))
    (λ closed. subst (λ (g : Option ℕ). IsBelow g (generation image)) (sym (closed_none (c dev) closed)) tt)
    change.here

here_told : (half : Half) (place dev gate : ℕ) (records : List (List ℕ)) (d : Disk) (b c : Images) → place ≤ 2 → dev ≤ 5 → dev ≡ device place (other_half half) → StandsAt place half records gate d → Crash d b → SameOrShut dev b c → records_at c place ≡ Some records
here_told First place dev gate records d b c is_place is_device is stands crash change =
    let image : c place ≡ stands.image = change.elsewhere place (λ same. omega (arith, same, is)) ∙ only_image stands.image (b place) (subst (λ (m : Medium). MayLeave m (b place)) stands.rest (crash place (omega (arith, is_place)))) in
    let under : IsBelow (generation (c (place + 3))) (generation stands.image) =
    subst (λ (n : ℕ). IsBelow (generation (c n)) (generation stands.image)) is (below_or_none dev stands.image d b c is_device (dormant_by First place dev gate records d is stands) crash change) in
    first_pair (c place) (c (place + 3)) stands.bodies records gate (ap (λ (l : List ℕ). in_force l (c (place + 3))) image ∙ first_wins (generation stands.image) (generation (c (place + 3))) under) (ap parse image ∙ stands.log.good) stands.told
here_told Second place dev gate records d b c is_place is_device is stands crash change =
    let image : c (place + 3) ≡ stands.image =
    change.elsewhere (place + 3) (λ same. omega (arith, same, is)) ∙ only_image stands.image (b (place + 3)) (subst (λ (m : Medium). MayLeave m (b (place + 3))) stands.rest (crash (place + 3) (omega (arith, is_place)))) in
    let under : IsBelow (generation (c place)) (generation stands.image) =
    subst (λ (n : ℕ). IsBelow (generation (c n)) (generation stands.image)) is (below_or_none dev stands.image d b c is_device (dormant_by Second place dev gate records d is stands) crash change) in
    let there = is_there (generation stands.image) (stands.begun refl) in
    second_pair (c place) (c (place + 3)) stands.bodies records gate (ap (λ (l : List ℕ). in_force (c place) l) image ∙ second_wins (generation (c place)) (generation stands.image) there.0 there.1 under) (ap parse image ∙ stands.log.good) stands.told

pub apart_from : (half : Half) (place dev k : ℕ) → place ≤ 2 → k ≤ 2 → dev ≡ device place half → k ≢ place → (k ≢ dev) × (k + 3 ≢ dev)
apart_from First place dev k is_place is_k is out = (λ same. out (same ∙ is), λ same. omega (arith, same, is, is_place))
apart_from Second place dev k is_place is_k is out = (λ same. omega (arith, same, is, is_k), λ same. out (omega (arith, same, is)))

pub records_stay : (place dev : ℕ) (records : List (List ℕ)) (log : LogValue) (d : Disk) (b c : Images) → dev ≤ 5 → IsBeside dev log.device → LogStands place records log d → Crash d b → SameOrShut dev b c → SameRecords b c
records_stay place dev records log d b c is_device beside stands crash change = λ k is_k.
    let is = is_other stands.half place dev log.device stands.is_place is_device stands.here beside in
    elim (cases_eq k place) as (λ _. records_at c k ≡ records_at b k) [
      | inl here ↦
          subst (λ (n : ℕ). records_at c n ≡ records_at b n) (sym here)
          (here_told stands.half place dev log.end records d b c stands.is_place is_device is stands.stands crash change ∙ sym (settled stands.half place log.end records d b stands.is_place stands.stands crash))
      | inr out ↦
          let apart = apart_from (other_half stands.half) place dev k stands.is_place is_k is out in
          same_records k b c (change.elsewhere k apart.0) (change.elsewhere (k + 3) apart.1)
    ]

-- THE LOG STANDS AS IT DID

stays_by : (half : Half) (place dev gate : ℕ) (records : List (List ℕ)) (d e : Disk) → dev ≡ device place (other_half half) → SameElsewhere dev d e → ((image : List ℕ) → IsDormant image (e dev)) → StandsAt place half records gate d → StandsAt place half records gate e
stays_by First place dev gate records d e is others dormant stands = record {
  image = stands.image;
  rest = others place (λ same. omega (arith, same, is)) ∙ stands.rest;
  bodies = stands.bodies;
  log = stands.log;
  told = stands.told;
  dormant = subst (λ (n : ℕ). IsDormant stands.image (e n)) is (dormant stands.image);
  begun = stands.begun;
}
stays_by Second place dev gate records d e is others dormant stands = record {
  image = stands.image;
  rest = others (place + 3) (λ same. omega (arith, same, is)) ∙ stands.rest;
  bodies = stands.bodies;
  log = stands.log;
  told = stands.told;
  dormant = subst (λ (n : ℕ). IsDormant stands.image (e n)) is (dormant stands.image);
  begun = stands.begun;
}

pub log_stays : (place dev : ℕ) (records : List (List ℕ)) (log : LogValue) (d e : Disk) → dev ≤ 5 → IsBeside dev log.device → SameElsewhere dev d e → ((image : List ℕ) → IsDormant image (e dev)) → LogStands place records log d → LogStands place records log e
log_stays place dev records log d e is_device beside others dormant stands = record {
  is_place = stands.is_place;
  half = stands.half;
  here = stands.here;
  stands = stays_by stands.half place dev log.end records d e (is_other stands.half place dev log.device stands.is_place is_device stands.here beside) others dormant stands.stands;
  fresh = stands.fresh;
}

-- a blank device is dormant beside any image, and so is one whose first gate is closed
pub blank_dormant : (m : Medium) (image : List ℕ) → IsBlankAtRest m → IsDormant image m
blank_dormant m image blank = dormant_at_rest image m.image m blank.rest (subst (λ (g : Option ℕ). IsBelow g (generation image)) (sym (closed_none m.image (inl blank.short))) tt)

pub shut_dormant : (m : Medium) (image : List ℕ) → IsShut m → IsGuarded m → IsDormant image m
shut_dormant m image shut guarded = record {
  lower = λ y left. subst (λ (g : Option ℕ). IsBelow g (generation image)) (sym (closed_none y (shut_left m y shut left))) tt;
  guarded = guarded;
}
