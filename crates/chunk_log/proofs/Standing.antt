-- A log that stands for a place, over appends and over calls on other devices.
use Rattle.std.proofs.Common.{◌≡◌, ◌≢◌, inl, inr, ⊎_elim, ℕ, ◌+◌, ◌≤◌, List, [], ◌∷◌, ◌++◌, length, Option, Some, None, refl, sym, ◌∙◌, ap, subst, arith}
use Rattle.std.specs.Prelude.{IsSome}
use Rattle.std.proofs.lemmas.Bool.{false≢true, cases_eq}
use Rattle.volume_disk.specs.Medium.{Medium, MayLeave, at_rest}
use Rattle.volume_disk.specs.Disk.{Disk, Images, Crash, SameElsewhere}
use Rattle.volume_disk.proofs.Rest.{only_image}
use Rattle.site_forms.specs.Logs.{parse, IsSameOrMore}
use Rattle.site_forms.specs.Logs.Parsed.{Good}
use Rattle.site_forms.specs.Halves.{Half, device, half_number, generation, in_force, records_at, pair_records, OneMoreAt, SameRecords, IsBelow}
use Rattle.site_forms.specs.Halves.Half.{First, Second}
use Rattle.site_forms.proofs.Halves.{generation_of, generation_good, first_wins, second_wins, first_force, second_force, first_pair, second_pair, first_more, second_more, more_told, same_records}
use Rattle.chunk_log.specs.Bodies.{OneBodyMoreAt, SameBodiesAt, EndsAtRest}
use Rattle.chunk_log.specs.Standing.{Stands, StandsAt, IsDormant}

pub is_there : (o : Option ℕ) → IsSome o → (n : ℕ) × (o ≡ Some n)
is_there None some = absurd (false≢true some)
is_there (Some n) some = (n, refl)

-- THE HALF IN FORCE, whatever a crash leaves
pub force : (half : Half) (records : List (List ℕ)) (gate : ℕ) (first second : Medium) → Stands half records gate first second → (x y : List ℕ) → MayLeave first x → MayLeave second y → in_force x y ≡ Some half
force First records gate first second stands x y left beside =
    ap (λ (l : List ℕ). in_force l y) (only_image stands.image x (subst (λ (m : Medium). MayLeave m x) stands.rest left)) ∙ first_wins (generation stands.image) (generation y) (stands.dormant.lower y beside)
force Second records gate first second stands x y beside left =
    let there = is_there (generation stands.image) (stands.begun refl) in
    ap (λ (l : List ℕ). in_force x l) (only_image stands.image y (subst (λ (m : Medium). MayLeave m y) stands.rest left)) ∙ second_wins (generation x) (generation stands.image) there.0 there.1 (stands.dormant.lower x beside)

-- one body more or none on the device in force is one record more or none at its place
pub one_more : (half : Half) (place dev gate : ℕ) (records : List (List ℕ)) (body : List ℕ) (d : Disk) (b c : Images) → place ≤ 2 → dev ≡ device place half → half_number body ≡ 0
    → (stands : StandsAt place half records gate d) → Crash d b → OneBodyMoreAt dev stands.bodies body gate b c → OneMoreAt place body b c
one_more First place dev gate records body d b c is_place is plain stands crash more =
    let force = force First records gate (d place) (d (place + 3)) stands (b place) (b (place + 3)) (crash place (omega (arith, is_place))) (crash (place + 3) (omega (arith, is_place))) in
    let before : parse (b place) ≡ Good stands.bodies gate = subst (λ (n : ℕ). parse (b n) ≡ Good stands.bodies gate) is more.before in
    let here : IsSameOrMore stands.bodies body gate (c place) = subst (λ (n : ℕ). IsSameOrMore stands.bodies body gate (c n)) is more.here in
    let other : c (place + 3) ≡ b (place + 3) = more.elsewhere (place + 3) (λ same. omega (arith, same, is)) in
    let pair = first_more (b place) (c place) (b (place + 3)) body stands.bodies records gate (first_force (b place) (c place) (b (place + 3)) body stands.bodies gate force before here) here plain stands.told in
    let now : records_at c place ≡ pair_records (c place) (b (place + 3)) = ap (λ (y : List ℕ). pair_records (c place) y) other in
    record {
      others = λ k is_k apart. same_records k b c (more.elsewhere k (λ same. apart (same ∙ is))) (more.elsewhere (k + 3) (λ same. omega (arith, same, is, is_place)));
      records = records;
      before = first_pair (b place) (b (place + 3)) stands.bodies records gate force before stands.told;
      here = ⊎_elim (λ same. inl (now ∙ same)) (λ one. inr (now ∙ one)) pair;
    }
one_more Second place dev gate records body d b c is_place is plain stands crash more =
    let force = force Second records gate (d place) (d (place + 3)) stands (b place) (b (place + 3)) (crash place (omega (arith, is_place))) (crash (place + 3) (omega (arith, is_place))) in
    let before : parse (b (place + 3)) ≡ Good stands.bodies gate = subst (λ (n : ℕ). parse (b n) ≡ Good stands.bodies gate) is more.before in
    let here : IsSameOrMore stands.bodies body gate (c (place + 3)) = subst (λ (n : ℕ). IsSameOrMore stands.bodies body gate (c n)) is more.here in
    let other : c place ≡ b place = more.elsewhere place (λ same. omega (arith, same, is)) in
    let pair = second_more (b place) (b (place + 3)) (c (place + 3)) body stands.bodies records gate (second_force (b place) (b (place + 3)) (c (place + 3)) body stands.bodies gate force before here) here plain stands.told in
    let now : records_at c place ≡ pair_records (b place) (c (place + 3)) = ap (λ (x : List ℕ). pair_records x (c (place + 3))) other in
    record {
      others = λ k is_k apart. same_records k b c (more.elsewhere k (λ same. omega (arith, same, is, is_k))) (more.elsewhere (k + 3) (λ same. apart (omega (arith, same, is))));
      records = records;
      before = second_pair (b place) (b (place + 3)) stands.bodies records gate force before stands.told;
      here = ⊎_elim (λ same. inl (now ∙ same)) (λ one. inr (now ∙ one)) pair;
    }

-- the same bodies on the device in force are the same records at every place
pub same_bodies : (half : Half) (place dev gate : ℕ) (records : List (List ℕ)) (d : Disk) (b c : Images) → place ≤ 2 → dev ≡ device place half → (stands : StandsAt place half records gate d)
    → Crash d b → SameBodiesAt dev stands.bodies gate b c → SameRecords b c
same_bodies First place dev gate records d b c is_place is stands crash same = λ k is_k.
    let force = force First records gate (d place) (d (place + 3)) stands (b place) (b (place + 3)) (crash place (omega (arith, is_place))) (crash (place + 3) (omega (arith, is_place))) in
    let before : parse (b place) ≡ Good stands.bodies gate = subst (λ (n : ℕ). parse (b n) ≡ Good stands.bodies gate) is same.before in
    let here : parse (c place) ≡ Good stands.bodies gate = subst (λ (n : ℕ). parse (c n) ≡ Good stands.bodies gate) is same.here in
    let other : c (place + 3) ≡ b (place + 3) = same.elsewhere (place + 3) (λ at. omega (arith, at, is)) in
    let now : records_at c place ≡ pair_records (c place) (b (place + 3)) = ap (λ (y : List ℕ). pair_records (c place) y) other in
    let forced = first_force (b place) (c place) (b (place + 3)) [] stands.bodies gate force before (inl here) in
    elim (cases_eq k place) [
      | inl at ↦ subst (λ (n : ℕ). records_at c n ≡ records_at b n) (sym at)
          (now ∙ first_pair (c place) (b (place + 3)) stands.bodies records gate forced here stands.told ∙ sym (first_pair (b place) (b (place + 3)) stands.bodies records gate force before stands.told))
      | inr apart ↦ same_records k b c (same.elsewhere k (λ at. apart (at ∙ is))) (same.elsewhere (k + 3) (λ at. omega (arith, at, is, is_place)))
    ]
same_bodies Second place dev gate records d b c is_place is stands crash same = λ k is_k.
    let force = force Second records gate (d place) (d (place + 3)) stands (b place) (b (place + 3)) (crash place (omega (arith, is_place))) (crash (place + 3) (omega (arith, is_place))) in
    let before : parse (b (place + 3)) ≡ Good stands.bodies gate = subst (λ (n : ℕ). parse (b n) ≡ Good stands.bodies gate) is same.before in
    let here : parse (c (place + 3)) ≡ Good stands.bodies gate = subst (λ (n : ℕ). parse (c n) ≡ Good stands.bodies gate) is same.here in
    let other : c place ≡ b place = same.elsewhere place (λ at. omega (arith, at, is)) in
    let now : records_at c place ≡ pair_records (b place) (c (place + 3)) = ap (λ (x : List ℕ). pair_records x (c (place + 3))) other in
    let forced = second_force (b place) (b (place + 3)) (c (place + 3)) [] stands.bodies gate force before (inl here) in
    elim (cases_eq k place) [
      | inl at ↦ subst (λ (n : ℕ). records_at c n ≡ records_at b n) (sym at)
          (now ∙ second_pair (b place) (c (place + 3)) stands.bodies records gate forced here stands.told ∙ sym (second_pair (b place) (b (place + 3)) stands.bodies records gate force before stands.told))
      | inr apart ↦ same_records k b c (same.elsewhere k (λ at. omega (arith, at, is, is_k))) (same.elsewhere (k + 3) (λ at. apart (omega (arith, at, is))))
    ]

-- what a first body makes of none is at least none
below_more : (g h : Option ℕ) (bodies : List (List ℕ)) (body : List ℕ) (o : Option ℕ) → g ≡ generation_of bodies → h ≡ generation_of (bodies ++ body ∷ []) → IsBelow o g → IsBelow o h
below_more g h [] body None was is under = tt
below_more g h [] body (Some n) was is under = absurd (subst (λ (k : Option ℕ). IsBelow (Some n) k) was under)
below_more g h (front ∷ bodies) body o was is under = subst (λ (k : Option ℕ). IsBelow o k) (was ∙ sym is) under

-- a body more keeps a dormant half dormant
dormant_more : (image now : List ℕ) (bodies : List (List ℕ)) (body : List ℕ) (gate end : ℕ) (m : Medium) → parse image ≡ Good bodies gate → parse now ≡ Good (bodies ++ body ∷ []) end → IsDormant image m → IsDormant now m
dormant_more image now bodies body gate end m was is dormant = record {
  lower = λ y left. below_more (generation image) (generation now) bodies body (generation y) (generation_good image bodies gate was) (generation_good now (bodies ++ body ∷ []) end is) (dormant.lower y left);
  guarded = dormant.guarded;
}

begun_more : (image now : List ℕ) (bodies : List (List ℕ)) (body : List ℕ) (gate end : ℕ) → parse image ≡ Good bodies gate → parse now ≡ Good (bodies ++ body ∷ []) end → IsSome (generation now)
begun_more image now [] body gate end was is = subst IsSome (sym (generation_good now (body ∷ []) end is)) refl
begun_more image now (front ∷ bodies) body gate end was is = subst IsSome (sym (generation_good now (front ∷ bodies ++ body ∷ []) end is)) refl

-- once the append is done the place stands with one record more
pub stands_after : (half : Half) (place dev gate : ℕ) (records : List (List ℕ)) (body : List ℕ) (d e : Disk) → dev ≡ device place half → half_number body ≡ 0 → (stands : StandsAt place half records gate d)
    → SameElsewhere dev d e → EndsAtRest (e dev) (stands.bodies ++ body ∷ []) (gate + 5 + length body) → StandsAt place half (records ++ body ∷ []) (gate + 5 + length body) e
stands_after First place dev gate records body d e is plain stands others ends = record {
  image = ends.image;
  rest = subst (λ (n : ℕ). e n ≡ at_rest ends.image) is ends.rest;
  bodies = stands.bodies ++ body ∷ [];
  log = ends.log;
  told = more_told stands.bodies records body plain stands.told;
  dormant = subst (λ (m : Medium). IsDormant ends.image m) (sym (others (place + 3) (λ same. omega (arith, same, is)))) (dormant_more stands.image ends.image stands.bodies body gate (gate + 5 + length body) (d (place + 3)) stands.log.good ends.log.good stands.dormant);
  begun = λ second. begun_more stands.image ends.image stands.bodies body gate (gate + 5 + length body) stands.log.good ends.log.good;
}
stands_after Second place dev gate records body d e is plain stands others ends = record {
  image = ends.image;
  rest = subst (λ (n : ℕ). e n ≡ at_rest ends.image) is ends.rest;
  bodies = stands.bodies ++ body ∷ [];
  log = ends.log;
  told = more_told stands.bodies records body plain stands.told;
  dormant = subst (λ (m : Medium). IsDormant ends.image m) (sym (others place (λ same. omega (arith, same, is)))) (dormant_more stands.image ends.image stands.bodies body gate (gate + 5 + length body) (d place) stands.log.good ends.log.good stands.dormant);
  begun = λ second. begun_more stands.image ends.image stands.bodies body gate (gate + 5 + length body) stands.log.good ends.log.good;
}

-- a call on another device leaves a place as it stands
pub still_stands : (half : Half) (place dev gate : ℕ) (records : List (List ℕ)) (d e : Disk) → place ≢ dev → place + 3 ≢ dev → SameElsewhere dev d e → StandsAt place half records gate d → StandsAt place half records gate e
still_stands half place dev gate records d e one two others stands =
    subst (λ (m : Medium). Stands half records gate m (e (place + 3))) (sym (others place one)) (subst (λ (m : Medium). Stands half records gate (d place) m) (sym (others (place + 3) two)) stands)

-- whatever a crash leaves of a place that stands, the records are these
pub settled : (half : Half) (place gate : ℕ) (records : List (List ℕ)) (d : Disk) (c : Images) → place ≤ 2 → StandsAt place half records gate d → Crash d c → records_at c place ≡ Some records
settled First place gate records d c is_place stands crash =
    let left = crash place (omega (arith, is_place)) in
    let image : c place ≡ stands.image = only_image stands.image (c place) (subst (λ (m : Medium). MayLeave m (c place)) stands.rest left) in
    first_pair (c place) (c (place + 3)) stands.bodies records gate (force First records gate (d place) (d (place + 3)) stands (c place) (c (place + 3)) left (crash (place + 3) (omega (arith, is_place)))) (ap parse image ∙ stands.log.good) stands.told
settled Second place gate records d c is_place stands crash =
    let left = crash (place + 3) (omega (arith, is_place)) in
    let image : c (place + 3) ≡ stands.image = only_image stands.image (c (place + 3)) (subst (λ (m : Medium). MayLeave m (c (place + 3))) stands.rest left) in
    second_pair (c place) (c (place + 3)) stands.bodies records gate (force Second records gate (d place) (d (place + 3)) stands (c place) (c (place + 3)) (crash place (omega (arith, is_place))) left) (ap parse image ∙ stands.log.good) stands.told

-- the device in force is at rest
pub rest_here : (half : Half) (place dev gate : ℕ) (records : List (List ℕ)) (d : Disk) → dev ≡ device place half → (stands : StandsAt place half records gate d) → d dev ≡ at_rest stands.image
rest_here First place dev gate records d is stands = ap (λ (n : ℕ). d n) is ∙ stands.rest
rest_here Second place dev gate records d is stands = ap (λ (n : ℕ). d n) is ∙ stands.rest
