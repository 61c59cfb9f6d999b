-- Which half is in force, and opening a place.
use Rattle.std.proofs.Common.{◌≡◌, ◌≢◌, inl, inr, ℕ, ◌+◌, ◌<◌, ◌≤◌, List, [], ◌∷◌, length, take, drop, Bool, true, false, Option, Some, None, Ok, Err, refl, sym, ◌∙◌, ap, subst, arith, length-drop, ne_eqb}
use Rattle.std.specs.Prelude.{nat_le, nat_lt, ◌==◌, ◌&&◌, if◌then◌else◌, IsSome, Result, OnOk, unwrap_or, min, slice_index}
use Rattle.std.specs.Result.{IsErrAnd}
use Rattle.std.specs.Int.{w32, w64, from_be_bytes}
use Rattle.std.proofs.lemmas.Bool.{cases_Bool, ltb-true, cases_lt}
use Rattle.std.proofs.lemmas.List.{length-take, take-take, drop-take, take_all}
use Rattle.volume_disk.specs.Medium.{Medium, MayLeave, at_rest}
use Rattle.volume_disk.specs.Disk.{Disk, SameElsewhere}
use Rattle.volume_disk.proofs.Rest.{only_image}
use Rattle.site_forms.specs.Logs.{parse, body_length}
use Rattle.site_forms.specs.Halves.{Half, device, device as half_device, generation, generation_from, first_number, half_number, stronger, in_force, without_half, records_in, records_of, pair_records, IsBelow}
use Rattle.site_forms.specs.Halves.Half.{First, Second}
use Rattle.site_forms.specs.Logs.Parsed.{Good, Bad}
use Rattle.site_forms.proofs.Halves.{first_pair, second_pair}
use Rattle.chunk_log.specs.declared.errors.LogError.{LogError}
use Rattle.chunk_log.specs.declared.errors.LogError.TheVariants.{RackFault, Damage}
use Rattle.chunk_log.specs.LogValues.{LogValue}
use Rattle.chunk_log.specs.Opening.{OpenedAs, OpensLog, Answers}
use Rattle.chunk_log.specs.Standing.{LogStands, IsDormant, beside, half_of}
use Rattle.chunk_log.specs.PlaceHalves.{chosen, half_image, IsHalf, NamesHalf, IsOfPlace, AnswersPlace, IsPlaceLog}

-- a body that is cut short is no Half record
cut_number : (rest : List ℕ) → length rest < 13 → first_number rest ≡ 0
cut_number rest short =
    let body = take 9 (drop 4 rest) in
    let few : length body ≡ 9 → ⊥ = λ nine. absurd (omega (arith, nine, short, length-take 9 (drop 4 rest), length-drop 4 rest)) in
    let none : half_number body ≡ 0 = ap (λ (b : Bool). if b && slice_index body 0 == 32 then from_be_bytes w64 (drop 1 body) else 0) (ne_eqb (length body) 9 few) in
    elim (cases_Bool (body_length rest == 9)) as (λ _. first_number rest ≡ 0) [
      | inl is_nine ↦ ap (λ (b : Bool). if b then half_number body else 0) is_nine ∙ none
      | inr fails ↦ ap (λ (b : Bool). if b then half_number body else 0) fails
    ]

-- of an image that is not blank the generation goes by its first gate
not_blank : (image : List ℕ) → 2 ≤ length image → generation image ≡ generation_from image
not_blank image long =
    let large : nat_le (length image) 1 ≡ false = grind (arith, long) in
    ap (λ (b : Bool). if b then None else generation_from image) large

-- from the second byte on, the generation of an open image that is cut short is 0
pub short_generation : (second : ℕ) (rest : List ℕ) → length rest < 12 → generation (1 ∷ second ∷ rest) ≡ Some 0
short_generation second rest short = not_blank (1 ∷ second ∷ rest) (omega arith) ∙ ap (λ (n : ℕ). Some n) (cut_number (second ∷ rest) (omega (arith, short)))

pub short_open : (image : List ℕ) → slice_index image 0 ≡ 1 → 2 ≤ length image → length image < 14 → Some 0 ≡ generation image
short_open [] is_open long short = absurd (omega (arith, long))
short_open (gate ∷ []) is_open long short = absurd (omega (arith, long))
short_open (gate ∷ second ∷ rest) is_open long short =
    sym (ap (λ (n : ℕ). generation (n ∷ second ∷ rest)) is_open ∙ short_generation second rest (omega (arith, short)))

-- the first 13 bytes behind the gate decide
number_front : (rest : List ℕ) → first_number (take 13 rest) ≡ first_number rest
number_front rest =
    let four : take 4 (take 13 rest) ≡ take 4 rest = take-take 4 13 rest (omega arith) in
    let nine : take 9 (drop 4 (take 13 rest)) ≡ take 9 (drop 4 rest) = ap (take 9) (drop-take 4 9 rest) ∙ take-take 9 9 (drop 4 rest) (omega arith) in
    ap (λ (l : List ℕ). if from_be_bytes w32 l == 9 then half_number (take 9 (drop 4 (take 13 rest))) else 0) four ∙ ap (λ (l : List ℕ). if body_length rest == 9 then half_number l else 0) nine

pub generation_front : (image : List ℕ) → generation (take 14 image) ≡ generation image
generation_front [] = refl
generation_front (gate ∷ []) = refl
generation_front (gate ∷ second ∷ rest) =
    not_blank (gate ∷ take 13 (second ∷ rest)) (omega arith)
    ∙ ap (λ (n : ℕ). if gate == 1 then Some n else None) (number_front (second ∷ rest))
    ∙ sym (not_blank (gate ∷ second ∷ rest) (omega arith))

-- as many bytes as there are, up to a number
pub front_of : (image : List ℕ) (n most : ℕ) → n ≡ min most (length image) → take n image ≡ take most image
front_of image n most is = elim (cases_lt (length image) most) as (λ _. take n image ≡ take most image) [
  | inr long ↦ ap (λ (k : ℕ). take k image) (omega (arith, is, long))
  | inl short ↦ take_all n image (omega (arith, is, short)) ∙ sym (take_all most image (omega (arith, short)))
]

-- the answer to two generations is the half in force
pub names_chosen : (place : ℕ) (g h : Option ℕ) → NamesHalf place (chosen place g h)
names_chosen place None None = (First, refl)
names_chosen place (Some n) None = (First, refl)
names_chosen place None (Some m) = (Second, refl)
names_chosen place (Some n) (Some m) = by (nat_lt n m) (nat_lt m n)
  where
    by : (a b : Bool) → NamesHalf place (if a then Ok (place + 3, m) else (if b then Ok (place, n) else Err (Damage (place + 3) 0)))
    by true b = (Second, refl)
    by false true = (First, refl)
    by false false = (refl, refl)

module _ (x y : List ℕ) (place : ℕ) where
  pub in_force_by : (g h : Option ℕ) → g ≡ generation x → h ≡ generation y → IsHalf x y place (chosen place g h)
  in_force_by None None is_g is_h = record { half = First; here = refl; is = ap (λ k. stronger k (generation y)) (sym is_g) ∙ ap (stronger None) (sym is_h); counted = ap (λ o. unwrap_or o 0) is_g }
  in_force_by (Some n) None is_g is_h = record { half = First; here = refl; is = ap (λ k. stronger k (generation y)) (sym is_g) ∙ ap (stronger (Some n)) (sym is_h); counted = ap (λ o. unwrap_or o 0) is_g }
  in_force_by None (Some m) is_g is_h = record { half = Second; here = refl; is = ap (λ k. stronger k (generation y)) (sym is_g) ∙ ap (stronger None) (sym is_h); counted = ap (λ o. unwrap_or o 0) is_h }
  in_force_by (Some n) (Some m) is_g is_h = by (nat_lt n m) (nat_lt m n) (ap (λ k. stronger k (generation y)) (sym is_g) ∙ ap (stronger (Some n)) (sym is_h))
    where
      by : (a b : Bool) → in_force x y ≡ (if a then Some Second else (if b then Some First else None)) → IsHalf x y place (if a then Ok (place + 3, m) else (if b then Ok (place, n) else Err (Damage (place + 3) 0)))
      by true b is = record { half = Second; here = refl; is = is; counted = ap (λ o. unwrap_or o 0) is_h }
      by false true is = record { half = First; here = refl; is = is; counted = ap (λ o. unwrap_or o 0) is_g }
      by false false is = is

-- what it says of the generations that a half is in force
abbrev is_first : Option Half → Type 0
is_first None = ⊥
is_first (Some First) = Unit {0}
is_first (Some Second) = ⊥

abbrev is_second : Option Half → Type 0
is_second None = ⊥
is_second (Some First) = ⊥
is_second (Some Second) = Unit {0}

pub first_above : (g h : Option ℕ) → stronger g h ≡ Some First → IsBelow h g
first_above None None is = tt
first_above (Some n) None is = tt
first_above None (Some m) is = absurd (subst is_first (sym is) tt)
first_above (Some n) (Some m) is = elim (cases_Bool (nat_lt n m)) as (λ _. m < n) [
  | inl under ↦ absurd (subst is_first (sym (sym (ap (λ (b : Bool). if b then Some Second else (if nat_lt m n then Some First else None)) under) ∙ is)) tt)
  | inr not_under ↦ elim (cases_Bool (nat_lt m n)) as (λ _. m < n) [
    | inl over ↦ ltb-true m n over
    | inr not_over ↦
        absurd (subst is_first (sym (sym (ap (λ (b : Bool). if b then Some Second else (if nat_lt m n then Some First else None)) not_under ∙ ap (λ (b : Bool). if b then Some First else None) not_over) ∙ is)) tt)
  ]
]

pub second_above : (g h : Option ℕ) → stronger g h ≡ Some Second → IsBelow g h × IsSome h
second_above None None is = absurd (subst is_second (sym is) tt)
second_above (Some n) None is = absurd (subst is_second (sym is) tt)
second_above None (Some m) is = (tt, refl)
second_above (Some n) (Some m) is = elim (cases_Bool (nat_lt n m)) as (λ _. (n < m) × IsSome (Some m)) [
  | inl under ↦ (ltb-true n m under, refl)
  | inr not_under ↦ elim (cases_Bool (nat_lt m n)) as (λ _. (n < m) × IsSome (Some m)) [
    | inl over ↦
        absurd (subst is_second (sym (sym (ap (λ (b : Bool). if b then Some Second else (if nat_lt m n then Some First else None)) not_under ∙ ap (λ (b : Bool). if b then Some First else None) over) ∙ is)) tt)
    | inr not_over ↦
        absurd (subst is_second (sym (sym (ap (λ (b : Bool). if b then Some Second else (if nat_lt m n then Some First else None)) not_under ∙ ap (λ (b : Bool). if b then Some First else None) not_over) ∙ is)) tt)
  ]
]

-- a half at rest with a lower generation is dormant
pub dormant_at_rest : (image other : List ℕ) (m : Medium) → m ≡ at_rest other → IsBelow (generation other) (generation image) → IsDormant image m
dormant_at_rest image other m rest below = record {
  lower = λ y left. subst (λ (l : List ℕ). IsBelow (generation l) (generation image)) (sym (only_image other y (subst (λ (n : Medium). MayLeave n y) rest left))) below;
  guarded = inl (rest ∙ ap (λ (n : Medium). at_rest n.image) (sym rest));
}

-- a log that was opened on the half in force stands for the place
pub place_stands : (half : Half) (place : ℕ) (x y : List ℕ) (d e : Disk) (log : LogValue) → place ≤ 2 → in_force x y ≡ Some half → log.device ≡ device place half → log.spent ≡ false
    → beside half (e place) (e (place + 3)) ≡ at_rest (half_image half y x) → (opened : OpenedAs (half_image half x y) (half_of half (e place) (e (place + 3))) log.end) → LogStands place (without_half opened.bodies) log e
place_stands First place x y d e log is_place force here fresh rest opened = record {
  is_place = is_place;
  half = First;
  here = here;
  stands = record {
    image = opened.now;
    rest = opened.rest;
    bodies = opened.bodies;
    log = opened.log;
    told = refl;
    dormant = dormant_at_rest opened.now y (e (place + 3)) rest (subst (λ (g : Option ℕ). IsBelow (generation y) g) (sym opened.kept) (first_above (generation x) (generation y) force));
    begun = λ second. absurd (subst is_second (ap (λ (h : Half). Some h) (sym second)) tt);
  };
  fresh = fresh;
}
place_stands Second place x y d e log is_place force here fresh rest opened = record {
  is_place = is_place;
  half = Second;
  here = here;
  stands = record {
    image = opened.now;
    rest = opened.rest;
    bodies = opened.bodies;
    log = opened.log;
    told = refl;
    dormant = dormant_at_rest opened.now x (e place) rest (subst (λ (g : Option ℕ). IsBelow (generation x) g) (sym opened.kept) (second_above (generation x) (generation y) force).0);
    begun = λ second. subst IsSome (sym opened.kept) (second_above (generation x) (generation y) force).1;
  };
  fresh = fresh;
}

-- the device of a half is one of the six
pub half_of_six : (place device : ℕ) (half : Half) → place ≤ 2 → device ≡ half_device place half → device ≤ 5
half_of_six place device First is_place is = omega (arith, is_place, is)
half_of_six place device Second is_place is = omega (arith, is_place, is)

pub on_ok_always : {T E P : Type 0} (r : Result T E) → P → OnOk r P
on_ok_always (Ok x) fact = fact
on_ok_always (Err e) fact = tt

-- what the place said before
pub place_told : (half : Half) (x y : List ℕ) (bodies : List (List ℕ)) (gate : ℕ) → in_force x y ≡ Some half → parse (half_image half x y) ≡ Good bodies gate → pair_records x y ≡ Some (without_half bodies)
place_told First x y bodies gate force good = first_pair x y bodies (without_half bodies) gate force good refl
place_told Second x y bodies gate force good = second_pair x y bodies (without_half bodies) gate force good refl

pub place_bad : (half : Half) (x y : List ℕ) (gate : ℕ) → in_force x y ≡ Some half → parse (half_image half x y) ≡ Bad gate → pair_records x y ≡ None
place_bad First x y gate force bad = ap (λ f. records_of f x y) force ∙ ap records_in bad
place_bad Second x y gate force bad = ap (λ f. records_of f x y) force ∙ ap records_in bad

pub place_none : (x y : List ℕ) → in_force x y ≡ None → pair_records x y ≡ None
place_none x y none = ap (λ f. records_of f x y) none

-- no half is in force, or a call has failed
pub refused_place : (d e : Disk) (place : ℕ) (error : LogError) → NamesHalf place (Err error) → IsHalf (d place).image (d (place + 3)).image place (Err error) → IsPlaceLog d e place (Err error)
refused_place d e place RackFault named is = tt
refused_place d e place (Damage device at) named is = (place_none (d place).image (d (place + 3)).image is, inl (is, named.0, named.1))

pub refused_handed : (d e : Disk) (place : ℕ) (error : LogError) (result : Result LogValue LogError) → IsErrAnd result (λ other. other ≡ error) → NamesHalf place (Err error)
    → IsHalf (d place).image (d (place + 3)).image place (Err error) → IsPlaceLog d e place result
refused_handed d e place error (Ok log) handed named is = absurd handed
refused_handed d e place error (Err other) handed named is = subst (λ (x : LogError). IsPlaceLog d e place (Err x)) (sym handed) (refused_place d e place error named is)

-- the device that is named, on every rack
refused_answer : (place limit : ℕ) (error : LogError) → NamesHalf place (Err error) → AnswersPlace place limit (Err error)
refused_answer place limit RackFault named = tt
refused_answer place limit (Damage device at) named = (Second, named.0)

pub handed_answer : (place limit : ℕ) (error : LogError) (result : Result LogValue LogError) → IsErrAnd result (λ other. other ≡ error) → NamesHalf place (Err error) → AnswersPlace place limit result
handed_answer place limit error (Ok log) handed named = absurd handed
handed_answer place limit error (Err other) handed named = subst (λ (x : LogError). AnswersPlace place limit (Err x)) (sym handed) (refused_answer place limit error named)

pub opened_answer : (place limit dev : ℕ) (result : Result LogValue LogError) → IsOfPlace place dev → Answers dev limit result → AnswersPlace place limit result
opened_answer place limit dev (Ok log) of answers = ((of.0, answers.0 ∙ of.1), answers.1, answers.2)
opened_answer place limit dev (Err (Damage device at)) of answers = (of.0, answers ∙ of.1)
opened_answer place limit dev (Err RackFault) of answers = tt

-- what opening the half in force says of its place
pub opened_place : (half : Half) (place dev limit : ℕ) (d m e : Disk) (result : Result LogValue LogError) → place ≤ 2 → dev ≡ device place half → in_force (d place).image (d (place + 3)).image ≡ Some half
    → m place ≡ at_rest (d place).image → m (place + 3) ≡ at_rest (d (place + 3)).image → SameElsewhere dev m e → Answers dev limit result → OpensLog (m dev).image (e dev) result → IsPlaceLog d e place result
opened_place half place dev limit d m e (Err RackFault) is_place is force one two others answers opens = tt
opened_place First place dev limit d m e (Err (Damage device at)) is_place is force one two others answers opens =
    let bad : parse (d place).image ≡ Bad at = sym (ap (λ (n : ℕ). parse (m n).image) is ∙ ap (λ (x : Medium). parse x.image) one) ∙ opens in
    (place_bad First (d place).image (d (place + 3)).image at force bad, inr (First, force, answers ∙ is, bad))
opened_place Second place dev limit d m e (Err (Damage device at)) is_place is force one two others answers opens =
    let bad : parse (d (place + 3)).image ≡ Bad at = sym (ap (λ (n : ℕ). parse (m n).image) is ∙ ap (λ (x : Medium). parse x.image) two) ∙ opens in
    (place_bad Second (d place).image (d (place + 3)).image at force bad, inr (Second, force, answers ∙ is, bad))
opened_place First place dev limit d m e (Ok log) is_place is force one two others answers opens =
    let x = (d place).image in
    let y = (d (place + 3)).image in
    let opened : OpenedAs x (e place) log.end = subst (λ (l : List ℕ). OpenedAs l (e place) log.end) (ap (λ (n : Medium). n.image) one) (subst (λ (n : ℕ). OpenedAs (m n).image (e n) log.end) is opens) in (
      without_half opened.bodies,
      place_told First x y opened.bodies log.end force opened.told,
      place_stands First place x y d e log is_place force (answers.0 ∙ is) answers.2 (others (place + 3) (λ same. omega (arith, same, is)) ∙ two) opened,
    )
opened_place Second place dev limit d m e (Ok log) is_place is force one two others answers opens =
    let x = (d place).image in
    let y = (d (place + 3)).image in
    let opened : OpenedAs y (e (place + 3)) log.end = subst (λ (l : List ℕ). OpenedAs l (e (place + 3)) log.end) (ap (λ (n : Medium). n.image) two) (subst (λ (n : ℕ). OpenedAs (m n).image (e n) log.end) is opens) in (
      without_half opened.bodies,
      place_told Second x y opened.bodies log.end force opened.told,
      place_stands Second place x y d e log is_place force (answers.0 ∙ is) answers.2 (others place (λ same. omega (arith, same, is)) ∙ one) opened,
    )

pub not_the_half : (half : Half) (place dev other : ℕ) → dev ≡ device place half → other ≢ place → other ≢ place + 3 → other ≢ dev
not_the_half First place dev other is out away = λ same. out (same ∙ is)
not_the_half Second place dev other is out away = λ same. away (same ∙ is)
