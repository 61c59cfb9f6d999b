-- The walk over the gates of an image.
use Rattle.std.proofs.Common.{◌≡◌, ℕ, suc, ◌+◌, ◌-◌, ◌<◌, ◌≤◌, List, [], ◌∷◌, ◌++◌, length, get_or, take, drop, Bool, true, false, refl, sym, ◌∙◌, ap, subst, arith, length-drop}
use Rattle.std.specs.Prelude.{◌==◌, ◌&&◌, if◌then◌else◌, min}
use Rattle.std.proofs.lemmas.Bool.{eqb-false}
use Rattle.std.proofs.lemmas.List.{drop-drop, get_or-drop, length-take}
use Rattle.site_forms.specs.Logs.{Parsed, parse_from, body_length, is_block, more}
use Rattle.site_forms.specs.Logs.Parsed.{Good, Bad}
use Rattle.site_forms.proofs.Logs.{not_blank}
use Rattle.site_forms.specs.declared.gates.Gate.{Gate}
use Rattle.site_forms.specs.declared.gates.Gate.TheVariants.{Shut, Broken, Open}
use Rattle.chunk_log.specs.declared.opening.Found.TheVariants.{End, Bad as BadGate}
use Rattle.site_forms.specs.Gates.{fits_block, gate_in}
use Rattle.chunk_log.specs.Opening.{Finds}

-- bodies in front of what is parsed
abbrev pub behind_bodies : List (List ℕ) → Parsed → Parsed
behind_bodies [] p = p
behind_bodies (body ∷ bodies) p = more body (behind_bodies bodies p)

one_behind : (bodies : List (List ℕ)) (body : List ℕ) (p : Parsed) → behind_bodies (bodies ++ body ∷ []) p ≡ behind_bodies bodies (more body p)
one_behind [] body p = refl
one_behind (front ∷ bodies) body p = ap (more front) (one_behind bodies body p)

good_behind : (bodies : List (List ℕ)) (gate : ℕ) → behind_bodies bodies (Good [] gate) ≡ Good bodies gate
good_behind [] gate = refl
good_behind (body ∷ bodies) gate = ap (more body) (good_behind bodies gate)

bad_behind : (bodies : List (List ℕ)) (gate : ℕ) → behind_bodies bodies (Bad gate) ≡ Bad gate
bad_behind [] gate = refl
bad_behind (body ∷ bodies) gate = ap (more body) (bad_behind bodies gate)

-- the walk over an image has come to a gate: what is left to parse stands behind the bodies so far
pub record Reaches (image : List ℕ) (at : ℕ) : Type 0 where
  pub inside : at < length image
  pub bodies : List (List ℕ)
  pub fuel : ℕ
  pub enough : length image ≤ fuel + at
  pub same : parse_from (length image) 0 image ≡ behind_bodies bodies (parse_from fuel at (drop at image))

pub at_start : (image : List ℕ) → 2 ≤ length image → Reaches image 0
at_start image long = record { inside = omega (arith, long); bodies = []; fuel = length image; enough = omega arith; same = refl }

-- the test of a block, from the bytes that were read and from all
same_test : (at size gate : ℕ) (rest : List ℕ) → size ≡ at + 1 + length rest → (length (gate ∷ take 4 rest) == 5 && fits_block at size (body_length rest)) ≡ is_block at rest
same_test at size gate rest long =
    let front : length (take 4 rest) ≡ min 4 (length rest) = length-take 4 rest in
    grind (arith, long, front)

-- what is read at a gate says how the parse goes on there
gate_read : (at size gate : ℕ) (rest : List ℕ) → size ≡ at + 1 + length rest
    → gate_in (gate ∷ take 4 rest) at size ≡ (if gate == 1 then (if is_block at rest then Open (body_length rest) else Broken) else Shut)
gate_read at size gate rest long = ap (λ (b : Bool). if gate == 1 then (if b then Open (body_length rest) else Broken) else Shut) (same_test at size gate rest long)

abbrev is_shut : Gate → Type 0
is_shut Shut = Unit {0}
is_shut Broken = ⊥
is_shut (Open n) = ⊥

abbrev is_broken : Gate → Type 0
is_broken Shut = ⊥
is_broken Broken = Unit {0}
is_broken (Open n) = ⊥

abbrev length_of : Gate → ℕ
length_of Shut = 0
length_of Broken = 0
length_of (Open n) = n

-- the three answers
shut_by : (a b : Bool) (n : ℕ) → (if a then (if b then Open n else Broken) else Shut) ≡ Shut → a ≡ false
shut_by true true n e = absurd (subst is_shut (sym e) tt)
shut_by true false n e = absurd (subst is_shut (sym e) tt)
shut_by false b n e = refl

broken_by : (a b : Bool) (n : ℕ) → (if a then (if b then Open n else Broken) else Shut) ≡ Broken → (a ≡ true) × (b ≡ false)
broken_by true true n e = absurd (subst is_broken (sym e) tt)
broken_by true false n e = (refl, refl)
broken_by false b n e = absurd (subst is_broken (sym e) tt)

open_by : (a b : Bool) (n m : ℕ) → (if a then (if b then Open n else Broken) else Shut) ≡ Open m → (a ≡ true) × (b ≡ true) × (n ≡ m)
open_by true true n m e = (refl, refl, ap length_of e)
open_by true false n m e = absurd (subst is_broken e tt)
open_by false b n m e = absurd (subst is_shut e tt)

-- one step of the parse
abbrev parsed_at : Bool → Bool → ℕ → ℕ → List ℕ → Parsed
parsed_at a b fuel at rest = if a then (if b then more (take (body_length rest) (drop 4 rest)) (parse_from fuel (at + 5 + body_length rest) (drop (4 + body_length rest) rest)) else Bad at) else Good [] at

module _ (image : List ℕ) (at fuel gate : ℕ) (rest : List ℕ) (here : drop at image ≡ gate ∷ rest) (reaches : Reaches image at) (enough : reaches.fuel ≡ suc fuel) where
  step_same : parse_from (length image) 0 image ≡ behind_bodies reaches.bodies (parsed_at (gate == 1) (is_block at rest) fuel at rest)
  step_same = reaches.same ∙ ap (λ (f : ℕ). behind_bodies reaches.bodies (parse_from f at (drop at image))) enough ∙ ap (λ (l : List ℕ). behind_bodies reaches.bodies (parse_from (suc fuel) at l)) here

  size_here : length image ≡ at + 1 + length rest
  size_here = omega (arith, ap length here, length-drop at image, reaches.inside)

  gate_here : gate_in (take 5 (drop at image)) at (length image) ≡ (if gate == 1 then (if is_block at rest then Open (body_length rest) else Broken) else Shut)
  gate_here = ap (λ (l : List ℕ). gate_in (take 5 l) at (length image)) here ∙ gate_read at (length image) gate rest size_here

  pub shut_here : gate_in (take 5 (drop at image)) at (length image) ≡ Shut → 2 ≤ length image → Finds image (End at)
  shut_here seen long =
      let closed = shut_by (gate == 1) (is_block at rest) (body_length rest) (sym gate_here ∙ seen) in (
        reaches.bodies,
        record {
          good = not_blank image long ∙ step_same ∙ ap (λ (b : Bool). behind_bodies reaches.bodies (parsed_at b (is_block at rest) fuel at rest)) closed ∙ good_behind reaches.bodies at;
          gate = reaches.inside;
          closed = λ is_open. eqb-false gate 1 closed (sym (ap (λ (l : List ℕ). get_or l 0 0) here) ∙ get_or-drop at image 0 0 ∙ ap (λ (i : ℕ). get_or image i 0) (omega arith) ∙ is_open);
        },
      )

  pub broken_here : gate_in (take 5 (drop at image)) at (length image) ≡ Broken → 2 ≤ length image → Finds image (BadGate at)
  broken_here seen long =
      let is = broken_by (gate == 1) (is_block at rest) (body_length rest) (sym gate_here ∙ seen) in
      not_blank image long ∙ step_same ∙ ap (λ (b : Bool). behind_bodies reaches.bodies (parsed_at b (is_block at rest) fuel at rest)) is.0 ∙ ap (λ (b : Bool). behind_bodies reaches.bodies (parsed_at true b fuel at rest)) is.1
      ∙ bad_behind reaches.bodies at

  pub open_here : (n : ℕ) → gate_in (take 5 (drop at image)) at (length image) ≡ Open n → at + 5 + n < length image → Reaches image (at + (5 + n))
  open_here n seen fits =
      let is = open_by (gate == 1) (is_block at rest) (body_length rest) n (sym gate_here ∙ seen) in
      let body = take (body_length rest) (drop 4 rest) in
      record {
        inside = omega (arith, fits);
        bodies = reaches.bodies ++ body ∷ [];
        fuel = fuel;
        enough = omega (arith, reaches.enough, enough);
        same = step_same ∙ ap (λ (b : Bool). behind_bodies reaches.bodies (parsed_at b (is_block at rest) fuel at rest)) is.0
            ∙ ap (λ (b : Bool). behind_bodies reaches.bodies (parsed_at true b fuel at rest)) is.1
            ∙ sym (one_behind reaches.bodies body (parse_from fuel (at + 5 + body_length rest) (drop (4 + body_length rest) rest)))
            ∙ ap (λ (m : ℕ). behind_bodies (reaches.bodies ++ body ∷ []) (parse_from fuel (at + 5 + m) (drop (4 + m) rest))) is.2
            ∙ ap (λ (i : ℕ). behind_bodies (reaches.bodies ++ body ∷ []) (parse_from fuel i (drop (4 + n) rest))) (omega arith)
            ∙ ap (λ (l : List ℕ). behind_bodies (reaches.bodies ++ body ∷ []) (parse_from fuel (at + (5 + n)) l)) (behind_here n);
      }
    where
      behind_here : (n : ℕ) → drop (4 + n) rest ≡ drop (at + (5 + n)) image
      behind_here n = ap (λ (l : List ℕ). drop (suc (4 + n)) l) (sym here) ∙ drop-drop (suc (4 + n)) at image ∙ ap (λ (k : ℕ). drop k image) (omega arith)

-- the bytes of an image from a place inside it on
split_here : (image : List ℕ) (at : ℕ) → at < length image → (gate : ℕ) × (rest : List ℕ) × (drop at image ≡ gate ∷ rest)
split_here image at inside = first_of_list (drop at image) (omega (arith, inside, length-drop at image))
  where
    first_of_list : (xs : List ℕ) → 1 ≤ length xs → (gate : ℕ) × (rest : List ℕ) × (xs ≡ gate ∷ rest)
    first_of_list [] some = absurd (omega (arith, some))
    first_of_list (x ∷ xs) some = (x, xs, refl)

-- the walk has fuel
fuel_left : (image : List ℕ) (at : ℕ) (reaches : Reaches image at) → (fuel : ℕ) × (reaches.fuel ≡ suc fuel)
fuel_left image at reaches = (reaches.fuel - 1, omega (arith, reaches.enough, reaches.inside))

pub shut_at : (image : List ℕ) (at : ℕ) → Reaches image at → gate_in (take 5 (drop at image)) at (length image) ≡ Shut → 2 ≤ length image → Finds image (End at)
shut_at image at reaches =
    let split = split_here image at reaches.inside in
    let fuel = fuel_left image at reaches in
    shut_here image at fuel.0 split.0 split.1 split.2 reaches fuel.1

pub broken_at : (image : List ℕ) (at : ℕ) → Reaches image at → gate_in (take 5 (drop at image)) at (length image) ≡ Broken → 2 ≤ length image → Finds image (BadGate at)
broken_at image at reaches =
    let split = split_here image at reaches.inside in
    let fuel = fuel_left image at reaches in
    broken_here image at fuel.0 split.0 split.1 split.2 reaches fuel.1

pub open_at : (image : List ℕ) (at n : ℕ) → Reaches image at → gate_in (take 5 (drop at image)) at (length image) ≡ Open n → at + 5 + n < length image → Reaches image (at + (5 + n))
open_at image at n reaches =
    let split = split_here image at reaches.inside in
    let fuel = fuel_left image at reaches in
    open_here image at fuel.0 split.0 split.1 split.2 reaches fuel.1 n

-- what was seen of an image under another name
pub seen_from : (image other : List ℕ) (at size : ℕ) (g h : Gate) → other ≡ image → size ≡ length image → g ≡ gate_in (take 5 (drop at other)) at size → g ≡ h → gate_in (take 5 (drop at image)) at (length image) ≡ h
seen_from image other at size g h same long seen is =
    ap (λ (n : ℕ). gate_in (take 5 (drop at image)) at n) (sym long) ∙ ap (λ (l : List ℕ). gate_in (take 5 (drop at l)) at size) (sym same) ∙ sym seen ∙ is
