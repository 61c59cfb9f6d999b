-- Images that agree with a log, and logs with one body more.
use Rattle.std.proofs.Common.{◌≡◌, ◌≢◌, ◌⊎◌, inl, inr, ℕ, suc, ◌+◌, ◌-◌, ◌^◌, ◌<◌, ◌≤◌, List, [], ◌∷◌, ◌++◌, length, get_or, take, drop, refl, sym, ◌∙◌, ap, arith, Bool, false, le-leb, length-append}
use Rattle.std.specs.Prelude.{slice_index, nat_le, if◌then◌else◌}
use Rattle.std.specs.Int.{w32, to_be_bytes}
use Rattle.std.proofs.lemmas.List.{drop-drop, drop_at, append_assoc}
use Rattle.site_forms.specs.Logs.{parse, parse_from, framed}
use Rattle.site_forms.specs.Logs.Parsed.{Good, Bad}
use Rattle.site_forms.proofs.Agree.{bool_cases, bodies_of, end_of, bad_good, step, closes, agree as agree_from}
use Rattle.site_forms.proofs.Extend.{frame_of, first, extend as extend_from}

-- a parse that is good goes from the first place, but of a blank image
pub from_start : (image : List ℕ) (bodies : List (List ℕ)) (place : ℕ) → parse image ≡ Good bodies place → (bodies ≡ []) × (place ≡ 0) ⊎ (parse_from (length image) 0 image ≡ Good bodies place)
from_start image bodies place good = elim (bool_cases (nat_le (length image) 1)) as (λ _. (bodies ≡ []) × (place ≡ 0) ⊎ (parse_from (length image) 0 image ≡ Good bodies place)) [
  | inl small ↦
      let ends : Good [] 0 ≡ Good bodies place = sym (ap (λ (b : Bool). if b then Good [] 0 else parse_from (length image) 0 image) small) ∙ good in
      inl (sym (ap bodies_of ends), sym (ap end_of ends))
  | inr large ↦ inr (sym (ap (λ (b : Bool). if b then Good [] 0 else parse_from (length image) 0 image) large) ∙ good)
]

pub blank : (l : List ℕ) → length l ≤ 1 → parse l ≡ Good [] 0
blank l short = ap (λ (b : Bool). if b then Good [] 0 else parse_from (length l) 0 l) (le-leb (length l) 1 short)

pub not_blank : (l : List ℕ) → 2 ≤ length l → parse l ≡ parse_from (length l) 0 l
not_blank l long =
    let large : nat_le (length l) 1 ≡ false = grind (arith, long) in
    ap (λ (b : Bool). if b then Good [] 0 else parse_from (length l) 0 l) large

-- what goes from the first place is the parse
pub whole : (image : List ℕ) (bodies : List (List ℕ)) (place : ℕ) → parse_from (length image) 0 image ≡ Good bodies place → parse image ≡ Good bodies place
whole [] bodies place good = absurd (bad_good 0 bodies place good)
whole (gate ∷ []) bodies place good = elim (step 0 0 gate [] bodies place good) as (λ _. parse (gate ∷ []) ≡ Good bodies place) [
  | inl ended ↦ blank (gate ∷ []) (omega arith) ∙ ap (λ (l : List (List ℕ)). Good l 0) (sym ended.1) ∙ ap (λ (i : ℕ). Good bodies i) (sym ended.2)
  | inr block ↦ absurd (bad_good 0 bodies place (ap (λ (b : Bool). if b then Good bodies place else Bad 0) block.1))
]
whole (gate ∷ next ∷ rest) bodies place good = not_blank (gate ∷ next ∷ rest) (omega arith) ∙ good

-- an image that is the same up to a closed gate
pub agree : (image c : List ℕ) (bodies : List (List ℕ)) (place : ℕ) → parse image ≡ Good bodies place → place < length c → take place c ≡ take place image → slice_index c place ≢ 1 → parse c ≡ Good bodies place
agree image [] bodies place good gate same closed = absurd (omega (arith, gate))
agree image (y ∷ ys) bodies place good gate same closed = whole (y ∷ ys) bodies place (elim (from_start image bodies place good) as (λ _. parse_from (length (y ∷ ys)) 0 (y ∷ ys) ≡ Good bodies place) [
  | inl start ↦
      closes (length ys) 0 y ys (λ is_open. closed (ap (λ (i : ℕ). get_or (y ∷ ys) i 0) start.1 ∙ is_open))
      ∙ ap (λ (l : List (List ℕ)). Good l 0) (sym start.0) ∙ ap (λ (i : ℕ). Good bodies i) (sym start.1)
  | inr from ↦
      agree_from (length image) (length (y ∷ ys)) 0 place image (y ∷ ys) bodies (from ∙ ap (λ (i : ℕ). Good bodies i) (omega arith)) (omega arith) gate same closed ∙ ap (λ (i : ℕ). Good bodies i) (omega arith)
])

-- what is written at a gate: open, the length, the body and a closed gate, one after the other
pub framed_apart : (body junk : List ℕ) → framed body ++ junk ≡ frame_of body 0 junk
framed_apart body junk = append_assoc (to_be_bytes w32 (length body)) (body ++ 0 ∷ []) junk ∙ ap (λ (l : List ℕ). to_be_bytes w32 (length body) ++ l) (append_assoc body (0 ∷ []) junk)

pub shut : (gate : ℕ) → gate ≡ 0 → gate ≡ 1 → ⊥
shut gate closed is_open = omega (arith, closed, is_open)

-- an image whose gate is open, with a body behind it
pub extend : (image c : List ℕ) (bodies : List (List ℕ)) (place : ℕ) (body junk : List ℕ) → parse image ≡ Good bodies place → take place c ≡ take place image → drop place c ≡ 1 ∷ (framed body ++ junk)
    → 1 ≤ length body → length body ≤ 2 ^ 24 → place + 6 + length body ≤ 2 ^ 40 → parse c ≡ Good (bodies ++ body ∷ []) (place + 5 + length body)
extend image c bodies place body junk good same behind some most room =
    let block : drop place c ≡ 1 ∷ frame_of body 0 junk = behind ∙ ap (λ (l : List ℕ). 1 ∷ l) (framed_apart body junk) in
    whole c (bodies ++ body ∷ []) (place + 5 + length body) (elim (from_start image bodies place good) as (λ _. parse_from (length c) 0 c ≡ Good (bodies ++ body ∷ []) (place + 5 + length body)) [
      | inl start ↦
          let from : c ≡ 1 ∷ frame_of body 0 junk = ap (λ (i : ℕ). drop i c) (sym start.1) ∙ block in
          let long : length c ≡ 6 + length body + length junk = omega (arith, ap length from, length-append (to_be_bytes w32 (length body)) (body ++ 0 ∷ junk), length-append body (0 ∷ junk)) in
          let more_fuel = length c - 2 in
          let fuel_is : length c ≡ suc (suc more_fuel) = omega (arith, long) in
          ap (λ (f : ℕ). parse_from f 0 c) fuel_is ∙ ap (λ (l : List ℕ). parse_from (suc (suc more_fuel)) 0 l) from
          ∙ first more_fuel 0 body junk 0 refl some most (omega (arith, room)) (shut 0 refl)
          ∙ ap (λ (l : List (List ℕ)). Good (l ++ body ∷ []) (0 + 5 + length body)) (sym start.0) ∙ ap (λ (i : ℕ). Good (bodies ++ body ∷ []) i) (omega (arith, start.1))
      | inr from ↦
          extend_from (length image) (length c) 0 place image c bodies body junk 0 (from ∙ ap (λ (i : ℕ). Good bodies i) (omega arith)) (omega arith) same block refl some most (omega (arith, room)) (shut 0 refl)
          ∙ ap (λ (i : ℕ). Good (bodies ++ body ∷ []) i) (omega arith)
    ])

-- the gate behind a body that was appended
pub next_gate : (c body junk : List ℕ) (place : ℕ) → drop place c ≡ 1 ∷ (framed body ++ junk) → drop (place + 5 + length body) c ≡ 0 ∷ junk
next_gate c body junk place behind =
    let block : drop place c ≡ 1 ∷ frame_of body 0 junk = behind ∙ ap (λ (l : List ℕ). 1 ∷ l) (framed_apart body junk) in
    let head = 1 ∷ to_be_bytes w32 (length body) ++ body in
    let long : length head ≡ 5 + length body = omega (arith, length-append (to_be_bytes w32 (length body)) body) in
    let parts : 1 ∷ frame_of body 0 junk ≡ head ++ 0 ∷ junk = ap (λ (l : List ℕ). 1 ∷ l) (sym (append_assoc (to_be_bytes w32 (length body)) body (0 ∷ junk))) in
    ap (λ (i : ℕ). drop i c) (omega arith) ∙ sym (drop-drop (5 + length body) place c) ∙ ap (λ (l : List ℕ). drop (5 + length body) l) (block ∙ parts) ∙ drop_at head (0 ∷ junk) (5 + length body) long
