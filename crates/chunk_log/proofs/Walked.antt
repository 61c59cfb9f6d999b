-- A walk over the gates of a log.
use Rattle.std.proofs.Common.{◌≡◌, inl, inr, ℕ, suc, ◌+◌, ◌^◌, ◌<◌, ◌≤◌, List, [], length, get_or, take, drop, Bool, true, refl, sym, ◌∙◌, ap, subst, arith, length-drop}
use Rattle.std.specs.Prelude.{◌==◌, ◌&&◌, if◌then◌else◌}
use Rattle.std.specs.Int.{w32, from_be_bytes}
use Rattle.std.proofs.lemmas.Bool.{and_from, and_parts, cases_Bool, le-leb, lt-ltb, eq-eqb, eqb-true, leb-true, ltb-true}
use Rattle.std.proofs.lemmas.List.{drop-drop, drop-take, get_or-drop, get_or-take, length-take, length-take-le}
use Rattle.std.proofs.lemmas.List.Elements.{All-get_or}
use Rattle.std.proofs.lemmas.List.Sums.{sum_by-take-le, sum_by_push}
use Rattle.std.proofs.Math.Seq.{take-suc}
use Rattle.site_forms.specs.Logs.{parse, log_size, IsBody}
use Rattle.site_forms.specs.Logs.Parsed.{Good}
use Rattle.site_forms.proofs.Walks.{ends, bodies_in, within}
use Rattle.site_forms.specs.declared.gates.Gate.{Gate}
use Rattle.site_forms.specs.declared.gates.Gate.TheVariants.{Shut, Broken, Open}
use Rattle.chunk_log.specs.LogValues.{LogValue}
use Rattle.site_forms.specs.Gates.{fits_block, gate_in, IsGate}
use Rattle.chunk_log.specs.Walking.{Walks, HasBlock, FindsBlock, WalksTo, placed, place_behind}

-- a block stands before the end of the log
pub before_end : (bodies : List (List ℕ)) (i : ℕ) → i < length bodies → log_size (take i bodies) + 5 + length (get_or bodies i []) ≤ log_size bodies
before_end bodies i inside =
    let size = λ (b : List ℕ). 5 + length b in
    let more = ap log_size (take-suc bodies i [] inside) ∙ sum_by_push size (take i bodies) (get_or bodies i []) in
    omega (arith, more, sum_by-take-le size bodies (suc i))

-- what the bytes from a gate on say of it
head_first : (image : List ℕ) (at : ℕ) → get_or (take 5 (drop at image)) 0 0 ≡ get_or image at 0
head_first image at = get_or-take 5 (drop at image) 0 0 (omega arith) ∙ get_or-drop at image 0 0 ∙ ap (λ (k : ℕ). get_or image k 0) (omega arith)

head_number : (image : List ℕ) (at : ℕ) → from_be_bytes w32 (drop 1 (take 5 (drop at image))) ≡ from_be_bytes w32 (take 4 (drop (at + 1) image))
head_number image at = ap (from_be_bytes w32) (drop-take 1 4 (drop at image) ∙ ap (take 4) (drop-drop 1 at image))

-- what is read at a gate with a block
gate_of_block : (image : List ℕ) (at end n : ℕ) → end < 2 ^ 40 → HasBlock image at end n → gate_in (take 5 (drop at image)) at (end + 1) ≡ Open n
gate_of_block image at end n low has =
    let head = take 5 (drop at image) in
    let five : length head ≡ 5 = length-take-le 5 (drop at image) (omega (arith, has.whole, length-drop at image)) in
    let first : get_or head 0 0 ≡ 1 = head_first image at ∙ has.is_open in
    let number : from_be_bytes w32 (drop 1 head) ≡ n = head_number image at ∙ has.size in
    let next : at + 5 + n < end + 1 = omega (arith, has.inside) in
    let under : at + 5 + n < 2 ^ 40 = omega (arith, has.inside, low) in
    let fits : fits_block at (end + 1) n ≡ true = and_from _ _ (le-leb 1 n has.some) (and_from _ _ (le-leb n (2 ^ 24) has.most) (and_from _ _ (lt-ltb (at + 5 + n) (end + 1) next) (lt-ltb (at + 5 + n) (2 ^ 40) under))) in
    ap (λ (b : Bool). if b then (if length head == 5 && fits_block at (end + 1) (from_be_bytes w32 (drop 1 head)) then Open (from_be_bytes w32 (drop 1 head)) else Broken) else Shut) (eq-eqb (get_or head 0 0) 1 first)
    ∙ ap (λ (n : ℕ). if length head == 5 && fits_block at (end + 1) n then Open n else Broken) number
    ∙ ap (λ (b : Bool). if b then Open n else Broken) (and_from _ _ (eq-eqb (length head) 5 five) fits)

-- what is read at the gate of a body of a log
pub gate_of_body : (image : List ℕ) (bodies : List (List ℕ)) (gate i : ℕ) → parse image ≡ Good bodies gate → i < length bodies → gate < 2 ^ 40
    → gate_in (take 5 (drop (log_size (take i bodies)) image)) (log_size (take i bodies)) (gate + 1) ≡ Open (length (get_or bodies i []))
gate_of_body image bodies gate i good inside low =
    let at = log_size (take i bodies) in
    let body = get_or bodies i [] in
    let has = within image bodies gate i good inside in
    let lawful = All-get_or IsBody bodies i [] inside (bodies_in image bodies gate good) in
    gate_of_block image at gate (length body) low (record {
      is_open = has.is_open;
      whole = omega (arith, ap length has.bytes, length-take (length body) (drop (at + 5) image), length-drop (at + 5) image, lawful.some);
      size = has.size;
      some = lawful.some;
      most = lawful.most;
      inside = omega (arith, before_end bodies i inside, ends image bodies gate good);
    })

-- the body of a gate
abbrev gate_len : Gate → ℕ
gate_len Shut = 0
gate_len Broken = 0
gate_len (Open n) = n

abbrev is_open_gate : Gate → Type 0
is_open_gate Shut = ⊥
is_open_gate Broken = ⊥
is_open_gate (Open n) = Unit {0}

not_open : (gate : Gate) (n : ℕ) → gate ≡ Open n → is_open_gate gate
not_open gate n is = subst is_open_gate (sym is) tt

-- where a body is read, there is a block
block_of_gate : (image : List ℕ) (at end n : ℕ) → gate_in (take 5 (drop at image)) at (end + 1) ≡ Open n → HasBlock image at end n
block_of_gate image at end n is =
    let head = take 5 (drop at image) in
    let m = from_be_bytes w32 (drop 1 head) in
    elim (cases_Bool (get_or head 0 0 == 1)) as (λ _. HasBlock image at end n) [
      | inr shut ↦ absurd (not_open Shut n (sym (ap (λ (b : Bool). if b then (if length head == 5 && fits_block at (end + 1) m then Open m else Broken) else Shut) shut) ∙ is))
      | inl first ↦
          let open_one : (if length head == 5 && fits_block at (end + 1) m then Open m else Broken) ≡ Open n =
          sym (ap (λ (b : Bool). if b then (if length head == 5 && fits_block at (end + 1) m then Open m else Broken) else Shut) first) ∙ is in
          elim (cases_Bool (length head == 5 && fits_block at (end + 1) m)) as (λ _. HasBlock image at end n) [
            | inr broken ↦ absurd (not_open Broken n (sym (ap (λ (b : Bool). if b then Open m else Broken) broken) ∙ open_one))
            | inl both ↦
                let same : m ≡ n = ap gate_len (sym (ap (λ (b : Bool). if b then Open m else Broken) both) ∙ open_one) in
                let parts = and_parts _ _ both in
                let fits = and_parts _ _ parts.1 in
                let more = and_parts _ _ fits.1 in
                let five : length head ≡ 5 = eqb-true (length head) 5 parts.0 in
                let some : 1 ≤ m = leb-true 1 m fits.0 in
                let most : m ≤ 2 ^ 24 = leb-true m (2 ^ 24) more.0 in
                let inside : at + 5 + m < end + 1 = ltb-true (at + 5 + m) (end + 1) (and_parts _ _ more.1).0 in
                record {
                  is_open = sym (head_first image at) ∙ eqb-true (get_or head 0 0) 1 first;
                  whole = omega (arith, five, length-take 5 (drop at image), length-drop at image);
                  size = sym (head_number image at) ∙ same;
                  some = omega (arith, some, same);
                  most = omega (arith, most, same);
                  inside = omega (arith, inside, same);
                }
          ]
    ]

-- what a walk answers to a gate, from what is read there
pub finds_block : (log : LogValue) (image : List ℕ) (at : ℕ) (gate : Gate) → log.end < 2 ^ 40 → gate ≡ gate_in (take 5 (drop at image)) at (log.end + 1) → FindsBlock image at log.end (placed log at gate)
finds_block log image at Shut low is = λ n has. not_open Shut n (is ∙ gate_of_block image at log.end n low has)
finds_block log image at Broken low is = λ n has. not_open Broken n (is ∙ gate_of_block image at log.end n low has)
finds_block log image at (Open n) low is = block_of_gate image at log.end n (sym is)

-- what is answered to a gate
pub walks_placed : (log : LogValue) (at : ℕ) (gate : Gate) → at < log.end → IsGate at (log.end + 1) gate → Walks log at (placed log at gate)
walks_placed log at Shut below within = (below, refl, refl)
walks_placed log at Broken below within = (below, refl, refl)
walks_placed log at (Open n) below within = (below, record { begins = refl; some = within.0; most = within.1; next = refl; inside = omega (arith, within.2) })

pub walks_to : (log : LogValue) (at n : ℕ) (gate : Gate) → gate ≡ Open n → WalksTo (place_behind at n) (placed log at gate)
walks_to log at n gate is = subst (λ (g : Gate). WalksTo (place_behind at n) (placed log at g)) (sym is) refl
