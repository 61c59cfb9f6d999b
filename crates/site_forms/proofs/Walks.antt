-- Where the bodies of a log stand.
use Rattle.std.proofs.Common.{◌≡◌, inl, inr, ⊎_elim, ℕ, zero, suc, ◌+◌, ◌^◌, ◌<◌, ◌≤◌, List, [], ◌∷◌, length, get_or, take, drop, true, sym, ◌∙◌, ap, subst, arith}
use Rattle.std.specs.Prelude.{All}
use Rattle.std.specs.Int.{w32, from_be_bytes}
use Rattle.std.proofs.lemmas.Bool.{eqb-true}
use Rattle.std.proofs.lemmas.List.{length-take-le, length-drop, drop-drop, get_or-drop}
use Rattle.std.proofs.lemmas.List.Elements.{All-cons, All-nil}
use Rattle.std.proofs.lemmas.List.Sums.{sum_by-cons}
use Rattle.site_forms.specs.Logs.{parse, parse_from, body_length, is_block, log_size, IsBody, HasBodyAt}
use Rattle.site_forms.specs.Logs.Parsed.{Good}
use Rattle.site_forms.proofs.Agree.{bad_good, step, more_good}
use Rattle.site_forms.proofs.Logs.{from_start}

-- one body in front takes its block
pub log_size-cons : (body : List ℕ) (bodies : List (List ℕ)) → log_size (body ∷ bodies) ≡ 5 + length body + log_size bodies
log_size-cons body bodies = sum_by-cons (λ (b : List ℕ). 5 + length b) body bodies

-- what a block says
block_parts : (at : ℕ) (rest : List ℕ) → is_block at rest ≡ true → (1 ≤ body_length rest) × (body_length rest ≤ 2 ^ 24) × (4 + body_length rest < length rest) × (at + 5 + body_length rest < 2 ^ 40)
block_parts at rest block = grind (arith, block)

-- the body of a block is as long as is written
body_of_block : (at : ℕ) (rest : List ℕ) → is_block at rest ≡ true → length (take (body_length rest) (drop 4 rest)) ≡ body_length rest
body_of_block at rest block =
    let parts = block_parts at rest block in
    length-take-le (body_length rest) (drop 4 rest) (omega (arith, parts.2, length-drop 4 rest))

-- the gate behind the bodies
pub ends_from : (fuel at : ℕ) (image : List ℕ) (bodies : List (List ℕ)) (gate : ℕ) → parse_from fuel at image ≡ Good bodies gate → gate ≡ at + log_size bodies
ends_from zero at image bodies gate good = absurd (bad_good at bodies gate good)
ends_from (suc fuel) at [] bodies gate good = absurd (bad_good at bodies gate good)
ends_from (suc fuel) at (g ∷ rest) bodies gate good = ⊎_elim
    (λ ended. ended.2 ∙ omega arith ∙ ap (λ (l : List (List ℕ)). at + log_size l) (sym ended.1))
    (λ block.
    let inner = more_good _ _ bodies gate block.2 in
    let body = take (body_length rest) (drop 4 rest) in
    let later = ends_from fuel (at + 5 + body_length rest) (drop (4 + body_length rest) rest) inner.0 gate inner.1 in
    omega (arith, later, body_of_block at rest block.1, log_size-cons body inner.0) ∙ ap (λ (l : List (List ℕ)). at + log_size l) (sym inner.2))
    (step fuel at g rest bodies gate good)

pub ends : (image : List ℕ) (bodies : List (List ℕ)) (gate : ℕ) → parse image ≡ Good bodies gate → gate ≡ log_size bodies
ends image bodies gate good = elim (from_start image bodies gate good) as (λ _. gate ≡ log_size bodies) [
  | inl start ↦ start.1 ∙ ap log_size (sym start.0)
  | inr from ↦ ends_from (length image) 0 image bodies gate from ∙ omega arith
]

-- each is a body
pub bodies_from : (fuel at : ℕ) (image : List ℕ) (bodies : List (List ℕ)) (gate : ℕ) → parse_from fuel at image ≡ Good bodies gate → All IsBody bodies
bodies_from zero at image bodies gate good = absurd (bad_good at bodies gate good)
bodies_from (suc fuel) at [] bodies gate good = absurd (bad_good at bodies gate good)
bodies_from (suc fuel) at (g ∷ rest) bodies gate good = ⊎_elim
    (λ ended. subst (λ (l : List (List ℕ)). All IsBody l) (sym ended.1) (All-nil IsBody))
    (λ block.
    let inner = more_good _ _ bodies gate block.2 in
    let parts = block_parts at rest block.1 in
    let long = body_of_block at rest block.1 in
    subst (λ (l : List (List ℕ)). All IsBody l) (sym inner.2)
    (All-cons IsBody _ inner.0 (record { some = omega (arith, long, parts.0); most = omega (arith, long, parts.1) }) (bodies_from fuel (at + 5 + body_length rest) (drop (4 + body_length rest) rest) inner.0 gate inner.1)))
    (step fuel at g rest bodies gate good)

pub bodies_in : (image : List ℕ) (bodies : List (List ℕ)) (gate : ℕ) → parse image ≡ Good bodies gate → All IsBody bodies
bodies_in image bodies gate good = elim (from_start image bodies gate good) as (λ _. All IsBody bodies) [
  | inl start ↦ subst (λ (l : List (List ℕ)). All IsBody l) (sym start.0) (All-nil IsBody)
  | inr from ↦ bodies_from (length image) 0 image bodies gate from
]

-- the bytes from a place on, behind a gate and its block
past : (k n p g : ℕ) (rest : List ℕ) → drop (suc (4 + n + p) + k) (g ∷ rest) ≡ drop (p + k) (drop (4 + n) rest)
past k n p g rest =
    let first : suc (4 + n + p) + k ≡ suc (4 + n + (p + k)) = omega arith in
    ap (λ (j : ℕ). drop j (g ∷ rest)) first ∙ sym (drop-drop (p + k) (4 + n) rest)

-- each stands where its number says
pub within_from : (fuel at i : ℕ) (xs : List ℕ) (bodies : List (List ℕ)) (gate : ℕ) → parse_from fuel at xs ≡ Good bodies gate → i < length bodies → HasBodyAt xs (log_size (take i bodies)) (get_or bodies i [])
within_from zero at i xs bodies gate good inside = absurd (bad_good at bodies gate good)
within_from (suc fuel) at i [] bodies gate good inside = absurd (bad_good at bodies gate good)
within_from (suc fuel) at zero (g ∷ rest) bodies gate good inside = ⊎_elim
    (λ ended. absurd (omega (arith, inside, ap length ended.1)))
    (λ block.
    let inner = more_good _ _ bodies gate block.2 in
    let long = body_of_block at rest block.1 in
    subst (λ (l : List (List ℕ)). HasBodyAt (g ∷ rest) 0 (get_or l 0 [])) (sym inner.2)
    (record {
      is_open = eqb-true g 1 block.0;
      size = sym long;
      bytes = ap (λ (n : ℕ). take n (drop 4 rest)) long;
    }))
    (step fuel at g rest bodies gate good)
within_from (suc fuel) at (suc i) (g ∷ rest) bodies gate good inside = ⊎_elim
    (λ ended. absurd (omega (arith, inside, ap length ended.1)))
    (λ block.
    let inner = more_good _ _ bodies gate block.2 in
    let n = body_length rest in
    let body = take n (drop 4 rest) in
    let long = body_of_block at rest block.1 in
    let deeper = within_from fuel (at + 5 + n) i (drop (4 + n) rest) inner.0 gate inner.1 (omega (arith, inside, ap length inner.2)) in
    let p = log_size (take i inner.0) in
    let place : log_size (take (suc i) (body ∷ inner.0)) ≡ suc (4 + n + p) = omega (arith, long, log_size-cons body (take i inner.0)) in
    let there : HasBodyAt (g ∷ rest) (suc (4 + n + p)) (get_or inner.0 i []) = record {
      is_open = sym (get_or-drop (4 + n) rest p 0) ∙ deeper.is_open;
      size = ap (λ (l : List ℕ). from_be_bytes w32 (take 4 l)) (past 1 n p g rest) ∙ deeper.size;
      bytes = ap (λ (l : List ℕ). take (length (get_or inner.0 i [])) l) (past 5 n p g rest) ∙ deeper.bytes;
    } in
    subst (λ (l : List (List ℕ)). HasBodyAt (g ∷ rest) (log_size (take (suc i) l)) (get_or l (suc i) [])) (sym inner.2)
    (subst (λ (k : ℕ). HasBodyAt (g ∷ rest) k (get_or inner.0 i [])) (sym place) there))
    (step fuel at g rest bodies gate good)

pub within : (image : List ℕ) (bodies : List (List ℕ)) (gate i : ℕ) → parse image ≡ Good bodies gate → i < length bodies → HasBodyAt image (log_size (take i bodies)) (get_or bodies i [])
within image bodies gate i good inside = elim (from_start image bodies gate good) as (λ _. HasBodyAt image (log_size (take i bodies)) (get_or bodies i [])) [
  | inl start ↦ absurd (omega (arith, inside, ap length start.0))
  | inr from ↦ within_from (length image) 0 i image bodies gate from inside
]
