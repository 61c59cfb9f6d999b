-- The bytes of a chunk compared with others, a piece at a time.
use Rattle.std.proofs.Common.{◌≡◌, ℕ, ◌+◌, List, ◌++◌, length, take, drop, Bool, true, sym, ◌∙◌, ap, arith}
use Rattle.std.specs.Prelude.{◌↔◌}
use Rattle.std.proofs.lemmas.List.{take-take, drop-take, take-append-drop, take_all}

-- others are as long as a chunk, and the same as what stands on the device up to a place
abbrev pub AreSame : List ℕ → List ℕ → ℕ → ℕ → Type 0
AreSame others rest len done = (length others ≡ len) × (take done others ≡ take done rest)

-- the first bytes are those before a place and those behind it
pub take_more : (xs : List ℕ) (done count : ℕ) → take (done + count) xs ≡ take done xs ++ take count (drop done xs)
take_more xs done count =
    let whole = take-append-drop done (take (done + count) xs) in
    sym (rw (take-take done (done + count) xs (omega arith), drop-take done count xs) at whole)

-- a piece more
same_more : (others rest piece : List ℕ) (len done : ℕ) → piece ≡ take (length piece) (drop done rest) → (AreSame others rest len done × (take (length piece) (drop done others) ≡ piece)) ↔ AreSame others rest len (done + length piece)
same_more others rest piece len done is = (
  λ both. (both.0.0, take_more others done (length piece) ∙ (λ i. both.0.1 i ++ (both.1 ∙ is) i) ∙ sym (take_more rest done (length piece))),
  λ same. (
    (
      same.0,
      sym (take-take done (done + length piece) others (omega arith)) ∙ ap (λ (l : List ℕ). take done l) same.1 ∙ take-take done (done + length piece) rest (omega arith),
    ),
    sym (drop-take done (length piece) others) ∙ ap (λ (l : List ℕ). drop done l) same.1 ∙ drop-take done (length piece) rest ∙ sym is,
  ),
)

pub compared_more : (before now : Bool) (others rest piece : List ℕ) (len done : ℕ) → piece ≡ take (length piece) (drop done rest) → (before ≡ true) ↔ AreSame others rest len done
    → (now ≡ true) ↔ ((before ≡ true) × (take (length piece) (drop done others) ≡ piece)) → (now ≡ true) ↔ AreSame others rest len (done + length piece)
compared_more before now others rest piece len done is so_far step =
    let more = same_more others rest piece len done is in (
      λ yes.
          let both = step.0 yes in more.0 (so_far.0 both.0, both.1),
      λ same.
          let both = more.1 same in step.1 (so_far.1 both.0, both.1),
    )

-- all pieces
pub compared_all : (is_same : Bool) (others rest : List ℕ) (len done : ℕ) → done ≡ len → (is_same ≡ true) ↔ AreSame others rest len done → length (take len rest) ≡ len → (is_same ≡ true) ↔ (others ≡ take len rest)
compared_all is_same others rest len done whole same long = (
  λ yes.
      let both = same.0 yes in sym (take_all len others (omega (arith, both.0))) ∙ ap (λ (n : ℕ). take n others) (sym whole) ∙ both.1 ∙ ap (λ (n : ℕ). take n rest) whole,
  λ is. same.1 (
    ap length is ∙ long,
    ap (λ (n : ℕ). take n others) whole ∙ ap (λ (l : List ℕ). take len l) is ∙ take-take len len rest (omega arith) ∙ ap (λ (n : ℕ). take n rest) (sym whole),
  ),
)
