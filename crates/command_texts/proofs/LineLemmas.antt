-- Texts, line by line.
use Rattle.std.proofs.Common.{◌≡◌, ◌∙◌, ◌++◌, ◌+◌, ◌<◌, ◌≤◌, ap, ℕ, List, length, take, get_or, arith}
use Rattle.std.specs.List.{flat_map, enumerate_from}
use Rattle.std.proofs.lemmas.List.{take_more, take_all, flat_map_more}
use Rattle.std.proofs.lemmas.List.FromFn.{length-enumerate_from, get_or-enumerate_from}
use Rattle.command_texts.specs.Lines.{lines_of}

-- the lines of the first items
abbrev pub first_lines : {X : Type 0} → (ℕ × X → List ℕ) → List X → ℕ → List ℕ
first_lines line_of items count = flat_map line_of (take count (enumerate_from 0 items))

item_at : {X : Type 0} (items : List X) (i : ℕ) (d : X) → i < length items → get_or (enumerate_from 0 items) i (0, d) ≡ (i, get_or items i d)
item_at items i d lt =
    let at : 0 + i ≡ i = omega arith in
    get_or-enumerate_from 0 items i (0, d) lt ∙ ap (λ (n : ℕ). (n, get_or items i d)) at

-- one item more
pub lines_more : {X : Type 0} (line_of : ℕ × X → List ℕ) (items : List X) (i : ℕ) (d : X) (front before after : List ℕ) → i < length items
    → before ≡ front ++ first_lines line_of items i → after ≡ before ++ line_of (i, get_or items i d) → after ≡ front ++ first_lines line_of items (i + 1)
lines_more line_of items i d front before after lt was is =
    let inside : i < length (enumerate_from 0 items) = omega (arith, length-enumerate_from 0 items) in
    let more = take_more (enumerate_from 0 items) i (0, d) inside in
    is ∙ (ap (λ (t : List ℕ). t ++ line_of (i, get_or items i d)) was
    ∙ rw (more, item_at items i d lt) (flat_map_more line_of front (take i (enumerate_from 0 items)) (i, get_or items i d)))

-- every item passed
pub lines_all : {X : Type 0} (line_of : ℕ × X → List ℕ) (items : List X) (i : ℕ) (front text : List ℕ) → length items ≤ i
    → text ≡ front ++ first_lines line_of items i → text ≡ front ++ lines_of line_of items
lines_all {X} line_of items i front text past is =
    is ∙ ap (λ (t : List (ℕ × X)). front ++ flat_map line_of t) (take_all i (enumerate_from 0 items) (omega (arith, length-enumerate_from 0 items)))
