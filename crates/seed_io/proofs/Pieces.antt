-- What is read of a file, piece by piece.
use Rattle.std.proofs.Common.{◌≡◌, ◌∙◌, ◌+◌, ◌≤◌, ◌++◌, ◌<◌, ℕ, List, Bool, true, false, Some, refl, sym, ap, length, take, drop, arith}
use Rattle.std.proofs.Math.Seq.{take-add}
use Rattle.std.proofs.lemmas.List.{length-take, length-drop, length-append}
use Rattle.seed_io.specs.Shelf.{Told, Gives, GaveMore}

-- one piece more
pub front_grows : (map : Told) (name file old new into : List ℕ) (count : ℕ) → Gives map name (length old) into count → map name ≡ Some file
    → old ≡ take (length old) file → length old ≤ length file → new ≡ old ++ take count into
    → (new ≡ take (length new) file) × (length new ≤ length file)
front_grows map name file old new into count g held front within grown =
    let same : g.file ≡ file = cc (g.held, held) in
    let fits : count ≤ length (drop (length old) file) = rw same at g.within in
    let piece : take count into ≡ take count (drop (length old) file) = rw same at g.bytes in
    let len : length new ≡ length old + count = ap length grown ∙ (length-append old (take count into) ∙ ap (λ (n : ℕ). length old + n) (ap length piece ∙ (length-take count (drop (length old) file) ∙ omega (arith, fits)))) in (
      grown ∙ (ap (λ (t : List ℕ). old ++ t) piece ∙ (ap (λ (t : List ℕ). t ++ take count (drop (length old) file)) front ∙ (sym (take-add (length old) count file) ∙ ap (λ (n : ℕ). take n file) (sym len)))),
      omega (arith, len, fits, length-drop (length old) file, within),
    )

-- what was given so far, and a piece, are more than the limit
pub gave_more : (tells : Bool) (map : Told) (name old into : List ℕ) (count limit : ℕ) → (tells ≡ true → Gives map name (length old) into count) → count ≤ length into
    → 0 < count → limit < length old + count → GaveMore tells map name limit
gave_more true map name old into count limit gives room some more =
    let g = gives refl in
    record { bytes = g.file; more = omega (arith, g.within, length-drop (length old) g.file); told = λ t. g.held }
gave_more false map name old into count limit gives room some more = record {
  bytes = old ++ take count into;
  more = omega (arith, length-append old (take count into), length-take count into);
  told = λ t. cc t;
}
