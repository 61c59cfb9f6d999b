-- Bytes of a piece, as bytes of the image that it shows.
use Rattle.std.proofs.Common.{◌≡◌, ℕ, ◌+◌, ◌-◌, ◌≤◌, List, length, take, drop, true, refl, sym, ◌∙◌, ap, subst, arith, length-drop}
use Rattle.std.proofs.lemmas.Bool.{and_parts, leb-true}
use Rattle.std.proofs.lemmas.List.{drop-drop, drop-take, length-take, take-take, take_all, take_min}
use Rattle.volume_disk.specs.Disk.{Gives}
use Rattle.device_pieces.specs.PieceValues.{PieceValue}
use Rattle.device_pieces.specs.Pieces.{Shows, no_piece, stands_in, piece_at}

-- the bytes that stand in a piece are those of the image
pub part_of : (image : List ℕ) (piece : PieceValue) (at n : ℕ) → Shows image piece → stands_in piece at n ≡ true → take n (drop (at - piece.at) piece.bytes) ≡ take n (drop at image)
part_of image piece at n shows inside =
    let parts = and_parts _ _ inside in
    let begins : piece.at ≤ at = leb-true piece.at at parts.0 in
    let ends : at + n ≤ piece.at + length piece.bytes = leb-true (at + n) (piece.at + length piece.bytes) parts.1 in
    let off = at - piece.at in
    let rest = length piece.bytes - off in
    let split : length piece.bytes ≡ off + rest = omega (arith, begins, ends) in
    let fits : n ≤ rest = omega (arith, begins, ends) in
    let place : piece.at + off ≡ at = omega (arith, begins) in
    ap (λ (b : List ℕ). take n (drop off b)) (shows ∙ ap (λ (k : ℕ). take k (drop piece.at image)) split)
    ∙ ap (take n) (drop-take off rest (drop piece.at image))
    ∙ take-take n rest (drop off (drop piece.at image)) fits
    ∙ ap (take n) (drop-drop off piece.at image ∙ ap (λ (k : ℕ). drop k image) place)

-- a read whose bytes stand in a piece that shows the image
pub gives_part : (image into : List ℕ) (piece : PieceValue) (at n : ℕ) → Shows image piece → stands_in piece at (length into) ≡ true → into ≡ take (length into) (drop (at - piece.at) piece.bytes) → n ≡ length into → Gives image at into n
gives_part image into piece at n shows inside is count =
    let part : into ≡ take (length into) (drop at image) = is ∙ part_of image piece at (length into) shows inside in
    let long = ap length part ∙ length-take (length into) (drop at image) in
    record {
      count = omega (arith, count, long, length-drop at image);
      bytes = take_all n into (omega (arith, count)) ∙ part ∙ ap (λ (k : ℕ). take k (drop at image)) (sym count);
    }

-- a piece that begins at a place shows the image
pub shows_next : (image : List ℕ) (device width at : ℕ) → Shows image (piece_at image device width at)
shows_next image device width at = sym (ap (λ (k : ℕ). take k (drop at image)) (length-take width (drop at image)) ∙ take_min width (drop at image))

-- a piece of which nothing is read yet shows each image
pub shows_nothing : (image : List ℕ) (piece : PieceValue) (device : ℕ) → piece ≡ no_piece device piece.width → Shows image piece
shows_nothing image piece device is = subst (Shows image) (sym is) refl
