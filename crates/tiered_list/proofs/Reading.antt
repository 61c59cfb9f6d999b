-- A block that is read.
use Rattle.std.proofs.Common.{◌≡◌, ◌∙◌, ◌+◌, ◌*◌, ◌/◌, ◌%◌, ◌<◌, ◌≤◌, [], ℕ, List, ap, length, get_or, arith}
use Rattle.std.specs.List.{concat}
use Rattle.std.proofs.lemmas.List.{get_or_read}
use Rattle.tiered_list.specs.Inside.{AreTiers, part, width}
use Rattle.tiered_list.proofs.Parts.{part_long, part_read}

-- the block of a place is among the blocks
pub block_inside : (bs : List (List ℕ)) (place : ℕ) → AreTiers bs → place < length (concat bs) → place / width < length bs
block_inside bs place tiers within = omega (arith, within, tiers.within)

pub block_default : (bs : List (List ℕ)) (place : ℕ) (block : List ℕ) → AreTiers bs → place < length (concat bs) → block ≡ get_or bs (place / width) block → block ≡ get_or bs (place / width) []
block_default bs place block tiers within read = get_or_read bs (place / width) block (block_inside bs place tiers within) read []

pub block_read : (bs : List (List ℕ)) (place : ℕ) (block : List ℕ) → AreTiers bs → place < length (concat bs) → block ≡ get_or bs (place / width) block → block ≡ part (concat bs) (place / width)
block_read bs place block tiers within read = block_default bs place block tiers within read ∙ tiers.each (place / width) (block_inside bs place tiers within)

pub block_long : (bs : List (List ℕ)) (place : ℕ) (block : List ℕ) → AreTiers bs → place < length (concat bs) → block ≡ get_or bs (place / width) block → place % width < length block
block_long bs place block tiers within read = omega (arith, within, ap length (block_read bs place block tiers within read), part_long (concat bs) (place / width))

pub number_read : (bs : List (List ℕ)) (place : ℕ) (block : List ℕ) → AreTiers bs → place < length (concat bs) → block ≡ get_or bs (place / width) block → get_or block (place % width) 0 ≡ get_or (concat bs) place 0
number_read bs place block tiers within read =
    let split : place / width * width + place % width ≡ place = omega arith in
    ap (λ (l : List ℕ). get_or l (place % width) 0) (block_read bs place block tiers within read)
    ∙ (part_read (concat bs) (place / width) (place % width) (omega arith) ∙ ap (λ (n : ℕ). get_or (concat bs) n 0) split)
