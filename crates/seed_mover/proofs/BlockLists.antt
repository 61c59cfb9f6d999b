-- The blocks of bytes, by their ends.
use Rattle.std.proofs.Common.{◌≡◌, ◌≢◌, ℕ, zero, suc, ◌+◌, ◌-◌, ◌*◌, ◌/◌, ◌^◌, ◌<◌, ◌≤◌, min, List, [], ◌∷◌, ◌++◌, length, take, drop, get_or, refl, ◌∙◌, ap, subst, arith}
use Rattle.std.specs.Prelude.{map as each, All}
use Rattle.std.specs.List.{concat, range_with_len}
use Rattle.std.proofs.lemmas.List.{drop-drop, length-drop, length-map, length-take-le, take-append-drop}
use Rattle.std.proofs.lemmas.List.Elements.{All-cons, All-nil}
use Rattle.sha2.specs.Sha256.{sha256}
use Rattle.site_forms.specs.VolumeRecords.{IsChunk}
use Rattle.seed_mover.specs.Putting.{AreEnds, blocks_from, blocks_of, even_ends}

pub count_blocks : (from : ℕ) (bytes ends : List ℕ) → length (blocks_from from bytes ends) ≡ length ends
count_blocks from bytes [] = refl
count_blocks from bytes (end ∷ ends) = ap suc (count_blocks end (drop (end - from) bytes) ends)

pub names_many : (bytes ends : List ℕ) (names : List (List ℕ)) → names ≡ each sha256 (blocks_of bytes ends) → length names ≡ length ends
names_many bytes ends names is = ap (λ (l : List (List ℕ)). length l) is ∙ length-map (blocks_of bytes ends) sha256 ∙ count_blocks 0 bytes ends

-- where the block at a place begins
abbrev pub start_of : ℕ → List ℕ → ℕ → ℕ
start_of from ends zero = from
start_of from [] (suc k) = from
start_of from (end ∷ ends) (suc k) = start_of end ends k

-- the end of the block before it
pub start_behind : (from : ℕ) (ends : List ℕ) (k : ℕ) → k < length ends → start_of from ends (suc k) ≡ get_or ends k 0
start_behind from [] k inside = absurd (omega (arith, inside))
start_behind from (end ∷ ends) zero inside = refl
start_behind from (end ∷ []) (suc k) inside = absurd (omega (arith, inside))
start_behind from (end ∷ (e ∷ ends)) (suc k) inside = start_behind end (e ∷ ends) k (omega (arith, inside))

pub start_first : (from : ℕ) (ends : List ℕ) (k : ℕ) → k ≡ 0 → start_of from ends k ≡ from
start_first from [] k is = ap (start_of from []) is
start_first from (end ∷ ends) k is = ap (start_of from (end ∷ ends)) is

pub start_later : (from : ℕ) (ends : List ℕ) (k : ℕ) → k ≢ 0 → k ≤ length ends → start_of from ends k ≡ get_or ends (k - 1) 0
start_later from ends zero later inside = absurd (later refl)
start_later from ends (suc k) later inside = start_behind from ends k (omega (arith, inside)) ∙ ap (λ (n : ℕ). get_or ends n 0) (let same : k ≡ suc k - 1 = omega arith in same)

-- a block lies within the bytes, and has from 1 to 2^20 of them
pub record IsBlockAt (from len start end : ℕ) : Type 0 where
  pub low : from ≤ start
  pub some : start < end
  pub most : end ≤ start + 2 ^ 20
  pub high : end ≤ len

pub ends_low : (from len : ℕ) (ends : List ℕ) → AreEnds from len ends → from ≤ len
ends_low from len [] are = omega (arith, are)
ends_low from len (end ∷ ends) are = omega (arith, are.0, ends_low end len ends are.2)

pub block_within : (from len : ℕ) (ends : List ℕ) (k : ℕ) → AreEnds from len ends → k < length ends → IsBlockAt from len (start_of from ends k) (get_or ends k 0)
block_within from len [] k are inside = absurd (omega (arith, inside))
block_within from len (end ∷ ends) zero are inside = record { low = omega arith; some = are.0; most = are.1; high = ends_low end len ends are.2 }
block_within from len (end ∷ ends) (suc k) are inside =
    let behind = block_within end len ends k are.2 (omega (arith, inside)) in
    record { low = omega (arith, are.0, behind.low); some = behind.some; most = behind.most; high = behind.high }

-- its bytes
pub block_is : (from len : ℕ) (bytes ends : List ℕ) (k : ℕ) → AreEnds from len ends → k < length ends
    → get_or (blocks_from from bytes ends) k [] ≡ take (get_or ends k 0 - start_of from ends k) (drop (start_of from ends k - from) bytes)
block_is from len bytes [] k are inside = absurd (omega (arith, inside))
block_is from len bytes (end ∷ ends) zero are inside = ap (λ (n : ℕ). take (end - from) (drop n bytes)) (let none : 0 ≡ from - from = omega arith in none)
block_is from len bytes (end ∷ ends) (suc k) are inside =
    let here : k < length ends = omega (arith, inside) in
    let within = block_within end len ends k are.2 here in
    let gap : (end - from) + (start_of end ends k - end) ≡ start_of end ends k - from = omega (arith, are.0, within.low) in
    block_is end len (drop (end - from) bytes) ends k are.2 here
    ∙ ap (take (get_or ends k 0 - start_of end ends k)) (drop-drop (start_of end ends k - end) (end - from) bytes ∙ ap (λ (n : ℕ). drop n bytes) gap)

-- the blocks, joined, are the bytes
pub blocks_joined : (from len : ℕ) (bytes ends : List ℕ) → AreEnds from len ends → len ≡ from + length bytes → concat (blocks_from from bytes ends) ≡ bytes
blocks_joined from len [] [] are is = refl
blocks_joined from len (b ∷ bytes) [] are is = absurd (omega (arith, are, is))
blocks_joined from len bytes (end ∷ ends) are is =
    ap (λ l. take (end - from) bytes ++ l)
    (blocks_joined end len (drop (end - from) bytes) ends are.2 (omega (arith, are.0, is, ends_low end len ends are.2, length-drop (end - from) bytes)))
    ∙ take-append-drop (end - from) bytes

-- each is a chunk
pub blocks_are : (from len : ℕ) (bytes ends : List ℕ) → AreEnds from len ends → len ≡ from + length bytes → All IsChunk (blocks_from from bytes ends)
blocks_are from len bytes [] are is = All-nil IsChunk
blocks_are from len bytes (end ∷ ends) are is =
    let low = ends_low end len ends are.2 in
    let long : length (take (end - from) bytes) ≡ end - from = length-take-le (end - from) bytes (omega (arith, is, low)) in
    All-cons IsChunk (take (end - from) bytes) (blocks_from end (drop (end - from) bytes) ends) (record { some = omega (arith, long, are.0); most = omega (arith, long, are.1) })
    (blocks_are end len (drop (end - from) bytes) ends are.2 (omega (arith, are.0, is, low, length-drop (end - from) bytes)))

-- EVEN BLOCKS

abbrev pub even_end : ℕ → ℕ → ℕ
even_end len i = min len (4096 * (i + 1))

abbrev pub even_count : ℕ → ℕ
even_count len = (len + 4095) / 4096

even_from : (len j n : ℕ) → j + n ≡ even_count len → AreEnds (min len (4096 * j)) len (each (even_end len) (range_with_len j n))
even_from len j zero is = omega (arith, is)
even_from len j (suc n) is = (omega (arith, is), omega (arith, is), even_from len (j + 1) n (omega (arith, is)))

pub even_are : (len : ℕ) → AreEnds 0 len (even_ends len)
even_are len = subst (λ (from : ℕ). AreEnds from len (even_ends len)) (let none : min len (4096 * 0) ≡ 0 = omega arith in none) (even_from len 0 (even_count len) (omega arith))
