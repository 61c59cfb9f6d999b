-- The record of a chunk from its first bytes.
use Rattle.std.proofs.Common.{◌≡◌, ℕ, ◌+◌, ◌^◌, ◌<◌, ◌≤◌, List, [], ◌∷◌, length, take, drop, Bool, Some, None, sym, ◌∙◌, ap, arith}
use Rattle.std.specs.Prelude.{slice_index, if◌then◌else◌}
use Rattle.std.proofs.lemmas.Bool.{le-leb, and_from}
use Rattle.std.proofs.lemmas.List.{take-take}
use Rattle.site_forms.specs.VolumeRecords.{volume_record}
use Rattle.site_forms.specs.VolumeRecords.VolumeRecord.{ChunkRecord}

-- a body of a lawful length that begins with kind 1 and a name is the record of a chunk of this name
pub chunk_spelled : (front body name : List ℕ) (len : ℕ) → slice_index front 0 ≡ 1 → 33 < len → len ≤ 33 + 2 ^ 20 → length body ≡ len → front ≡ take 33 body → name ≡ take 32 (drop 1 front)
    → volume_record body ≡ Some (ChunkRecord name (drop 33 body))
chunk_spelled front [] name len kind some most long is named = absurd (omega (arith, some, long))
chunk_spelled front (k ∷ rest) name len kind some most long is named =
    let one : k ≡ 1 = sym (ap (λ (l : List ℕ). slice_index l 0) is) ∙ kind in
    let whole : 33 ≤ length rest = omega (arith, some, long) in
    let few : length rest ≤ 32 + 2 ^ 20 = omega (arith, most, long) in
    let is_name : take 32 rest ≡ name = sym (named ∙ ap (λ (l : List ℕ). take 32 (drop 1 l)) is ∙ take-take 32 32 rest (omega arith)) in
    ap (λ (n : ℕ). volume_record (n ∷ rest)) one
    ∙ ap (λ (b : Bool). if b then Some (ChunkRecord (take 32 rest) (drop 32 rest)) else None) (and_from _ _ (le-leb 33 (length rest) whole) (le-leb (length rest) (32 + 2 ^ 20) few))
    ∙ ap (λ (l : List ℕ). Some (ChunkRecord l (drop 32 rest))) is_name
