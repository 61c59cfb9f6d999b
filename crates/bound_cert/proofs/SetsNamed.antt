-- The sets that texts name.
use Rattle.std.proofs.Common.{◌≡◌, ℕ, List, [], ◌∷◌, Bool, false, length, map, refl, ◌∙◌, ap, arith}
use Rattle.std.specs.List.{range_with_len}
use Rattle.std.specs.Result.{result_unwrap_or}
use Rattle.std.proofs.lemmas.List.{ext_get_or}
use Rattle.std.proofs.lemmas.List.FromFn.{get_or-map-range_with_len, length-map-range_with_len}
use Rattle.hex.specs.Hex.{decode_of}
use Rattle.seed_text.specs.SetTexts.{has_file, set_text, set_bytes}
use Rattle.seed_text.proofs.SetBits.{text_decodes, bytes_tell}
use Rattle.bound_cert.specs.Laws.{TextsName}

-- the set of so many files that bytes tell
told : (s : List Bool) → map (has_file (set_bytes s)) (range_with_len 0 (length s)) ≡ s
told s =
    let flags : List Bool = map (has_file (set_bytes s)) (range_with_len 0 (length s)) in
    let len : length flags ≡ length s = length-map-range_with_len (has_file (set_bytes s)) 0 (length s) in
    ext_get_or false flags s len (λ f lt. get_or-map-range_with_len (has_file (set_bytes s)) 0 (length s) f f false (omega (arith, len, lt)) (omega arith) ∙ bytes_tell s f (omega (arith, len, lt)))

pub texts_name : TextsName
texts_name [] = refl
texts_name (x ∷ s) =
    let bytes : result_unwrap_or (decode_of (set_text (x ∷ s))) [] ≡ set_bytes (x ∷ s) = ap (λ r. result_unwrap_or r []) (text_decodes (x ∷ s) (omega arith)) in
    ap (λ (bs : List ℕ). map (has_file bs) (range_with_len 0 (length (x ∷ s)))) bytes ∙ told (x ∷ s)
