-- Names of chunks that stand one after the other.
use Rattle.std.proofs.Common.{◌≡◌, ℕ, zero, suc, ◌+◌, ◌*◌, List, [], ◌∷◌, ◌++◌, take, drop, refl, ◌∙◌, ap, arith}
use Rattle.std.specs.List.{concat, flat_map}
use Rattle.std.proofs.lemmas.List.{drop-drop}
use Rattle.site_forms.specs.VolumeRecords.{names_of_chunks}

-- one name more
pub names_more : (n : ℕ) (bytes : List ℕ) → names_of_chunks (suc n) bytes ≡ names_of_chunks n bytes ++ take 32 (drop (32 * n) bytes) ∷ []
names_more zero bytes = refl
names_more (suc n) bytes =
    let place : 32 + 32 * n ≡ 32 * suc n = omega arith in
    ap (λ (l : List (List ℕ)). take 32 bytes ∷ l)
    (names_more n (drop 32 bytes) ∙ ap (λ (l : List ℕ). names_of_chunks n (drop 32 bytes) ++ take 32 l ∷ []) (drop-drop (32 * n) 32 bytes ∙ ap (λ (k : ℕ). drop k bytes) place))

-- names joined
pub flattened : (names : List (List ℕ)) → flat_map (λ (name : List ℕ). name) names ≡ concat names
flattened [] = refl
flattened (name ∷ names) = ap (λ (l : List ℕ). name ++ l) (flattened names)
