-- A walk over a log that folds its records.
use Rattle.std.proofs.Common.{◌≡◌, ◌⊎◌, inl, inr, ℕ, ◌+◌, ◌≤◌, List, [], ◌∷◌, ◌++◌, length, take, drop, Bool, true, false, Some, refl, sym, ◌∙◌, ap, arith, length-drop}
use Rattle.std.specs.Prelude.{nat_le, if◌then◌else◌}
use Rattle.std.specs.Option.{option_and_then}
use Rattle.std.proofs.lemmas.Bool.{le-leb}
use Rattle.std.proofs.lemmas.List.{drop-take, drop-drop}
use Rattle.site_forms.specs.Halves.{half_number, without_half}
use Rattle.site_forms.specs.Logs.{HasBodyAt}
use Rattle.site_forms.specs.Volumes.{Volume, empty_volume, volume_of, volume_step}
use Rattle.site_forms.proofs.Folds.{fold_more}
use Rattle.chunk_volume.specs.Standing.{HasBytesAt}

-- the bytes of a chunk whose record a walk meets
same_place : (at : ℕ) → at + 38 ≡ at + 5 + 33
same_place at = omega arith

pub walked_bytes : (image body : List ℕ) (at : ℕ) → HasBodyAt image at body → 33 ≤ length body → HasBytesAt image (at + 5 + length body) (at + 38) (drop 33 body)
walked_bytes image body at there long =
    let behind = drop (at + 5) image in
    let many : 33 + length (drop 33 body) ≡ length body = omega (arith, long, length-drop 33 body) in
    record {
      within = omega (arith, many);
      same =
          ap (λ (n : ℕ). take (length (drop 33 body)) (drop n image)) (same_place at)
          ∙ ap (λ (l : List ℕ). take (length (drop 33 body)) l) (sym (drop-drop 33 (at + 5) image))
          ∙ sym (drop-take 33 (length (drop 33 body)) behind)
          ∙ ap (λ (n : ℕ). drop 33 (take n behind)) many
          ∙ ap (λ (l : List ℕ). drop 33 l) there.bytes;
    }

-- a body behind others, or one that is no Half record, is a record
joined_by : (b : Bool) (first body : List ℕ) (bodies : List (List ℕ)) → (if b then bodies ++ body ∷ [] else first ∷ (bodies ++ body ∷ [])) ≡ (if b then bodies else first ∷ bodies) ++ body ∷ []
joined_by true first body bodies = refl
joined_by false first body bodies = refl

alone : (body : List ℕ) → half_number body ≡ 0 → without_half (body ∷ []) ≡ body ∷ []
alone body none = ap (λ (n : ℕ). if nat_le 1 n then [] else body ∷ []) none

pub joins : (bodies : List (List ℕ)) (body : List ℕ) → (1 ≤ length bodies) ⊎ (half_number body ≡ 0) → without_half (bodies ++ body ∷ []) ≡ without_half bodies ++ body ∷ []
joins [] body (inl some) = absurd (omega (arith, some))
joins [] body (inr none) = alone body none
joins (first ∷ bodies) body either = joined_by (nat_le 1 (half_number first)) first body bodies

-- one body more folds by one step more
pub folds_on : (bodies : List (List ℕ)) (body : List ℕ) (volume : Volume) → (1 ≤ length bodies) ⊎ (half_number body ≡ 0) → volume_of (without_half bodies) ≡ Some volume
    → volume_of (without_half (bodies ++ body ∷ [])) ≡ volume_step volume body
folds_on bodies body volume either is =
    ap volume_of (joins bodies body either) ∙ fold_more volume_step empty_volume (without_half bodies) body ∙ ap (option_and_then (λ (v : Volume). volume_step v body)) is

-- the Half record in front is no record
pub begins : (body : List ℕ) → 1 ≤ half_number body → volume_of (without_half (body ∷ [])) ≡ Some empty_volume
begins body some = ap (λ (b : Bool). volume_of (if b then [] else body ∷ [])) (le-leb 1 (half_number body) some)
