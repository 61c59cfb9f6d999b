-- The small volume: where its bytes stand.
use Rattle.std.proofs.Common.{◌≡◌, ℕ, List, take, drop, Bool, Some, None, refl, sym, ◌∙◌, ap, subst, arith}
use Rattle.std.specs.Prelude.{cond, slice_index}
use Rattle.std.specs.Ordering.{eq_by_cmp}
use Rattle.std.specs.Cmp.Lexicographic.{nat_list_cmp_total}
use Rattle.std.specs.FinMap as map
use Rattle.std.proofs.lemmas.Option.{none-some}
use Rattle.site_forms.specs.Examples.{abc_name, small_log, abc, bbc}
use Rattle.site_forms.specs.Volumes.{bytes_cmp, empty_volume, with_chunk}
use Rattle.chunk_volume.specs.Standing.{Keeps, HasBytesAt}
use Rattle.chunk_volume.proofs.Keeping.{by_key}

some_same : {X : Type 0} (x y : X) → Some x ≡ Some y → x ≡ y
some_same x y is = cc

-- a map of one key
one_get : {X : Type 0} (key : List ℕ) (value : X) (q : List ℕ) → map.get (map.insert (map.empty {X = X} {R = bytes_cmp}) key value) q ≡ cond (eq_by_cmp bytes_cmp q key) (Some value) None
one_get key value q = map.get-insert nat_list_cmp_total map.empty key value q ∙ ap (cond (eq_by_cmp bytes_cmp q key) (Some value)) (map.get-empty bytes_cmp q)

pub abc_kept : Keeps (map.insert map.empty abc_name 38) (small_log abc 1 0) 81 (with_chunk empty_volume abc_name abc)
abc_kept name bytes is =
    by_key ((p : ℕ) × (map.get (map.insert (map.empty {X = ℕ} {R = bytes_cmp}) abc_name 38) name ≡ Some p) × HasBytesAt (small_log abc 1 0) 81 p bytes) (eq_by_cmp bytes_cmp name abc_name) abc bytes None (sym (one_get abc_name abc name) ∙ is)
    (λ same held. (
      38,
      one_get abc_name 38 name ∙ ap (λ (b : Bool). cond b (Some 38) None) same,
      subst (λ (l : List ℕ). HasBytesAt (small_log abc 1 0) 81 38 l) held (record { within = omega arith; same = refl }),
    ))
    (λ other none. absurd (none-some bytes none))

-- the bytes that are kept stand at the place
kept_there : (image : List ℕ) (place : ℕ) → Keeps (map.insert map.empty abc_name place) image 81 (with_chunk empty_volume abc_name abc) → take 3 (drop place image) ≡ abc
kept_there image place keeps =
    let was = keeps abc_name abc (one_get abc_name abc abc_name) in
    let at : was.0 ≡ place = some_same was.0 place (sym was.1 ∙ one_get abc_name place abc_name) in
    subst (λ (p : ℕ). take 3 (drop p image) ≡ abc) at was.2.same

pub bbc_not_kept : ¬ Keeps (map.insert map.empty abc_name 38) (small_log bbc 1 0) 81 (with_chunk empty_volume abc_name abc)
bbc_not_kept keeps = omega (arith, ap (λ (l : List ℕ). slice_index l 0) (kept_there (small_log bbc 1 0) 38 keeps))

pub beside_not_kept : ¬ Keeps (map.insert map.empty abc_name 37) (small_log abc 1 0) 81 (with_chunk empty_volume abc_name abc)
beside_not_kept keeps = omega (arith, ap (λ (l : List ℕ). slice_index l 0) (kept_there (small_log abc 1 0) 37 keeps))
