-- Lists of users with sizes, as classes.
use Rattle.std.proofs.Common.{◌≡◌, ◌∙◌, ◌+◌, ◌<◌, ◌≤◌, ◌∷◌, [], ◌++◌, ℕ, zero, suc, List, true, false, refl, sym, ap, length, get_or, drop, arith, inl, inr, append_assoc, drop-cons}
use Rattle.std.specs.List.{list_any, position_or_len}
use Rattle.std.proofs.Math.ListN.{set}
use Rattle.std.proofs.lemmas.Bool.{cases_Bool}
use Rattle.std.proofs.lemmas.Grind.{get_or_default_zero}
use Rattle.std.proofs.lemmas.List.Sums.{sum_by-cons}
use Rattle.seed_model.specs.declared.table.Class.{Class}
use Rattle.chunk_merge.specs.Classes.{with_class, classes_in, bytes_in}
use Rattle.chunk_merge.specs.Merged.{same_users}

-- users that are lacking go last
pub added-new : (lists : List (List ℕ)) (sizes : List ℕ) (users : List ℕ) (size : ℕ) → length sizes ≡ length lists → list_any (same_users users) lists ≡ false
    → classes_in (lists ++ users ∷ []) (sizes ++ size ∷ []) ≡ with_class (classes_in lists sizes) (record { size = size; users = users })
added-new [] [] users size same none = refl
added-new [] (s ∷ sizes) users size same none = absurd (omega (arith, same))
added-new (l ∷ lists) [] users size same none = absurd (omega (arith, same))
added-new (l ∷ lists) (s ∷ sizes) users size same none = elim (cases_Bool (same_users users l)) [
  | inl t ↦ cc (rw t at none)
  | inr f ↦ rw f (ap (λ (t : List Class). record { size = s; users = l } ∷ t) (added-new lists sizes users size (omega (arith, same)) (rw f at none)))
]

-- users that are known get the size
pub added-known : (lists : List (List ℕ)) (sizes : List ℕ) (users : List ℕ) (size : ℕ) → length sizes ≡ length lists → list_any (same_users users) lists ≡ true
    → classes_in lists (set sizes (position_or_len (same_users users) lists) (get_or sizes (position_or_len (same_users users) lists) 0 + size))
    ≡ with_class (classes_in lists sizes) (record { size = size; users = users })
added-known [] sizes users size same any = cc any
added-known (l ∷ lists) [] users size same any = absurd (omega (arith, same))
added-known (l ∷ lists) (s ∷ sizes) users size same any = elim (cases_Bool (same_users users l)) [
  | inl t ↦ rw t refl
  | inr f ↦
      let at : 1 + position_or_len (same_users users) lists ≡ suc (position_or_len (same_users users) lists) = omega arith in
      rw (f, at) (ap (λ (t : List Class). record { size = s; users = l } ∷ t) (added-known lists sizes users size (omega (arith, same)) (rw f at any)))
]

pub place-within : (lists : List (List ℕ)) (users : List ℕ) → list_any (same_users users) lists ≡ true → position_or_len (same_users users) lists < length lists
place-within [] users any = cc any
place-within (l ∷ lists) users any = elim (cases_Bool (same_users users l)) [
  | inl t ↦ rw t (omega arith)
  | inr f ↦ rw f (omega (arith, place-within lists users (rw f at any)))
]

-- a size is at most the sum
pub size-within : (lists : List (List ℕ)) (sizes : List ℕ) (i : ℕ) → length sizes ≡ length lists → i < length sizes → get_or sizes i 0 ≤ bytes_in (classes_in lists sizes)
size-within [] [] i same lt = absurd (omega arith)
size-within [] (s ∷ sizes) i same lt = absurd (omega (arith, same))
size-within (l ∷ lists) [] i same lt = absurd (omega (arith, same))
size-within (l ∷ lists) (s ∷ sizes) zero same lt = omega (arith, sum_by-cons (λ (c : Class). c.size) (record { size = s; users = l }) (classes_in lists sizes))
size-within (l ∷ lists) (s ∷ sizes) (suc i) same lt =
    omega (arith, sum_by-cons (λ (c : Class). c.size) (record { size = s; users = l }) (classes_in lists sizes), size-within lists sizes i (omega (arith, same)) (omega arith))

-- a class more is made of the next list
pub made-more : (made : List Class) (users : List ℕ) (rest : List (List ℕ)) (sizes : List ℕ) (whole : List Class) (size : ℕ) → length made < length sizes
    → made ++ classes_in (users ∷ rest) (drop (length made) sizes) ≡ whole → size ≡ get_or sizes (length made) 0
    → (made ++ record { size = size; users = users } ∷ []) ++ classes_in rest (drop (length made + 1) sizes) ≡ whole
made-more made users rest sizes whole size lt before read =
    let one : length made + 1 ≡ suc (length made) = omega arith in
    let next : drop (length made) sizes ≡ get_or sizes (length made) 0 ∷ drop (suc (length made)) sizes = drop-cons sizes (length made) 0 lt in
    append_assoc made (record { size = size; users = users } ∷ []) (classes_in rest (drop (length made + 1) sizes))
    ∙ ((λ i. made ++ record { size = read i; users = users } ∷ classes_in rest (drop (one i) sizes)) ∙ (ap (λ (t : List ℕ). made ++ classes_in (users ∷ rest) t) (sym next) ∙ before))

-- a size that is read at the place of known users
pub read-known : (lists : List (List ℕ)) (sizes : List ℕ) (users : List ℕ) (place x size : ℕ) → length sizes ≡ length lists → list_any (same_users users) lists ≡ true
    → place ≡ position_or_len (same_users users) lists → x ≡ get_or sizes place x
    → classes_in lists (set sizes place (x + size)) ≡ with_class (classes_in lists sizes) (record { size = size; users = users })
read-known lists sizes users place x size same any e read =
    let within : place < length sizes = omega (arith, e, same, place-within lists users any) in
    let is : x ≡ get_or sizes (position_or_len (same_users users) lists) 0 = read ∙ (get_or_default_zero sizes place x within ∙ ap (λ (k : ℕ). get_or sizes k 0) e) in
    (λ i. classes_in lists (set sizes (e i) (is i + size))) ∙ added-known lists sizes users size same any

pub known-fits : (lists : List (List ℕ)) (sizes : List ℕ) (users : List ℕ) (place x : ℕ) → length sizes ≡ length lists → list_any (same_users users) lists ≡ true
    → place ≡ position_or_len (same_users users) lists → x ≡ get_or sizes place x → x ≤ bytes_in (classes_in lists sizes)
known-fits lists sizes users place x same any e read =
    let within : place < length sizes = omega (arith, e, same, place-within lists users any) in
    omega (arith, read ∙ get_or_default_zero sizes place x within, size-within lists sizes place same within)
