-- Parts of a list, and how they change as a number is put in or taken out.
use Rattle.std.proofs.Common.{◌≡◌, ◌∙◌, ◌+◌, ◌-◌, ◌*◌, ◌<◌, ◌≤◌, ◌∷◌, [], ◌++◌, ℕ, List, sym, refl, ap, subst, length, get_or, take, drop, set, arith, inl, inr, length-append, length-take, length-drop, append_assoc}
use Rattle.std.specs.Prelude.{zero, suc, min}
use Rattle.std.specs.List.{concat, insert, remove}
use Rattle.std.proofs.Math.Seq.{take-append-add, drop-append-add}
use Rattle.std.proofs.lemmas.Bool.{cases_lt}
use Rattle.std.proofs.lemmas.List.{take-append-drop, take-append-le, take-take, take_all, take_more, drop_all, drop-append-le, drop-drop, drop-take, get_or-take, get_or-drop, nil_from_length}
use Rattle.tiered_list.specs.Inside.{AreParts, AreTiers, part, width}

pub take_plus : (a b : ℕ) (l : List ℕ) → take (a + b) l ≡ take a l ++ take b (drop a l)
take_plus a b l = sym (take-append-drop a (take (a + b) l)) ∙ (λ i. take-take a (a + b) l (omega arith) i ++ drop-take a b l i)

-- the blocks of a list, joined, are the list
rebuilt : (w : ℕ) (bs : List (List ℕ)) (zs : List ℕ) → ((i : ℕ) → i < length bs → get_or bs i [] ≡ take w (drop (i * w) zs)) → length zs ≤ length bs * w → concat bs ≡ zs
rebuilt w [] zs each within = sym (nil_from_length zs (omega (arith, within)))
rebuilt w (b ∷ bs) zs each within =
    let none : 0 * w ≡ 0 = omega arith in
    let first : b ≡ take w zs = each 0 (omega arith) ∙ ap (λ (n : ℕ). take w (drop n zs)) none in
    let rest : concat bs ≡ drop w zs = rebuilt w bs (drop w zs) (λ i lt.
    let next : suc i * w ≡ w + i * w = omega arith in
    each (suc i) (omega (arith, lt)) ∙ ap (take w) (ap (λ (n : ℕ). drop n zs) next ∙ sym (drop-drop (i * w) w zs)))
    (omega (arith, length-drop w zs, within)) in
    (λ i. first i ++ rest i) ∙ take-append-drop w zs

pub joined : (bs : List (List ℕ)) (zs : List ℕ) → AreParts bs zs → concat bs ≡ zs
joined bs zs are = rebuilt width bs zs are.each are.within

pub tiers_of : (bs : List (List ℕ)) (zs : List ℕ) → AreParts bs zs → AreTiers bs
tiers_of bs zs are = subst (λ (l : List ℕ). AreParts bs l) (sym (joined bs zs are)) are

-- a part behind the end is empty
pub past : (w k : ℕ) (xs : List ℕ) → length xs ≤ k → take w (drop k xs) ≡ []
past w k xs le = ap (take w) (drop_all k xs le) ∙ take_all w [] (omega arith)

-- a number of a part
pub part_read : (xs : List ℕ) (block at : ℕ) → at < width → get_or (part xs block) at 0 ≡ get_or xs (block * width + at) 0
part_read xs block at inside = get_or-take width (drop (block * width) xs) at 0 inside ∙ get_or-drop (block * width) xs at 0

pub part_long : (xs : List ℕ) (block : ℕ) → length (part xs block) ≡ min width (length xs - block * width)
part_long xs block = length-take width (drop (block * width) xs) ∙ ap (min width) (length-drop (block * width) xs)

-- what lies before a place stays
pub take_before : (w k p : ℕ) (xs rest : List ℕ) → k + w ≤ p → p ≤ length xs → take w (drop k (take p xs ++ rest)) ≡ take w (drop k xs)
take_before w k p xs rest before within =
    let size = length-take p xs in
    let split : p ≡ k + (p - k) = omega (arith, before) in
    ap (take w) (drop-append-le k (take p xs) rest (omega (arith, size, before, within)))
    ∙ (take-append-le w (drop k (take p xs)) rest (omega (arith, size, length-drop k (take p xs), before, within))
    ∙ (ap (λ (n : ℕ). take w (drop k (take n xs))) split
    ∙ (ap (take w) (drop-take k (p - k) xs) ∙ take-take w (p - k) (drop k xs) (omega (arith, before)))))

pub length_insert : (xs : List ℕ) (a x : ℕ) → a ≤ length xs → length (insert xs a x) ≡ length xs + 1
length_insert xs a x le = omega (arith, le, length-append (take a xs) (x ∷ drop a xs), length-take a xs, length-drop a xs)

pub insert_append : (p q : List ℕ) (a x : ℕ) → a ≤ length p → insert (p ++ q) a x ≡ insert p a x ++ q
insert_append p q a x le = (λ i. take-append-le a p q le i ++ (x ∷ drop-append-le a p q le i)) ∙ sym (append_assoc (take a p) (x ∷ drop a p) q)

put_apart : (w : ℕ) (ys : List ℕ) (a x : ℕ) → a ≤ length (take w ys) → insert ys a x ≡ insert (take w ys) a x ++ drop w ys
put_apart w ys a x le = ap (λ (l : List ℕ). insert l a x) (sym (take-append-drop w ys)) ∙ insert_append (take w ys) (drop w ys) a x le

-- a number put into a part
pub take_insert : (w : ℕ) (ys : List ℕ) (a x : ℕ) → a ≤ length (take w ys) → take w (insert ys a x) ≡ take w (insert (take w ys) a x)
take_insert w ys a x le = elim (cases_lt (length ys) w) [
  | inl short ↦ ap (λ (l : List ℕ). take w (insert l a x)) (sym (take_all w ys (omega (arith, short))))
  | inr long ↦ ap (take w) (put_apart w ys a x le) ∙ take-append-le w (insert (take w ys) a x) (drop w ys) (omega (arith, long, length_insert (take w ys) a x le, length-take w ys))
]

pub drop_insert : (w : ℕ) (ys : List ℕ) (a x : ℕ) → a ≤ length (take w ys) → w ≤ length ys → drop w (insert ys a x) ≡ drop w (insert (take w ys) a x) ++ drop w ys
drop_insert w ys a x le long =
    ap (drop w) (put_apart w ys a x le) ∙ drop-append-le w (insert (take w ys) a x) (drop w ys) (omega (arith, long, length_insert (take w ys) a x le, length-take w ys))

pub drop_of_insert : (xs : List ℕ) (k r x : ℕ) → k + r ≤ length xs → drop k (insert xs (k + r) x) ≡ insert (drop k xs) r x
drop_of_insert xs k r x le =
    drop-append-le k (take (k + r) xs) (x ∷ drop (k + r) xs) (omega (arith, le, length-take (k + r) xs))
    ∙ (λ i. drop-take k r xs i ++ (x ∷ sym (drop-drop r k xs) i))

pub length_remove : (xs : List ℕ) (a : ℕ) → a < length xs → length (remove xs a) + 1 ≡ length xs
length_remove xs a lt = omega (arith, lt, length-append (take a xs) (drop (suc a) xs), length-take a xs, length-drop (suc a) xs)

pub drop_of_remove : (xs : List ℕ) (k r : ℕ) → k + r ≤ length xs → drop k (remove xs (k + r)) ≡ remove (drop k xs) r
drop_of_remove xs k r le =
    let next : suc (k + r) ≡ k + suc r = omega arith in
    let tail : drop (suc (k + r)) xs ≡ drop (suc r) (drop k xs) = ap (λ (n : ℕ). drop n xs) next ∙ sym (drop-drop (suc r) k xs) in
    drop-append-le k (take (k + r) xs) (drop (suc (k + r)) xs) (omega (arith, le, length-take (k + r) xs)) ∙ (λ i. drop-take k r xs i ++ tail i)

pub drop_behind_remove : (xs : List ℕ) (k p : ℕ) → p ≤ k → p ≤ length xs → drop k (remove xs p) ≡ drop (k + 1) xs
drop_behind_remove xs k p le within =
    let split : k ≡ length (take p xs) + (k - p) = omega (arith, le, within, length-take p xs) in
    let next : suc p + (k - p) ≡ k + 1 = omega (arith, le) in
    ap (λ (n : ℕ). drop n (remove xs p)) split
    ∙ (drop-append-add (take p xs) (drop (suc p) xs) (k - p)
    ∙ (drop-drop (k - p) (suc p) xs ∙ ap (λ (n : ℕ). drop n xs) next))

-- a number taken out of a part, and the first one of the next part put behind
pub take_remove : (w : ℕ) (ys : List ℕ) (r : ℕ) → r < w → r ≤ length ys → take w (remove ys r) ≡ remove (take w ys) r ++ take 1 (drop w ys)
take_remove w ys r lt within =
    let m = w - suc r in
    let whole : suc r + m ≡ w = omega (arith, lt) in
    let size : w ≡ length (take r ys) + (m + 1) = omega (arith, lt, within, length-take r ys) in
    let left : take w (remove ys r) ≡ take r ys ++ (take m (drop (suc r) ys) ++ take 1 (drop w ys)) =
    ap (λ (n : ℕ). take n (remove ys r)) size
    ∙ (take-append-add (take r ys) (drop (suc r) ys) (m + 1)
    ∙ ap (λ (l : List ℕ). take r ys ++ l) (take_plus m 1 (drop (suc r) ys) ∙ ap (λ (l : List ℕ). take m (drop (suc r) ys) ++ take 1 l) (drop-drop m (suc r) ys ∙ ap (λ (n : ℕ). drop n ys) whole))) in
    let tail : drop (suc r) (take w ys) ≡ take m (drop (suc r) ys) = ap (λ (n : ℕ). drop (suc r) (take n ys)) (sym whole) ∙ drop-take (suc r) m ys in
    let right : remove (take w ys) r ≡ take r ys ++ take m (drop (suc r) ys) = λ i. take-take r w ys (omega (arith, lt)) i ++ tail i in
    left ∙ (sym (append_assoc (take r ys) (take m (drop (suc r) ys)) (take 1 (drop w ys))) ∙ ap (λ (l : List ℕ). l ++ take 1 (drop w ys)) (sym right))

pub take_one : (ys : List ℕ) → 0 < length ys → take 1 ys ≡ get_or ys 0 0 ∷ []
take_one ys lt = take_more ys 0 0 lt

pub take_of_set : (w : ℕ) (ys : List ℕ) (r y : ℕ) → take w (set ys r y) ≡ set (take w ys) r y
take_of_set zero ys r y = refl
take_of_set (suc w) [] r y = refl
take_of_set (suc w) (x ∷ ys) zero y = refl
take_of_set (suc w) (x ∷ ys) (suc r) y = ap (λ (l : List ℕ). x ∷ l) (take_of_set w ys r y)
