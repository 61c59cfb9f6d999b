-- Names in order: where one stands, and where one belongs.
use Rattle.std.proofs.Common.{◌≡◌, ◌≢◌, ℕ, zero, suc, ◌+◌, ◌<◌, ◌≤◌, List, [], ◌∷◌, length, get_or, Bool, true, false, refl, sym, ◌∙◌, ap, subst, arith, ⊎_elim}
use Rattle.std.specs.Prelude.{map as each, cond, not, ◌&&◌, ◌||◌, Option, None}
use Rattle.std.specs.List.{list_any, filter, insert, remove}
use Rattle.std.specs.Ordering.{eq_by_cmp, is_eq, is_lt, ordering_reverse}
use Rattle.std.specs.Cmp.{tied_itself, alike_right, eq_by_cmp_equiv}
use Rattle.std.specs.Cmp.Lexicographic.{nat_list_cmp_total}
use Rattle.std.specs.declared.cmp.Ordering.{Ordering}
use Rattle.std.specs.declared.cmp.Ordering.TheVariants.{Less, Equal, Greater}
use lib.Dec.{T}
use Rattle.std.specs.FinMap as map
use Rattle.std.specs.FinMap.Entries.{below_all, put, is_sorted, by_order, where_key, is_sorted-where_key, find-where_key, same_entries}
use Rattle.std.proofs.lemmas.Bool.{true≢false, cases_order}
use Rattle.std.proofs.lemmas.List.{length-map}
use Rattle.site_forms.specs.Volumes.{bytes_cmp}
use Rattle.volume_index.proofs.MapValues.{same_names}
use Rattle.volume_index.specs.ChunkTables.{IsRank}

pub both_of : (a b : Bool) → T (a && b) → T a × T b
both_of true b h = (tt, h)
both_of false b h = absurd h

less_is : (o : Ordering) → T (is_lt o) → o ≡ Less
less_is Less h = refl
less_is Equal h = absurd h
less_is Greater h = absurd h

equal_is : (o : Ordering) → is_eq o ≡ true → o ≡ Equal
equal_is Less h = absurd (true≢false (sym h))
equal_is Equal h = refl
equal_is Greater h = absurd (true≢false (sym h))

greater_is : (o : Ordering) → o ≢ Less → o ≢ Equal → o ≡ Greater
greater_is Less no_less no_equal = absurd (no_less refl)
greater_is Equal no_less no_equal = absurd (no_equal refl)
greater_is Greater no_less no_equal = refl

less_not_equal : Less ≢ Equal
less_not_equal is = cc

less_not_greater : Less ≢ Greater
less_not_greater is = cc

-- the order turned round
pub turned : (x y : List ℕ) (o : Ordering) → bytes_cmp x y ≡ o → bytes_cmp y x ≡ ordering_reverse o
turned x y o is = nat_list_cmp_total.antisymm y x ∙ ap ordering_reverse is

itself : (x y : List ℕ) → x ≡ y → bytes_cmp x y ≡ Equal
itself x y same = ap (λ (z : List ℕ). bytes_cmp x z) (sym same) ∙ tied_itself nat_list_cmp_total x

-- KEYS THAT RISE

pub above : {X : Type 0} (x : List ℕ) (es : List (List ℕ × X)) (j : ℕ) → T (below_all bytes_cmp x es) → j < length es → bytes_cmp x (get_or (each (λ e. e.0) es) j []) ≡ Less
above x [] j all inside = absurd (omega (arith, inside))
above x (e ∷ es) zero all inside = less_is (bytes_cmp x e.0) (both_of (is_lt (bytes_cmp x e.0)) (below_all bytes_cmp x es) all).0
above x (e ∷ es) (suc j) all inside = above x es j (both_of (is_lt (bytes_cmp x e.0)) (below_all bytes_cmp x es) all).1 (omega (arith, inside))

rises : {X : Type 0} (es : List (List ℕ × X)) (i j : ℕ) → T (is_sorted bytes_cmp es) → i < j → j < length es → bytes_cmp (get_or (each (λ e. e.0) es) i []) (get_or (each (λ e. e.0) es) j []) ≡ Less
rises [] i j sorted before inside = absurd (omega (arith, inside))
rises (e ∷ es) zero zero sorted before inside = absurd (omega (arith, before))
rises (e ∷ es) zero (suc j) sorted before inside = above e.0 es j (both_of (below_all bytes_cmp e.0 es) (is_sorted bytes_cmp es) sorted).0 (omega (arith, inside))
rises (e ∷ es) (suc i) zero sorted before inside = absurd (omega (arith, before))
rises (e ∷ es) (suc i) (suc j) sorted before inside =
    rises es i j (both_of (below_all bytes_cmp e.0 es) (is_sorted bytes_cmp es) sorted).1 (omega (arith, before)) (omega (arith, inside))

module _ {X : Type 0} (m : map.FinMap bytes_cmp X) where
  pub count_keys : length (map.keys m) ≡ map.len m
  count_keys = length-map (map.entries m) (λ (e : List ℕ × X). e.0) ∙ sym (map.len-entries m)

  pub keys_rise : (i j : ℕ) → i < j → j < length (map.keys m) → bytes_cmp (get_or (map.keys m) i []) (get_or (map.keys m) j []) ≡ Less
  keys_rise i j before inside = rises (map.entries m) i j (map.entries_sorted m) before (omega (arith, inside, length-map (map.entries m) (λ (e : List ℕ × X). e.0)))

-- THE PLACE OF A NAME

-- a name in a list stands at some place
pub place_of : (name : List ℕ) (names : List (List ℕ)) → list_any (eq_by_cmp bytes_cmp name) names ≡ true → (k : ℕ) × (k < length names) × (get_or names k [] ≡ name)
place_of name [] is = absurd (true≢false (sym is))
place_of name (first ∷ names) is =
    elim (eq_by_cmp bytes_cmp name first) as (λ b. eq_by_cmp bytes_cmp name first ≡ b → (b || list_any (eq_by_cmp bytes_cmp name) names) ≡ true → (k : ℕ) × (k < length (first ∷ names)) × (get_or (first ∷ names) k [] ≡ name)) [
      | true ↦ λ ties _. (zero, omega arith, sym (same_names name first (equal_is (bytes_cmp name first) ties)))
      | false ↦ λ _ later. let rest = place_of name names later in (suc rest.0, omega (arith, rest.1), rest.2)
    ] refl is

pub listed_at : (name : List ℕ) (names : List (List ℕ)) (k : ℕ) → k < length names → get_or names k [] ≡ name → list_any (eq_by_cmp bytes_cmp name) names ≡ true
listed_at name [] k inside is = absurd (omega (arith, inside))
listed_at name (first ∷ names) zero inside is =
    ap (λ (o : Ordering). is_eq o || list_any (eq_by_cmp bytes_cmp name) names) (itself name first (sym is))
listed_at name (first ∷ names) (suc k) inside is =
    elim (eq_by_cmp bytes_cmp name first) as (λ b. (b || list_any (eq_by_cmp bytes_cmp name) names) ≡ true) [ true ↦ refl | false ↦ listed_at name names k (omega (arith, inside)) is ]

module _ {X : Type 0} (m : map.FinMap bytes_cmp X) (name : List ℕ) where
  -- two places of one name are one
  pub one_place : (i j : ℕ) → i < length (map.keys m) → j < length (map.keys m) → get_or (map.keys m) i [] ≡ get_or (map.keys m) j [] → i ≡ j
  one_place i j here there same = ⊎_elim (λ is. is) (λ order. ⊎_elim
      (λ before. absurd (less_not_equal (sym (keys_rise m i j before there) ∙ itself (get_or (map.keys m) i []) (get_or (map.keys m) j []) same)))
      (λ behind. absurd (less_not_equal (sym (keys_rise m j i behind here) ∙ itself (get_or (map.keys m) j []) (get_or (map.keys m) i []) (sym same))))
      order) (cases_order i j)

  -- a name that is held stands at its rank
  pub rank_found : (rank : ℕ) → IsRank (map.keys m) name rank → map.contains_key m name ≡ true → (rank < length (map.keys m)) × (get_or (map.keys m) rank [] ≡ name)
  rank_found rank is held =
      let place = place_of name (map.keys m) (sym (map.contains_key-keys m name) ∙ held) in
      ⊎_elim
      (λ (same : place.0 ≡ rank). (omega (arith, place.1, same), ap (λ (k : ℕ). get_or (map.keys m) k []) (sym same) ∙ place.2))
      (λ order. ⊎_elim
      (λ (before : place.0 < rank). absurd (less_not_equal (sym (is.before place.0 before) ∙ itself (get_or (map.keys m) place.0 []) name place.2)))
      (λ (behind : rank < place.0). absurd (is.behind rank (omega arith) (omega (arith, behind, place.1)) (ap (λ (l : List ℕ). bytes_cmp (get_or (map.keys m) rank []) l) (sym place.2) ∙ keys_rise m rank place.0 behind place.1)))
      order)
      (cases_order place.0 rank)

  -- below the names from the rank on, where it is lacking
  pub rank_lacking : (rank : ℕ) → IsRank (map.keys m) name rank → map.contains_key m name ≡ false → rank < length (map.keys m) → bytes_cmp name (get_or (map.keys m) rank []) ≡ Less
  rank_lacking rank is lacking inside =
      let at = get_or (map.keys m) rank [] in
      turned at name Greater (greater_is (bytes_cmp at name) (is.behind rank (omega arith) inside)
      (λ ties. true≢false (sym (listed_at name (map.keys m) rank inside (same_names at name ties)) ∙ sym (map.contains_key-keys m name) ∙ lacking)))

-- the place of a name is its rank
pub rank_of_place : {X : Type 0} (m : map.FinMap bytes_cmp X) (name : List ℕ) (k : ℕ) → k < length (map.keys m) → get_or (map.keys m) k [] ≡ name → IsRank (map.keys m) name k
rank_of_place m name k inside is = record {
  within = omega (arith, inside);
  before = λ j less. ap (λ (x : List ℕ). bytes_cmp (get_or (map.keys m) j []) x) (sym is) ∙ keys_rise m j k less inside;
  behind = λ j later there less. ⊎_elim
      (λ (same : j ≡ k). less_not_equal (sym less ∙ itself (get_or (map.keys m) j []) name (ap (λ (n : ℕ). get_or (map.keys m) n []) same ∙ is)))
      (λ order. ⊎_elim
      (λ (before : j < k). absurd (omega (arith, before, later)))
      (λ (after : k < j). less_not_greater (sym less ∙ turned name (get_or (map.keys m) j []) Less (ap (λ (x : List ℕ). bytes_cmp x (get_or (map.keys m) j [])) (sym is) ∙ keys_rise m k j after there)))
      order)
      (cases_order j k);
}

-- LISTS WITH ONE MORE, OR ONE LESS

pub each_insert : {A B : Type 0} (f : A → B) (xs : List A) (i : ℕ) (x : A) → each f (insert xs i x) ≡ insert (each f xs) i (f x)
each_insert f xs zero x = refl
each_insert f [] (suc i) x = refl
each_insert f (y ∷ ys) (suc i) x = ap (λ l. f y ∷ l) (each_insert f ys i x)

pub each_remove : {A B : Type 0} (f : A → B) (xs : List A) (i : ℕ) → each f (remove xs i) ≡ remove (each f xs) i
each_remove f [] zero = refl
each_remove f (y ∷ ys) zero = refl
each_remove f [] (suc i) = refl
each_remove f (y ∷ ys) (suc i) = ap (λ l. f y ∷ l) (each_remove f ys i)

put_at : {X : Type 0} (es : List (List ℕ × X)) (rank : ℕ) (name : List ℕ) (v : X) → rank ≤ length es → ((j : ℕ) → j < rank → bytes_cmp name (get_or (each (λ e. e.0) es) j []) ≡ Greater)
    → (rank < length es → bytes_cmp name (get_or (each (λ e. e.0) es) rank []) ≡ Less) → put bytes_cmp name v es ≡ insert es rank (name, v)
put_at [] zero name v within before at = refl
put_at [] (suc rank) name v within before at = absurd (omega (arith, within))
put_at (e ∷ es) zero name v within before at = ap (λ (o : Ordering). by_order o ((name, v) ∷ e ∷ es) ((e.0, v) ∷ es) (e ∷ put bytes_cmp name v es)) (at (omega arith))
put_at (e ∷ es) (suc rank) name v within before at =
    ap (λ (o : Ordering). by_order o ((name, v) ∷ e ∷ es) ((e.0, v) ∷ es) (e ∷ put bytes_cmp name v es)) (before zero (omega arith))
    ∙ ap (λ l. e ∷ l) (put_at es rank name v (omega (arith, within)) (λ j less. before (suc j) (omega (arith, less))) (λ less. at (omega (arith, less))))

kept_all : {X : Type 0} (name : List ℕ) (es : List (List ℕ × X)) → T (below_all bytes_cmp name es) → filter (λ e. not (eq_by_cmp bytes_cmp name e.0)) es ≡ es
kept_all name [] all = refl
kept_all name (e ∷ es) all =
    let parts = both_of (is_lt (bytes_cmp name e.0)) (below_all bytes_cmp name es) all in
    ap (λ (o : Ordering). cond (not (is_eq o)) (e ∷ filter (λ x. not (eq_by_cmp bytes_cmp name x.0)) es) (filter (λ x. not (eq_by_cmp bytes_cmp name x.0)) es)) (less_is (bytes_cmp name e.0) parts.0)
    ∙ ap (λ l. e ∷ l) (kept_all name es parts.1)

take_at : {X : Type 0} (es : List (List ℕ × X)) (rank : ℕ) (name : List ℕ) → T (is_sorted bytes_cmp es) → rank < length es → get_or (each (λ e. e.0) es) rank [] ≡ name
    → filter (λ e. not (eq_by_cmp bytes_cmp name e.0)) es ≡ remove es rank
take_at [] rank name sorted inside is = absurd (omega (arith, inside))
take_at (e ∷ es) zero name sorted inside is =
    let parts = both_of (below_all bytes_cmp e.0 es) (is_sorted bytes_cmp es) sorted in
    ap (λ (o : Ordering). cond (not (is_eq o)) (e ∷ filter (λ x. not (eq_by_cmp bytes_cmp name x.0)) es) (filter (λ x. not (eq_by_cmp bytes_cmp name x.0)) es)) (itself name e.0 (sym is))
    ∙ kept_all name es (subst (λ (n : List ℕ). T (below_all bytes_cmp n es)) is parts.0)
take_at (e ∷ es) (suc rank) name sorted inside is =
    let parts = both_of (below_all bytes_cmp e.0 es) (is_sorted bytes_cmp es) sorted in
    let less : bytes_cmp e.0 name ≡ Less = ap (λ (n : List ℕ). bytes_cmp e.0 n) (sym is) ∙ above e.0 es rank parts.0 (omega (arith, inside)) in
    ap (λ (o : Ordering). cond (not (is_eq o)) (e ∷ filter (λ x. not (eq_by_cmp bytes_cmp name x.0)) es) (filter (λ x. not (eq_by_cmp bytes_cmp name x.0)) es)) (turned e.0 name Less less)
    ∙ ap (λ l. e ∷ l) (take_at es rank name parts.1 (omega (arith, inside)) is)

other_way : {A : Type 0} (b : Bool) (x y : A) → cond b y x ≡ cond (not b) x y
other_way true x y = refl
other_way false x y = refl

-- the entries but those of a name
entries_filtered : {X : Type 0} (m : map.FinMap bytes_cmp X) (name : List ℕ) → map.entries (map.remove m name) ≡ where_key bytes_cmp (λ x. not (eq_by_cmp bytes_cmp name x)) (map.entries m)
entries_filtered m name =
    let p : List ℕ → Bool = λ x. not (eq_by_cmp bytes_cmp name x) in
    same_entries bytes_cmp nat_list_cmp_total same_names (map.entries (map.remove m name)) (where_key bytes_cmp p (map.entries m)) (map.entries_sorted (map.remove m name)) (is_sorted-where_key bytes_cmp p (map.entries m) (map.entries_sorted m))
    (λ q.
    sym (map.get-entries (map.remove m name) q)
    ∙ map.get-remove nat_list_cmp_total m name q
    ∙ ap (λ (b : Bool). cond b None (map.get m q)) ((eq_by_cmp_equiv nat_list_cmp_total).symm q name)
    ∙ other_way (eq_by_cmp bytes_cmp name q) (map.get m q) None
    ∙ ap (λ (o : Option _). cond (p q) o None) (map.get-entries m q)
    ∙ sym (find-where_key bytes_cmp p q (λ x ties. ap (λ (o : Ordering). not (is_eq o)) (sym (alike_right nat_list_cmp_total q x name ties))) (map.entries m)))

module _ {X : Type 0} (m : map.FinMap bytes_cmp X) (name : List ℕ) (rank : ℕ) (is : IsRank (map.keys m) name rank) where
  -- a name that is lacking is put at its rank
  pub entries_with : (v : X) → map.contains_key m name ≡ false → map.entries (map.insert m name v) ≡ insert (map.entries m) rank (name, v)
  entries_with v lacking =
      let many = length-map (map.entries m) (λ (e : List ℕ × X). e.0) in
      map.entries-insert nat_list_cmp_total m name v
      ∙ put_at (map.entries m) rank name v (omega (arith, is.within, many)) (λ j less. turned (get_or (map.keys m) j []) name Less (is.before j less)) (λ less. rank_lacking m name rank is lacking (omega (arith, less, many)))

  pub keys_with : (v : X) → map.contains_key m name ≡ false → map.keys (map.insert m name v) ≡ insert (map.keys m) rank name
  keys_with v lacking = ap (λ (l : List (List ℕ × X)). each (λ e. e.0) l) (entries_with v lacking) ∙ each_insert (λ (e : List ℕ × X). e.0) (map.entries m) rank (name, v)

  -- and one that is held is taken from there
  pub entries_without : map.contains_key m name ≡ true → map.entries (map.remove m name) ≡ remove (map.entries m) rank
  entries_without held =
      let found = rank_found m name rank is held in
      entries_filtered m name
      ∙ take_at (map.entries m) rank name (map.entries_sorted m) (omega (arith, found.0, length-map (map.entries m) (λ (e : List ℕ × X). e.0))) found.1

  pub keys_without : map.contains_key m name ≡ true → map.keys (map.remove m name) ≡ remove (map.keys m) rank
  keys_without held = ap (λ (l : List (List ℕ × X)). each (λ e. e.0) l) (entries_without held) ∙ each_remove (λ (e : List ℕ × X). e.0) (map.entries m) rank

-- A SEARCH BY HALVES

module _ {X : Type 0} (m : map.FinMap bytes_cmp X) (name key : List ℕ) (middle : ℕ) where
  -- all names up to one that is less are less
  pub below_middle : middle < length (map.keys m) → get_or (map.keys m) middle [] ≡ key → bytes_cmp key name ≡ Less → (j : ℕ) → j < middle + 1 → bytes_cmp (get_or (map.keys m) j []) name ≡ Less
  below_middle inside is less j before = ⊎_elim
      (λ (same : j ≡ middle). ap (λ (x : List ℕ). bytes_cmp x name) (ap (λ (k : ℕ). get_or (map.keys m) k []) same ∙ is) ∙ less)
      (λ order. ⊎_elim
      (λ (lower : j < middle). nat_list_cmp_total.trans (get_or (map.keys m) j []) key name (ap (λ (x : List ℕ). bytes_cmp (get_or (map.keys m) j []) x) (sym is) ∙ keys_rise m j middle lower inside) less)
      (λ (higher : middle < j). absurd (omega (arith, higher, before)))
      order)
      (cases_order j middle)

  -- and no name from one on that is not less
  pub from_middle : get_or (map.keys m) middle [] ≡ key → bytes_cmp key name ≢ Less → (j : ℕ) → middle ≤ j → j < length (map.keys m) → bytes_cmp (get_or (map.keys m) j []) name ≢ Less
  from_middle is other j later inside less = ⊎_elim
      (λ (same : j ≡ middle). other (ap (λ (x : List ℕ). bytes_cmp x name) (sym (ap (λ (k : ℕ). get_or (map.keys m) k []) same ∙ is)) ∙ less))
      (λ order. ⊎_elim
      (λ (lower : j < middle). absurd (omega (arith, lower, later)))
      (λ (higher : middle < j). other (nat_list_cmp_total.trans key (get_or (map.keys m) j []) name (ap (λ (x : List ℕ). bytes_cmp x (get_or (map.keys m) j [])) (sym is) ∙ keys_rise m middle j higher inside) less))
      order)
      (cases_order j middle)

pub less_no_equal : Less ≢ Equal
less_no_equal is = cc

pub no_less : (o : Ordering) → Equal ≡ o → o ≢ Less
no_less o is less = less_no_equal (sym less ∙ sym is)

pub no_less_greater : (o : Ordering) → Greater ≡ o → o ≢ Less
no_less_greater o is less = less_not_greater (sym less ∙ sym is)
