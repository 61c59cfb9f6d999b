-- What holds of all keys and values of a map.
use Rattle.std.proofs.Common.{◌≡◌, ℕ, zero, suc, ◌<◌, List, [], ◌∷◌, length, get_or, Bool, true, false, cond, Option, Some, None, refl, sym, ◌∙◌, ap, subst, arith}
use Rattle.std.specs.Prelude.{map as each, is_some, All}
use Rattle.std.specs.Ordering.{eq_by_cmp, is_eq}
use Rattle.std.specs.Cmp.{tied_itself}
use Rattle.std.specs.Cmp.Lexicographic.{nat_list_cmp_total, texts_ties, same_text}
use Rattle.std.specs.declared.cmp.Ordering.{Ordering}
use Rattle.std.specs.declared.cmp.Ordering.TheVariants.{Less}
use lib.Dec.{T}
use Rattle.std.specs.FinMap as map
use Rattle.std.specs.FinMap.Entries.{below_all, is_sorted, find}
use Rattle.std.proofs.lemmas.Bool.{true≢false}
use Rattle.std.proofs.lemmas.Option.{none-some}
use Rattle.std.proofs.lemmas.List.{length-map}
use Rattle.std.proofs.lemmas.List.Elements.{All-from_get_or, All-get_or}
use Rattle.site_forms.specs.Volumes.{bytes_cmp}
use Rattle.volume_index.proofs.Ranks.{above, turned, both_of, place_of, listed_at}

some_same : {X : Type 0} (x y : X) → Some x ≡ Some y → x ≡ y
some_same x y is = cc

-- the value at a place is found by the key at this place
find_at : {X : Type 0} (es : List (List ℕ × X)) (i : ℕ) (d : X) → T (is_sorted bytes_cmp es) → i < length es → find bytes_cmp (get_or (each (λ e. e.0) es) i []) es ≡ Some (get_or (each (λ e. e.1) es) i d)
find_at [] i d sorted inside = absurd (omega (arith, inside))
find_at (e ∷ es) zero d sorted inside = ap (λ (o : Ordering). cond (is_eq o) (Some e.1) (find bytes_cmp e.0 es)) (tied_itself nat_list_cmp_total e.0)
find_at (e ∷ es) (suc i) d sorted inside =
    let parts = both_of (below_all bytes_cmp e.0 es) (is_sorted bytes_cmp es) sorted in
    let key = get_or (each (λ (x : List ℕ × _). x.0) es) i [] in
    ap (λ (o : Ordering). cond (is_eq o) (Some e.1) (find bytes_cmp key es)) (turned e.0 key Less (above e.0 es i parts.0 (omega (arith, inside))))
    ∙ find_at es i d parts.1 (omega (arith, inside))

module _ {X : Type 0} (m : map.FinMap bytes_cmp X) where
  key_count : length (map.keys m) ≡ length (map.entries m)
  key_count = length-map (map.entries m) (λ (e : List ℕ × X). e.0)

  value_count : length (map.values m) ≡ length (map.entries m)
  value_count = length-map (map.entries m) (λ (e : List ℕ × X). e.1)

  -- the value at a place is that of the key at this place
  pub get_at : (i : ℕ) (d : X) → i < length (map.keys m) → map.get m (get_or (map.keys m) i []) ≡ Some (get_or (map.values m) i d)
  get_at i d inside = map.get-entries m (get_or (map.keys m) i []) ∙ find_at (map.entries m) i d (map.entries_sorted m) (omega (arith, inside, key_count))

  pub all_keys : (P : List ℕ → Type 0) → ((q : List ℕ) → map.contains_key m q ≡ true → P q) → All P (map.keys m)
  all_keys P holds = All-from_get_or P (map.keys m) [] (λ i inside.
      holds (get_or (map.keys m) i []) (map.contains_key-keys m (get_or (map.keys m) i []) ∙ listed_at (get_or (map.keys m) i []) (map.keys m) i inside refl))

  pub all_values : (P : X → Type 0) → ((q : List ℕ) (v : X) → map.get m q ≡ Some v → P v) → All P (map.values m)
  all_values P holds i d inside = holds (get_or (map.keys m) i []) (get_or (map.values m) i d) (get_at i d (omega (arith, inside, key_count, value_count)))

  pub key_has : (P : List ℕ → Type 0) → All P (map.keys m) → (q : List ℕ) → map.contains_key m q ≡ true → P q
  key_has P all q held =
      let place = place_of q (map.keys m) (sym (map.contains_key-keys m q) ∙ held) in
      subst P place.2 (All-get_or P (map.keys m) place.0 [] place.1 all)

  held_some : (q : List ℕ) (v : X) → map.get m q ≡ Some v → map.contains_key m q ≡ true
  held_some q v is = ap is_some is

  pub value_has : (P : X → Type 0) → All P (map.values m) → (q : List ℕ) (v : X) → map.get m q ≡ Some v → P v
  value_has P all q v is =
      let place = place_of q (map.keys m) (sym (map.contains_key-keys m q) ∙ held_some q v is) in
      let at : Some (get_or (map.values m) place.0 v) ≡ Some v = sym (get_at place.0 v place.1) ∙ ap (map.get m) place.2 ∙ is in
      subst P (some_same (get_or (map.values m) place.0 v) v at) (All-get_or P (map.values m) place.0 v (omega (arith, place.1, key_count, value_count)) all)

-- A MAP WITH ONE MORE OR ONE LESS

some_value : {X : Type 0} (o : Option X) → is_some o ≡ true → (v : X) × (o ≡ Some v)
some_value None is = absurd (true≢false (sym is))
some_value (Some v) is = (v, refl)

pub held_value : {X : Type 0} (m : map.FinMap bytes_cmp X) (q : List ℕ) → map.contains_key m q ≡ true → (v : X) × (map.get m q ≡ Some v)
held_value m q held = some_value (map.get m q) held

-- a value of a map with one more is the new one or an old one
pub get_with : {X : Type 0} (P : List ℕ → X → Type 0) (m : map.FinMap bytes_cmp X) (k : List ℕ) (v : X) → P k v → ((q : List ℕ) (w : X) → map.get m q ≡ Some w → P q w)
    → (q : List ℕ) (w : X) → map.get (map.insert m k v) q ≡ Some w → P q w
get_with {X} P m k v new old q w is =
    elim (eq_by_cmp bytes_cmp q k) as (λ b. eq_by_cmp bytes_cmp q k ≡ b → cond b (Some v) (map.get m q) ≡ Some w → P q w) [
      | true ↦ λ ties found. subst (λ (x : List ℕ). P x w) (sym (same_text q k (sym (texts_ties q k ∙ ties)))) (subst (P k) (some_same v w found) new)
      | false ↦ λ _ found. old q w found
    ] refl (sym (map.get-insert nat_list_cmp_total m k v q) ∙ is)

-- and one of a map with one less is an old one, of another key
pub get_without : {X : Type 0} (P : List ℕ → X → Type 0) (m : map.FinMap bytes_cmp X) (k : List ℕ) → ((q : List ℕ) (w : X) → eq_by_cmp bytes_cmp q k ≡ false → map.get m q ≡ Some w → P q w)
    → (q : List ℕ) (w : X) → map.get (map.remove m k) q ≡ Some w → P q w
get_without P m k old q w is =
    elim (eq_by_cmp bytes_cmp q k) as (λ b. eq_by_cmp bytes_cmp q k ≡ b → cond b None (map.get m q) ≡ Some w → P q w) [
      | true ↦ λ _ none. absurd (none-some w none)
      | false ↦ λ other found. old q w other found
    ] refl (sym (map.get-remove nat_list_cmp_total m k q) ∙ is)

or_held : (b : Bool) {X : Type 0} (v : X) (o : Option X) → is_some o ≡ true → is_some (cond b (Some v) o) ≡ true
or_held true v o held = refl
or_held false v o held = held

pub still_held : {X : Type 0} (m : map.FinMap bytes_cmp X) (k : List ℕ) (v : X) (q : List ℕ) → map.contains_key m q ≡ true → map.contains_key (map.insert m k v) q ≡ true
still_held m k v q held = ap is_some (map.get-insert nat_list_cmp_total m k v q) ∙ or_held (eq_by_cmp bytes_cmp q k) v (map.get m q) held

pub held_new : {X : Type 0} (m : map.FinMap bytes_cmp X) (k : List ℕ) (v : X) → map.contains_key (map.insert m k v) k ≡ true
held_new m k v = ap is_some (map.get-insert nat_list_cmp_total m k v k ∙ ap (λ (o : Ordering). cond (is_eq o) (Some v) (map.get m k)) (tied_itself nat_list_cmp_total k))

-- a key of a map with one more is the new one, or an old one
pub keys_with_more : {X : Type 0} (P : List ℕ → Type 0) (m : map.FinMap bytes_cmp X) (k : List ℕ) (v : X) → P k → All P (map.keys m) → All P (map.keys (map.insert m k v))
keys_with_more P m k v new all = all_keys (map.insert m k v) P (λ q held.
    let found = held_value (map.insert m k v) q held in
    get_with (λ x _. P x) m k v new (λ x w is. key_has m P all x (ap is_some is)) q found.0 found.1)

pub keys_with_less : {X : Type 0} (P : List ℕ → Type 0) (m : map.FinMap bytes_cmp X) (k : List ℕ) → All P (map.keys m) → All P (map.keys (map.remove m k))
keys_with_less P m k all = all_keys (map.remove m k) P (λ q held.
    let found = held_value (map.remove m k) q held in
    get_without (λ x _. P x) m k (λ x w _ is. key_has m P all x (ap is_some is)) q found.0 found.1)

pub values_with_more : {X : Type 0} (P : X → Type 0) (m : map.FinMap bytes_cmp X) (k : List ℕ) (v : X) → P v → All P (map.values m) → All P (map.values (map.insert m k v))
values_with_more P m k v new all = all_values (map.insert m k v) P (get_with (λ _ w. P w) m k v new (λ q w is. value_has m P all q w is))

pub values_with_less : {X : Type 0} (P : X → Type 0) (m : map.FinMap bytes_cmp X) (k : List ℕ) → All P (map.values m) → All P (map.values (map.remove m k))
values_with_less P m k all = all_values (map.remove m k) P (get_without (λ _ w. P w) m k (λ q w _ is. value_has m P all q w is))
