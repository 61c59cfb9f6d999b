-- Maps that hold the same names have them in one order.
use Rattle.std.proofs.Common.{◌≡◌, ℕ, List, [], ◌∷◌, Bool, true, false, cond, Option, Some, None, refl, sym, ◌∙◌, ap, subst}
use Rattle.std.specs.Prelude.{map as each, is_some, ◌&&◌}
use Rattle.std.specs.Ordering.{eq_by_cmp, is_lt}
use Rattle.std.specs.Cmp.Lexicographic.{nat_list_cmp_total}
use lib.Dec.{T}
use Rattle.std.specs.FinMap as map
use Rattle.std.specs.FinMap.Entries.{below_all, is_sorted, find, same_entries}
use Rattle.std.proofs.lemmas.Bool.{true≢false}
use Rattle.site_forms.specs.Volumes.{bytes_cmp}
use Rattle.volume_index.proofs.MapValues.{same_names}

-- an entry with nothing but its name
abbrev bare : {X : Type 0} → List (List ℕ × X) → List (List ℕ × Unit {0})
bare es = each (λ e. (e.0, tt)) es

below_bare : {X : Type 0} (x : List ℕ) (es : List (List ℕ × X)) → below_all bytes_cmp x (bare es) ≡ below_all bytes_cmp x es
below_bare x [] = refl
below_bare x (e ∷ es) = ap (λ (b : Bool). is_lt (bytes_cmp x e.0) && b) (below_bare x es)

sorted_bare : {X : Type 0} (es : List (List ℕ × X)) → is_sorted bytes_cmp (bare es) ≡ is_sorted bytes_cmp es
sorted_bare [] = refl
sorted_bare (e ∷ es) = λ i. below_bare e.0 es i && sorted_bare es i

-- what is found of a name, but for its value
abbrev seen : {X : Type 0} → Option X → Option (Unit {0})
seen None = None
seen (Some x) = Some tt

seen_first : {X : Type 0} (b : Bool) (v : X) (o : Option X) → cond b (Some tt) (seen o) ≡ seen (cond b (Some v) o)
seen_first true v o = refl
seen_first false v o = refl

find_bare : {X : Type 0} (q : List ℕ) (es : List (List ℕ × X)) → find bytes_cmp q (bare es) ≡ seen (find bytes_cmp q es)
find_bare q [] = refl
find_bare q (e ∷ es) = ap (cond (eq_by_cmp bytes_cmp q e.0) (Some tt)) (find_bare q es) ∙ seen_first (eq_by_cmp bytes_cmp q e.0) e.1 (find bytes_cmp q es)

same_seen : {X Y : Type 0} (o : Option X) (p : Option Y) → is_some o ≡ is_some p → seen o ≡ seen p
same_seen None None is = refl
same_seen None (Some y) is = absurd (true≢false (sym is))
same_seen (Some x) None is = absurd (true≢false is)
same_seen (Some x) (Some y) is = refl

names_of_bare : {X : Type 0} (es : List (List ℕ × X)) → each (λ e. e.0) (bare es) ≡ each (λ e. e.0) es
names_of_bare [] = refl
names_of_bare (e ∷ es) = ap (λ (l : List (List ℕ)). e.0 ∷ l) (names_of_bare es)

pub same_keys : {X Y : Type 0} (m : map.FinMap bytes_cmp X) (n : map.FinMap bytes_cmp Y) → ((q : List ℕ) → map.contains_key m q ≡ map.contains_key n q) → map.keys m ≡ map.keys n
same_keys m n is =
    sym (names_of_bare (map.entries m))
    ∙ ap (λ (l : List (List ℕ × Unit {0})). each (λ e. e.0) l)
    (same_entries bytes_cmp nat_list_cmp_total same_names (bare (map.entries m)) (bare (map.entries n))
    (subst T (sym (sorted_bare (map.entries m))) (map.entries_sorted m)) (subst T (sym (sorted_bare (map.entries n))) (map.entries_sorted n))
    (λ q. find_bare q (map.entries m) ∙ same_seen (find bytes_cmp q (map.entries m)) (find bytes_cmp q (map.entries n)) (ap is_some (sym (map.get-entries m q)) ∙ is q ∙ ap is_some (map.get-entries n q)) ∙ sym (find_bare q (map.entries n))))
    ∙ names_of_bare (map.entries n)
