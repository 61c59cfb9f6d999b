-- What a table of chunks reads and writes.
use Rattle.std.specs.Cmp.{eq_by_cmp_equiv}
use Rattle.std.proofs.Common.{◌≡◌, ℕ, zero, suc, ◌+◌, ◌<◌, List, [], ◌∷◌, ◌++◌, length, get_or, Bool, true, false, cond, Option, Some, None, refl, sym, ◌∙◌, ap, subst, arith}
use Rattle.std.specs.Prelude.{map as each, is_some, position, slice_get, nat_eq, All}
use Rattle.std.specs.List.{IsDistinct, AllByRecursion}
use Rattle.std.specs.List.Sorted.{IsSorted, IsStrictlySortedBy}
use Rattle.std.specs.Map.{lookup}
use Rattle.std.specs.Ordering.{eq_by_cmp, is_eq, is_lt, ordering_reverse}
use Rattle.std.specs.Cmp.Lexicographic.{pointwise, nat_list_cmp_total, texts_ties, same_text}
use Rattle.std.specs.declared.cmp.Ordering.{Ordering}
use Rattle.std.specs.declared.cmp.Ordering.TheVariants.{Less, Equal, Greater}
use Rattle.std.specs.FinMap as map
use Rattle.std.specs.FinMap.Entries.{below_all, is_sorted}
use Rattle.std.proofs.lemmas.Bool.{true≢false, and_from}
use Rattle.std.proofs.lemmas.List.{length-map, ext_get_or, get_or_default}
use Rattle.std.proofs.lemmas.List.Quantifiers.{position-Some}
use Rattle.std.proofs.lemmas.List.Elements.{All-get_or, All-from_get_or}
use Rattle.std.proofs.lemmas.Option.{slice_get-get_or, slice_get_within, get_or_from_slice_get}
use Rattle.std.proofs.lemmas.Map.Keys.{sorted_from_all_adjacent, apart_from_distinct, sorted_head, sorted_tail}
use Rattle.site_forms.specs.Volumes.{bytes_cmp}
use Rattle.volume_index.proofs.MapValues.{same_names}
use Rattle.volume_index.proofs.Keys.{same_keys}
use Rattle.volume_index.proofs.Lookups.{get-lookup, entries-in_order}
use Rattle.volume_index.proofs.Ranks.{count_keys, listed_at}
use Rattle.volume_index.specs.declared.chunk_table.ChunkEntry.{ChunkEntry}
use Rattle.volume_index.specs.ChunkTables.{Entries, name_at, new_entry, IsOrder, KeepsTable}

abbrev Listed : Type 0
Listed = List (List ℕ × ChunkEntry)

abbrev map_of : Listed → Entries
map_of es = map.from_entries {R = bytes_cmp} es

-- NAMES BY NUMBERS

name_by_key : (es : Listed) (k : ℕ) → name_at es k ≡ get_or (each (λ e. e.0) es) k []
name_by_key [] zero = refl
name_by_key [] (suc k) = refl
name_by_key (e ∷ es) zero = refl
name_by_key (e ∷ es) (suc k) = name_by_key es k

each_at : {A B : Type 0} (f : A → B) (xs : List A) (j : ℕ) (d : A) (e : B) → j < length xs → get_or (each f xs) j e ≡ f (get_or xs j d)
each_at f [] j d e inside = absurd (omega (arith, inside))
each_at f (x ∷ xs) zero d e inside = refl
each_at f (x ∷ xs) (suc j) d e inside = each_at f xs j d e (omega (arith, inside))

pub order_long : (es : Listed) (order : List ℕ) (m : Entries) → IsOrder es order → map_of es ≡ m → length order ≡ map.len m
order_long es order m is view = sym (length-map order (name_at es)) ∙ ap length is.names ∙ count_keys (map_of es) ∙ ap map.len view

-- a number that is read, at any default
pub number_read : (order : List ℕ) (place number : ℕ) → place < length order → number ≡ get_or order place 0 → number ≡ get_or order place number
number_read order place number inside at = at ∙ get_or_default order place 0 number inside

pub number_inside : (es : Listed) (order : List ℕ) (place number : ℕ) → IsOrder es order → place < length order → number ≡ get_or order place number → number < length es
number_inside es order place number is inside at = subst (λ (k : ℕ). k < length es) (sym (at ∙ get_or_default order place number 0 inside)) (All-get_or (λ k. k < length es) order place 0 inside is.within)

pub name_read : (es : Listed) (order : List ℕ) (m : Entries) (place number : ℕ) (name : List ℕ) (e : ChunkEntry) → IsOrder es order → map_of es ≡ m → place < map.len m → number ≡ get_or order place number → slice_get es number ≡ Some (name, e)
    → slice_get (map.keys m) place ≡ Some name
name_read es order m place number name e is view inside at found =
    let here : place < length order = omega (arith, inside, order_long es order m is view) in
    let same : map.keys m ≡ each (name_at es) order = ap (λ (n : Entries). map.keys n) (sym view) ∙ sym is.names in
    slice_get-get_or (map.keys m) place [] (omega (arith, inside, count_keys m))
    ∙ ap Some (ap (λ (l : List (List ℕ)). get_or l place []) same
    ∙ each_at (name_at es) order place 0 [] here
    ∙ ap (name_at es) (sym (at ∙ get_or_default order place number 0 here))
    ∙ ap (λ (x : List ℕ × ChunkEntry). x.0) (get_or_from_slice_get es number (name, e) ([], new_entry 0 0) found))

-- NAMES THAT ARE HELD

pub key_held : {X : Type 0} (m : map.FinMap bytes_cmp X) (place : ℕ) (name : List ℕ) → slice_get (map.keys m) place ≡ Some name → map.contains_key m name ≡ true
key_held m place name at =
    map.contains_key-keys m name
    ∙ listed_at name (map.keys m) place (slice_get_within (map.keys m) place name at) (get_or_from_slice_get (map.keys m) place name [] at)

pub key_is : {X : Type 0} (m : map.FinMap bytes_cmp X) (place : ℕ) (name : List ℕ) → slice_get (map.keys m) place ≡ Some name → get_or (map.keys m) place [] ≡ name
key_is m place name at = get_or_from_slice_get (map.keys m) place name [] at

-- the number at which a name is found
pub found_at : (es : Listed) (name : List ℕ) (number : ℕ) → position (pointwise nat_eq name) (each (λ e. e.0) es) ≡ Some number → (number < length es) × (name_at es number ≡ name)
found_at es name number is =
    let at = position-Some (pointwise nat_eq name) (each (λ (e : List ℕ × ChunkEntry). e.0) es) number [] is in (
      omega (arith, at.0, length-map es (λ (e : List ℕ × ChunkEntry). e.0)),
      name_by_key es number ∙ sym (same_text name (get_or (each (λ (e : List ℕ × ChunkEntry). e.0) es) number []) (sym at.1)),
    )

-- A VALUE WRITTEN

-- names that stay keep their order
pub order_stays : (es fs : Listed) (order : List ℕ) → each (λ e. e.0) fs ≡ each (λ e. e.0) es → length fs ≡ length es → map.keys (map_of fs) ≡ map.keys (map_of es) → IsOrder es order → IsOrder fs order
order_stays es fs order names long keys is = record {
  within = subst (λ (n : ℕ). All (λ k. k < n) order) (sym long) is.within;
  names = ap (λ (f : ℕ → List ℕ). each f order) (λ i k. (name_by_key fs k ∙ ap (λ (l : List (List ℕ)). get_or l k []) names ∙ sym (name_by_key es k)) i) ∙ is.names ∙ sym keys;
}

-- an entry with another value
pub written : (es fs : Listed) (m : Entries) (name key : List ℕ) (e : ChunkEntry) → map_of es ≡ m → key ≡ name
    → ((q : List ℕ) → lookup (pointwise nat_eq q) fs ≡ cond (pointwise nat_eq key q) (Some e) (lookup (pointwise nat_eq q) es)) → map_of fs ≡ map.insert m name e
written es fs m name key e view same updates = map.same_map nat_list_cmp_total same_names (map_of fs) (map.insert m name e) (λ q.
    get-lookup fs q
    ∙ updates q
    ∙ ap (λ (k : List ℕ). cond (pointwise nat_eq k q) (Some e) (lookup (pointwise nat_eq q) es)) same
    ∙ ap (λ (b : Bool). cond b (Some e) (lookup (pointwise nat_eq q) es)) (texts_ties name q ∙ (eq_by_cmp_equiv nat_list_cmp_total).symm name q)
    ∙ ap (λ (o : Option ChunkEntry). cond (eq_by_cmp bytes_cmp q name) (Some e) o) (sym (get-lookup es q) ∙ ap (λ (n : Entries). map.get n q) view)
    ∙ sym (map.get-insert nat_list_cmp_total m name e q))

-- an entry taken out
pub taken : (es fs : Listed) (m : Entries) (name key : List ℕ) → map_of es ≡ m → key ≡ name
    → ((q : List ℕ) → lookup (pointwise nat_eq q) fs ≡ cond (pointwise nat_eq key q) None (lookup (pointwise nat_eq q) es)) → map_of fs ≡ map.remove m name
taken es fs m name key view same updates = map.same_map nat_list_cmp_total same_names (map_of fs) (map.remove m name) (λ q.
    get-lookup fs q
    ∙ updates q
    ∙ ap (λ (k : List ℕ). cond (pointwise nat_eq k q) None (lookup (pointwise nat_eq q) es)) same
    ∙ ap (λ (b : Bool). cond b None (lookup (pointwise nat_eq q) es)) (texts_ties name q ∙ (eq_by_cmp_equiv nat_list_cmp_total).symm name q)
    ∙ ap (λ (o : Option ChunkEntry). cond (eq_by_cmp bytes_cmp q name) None o) (sym (get-lookup es q) ∙ ap (λ (n : Entries). map.get n q) view)
    ∙ sym (map.get-remove nat_list_cmp_total m name q))

-- entries that are found alike
pub same_lookups : (es fs : Listed) (m : Entries) → map_of es ≡ m → ((q : List ℕ) → lookup (pointwise nat_eq q) fs ≡ lookup (pointwise nat_eq q) es) → map_of fs ≡ m
same_lookups es fs m view same = map.same_map nat_list_cmp_total same_names (map_of fs) m (λ q. get-lookup fs q ∙ same q ∙ sym (get-lookup es q) ∙ ap (λ (n : Entries). map.get n q) view)

-- an entry put last, where its name is lacking
lacks : (o : Option ChunkEntry) → is_some o ≡ false → o ≡ None
lacks None is = refl
lacks (Some e) is = absurd (true≢false is)

pub lookup_lacks : (es : Listed) (m : Entries) (name : List ℕ) → map_of es ≡ m → map.contains_key m name ≡ false → lookup (pointwise nat_eq name) es ≡ None
lookup_lacks es m name view lacking = sym (get-lookup es name) ∙ ap (λ (n : Entries). map.get n name) view ∙ lacks (map.get m name) lacking

pub put_last_view : (es : Listed) (m : Entries) (name : List ℕ) (e : ChunkEntry) → map_of es ≡ m → map.contains_key m name ≡ false → map_of (es ++ (name, e) ∷ []) ≡ map.insert m name e
put_last_view es m name e view lacking =
    map.from_entries_push nat_list_cmp_total same_names es name e (sym (map.get-from_entries nat_list_cmp_total es name) ∙ get-lookup es name ∙ lookup_lacks es m name view lacking)
    ∙ ap (λ (n : Entries). map.insert n name e) view

tie_held : (t : Bool) (o : Option ChunkEntry) (e : ChunkEntry) → (t ≡ true → is_some o ≡ true) → is_some (cond t (Some e) o) ≡ is_some o
tie_held true o e held = sym (held refl)
tie_held false o e held = refl

pub keys_kept : (m : Entries) (name : List ℕ) (e : ChunkEntry) → map.contains_key m name ≡ true → map.keys (map.insert m name e) ≡ map.keys m
keys_kept m name e held = same_keys (map.insert m name e) m (λ q.
    ap is_some (map.get-insert nat_list_cmp_total m name e q)
    ∙ tie_held (eq_by_cmp bytes_cmp q name) (map.get m q) e (λ ties. ap (λ (x : List ℕ). map.contains_key m x) (same_text q name (sym (texts_ties q name ∙ ties))) ∙ held))

pub table_stays : (ordered : Bool) (es fs : Listed) (order : List ℕ) (m : Entries) (name : List ℕ) (e : ChunkEntry) → map_of es ≡ m → map.contains_key m name ≡ true → map_of fs ≡ map.insert m name e
    → each (λ x. x.0) fs ≡ each (λ x. x.0) es → length fs ≡ length es → KeepsTable ordered es order → KeepsTable ordered fs order
table_stays ordered es fs order m name e view held is names long keeps = record {
  few = omega (arith, keeps.few, long);
  ordered = λ so. order_stays es fs order names long (ap (λ (n : Entries). map.keys n) is ∙ keys_kept m name e held ∙ ap (λ (n : Entries). map.keys n) (sym view)) (keeps.ordered so);
}

-- SORTED BY NAMES

neither : (o p : Ordering) → o ≡ ordering_reverse p → is_lt p ≡ false → is_eq o ≡ false → o ≡ Less
neither Less p turned no_less no_equal = refl
neither Equal p turned no_less no_equal = absurd (true≢false no_equal)
neither Greater Less turned no_less no_equal = absurd (true≢false no_less)
neither Greater Equal turned no_less no_equal = cc
neither Greater Greater turned no_less no_equal = cc

below : (x : List ℕ) (es : Listed) → AllByRecursion (λ y. bytes_cmp x y ≡ Less) (each (λ e. e.0) es) → below_all bytes_cmp x es ≡ true
below x [] all = refl
below x (e ∷ es) all = and_from (is_lt (bytes_cmp x e.0)) (below_all bytes_cmp x es) (ap is_lt all.0) (below x es all.1)

strictly : (es : Listed) → IsStrictlySortedBy bytes_cmp (each (λ e. e.0) es) → is_sorted bytes_cmp es ≡ true
strictly [] rises = refl
strictly (e ∷ es) rises =
    and_from (below_all bytes_cmp e.0 es) (is_sorted bytes_cmp es) (below e.0 es (sorted_head bytes_cmp e.0 (each (λ (x : List ℕ × ChunkEntry). x.0) es) rises))
    (strictly es (sorted_tail bytes_cmp e.0 (each (λ (x : List ℕ × ChunkEntry). x.0) es) rises))

-- entries sorted by their names, all apart, are in order by their own numbers
pub sorted_order : (es : Listed) (order : List ℕ) → IsSorted bytes_cmp (each (λ e. e.0) es) → IsDistinct (pointwise nat_eq) (each (λ e. e.0) es) → length order ≡ length es → ((k : ℕ) → k < length es → get_or order k 0 ≡ k)
    → IsOrder es order
sorted_order es order sorted apart long numbered =
    let names = each (λ (e : List ℕ × ChunkEntry). e.0) es in
    let many = length-map es (λ (e : List ℕ × ChunkEntry). e.0) in
    let rises : IsStrictlySortedBy bytes_cmp names = sorted_from_all_adjacent nat_list_cmp_total names [] (λ k inside.
    neither (bytes_cmp (get_or names k []) (get_or names (k + 1) [])) (bytes_cmp (get_or names (k + 1) []) (get_or names k [])) (nat_list_cmp_total.antisymm (get_or names k []) (get_or names (k + 1) []))
    (sorted k [] (omega arith) inside)
    (sym (texts_ties (get_or names k []) (get_or names (k + 1) [])) ∙ apart_from_distinct (pointwise nat_eq) names k (k + 1) [] apart (omega arith) inside)) in
    record {
      within = All-from_get_or (λ number. number < length es) order 0 (λ k inside. omega (arith, numbered k (omega (arith, inside, long)), inside, long));
      names =
          ext_get_or [] (each (name_at es) order) names (length-map order (name_at es) ∙ long ∙ sym many) (λ k inside.
          let here : k < length es = omega (arith, inside, length-map order (name_at es), long) in
          each_at (name_at es) order k 0 [] (omega (arith, here, long)) ∙ ap (name_at es) (numbered k here) ∙ name_by_key es k)
          ∙ ap (λ (l : Listed). each (λ e. e.0) l) (sym (entries-in_order es (strictly es rises)));
    }
