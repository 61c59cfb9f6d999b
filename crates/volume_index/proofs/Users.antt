-- Users of chunks, where a file joins or leaves.
use Rattle.std.specs.Cmp.{eq_by_cmp_equiv}
use Rattle.std.proofs.Common.{◌≡◌, ℕ, ◌+◌, List, [], ◌∷◌, ◌++◌, Bool, true, false, cond, Option, Some, None, refl, sym, ◌∙◌, ap, arith}
use Rattle.std.specs.Prelude.{map as each, is_some, not, ◌||◌, ◌==◌, sum_by, if◌then◌else◌}
use Rattle.std.specs.List.{filter, flat_map}
use Rattle.std.specs.Ordering.{eq_by_cmp, is_eq}
use Rattle.std.specs.Cmp.Lexicographic.{nat_list_cmp_total}
use Rattle.std.specs.Str.{bytes_eq}
use Rattle.std.specs.declared.cmp.Ordering.{Ordering}
use Rattle.std.specs.declared.cmp.Ordering.TheVariants.{Less, Equal, Greater}
use Rattle.std.specs.FinMap as map
use Rattle.std.specs.FinMap.Entries.{put, by_order, find}
use Rattle.std.proofs.lemmas.Bool.{true≢false, ne_eqb}
use Rattle.std.proofs.lemmas.Option.{none-some}
use Rattle.std.proofs.lemmas.List.Folds.{list_any-append}
use Rattle.std.proofs.lemmas.List.Sums.{sum_by-cons}
use Rattle.site_forms.specs.Names.{is_listed}
use Rattle.site_forms.specs.Volumes.{bytes_cmp, Files, all_lists, used, distinct_count, pair_count}
use Rattle.volume_index.proofs.MapValues.{same_names}
use Rattle.volume_index.proofs.Sets.{set_holds, same_sets, joined_count}
use Rattle.volume_index.specs.Users.{use_of, user_count}

-- SUMS OVER THE VALUES OF A MAP

module _ {X : Type 0} (f : X → ℕ) where
  sum_put : (es : List (List ℕ × X)) (q : List ℕ) (v : X) → find bytes_cmp q es ≡ None → sum_by f (each (λ e. e.1) (put bytes_cmp q v es)) ≡ f v + sum_by f (each (λ e. e.1) es)
  sum_put [] q v none = sum_by-cons f v []
  sum_put (e ∷ es) q v none =
      let rest = each (λ (x : List ℕ × X). x.1) es in
      elim (bytes_cmp q e.0) as (λ o. cond (is_eq o) (Some e.1) (find bytes_cmp q es) ≡ None
      → sum_by f (each (λ x. x.1) (by_order o ((q, v) ∷ e ∷ es) ((e.0, v) ∷ es) (e ∷ put bytes_cmp q v es))) ≡ f v + sum_by f (e.1 ∷ rest)) [
        | Less ↦ λ _. sum_by-cons f v (e.1 ∷ rest)
        | Equal ↦ λ is. absurd (none-some e.1 (sym is))
        | Greater ↦ λ is. omega (arith, sum_by-cons f e.1 (each (λ (x : List ℕ × X). x.1) (put bytes_cmp q v es)), sum_by-cons f e.1 rest, sum_put es q v is)
      ] none

  lacks : (o : Option X) → is_some o ≡ false → o ≡ None
  lacks None is = refl
  lacks (Some e) is = absurd (true≢false is)

  pub sum_insert : (m : map.FinMap bytes_cmp X) (q : List ℕ) (v : X) → map.contains_key m q ≡ false → sum_by f (map.values (map.insert m q v)) ≡ f v + sum_by f (map.values m)
  sum_insert m q v lacking =
      ap (λ (l : List (List ℕ × X)). sum_by f (each (λ e. e.1) l)) (map.entries-insert nat_list_cmp_total m q v)
      ∙ sum_put (map.entries m) q v (sym (map.get-entries m q) ∙ lacks (map.get m q) lacking)

  back : (t : Bool) (o : Option X) (v : X) → (t ≡ true → o ≡ Some v) → o ≡ cond t (Some v) (cond t None o)
  back true o v is = is refl
  back false o v is = refl

  tied : (m : map.FinMap bytes_cmp X) (k q : List ℕ) → eq_by_cmp bytes_cmp q k ≡ true → map.get m q ≡ map.get m k
  tied m k q ties = map.get_tied nat_list_cmp_total m k q (equal_is (bytes_cmp k q) (sym ((eq_by_cmp_equiv nat_list_cmp_total).symm q k) ∙ ties))
    where
      equal_is : (o : Ordering) → is_eq o ≡ true → o ≡ Equal
      equal_is Less h = absurd (true≢false (sym h))
      equal_is Equal h = refl
      equal_is Greater h = absurd (true≢false (sym h))

  -- a map is what is left of it, with what was taken out
  pub put_back : (m : map.FinMap bytes_cmp X) (k : List ℕ) (v : X) → map.get m k ≡ Some v → m ≡ map.insert (map.remove m k) k v
  put_back m k v is = map.same_map nat_list_cmp_total same_names m (map.insert (map.remove m k) k v) (λ q.
      back (eq_by_cmp bytes_cmp q k) (map.get m q) v (λ ties. tied m k q ties ∙ is)
      ∙ ap (cond (eq_by_cmp bytes_cmp q k) (Some v)) (sym (map.get-remove nat_list_cmp_total m k q))
      ∙ sym (map.get-insert nat_list_cmp_total (map.remove m k) k v q))

  pub gone : (m : map.FinMap bytes_cmp X) (k : List ℕ) → map.contains_key (map.remove m k) k ≡ false
  gone m k = ap is_some (map.get-remove nat_list_cmp_total m k k ∙ ap (λ (b : Bool). cond b None (map.get m k)) ((eq_by_cmp_equiv nat_list_cmp_total).refl k))

  pub sum_remove : (m : map.FinMap bytes_cmp X) (k : List ℕ) (v : X) → map.get m k ≡ Some v → sum_by f (map.values m) ≡ f v + sum_by f (map.values (map.remove m k))
  sum_remove m k v is = ap (λ (n : map.FinMap bytes_cmp X). sum_by f (map.values n)) (put_back m k v is) ∙ sum_insert (map.remove m k) k v (gone m k)

-- USERS

users_cons : (q : List ℕ) (list : List (List ℕ)) (lists : List (List (List ℕ))) → sum_by (use_of q) (list ∷ lists) ≡ use_of q list + sum_by (use_of q) lists
users_cons q list lists = sum_by-cons (use_of q) list lists

no_zero : (b : Bool) (n s : ℕ) (any : Bool) → s ≡ (if b then 1 else 0) + n → any ≡ not (n == 0) → (b || any) ≡ not (s == 0)
no_zero true n s any is rest = ap not (sym (ne_eqb s 0 (λ (z : s ≡ 0). omega (arith, is, z))))
no_zero false n s any is rest = rest ∙ ap (λ (k : ℕ). not (k == 0)) (omega (arith, is))

any_user : (lists : List (List (List ℕ))) (q : List ℕ) → is_listed (flat_map (λ l. l) lists) q ≡ not (sum_by (use_of q) lists == 0)
any_user [] q = refl
any_user (list ∷ lists) q =
    list_any-append (bytes_eq q) list (flat_map (λ (l : List (List ℕ)). l) lists)
    ∙ no_zero (is_listed list q) (sum_by (use_of q) lists) (sum_by (use_of q) (list ∷ lists)) (is_listed (flat_map (λ (l : List (List ℕ)). l) lists) q) (users_cons q list lists) (any_user lists q)

-- a chunk is used exactly where some file uses it
pub listed_users : (files : Files) (q : List ℕ) → is_listed (all_lists files) q ≡ not (user_count files q == 0)
listed_users files q = any_user (map.values files) q

pub used_users : (files : Files) (q : List ℕ) → map.contains_key (used files) q ≡ not (user_count files q == 0)
used_users files q = set_holds (all_lists files) q ∙ listed_users files q

-- A FILE MORE

pub users_with : (files : Files) (name : List ℕ) (list : List (List ℕ)) (q : List ℕ) → map.contains_key files name ≡ false → user_count (map.insert files name list) q ≡ use_of q list + user_count files q
users_with files name list q lacking = sum_insert (use_of q) files name list lacking

pub pairs_with : (files : Files) (name : List ℕ) (list : List (List ℕ)) → map.contains_key files name ≡ false → pair_count (map.insert files name list) ≡ distinct_count list + pair_count files
pairs_with files name list lacking = sum_insert distinct_count files name list lacking

more_users : (b : Bool) (n s : ℕ) → s ≡ (if b then 1 else 0) + n → not (s == 0) ≡ (b || not (n == 0))
more_users b n s is = sym (no_zero b n s (not (n == 0)) is refl)

pub used_with : (files : Files) (name : List ℕ) (list : List (List ℕ)) → map.contains_key files name ≡ false
    → map.len (used (map.insert files name list)) ≡ map.len (used files) + distinct_count (filter (λ n. not (is_listed (all_lists files) n)) list)
used_with files name list lacking =
    ap map.len (same_sets (all_lists (map.insert files name list)) (list ++ all_lists files) (λ q.
    listed_users (map.insert files name list) q
    ∙ more_users (is_listed list q) (user_count files q) (user_count (map.insert files name list) q) (users_with files name list q lacking)
    ∙ ap (λ (b : Bool). is_listed list q || b) (sym (listed_users files q))
    ∙ sym (list_any-append (bytes_eq q) list (all_lists files))))
    ∙ joined_count (all_lists files) list

-- A FILE LESS

pub users_without : (files : Files) (name : List ℕ) (list : List (List ℕ)) (q : List ℕ) → map.get files name ≡ Some list → user_count files q ≡ use_of q list + user_count (map.remove files name) q
users_without files name list q is = sum_remove (use_of q) files name list is

pub pairs_without : (files : Files) (name : List ℕ) (list : List (List ℕ)) → map.get files name ≡ Some list → pair_count files ≡ distinct_count list + pair_count (map.remove files name)
pairs_without files name list is = sum_remove distinct_count files name list is

pub used_without : (files : Files) (name : List ℕ) (list : List (List ℕ)) → map.get files name ≡ Some list
    → map.len (used files) ≡ map.len (used (map.remove files name)) + distinct_count (filter (λ n. not (is_listed (all_lists (map.remove files name)) n)) list)
used_without files name list is = ap (λ (m : Files). map.len (used m)) (put_back distinct_count files name list is) ∙ used_with (map.remove files name) name list (gone distinct_count files name)
