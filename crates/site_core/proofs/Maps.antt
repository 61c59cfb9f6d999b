-- Maps with an entry more or less, maps that are joined, and the chunks that files use.
use Rattle.std.proofs.Common.{◌≡◌, ◌⊎◌, inl, inr, ⊎_elim, ℕ, zero, suc, ◌<◌, List, [], ◌∷◌, ◌++◌, length, get_or, Bool, true, false, cond, Option, Some, None, refl, sym, ◌∙◌, ap, subst, arith}
use Rattle.std.specs.Prelude.{is_some, not, ◌||◌, ◌==◌}
use Rattle.std.specs.List.{list_any, flat_map}
use Rattle.std.specs.Ordering.{eq_by_cmp, is_eq}
use Rattle.std.specs.Cmp.{tied_itself}
use Rattle.std.specs.Cmp.Lexicographic.{nat_list_cmp_total, texts_ties, same_text}
use Rattle.std.specs.Str.{bytes_eq}
use Rattle.std.specs.declared.cmp.Ordering.{Ordering}
use Rattle.std.specs.FinMap as map
use Rattle.std.proofs.lemmas.Bool.{true≢false, cases_Bool, ne_eqb}
use Rattle.std.proofs.lemmas.List.{length-map}
use Rattle.std.proofs.lemmas.List.Folds.{list_any-append}
use Rattle.site_forms.specs.Names.{is_listed}
use Rattle.site_forms.specs.Sites.{UsesChunk}
use Rattle.site_forms.specs.Views.{joined_files}
use Rattle.site_forms.specs.Volumes.{bytes_cmp, Files, all_lists, used}
use Rattle.volume_index.specs.Users.{user_count}
use Rattle.volume_index.proofs.Alls.{get_at}
use Rattle.volume_index.proofs.Sets.{set_holds}
use Rattle.volume_index.proofs.Shapes.{unused_unlisted}
use Rattle.volume_index.proofs.Users.{used_users}

pub some_same : {X : Type 0} (x y : X) → Some x ≡ Some y → x ≡ y
some_same x y is = cc

pub same_bytes : (q : List ℕ) → bytes_eq q q ≡ true
same_bytes q = texts_ties q q ∙ ap is_eq (tied_itself nat_list_cmp_total q)

pub equal_bytes : (q k : List ℕ) → bytes_eq q k ≡ true → q ≡ k
equal_bytes q k is = same_text q k (sym is)

-- two names are the same or not
pub name_cases : (q k : List ℕ) → (q ≡ k) ⊎ (bytes_eq q k ≡ false)
name_cases q k = ⊎_elim (λ is. inl (equal_bytes q k is)) (λ other. inr other) (cases_Bool (bytes_eq q k))

module _ {X : Type 0} (m : map.FinMap bytes_cmp X) (k : List ℕ) where
  pub get_new : (v : X) → map.get (map.insert m k v) k ≡ Some v
  get_new v = map.get-insert nat_list_cmp_total m k v k ∙ ap (λ (o : Ordering). cond (is_eq o) (Some v) (map.get m k)) (tied_itself nat_list_cmp_total k)

  pub get_old : (v : X) (q : List ℕ) → bytes_eq q k ≡ false → map.get (map.insert m k v) q ≡ map.get m q
  get_old v q other = map.get-insert nat_list_cmp_total m k v q ∙ ap (λ (b : Bool). cond b (Some v) (map.get m q)) (sym (texts_ties q k) ∙ other)

  pub get_gone : map.get (map.remove m k) k ≡ None
  get_gone = map.get-remove nat_list_cmp_total m k k ∙ ap (λ (o : Ordering). cond (is_eq o) None (map.get m k)) (tied_itself nat_list_cmp_total k)

  pub get_left : (q : List ℕ) → bytes_eq q k ≡ false → map.get (map.remove m k) q ≡ map.get m q
  get_left q other = map.get-remove nat_list_cmp_total m k q ∙ ap (λ (b : Bool). cond b None (map.get m q)) (sym (texts_ties q k) ∙ other)

  -- what is found under a name, with one entry more or less
  pub with_cases : (P : Option X → Type 0) (v : X) (q : List ℕ) → (q ≡ k → P (Some v)) → (bytes_eq q k ≡ false → P (map.get m q)) → P (map.get (map.insert m k v) q)
  with_cases P v q new old = ⊎_elim
      (λ is. subst P (sym (ap (map.get (map.insert m k v)) is ∙ get_new v)) (new is))
      (λ other. subst P (sym (get_old v q other)) (old other))
      (name_cases q k)

  pub without_cases : (P : Option X → Type 0) (q : List ℕ) → (q ≡ k → P None) → (bytes_eq q k ≡ false → P (map.get m q)) → P (map.get (map.remove m k) q)
  without_cases P q gone left = ⊎_elim
      (λ is. subst P (sym (ap (map.get (map.remove m k)) is ∙ get_gone)) (gone is))
      (λ other. subst P (sym (get_left q other)) (left other))
      (name_cases q k)

  -- a key of a map with one less is a key of the map
  pub held_before : (q : List ℕ) → map.contains_key (map.remove m k) q ≡ true → map.contains_key m q ≡ true
  held_before q = without_cases (λ o. is_some o ≡ true → map.contains_key m q ≡ true) q (λ _ held. absurd (true≢false (sym held))) (λ _ held. held)

-- the keys of a map are listed
same_lists : (q : List ℕ) (names : List (List ℕ)) → list_any (eq_by_cmp bytes_cmp q) names ≡ is_listed names q
same_lists q [] = refl
same_lists q (name ∷ names) = λ i. sym (texts_ties q name) i || same_lists q names i

pub key_held : {X : Type 0} (m : map.FinMap bytes_cmp X) (q : List ℕ) → is_listed (map.keys m) q ≡ true → map.contains_key m q ≡ true
key_held m q listed = map.contains_key-keys m q ∙ same_lists q (map.keys m) ∙ listed

pub held_key : {X : Type 0} (m : map.FinMap bytes_cmp X) (q : List ℕ) → map.contains_key m q ≡ true → is_listed (map.keys m) q ≡ true
held_key m q held = sym (same_lists q (map.keys m)) ∙ sym (map.contains_key-keys m q) ∙ held

-- JOINED FILES

abbrev pub either : {X : Type 0} → Option X → Option X → Option X
either None o = o
either (Some x) o = Some x

find_joined : {X : Type 0} (q : List ℕ) (xs ys : List (List ℕ × X)) → map.find bytes_cmp q (xs ++ ys) ≡ either (map.find bytes_cmp q xs) (map.find bytes_cmp q ys)
find_joined q [] ys = refl
find_joined q (e ∷ xs) ys =
    elim (eq_by_cmp bytes_cmp q e.0) as (λ b. cond b (Some e.1) (map.find bytes_cmp q (xs ++ ys)) ≡ either (cond b (Some e.1) (map.find bytes_cmp q xs)) (map.find bytes_cmp q ys)) [
      | true ↦ refl
      | false ↦ find_joined q xs ys
    ]

-- the list of A where A holds the file, else that of B
pub get_joined : (a b : Files) (q : List ℕ) → map.get (joined_files a b) q ≡ either (map.get a q) (map.get b q)
get_joined a b q =
    map.get-from_entries nat_list_cmp_total (map.entries a ++ map.entries b) q
    ∙ find_joined q (map.entries a) (map.entries b)
    ∙ (λ i. either (sym (map.get-entries a q) i) (sym (map.get-entries b q) i))

-- USED CHUNKS

-- where a name is listed in one of many lists
in_one : (lists : List (List (List ℕ))) (q : List ℕ) → is_listed (flat_map (λ l. l) lists) q ≡ true → (i : ℕ) × (i < length lists) × (is_listed (get_or lists i []) q ≡ true)
in_one [] q listed = absurd (true≢false (sym listed))
in_one (list ∷ lists) q listed = ⊎_elim
    (λ here. (0, omega arith, here))
    (λ not_here.
    let later = in_one lists q (sym (ap (λ (b : Bool). b || is_listed (flat_map (λ (l : List (List ℕ)). l) lists) q) not_here) ∙ sym (list_any-append (bytes_eq q) list (flat_map (λ (l : List (List ℕ)). l) lists)) ∙ listed) in
    let inside = later.1 in
    (suc later.0, omega (arith, inside), later.2))
    (cases_Bool (is_listed list q))

-- a used chunk is used by a file
pub user_of : (files : Files) (q : List ℕ) → map.contains_key (used files) q ≡ true → (name : List ℕ) × UsesChunk files name q
user_of files q is =
    let at = in_one (map.values files) q (sym (set_holds (all_lists files) q) ∙ is) in
    let key_count = length-map (map.entries files) (λ (e : List ℕ × List (List ℕ)). e.0) in
    let value_count = length-map (map.entries files) (λ (e : List ℕ × List (List ℕ)). e.1) in
    let inside = at.1 in
    (get_or (map.keys files) at.0 [], (get_or (map.values files) at.0 [], get_at files at.0 [] (omega (arith, inside, key_count, value_count)), at.2))

none_from : (n : ℕ) → not (n == 0) ≡ false → n ≡ 0
none_from zero is = refl
none_from (suc n) is = absurd (true≢false (sym (ap not (ne_eqb (suc n) 0 (λ (e : suc n ≡ 0). omega (arith, e)))) ∙ is))

-- a chunk that is not used has no user
pub no_user : (files : Files) (q : List ℕ) → map.contains_key (used files) q ≡ false → user_count files q ≡ 0
no_user files q unused = none_from (user_count files q) (sym (used_users files q) ∙ unused)

pub used_by : (files : Files) (name : List ℕ) (list : List (List ℕ)) (q : List ℕ) → map.get files name ≡ Some list → is_listed list q ≡ true → map.contains_key (used files) q ≡ true
used_by files name list q is listed =
    ⊎_elim (λ held. held) (λ unused. absurd (true≢false (sym listed ∙ unused_unlisted files name list q is (no_user files q unused)))) (cases_Bool (map.contains_key (used files) q))
