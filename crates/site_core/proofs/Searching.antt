-- What the searches for the next action find.
use Rattle.std.proofs.Common.{◌≡◌, ◌⊎◌, inl, inr, ⊎_elim, ℕ, zero, suc, ◌+◌, ◌<◌, ◌≤◌, List, [], ◌∷◌, ◌++◌, length, get_or, Bool, true, false, cond, Option, Some, None, refl, sym, ◌∙◌, ap, subst, arith}
use Rattle.std.specs.Prelude.{is_some, not, slice_get, nat_lt, unwrap_or}
use Rattle.std.specs.List.{filter, flat_map, position, position_or_len}
use Rattle.std.specs.Str.{bytes_eq}
use Rattle.std.specs.FinMap as map
use Rattle.std.proofs.lemmas.Bool.{true≢false, cases_Bool, not_from_true, not_from_false, or_cases, cases_lt, lt-ltb, le-ltb}
use Rattle.std.proofs.lemmas.Option.{none-some, slice_get_within, slice_get-get_or, get_or_from_slice_get}
use Rattle.site_forms.specs.Names.{is_listed}
use Rattle.site_forms.specs.Sites.{HoldsFile, HoldsChunk}
use Rattle.site_forms.specs.Volumes.{Files, Shape}
use Rattle.volume_index.specs.HoldingCalls.{IsFilePlace}
use Rattle.volume_index.proofs.IndexReads.{held_by_place, lacking_by_place}
use Rattle.volume_index.proofs.Indexing.{file_at}
use Rattle.volume_index.proofs.Ranks.{count_keys}
use Rattle.volume_index.proofs.TableReads.{key_is}
use Rattle.site_core.specs.Cursors.{IsCopied, IsPast, HoldsBefore, FindsLacking}
use Rattle.site_core.specs.Steps.{list_of, lacking_names, chunks_to_copy}
use Rattle.site_core.specs.declared.search.Lacking.{Lacking}
use Rattle.site_core.proofs.Lists.{none_filter}
use Rattle.site_core.proofs.Maps.{equal_bytes}

-- NAMES

pub holds_at : (files : Files) (names : List (List ℕ)) (place : ℕ) (name : List ℕ) (r : Option ℕ) → slice_get names place ≡ Some name → IsFilePlace files name r → is_some r ≡ true → map.contains_key files (get_or names place []) ≡ true
holds_at files names place name r at is some = ap (map.contains_key files) (get_or_from_slice_get names place name [] at) ∙ held_by_place files name r is some

pub lacks_at : (files : Files) (names : List (List ℕ)) (place : ℕ) (name : List ℕ) (r : Option ℕ) → slice_get names place ≡ Some name → IsFilePlace files name r → is_some r ≡ false → map.contains_key files (get_or names place []) ≡ false
lacks_at files names place name r at is none = ap (map.contains_key files) (get_or_from_slice_get names place name [] at) ∙ lacking_by_place files name r is none

-- what holds before a place, and at it, holds before the next
pub more_before : (P : ℕ → Type 0) (n : ℕ) → ((i : ℕ) → i < n → P i) → P n → (i : ℕ) → i < n + 1 → P i
more_before P n before here i inside = ⊎_elim (λ same. subst P (sym same) here) (λ less. before i less) (either_way i n inside)
  where
    either_way : (i n : ℕ) → i < n + 1 → (i ≡ n) ⊎ (i < n)
    either_way i zero inside = inl (omega (arith, inside))
    either_way zero (suc n) inside = inr (omega arith)
    either_way (suc i) (suc n) inside = ⊎_elim (λ (same : i ≡ n). inl (ap suc same)) (λ (less : i < n). inr (omega (arith, less))) (either_way i n (omega (arith, inside)))

-- FILES

pub place_within : (files : Files) (name : List ℕ) (r : Option ℕ) (place : ℕ) → IsFilePlace files name r → r ≡ Some place → place < map.len files
place_within files name r place is some =
    let at : slice_get (map.keys files) place ≡ Some name = subst (IsFilePlace files name) some is in
    let inside = slice_get_within (map.keys files) place name at in
    omega (arith, inside, count_keys files)

pub list_there : (shape : Shape) (name : List ℕ) (r : Option ℕ) (place : ℕ) (list : List (List ℕ)) → IsFilePlace shape.files name r → r ≡ Some place → slice_get (map.values shape.files) place ≡ Some list → list_of shape name ≡ list
list_there shape name r place list is some at =
    let files = shape.files in
    let key : slice_get (map.keys files) place ≡ Some name = subst (IsFilePlace files name) some is in
    let found : map.get files name ≡ Some list = ap (map.get files) (sym (key_is files place name key)) ∙ file_at files place list (place_within files name r place is some) at in
    ap (λ (o : Option (List (List ℕ))). unwrap_or o []) found

pub no_list : (shape : Shape) (target : Shape) (name : List ℕ) (r : Option ℕ) → IsFilePlace shape.files name r → is_some r ≡ false → IsCopied shape target name
no_list shape target name r is none = inr (λ chunk listed. absurd (true≢false (sym listed ∙ ap (λ (l : List (List ℕ)). is_listed l chunk) (empty_of (map.get shape.files name) (lacking_by_place shape.files name r is none)))))
  where
    empty_of : (o : Option (List (List ℕ))) → is_some o ≡ false → unwrap_or o [] ≡ []
    empty_of None is = refl
    empty_of (Some l) is = absurd (true≢false is)

-- CHUNKS

held_listed : (target : Shape) (list : List (List ℕ)) → ((j : ℕ) → j < length list → HoldsChunk target (get_or list j [])) → (c : List ℕ) → is_listed list c ≡ true → HoldsChunk target c
held_listed target [] held c listed = absurd (true≢false (sym listed))
held_listed target (x ∷ xs) held c listed = ⊎_elim
    (λ is. subst (HoldsChunk target) (sym (equal_bytes c x is)) (held 0 (omega arith)))
    (λ later. held_listed target xs (λ j inside. held (suc j) (omega (arith, inside))) c later)
    (or_cases (bytes_eq c x) (is_listed xs c) listed)

module _ (source target : Shape) (name : List ℕ) (list : List (List ℕ)) (from begin place : ℕ) (is : list_of source name ≡ list) (known : HoldsBefore target (list_of source name) from) (first : begin ≤ from)
    (rest : (j : ℕ) → begin ≤ j → j < place → HoldsChunk target (get_or list j [])) where
  held_before : (j : ℕ) → j < place → j < length list → HoldsChunk target (get_or list j [])
  held_before j before inside = ⊎_elim
      (λ (early : j < begin). subst (λ (l : List (List ℕ)). HoldsChunk target (get_or l j [])) is (known j (omega (arith, early, first)) (subst (λ (l : List (List ℕ)). j < length l) (sym is) inside)))
      (λ (late : begin ≤ j). rest j late before)
      (cases_lt j begin)

  pub all_copied_of : length list ≤ place → IsCopied source target name
  all_copied_of past = inr (λ chunk listed. held_listed target list (λ j inside. held_before j (omega (arith, inside, past)) inside) chunk (subst (λ (l : List (List ℕ)). is_listed l chunk ≡ true) is listed))

  pub found_of : map.contains_key target.files name ≡ false → place < length list → map.contains_key target.chunks (get_or list place []) ≡ false → FindsLacking source target name (Some (record { place = place; chunk = get_or list place [] }))
  found_of lacking inside new = (
    lacking,
    ap (λ (l : List (List ℕ)). slice_get l place) is ∙ slice_get-get_or list place [] inside,
    new,
    λ j before within. subst (λ (l : List (List ℕ)). HoldsChunk target (get_or l j [])) (sym is) (held_before j before (subst (λ (l : List (List ℕ)). j < length l) is within)),
  )

-- THE FIRST CHUNK TO COPY

first_filter : (p : List ℕ → Bool) (xs : List (List ℕ)) (k : ℕ) (x : List ℕ) → slice_get xs k ≡ Some x → p x ≡ true → ((j : ℕ) → j < k → j < length xs → p (get_or xs j []) ≡ false) → slice_get (filter p xs) 0 ≡ Some x
first_filter p [] k x at passes before = absurd (none-some x at)
first_filter p (y ∷ ys) zero x at passes before =
    let same : y ≡ x = cc in
    ap (λ (b : Bool). slice_get (cond b (y ∷ filter p ys) (filter p ys)) 0) (ap p same ∙ passes) ∙ at
first_filter p (y ∷ ys) (suc k) x at passes before =
    ap (λ (b : Bool). slice_get (cond b (y ∷ filter p ys) (filter p ys)) 0) (before 0 (omega arith) (omega arith))
    ∙ first_filter p ys k x at passes (λ j less inside. before (suc j) (omega (arith, less)) (omega (arith, inside)))

first_of_two : (xs ys : List (List ℕ)) (x : List ℕ) → slice_get xs 0 ≡ Some x → slice_get (xs ++ ys) 0 ≡ Some x
first_of_two [] ys x at = absurd (none-some x at)
first_of_two (z ∷ xs) ys x at = at

filter_two : (p : List ℕ → Bool) (xs ys : List (List ℕ)) → filter p (xs ++ ys) ≡ filter p xs ++ filter p ys
filter_two p [] ys = refl
filter_two p (x ∷ xs) ys = elim (p x) as (λ b. cond b (x ∷ filter p (xs ++ ys)) (filter p (xs ++ ys)) ≡ cond b (x ∷ filter p xs) (filter p xs) ++ filter p ys) [
  | true ↦ ap (λ (l : List (List ℕ)). x ∷ l) (filter_two p xs ys)
  | false ↦ filter_two p xs ys
]

module _ (source target : Shape) where
  abbrev new_in : List ℕ → Bool
  new_in chunk = not (map.contains_key target.chunks chunk)

  -- the front of what is to be copied, where the target lacks the first file
  front : (n : List ℕ) (ns : List (List ℕ)) → map.contains_key target.files n ≡ false → chunks_to_copy source target (n ∷ ns) ≡ filter new_in (list_of source n) ++ chunks_to_copy source target ns
  front n ns lacking =
      ap (λ (b : Bool). filter new_in (flat_map (list_of source) (cond b (n ∷ lacking_names target ns) (lacking_names target ns)))) (not_from_false (map.contains_key target.files n) lacking)
      ∙ filter_two new_in (list_of source n) (flat_map (list_of source) (lacking_names target ns))

  copied_front : (n : List ℕ) (ns : List (List ℕ)) → IsCopied source target n → chunks_to_copy source target (n ∷ ns) ≡ chunks_to_copy source target ns
  copied_front n ns copied = ⊎_elim
      (λ held. ap (λ (b : Bool). filter new_in (flat_map (list_of source) (cond b (n ∷ lacking_names target ns) (lacking_names target ns)))) (not_from_true (map.contains_key target.files n) held))
      (λ lacking. front n ns lacking ∙ ap (λ (l : List (List ℕ)). l ++ chunks_to_copy source target ns) (⊎_elim
      (λ held. absurd (true≢false (sym held ∙ lacking)))
      (λ all. none_filter new_in (list_of source n) (λ x listed. not_from_true (map.contains_key target.chunks x) (all x listed)))
      copied))
      (cases_Bool (map.contains_key target.files n))

  pub first_found : (names : List (List ℕ)) (i : ℕ) (l : Lacking) → i < length names → ((k : ℕ) → k < i → IsCopied source target (get_or names k [])) → FindsLacking source target (get_or names i []) (Some l) → slice_get (chunks_to_copy source target names) 0 ≡ Some l.chunk
  first_found [] i l inside before found = absurd (omega (arith, inside))
  first_found (n ∷ ns) zero l inside before found =
      ap (λ (xs : List (List ℕ)). slice_get xs 0) (front n ns found.0)
      ∙ first_of_two (filter new_in (list_of source n)) (chunks_to_copy source target ns) l.chunk
      (first_filter new_in (list_of source n) l.place l.chunk found.1 (not_from_false (map.contains_key target.chunks l.chunk) found.2) (λ j less within. not_from_true (map.contains_key target.chunks (get_or (list_of source n) j [])) (found.3 j less within)))
  first_found (n ∷ ns) (suc i) l inside before found =
      ap (λ (xs : List (List ℕ)). slice_get xs 0) (copied_front n ns (before 0 (omega arith)))
      ∙ first_found ns i l (omega (arith, inside)) (λ k less. before (suc k) (omega (arith, less))) found

  pub none_found : (names : List (List ℕ)) → ((k : ℕ) → k < length names → IsCopied source target (get_or names k [])) → chunks_to_copy source target names ≡ []
  none_found [] each = refl
  none_found (n ∷ ns) each = copied_front n ns (each 0 (omega arith)) ∙ none_found ns (λ k inside. each (suc k) (omega (arith, inside)))

-- FIRST PLACES

place_at : (p : List ℕ → Bool) (xs : List (List ℕ)) (i : ℕ) → i < length xs → p (get_or xs i []) ≡ true → ((k : ℕ) → k < i → p (get_or xs k []) ≡ false) → position_or_len p xs ≡ i
place_at p [] i inside passes before = absurd (omega (arith, inside))
place_at p (x ∷ xs) zero inside passes before = ap (λ (b : Bool). cond (not b) (1 + position_or_len p xs) 0) passes
place_at p (x ∷ xs) (suc i) inside passes before =
    ap (λ (b : Bool). cond (not b) (1 + position_or_len p xs) 0) (before 0 (omega arith))
    ∙ omega (arith, place_at p xs i (omega (arith, inside)) passes (λ k less. before (suc k) (omega (arith, less))))

place_past : (p : List ℕ → Bool) (xs : List (List ℕ)) → ((k : ℕ) → k < length xs → p (get_or xs k []) ≡ false) → length xs ≤ position_or_len p xs
place_past p [] each = omega arith
place_past p (x ∷ xs) each =
    let later = place_past p xs (λ k inside. each (suc k) (omega (arith, inside))) in
    let front : position_or_len p (x ∷ xs) ≡ 1 + position_or_len p xs = ap (λ (b : Bool). cond (not b) (1 + position_or_len p xs) 0) (each 0 (omega arith)) in
    omega (arith, later, front)

pub position_is : (p : List ℕ → Bool) (xs : List (List ℕ)) (i : ℕ) → i < length xs → p (get_or xs i []) ≡ true → ((k : ℕ) → k < i → p (get_or xs k []) ≡ false) → position p xs ≡ Some i
position_is p xs i inside passes before =
    ap (λ (n : ℕ). cond (nat_lt n (length xs)) (Some n) None) (place_at p xs i inside passes before)
    ∙ ap (λ (b : Bool). cond b (Some i) None) (lt-ltb i (length xs) inside)

pub no_position : (p : List ℕ → Bool) (xs : List (List ℕ)) → ((k : ℕ) → k < length xs → p (get_or xs k []) ≡ false) → position p xs ≡ None
no_position p xs each = ap (λ (b : Bool). cond b (Some (position_or_len p xs)) None) (le-ltb (position_or_len p xs) (length xs) (place_past p xs each))

pub lacked_is : (volume : Shape) (names : List (List ℕ)) (i : ℕ) → i < length names → ((k : ℕ) → k < i → HoldsFile volume (get_or names k [])) → map.contains_key volume.files (get_or names i []) ≡ false
    → position (λ n. not (map.contains_key volume.files n)) names ≡ Some i
lacked_is volume names i inside held lacks = position_is (λ n. not (map.contains_key volume.files n)) names i inside (not_from_false (map.contains_key volume.files (get_or names i [])) lacks)
    (λ k less. not_from_true (map.contains_key volume.files (get_or names k [])) (held k less))

pub none_lacked : (volume : Shape) (names : List (List ℕ)) (i : ℕ) → length names ≤ i → ((k : ℕ) → k < i → HoldsFile volume (get_or names k [])) → position (λ n. not (map.contains_key volume.files n)) names ≡ None
none_lacked volume names i past held = no_position (λ n. not (map.contains_key volume.files n)) names (λ k inside. not_from_true (map.contains_key volume.files (get_or names k [])) (held k (omega (arith, inside, past))))

-- PLACES THAT GO ON

-- the next name is past each place of those before
pub past_next : (name place at from : ℕ) → IsPast name place at from → IsPast name place (at + 1) 0
past_next name place at from past = ⊎_elim (λ (before : name < at). inl (omega (arith, before))) (λ here. let same = here.0 in inl (omega (arith, same))) past
