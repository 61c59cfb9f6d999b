-- Files of two volumes in one index.
use Rattle.std.proofs.Common.{◌≡◌, ⊎_elim, ℕ, zero, suc, ◌+◌, ◌<◌, ◌≤◌, List, [], ◌∷◌, length, get_or, take, Bool, true, false, Option, Some, None, refl, sym, ◌∙◌, ap, subst, arith}
use Rattle.std.specs.Prelude.{is_some, not, ◌||◌, slice_get, if◌then◌else◌}
use Rattle.std.specs.Option.{option_map}
use Rattle.std.specs.Cmp.Lexicographic.{nat_list_cmp_total}
use Rattle.std.specs.Str.{bytes_eq}
use Rattle.std.specs.FinMap as map
use Rattle.std.proofs.lemmas.Bool.{true≢false, and_parts, or_cases, or_right, not-true, false_from_ne_true}
use Rattle.std.proofs.lemmas.List.{take_more}
use Rattle.std.proofs.lemmas.Option.{none-some, slice_get_within, slice_get-get_or, get_or_from_slice_get}
use Rattle.file_names.specs.FileNames.{IsFileName}
use Rattle.site_forms.specs.Names.{is_listed, is_distinct}
use Rattle.site_forms.specs.Sites.{HoldsChunk, HoldsFile}
use Rattle.site_forms.specs.Views.{joined_files}
use Rattle.site_forms.specs.Volumes.{bytes_cmp, Files, Shape, chunk_or, holds_all, keeps_limits, may_add_file, with_chunk, with_file}
use Rattle.volume_index.specs.HoldingValues.{KeepsShape}
use Rattle.volume_index.specs.declared.index.Extent.{Extent}
use Rattle.volume_index.proofs.Alls.{still_held, held_new}
use Rattle.volume_index.proofs.Indexing.{file_at, values_long}
use Rattle.volume_index.proofs.MapValues.{same_names}
use Rattle.volume_index.proofs.Ranks.{count_keys}
use Rattle.volume_index.proofs.Sets.{listed_last}
use Rattle.volume_index.proofs.TableReads.{key_is}
use Rattle.volume_index.specs.HoldingCalls.{IsFilePlace}
use Rattle.site_core.proofs.Searching.{place_within, more_before}
use Rattle.site_core.specs.Fitting.{counts_keep, HoldsChunksOf, AddsCopy, list_upto, HasUpto, HasNamed}
use Rattle.site_core.proofs.Counting.{AreAmong, counts_fit, counts_decide, chunk_short, fewer_fit}
use Rattle.site_core.proofs.Keeping.{all_pass, chunk_held, may_folds}
use Rattle.site_core.proofs.Lists.{listed_at}
use Rattle.site_core.proofs.Maps.{either, get_joined, key_held, held_key, name_cases, same_bytes, equal_bytes, with_cases}

-- NUMBERS

pub counts_are : (files : Files) → counts_keep files ≡ counts_fit files
counts_are files = counts_decide (λ chunk. 1) files (λ x. omega arith)

pub shape_counts : (shape : Shape) (files : Files) → KeepsShape shape → keeps_limits (λ chunk. chunk_or 0 shape chunk) files ≡ counts_keep files
shape_counts shape files keeps = counts_decide (λ chunk. chunk_or 0 shape chunk) files (chunk_short shape keeps.most) ∙ sym (counts_are files)

-- files among others pass no limit that those keep
pub more_fail : (files all : Files) → AreAmong files all → counts_keep files ≡ false → counts_keep all ≡ false
more_fail files all among fails = false_from_ne_true (counts_keep all) (λ keep. true≢false (sym (counts_are files ∙ fewer_fit files all among (sym (counts_are all) ∙ keep)) ∙ fails))

pub no_room : (shape : Shape) (name : List ℕ) (list : List (List ℕ)) → KeepsShape shape → IsFileName name → map.contains_key shape.files name ≡ false → holds_all shape list ≡ true → length list ≤ 524279
    → may_add_file (λ n. n) 0 shape name list ≡ false → counts_keep (map.insert shape.files name list) ≡ false
no_room shape name list keeps lawful lacking held short refused = false_from_ne_true (counts_keep (map.insert shape.files name list)) (λ keep.
    true≢false (sym (may_folds shape name list (record { lawful = lawful; lacking = lacking; held = held; short = short; limits = shape_counts shape (map.insert shape.files name list) keeps ∙ keep })) ∙ refused))

-- THE FIRST SO MANY NAMES

or_false : (b : Bool) → (b || (false || false)) ≡ b
or_false true = refl
or_false false = refl

pub taken_more : (names : List (List ℕ)) (k : ℕ) (name q : List ℕ) → slice_get names k ≡ Some name → is_listed (take (k + 1) names) q ≡ (is_listed (take k names) q || (bytes_eq q name || false))
taken_more names k name q at =
    ap (λ (l : List (List ℕ)). is_listed l q) (take_more names k [] (slice_get_within names k name at))
    ∙ listed_last (take k names) (get_or names k []) q
    ∙ ap (λ (n : List ℕ). is_listed (take k names) q || (bytes_eq q n || false)) (get_or_from_slice_get names k name [] at)

taken_same : (names : List (List ℕ)) (k : ℕ) (name q : List ℕ) → slice_get names k ≡ Some name → bytes_eq q name ≡ false → is_listed (take (k + 1) names) q ≡ is_listed (take k names) q
taken_same names k name q at other = taken_more names k name q at ∙ ap (λ (b : Bool). is_listed (take k names) q || (b || false)) other ∙ or_false (is_listed (take k names) q)

taken_name : (names : List (List ℕ)) (k : ℕ) (name : List ℕ) → slice_get names k ≡ Some name → is_listed (take (k + 1) names) name ≡ true
taken_name names k name at = taken_more names k name name at ∙ or_right (is_listed (take k names) name) (bytes_eq name name || false) (ap (λ (b : Bool). b || false) (same_bytes name))

-- a name of a list without doubles isn't among those before it
pub not_before : (names : List (List ℕ)) (k : ℕ) (name : List ℕ) → is_distinct names ≡ true → slice_get names k ≡ Some name → is_listed (take k names) name ≡ false
not_before [] k name distinct at = absurd (none-some name at)
not_before (x ∷ xs) zero name distinct at = refl
not_before (x ∷ xs) (suc k) name distinct at =
    let parts = and_parts (not (is_listed xs x)) (is_distinct xs) distinct in
    let inside = slice_get_within xs k name at in
    let listed : is_listed xs name ≡ true = ap (is_listed xs) (sym (get_or_from_slice_get xs k name [] at)) ∙ listed_at xs k inside in
    ap (λ (b : Bool). b || is_listed (take k xs) name) (false_from_ne_true (bytes_eq name x) (λ ties. true≢false (sym listed ∙ ap (is_listed xs) (equal_bytes name x ties) ∙ not-true (is_listed xs x) parts.0)))
    ∙ not_before xs k name parts.1 at

-- FILES UP TO A PLACE

module _ (files others : Files) (k : ℕ) (name : List ℕ) (list : List (List ℕ)) (at : slice_get (map.keys others) k ≡ Some name) (value : slice_get (map.values others) k ≡ Some list) where
  found_there : map.get others name ≡ Some list
  found_there =
      let inside = slice_get_within (map.keys others) k name at in
      ap (map.get others) (sym (key_is others k name at)) ∙ file_at others k list (omega (arith, inside, count_keys others)) value

  upto_other : (q : List ℕ) → bytes_eq q name ≡ false → list_upto files others (k + 1) q ≡ list_upto files others k q
  upto_other q other = ap (λ (b : Bool). if map.contains_key files q then map.get files q else (if b then map.get others q else None)) (taken_same (map.keys others) k name q at other)

  taken_if : (b : Bool) (o : Option (List (List ℕ))) → is_some (if b then o else None) ≡ true → b ≡ true
  taken_if true o held = refl
  taken_if false o held = absurd (true≢false (sym held))

  by_held : (b : Bool) (x : Option (List (List ℕ))) → is_some (if b then x else (if is_listed (take k (map.keys others)) name then map.get others name else None)) ≡ true
      → (if b then x else (if is_listed (take (k + 1) (map.keys others)) name then map.get others name else None)) ≡ (if b then x else (if is_listed (take k (map.keys others)) name then map.get others name else None))
  by_held true x held = refl
  by_held false x held =
      let before = taken_if (is_listed (take k (map.keys others)) name) (map.get others name) held in
      ap (λ (c : Bool). if c then map.get others name else None) (taken_name (map.keys others) k name at ∙ sym before)

  -- a name that is there already
  pub upto_same : is_some (list_upto files others k name) ≡ true → (q : List ℕ) → list_upto files others (k + 1) q ≡ list_upto files others k q
  upto_same held q = ⊎_elim
      (λ same. subst (λ (n : List ℕ). list_upto files others (k + 1) n ≡ list_upto files others k n) (sym same) (by_held (map.contains_key files name) (map.get files name) held))
      (λ other. upto_other q other)
      (name_cases q name)

  by_lacking : (x : Option (List (List ℕ))) → is_some (if is_some x then x else (if is_listed (take k (map.keys others)) name then map.get others name else None)) ≡ false
      → Some list ≡ (if is_some x then x else (if is_listed (take (k + 1) (map.keys others)) name then map.get others name else None))
  by_lacking None lacks = sym (ap (λ (c : Bool). if c then map.get others name else None) (taken_name (map.keys others) k name at) ∙ found_there)
  by_lacking (Some l) lacks = absurd (true≢false lacks)

  -- and one that is added
  pub upto_added : (m : Files) → ((q : List ℕ) → map.get m q ≡ list_upto files others k q) → map.contains_key m name ≡ false → (q : List ℕ) → map.get (map.insert m name list) q ≡ list_upto files others (k + 1) q
  upto_added m is lacks q = with_cases m name (λ o. o ≡ list_upto files others (k + 1) q) list q
      (λ same. subst (λ (n : List ℕ). Some list ≡ list_upto files others (k + 1) n) (sym same) (by_lacking (map.get files name) (sym (ap is_some (is name)) ∙ lacks)))
      (λ other. is q ∙ sym (upto_other q other))

upto_either : (x y : Option (List (List ℕ))) (b : Bool) (l : List (List ℕ)) → (if is_some x then x else (if b then y else None)) ≡ Some l → either x y ≡ Some l
upto_either None y true l is = is
upto_either None y false l is = absurd (none-some l is)
upto_either (Some v) y b l is = is

pub upto_among : (files others m : Files) (k : ℕ) → ((q : List ℕ) → map.get m q ≡ list_upto files others k q) → AreAmong m (joined_files files others)
upto_among files others m k is q l found = get_joined files others q ∙ upto_either (map.get files q) (map.get others q) (is_listed (take k (map.keys others)) q) l (sym (is q) ∙ found)

all_taken : (x y : Option (List (List ℕ))) (b : Bool) → b ≡ is_some y → (if is_some x then x else (if b then y else None)) ≡ either x y
all_taken None None true is = refl
all_taken None None false is = refl
all_taken None (Some l) true is = refl
all_taken None (Some l) false is = absurd (true≢false (sym is))
all_taken (Some v) y b is = refl

both_same : (x y : Bool) → (x ≡ true → y ≡ true) → (y ≡ true → x ≡ true) → x ≡ y
both_same true y to from = sym (to refl)
both_same false true to from = from refl
both_same false false to from = refl

pub upto_end : (files others m : Files) (k : ℕ) → map.len others ≤ k → ((q : List ℕ) → map.get m q ≡ list_upto files others k q) → m ≡ joined_files files others
upto_end files others m k past is = map.same_map nat_list_cmp_total same_names m (joined_files files others) (λ q.
    is q
    ∙ ap (λ (l : List (List ℕ)). if map.contains_key files q then map.get files q else (if is_listed l q then map.get others q else None)) (take_past (map.keys others) k (omega (arith, past, count_keys others)))
    ∙ all_taken (map.get files q) (map.get others q) (is_listed (map.keys others) q) (both_same (is_listed (map.keys others) q) (map.contains_key others q) (key_held others q) (held_key others q))
    ∙ sym (get_joined files others q))
  where
    take_past : (xs : List (List ℕ)) (n : ℕ) → length xs ≤ n → take n xs ≡ xs
    take_past [] zero long = refl
    take_past [] (suc n) long = refl
    take_past (x ∷ xs) zero long = absurd (omega (arith, long))
    take_past (x ∷ xs) (suc n) long = ap (λ (l : List (List ℕ)). x ∷ l) (take_past xs n (omega (arith, long)))

pub list_held : (other new old : Shape) (k : ℕ) (name : List ℕ) (list : List (List ℕ)) → KeepsShape other → HoldsChunksOf old other → HoldsChunksOf new old → slice_get (map.keys other.files) k ≡ Some name → slice_get (map.values other.files) k ≡ Some list → holds_all new list ≡ true
list_held other new old k name list keeps first then_new at value = all_pass (map.contains_key new.chunks) list (λ q uses.
    then_new q (first q (chunk_held other keeps name q list (found_there map.empty other.files k name list at value) uses)))

-- NAMED FILES

module _ (whole : Shape) (names : List (List ℕ)) (k : ℕ) (name : List ℕ) (list : List (List ℕ)) (at : slice_get names k ≡ Some name) (found : map.get whole.files name ≡ Some list) where
  pub named_lacks : (m : Files) → is_distinct names ≡ true → ((q : List ℕ) → map.get m q ≡ (if is_listed (take k names) q then map.get whole.files q else None)) → map.contains_key m name ≡ false
  named_lacks m distinct is = ap is_some (is name ∙ ap (λ (b : Bool). if b then map.get whole.files name else None) (not_before names k name distinct at))

  pub named_more : (m : Files) → ((q : List ℕ) → map.get m q ≡ (if is_listed (take k names) q then map.get whole.files q else None)) → (q : List ℕ) → map.get (map.insert m name list) q ≡ (if is_listed (take (k + 1) names) q then map.get whole.files q else None)
  named_more m is q = with_cases m name (λ o. o ≡ (if is_listed (take (k + 1) names) q then map.get whole.files q else None)) list q
      (λ same. subst (λ (n : List ℕ). Some list ≡ (if is_listed (take (k + 1) names) n then map.get whole.files n else None)) (sym same)
      (sym (ap (λ (b : Bool). if b then map.get whole.files name else None) (taken_name names k name at) ∙ found)))
      (λ other. is q ∙ ap (λ (b : Bool). if b then map.get whole.files q else None) (sym (taken_same names k name q at other)))

pub named_among : (whole : Shape) (m : Files) (p : List ℕ → Bool) → ((q : List ℕ) → map.get m q ≡ (if p q then map.get whole.files q else None)) → AreAmong m whole.files
named_among whole m p is q l found = taken (p q) (map.get whole.files q) (sym (is q) ∙ found)
  where
    taken : (b : Bool) (o : Option (List (List ℕ))) → (if b then o else None) ≡ Some l → o ≡ Some l
    taken true o e = e
    taken false o e = absurd (none-some l e)

-- a copy of a file of the whole never passes the limits
pub copy_fits : (whole old new : Shape) (names : List (List ℕ)) (k : ℕ) (name : List ℕ) (list : List (List ℕ)) (is : Bool) → KeepsShape whole → slice_get names k ≡ Some name → map.get whole.files name ≡ Some list → HasNamed whole names k old → AddsCopy old name list new is → HasNamed whole names (k + 1) new
copy_fits whole old new names k name list true keeps at found has same = subst (HasNamed whole names (k + 1)) (sym same) (record {
  files = named_more whole names k name list at found old.files has.files;
  chunks = has.chunks;
  held = more_before (λ (i : ℕ). HoldsFile whole (get_or names i [])) k has.held (ap (map.contains_key whole.files) (get_or_from_slice_get names k name [] at) ∙ ap is_some found);
})
copy_fits whole old new names k name list false keeps at found has fails =
    let more = named_more whole names k name list at found old.files has.files in
    let among = named_among whole (map.insert old.files name list) (is_listed (take (k + 1) names)) more in
    absurd (true≢false (sym (sym (shape_counts whole whole.files keeps) ∙ keeps.limits) ∙ more_fail (map.insert old.files name list) whole.files among fails))

-- what holds of each key by its place holds of each key
pub each_key : {X : Type 0} (m : map.FinMap bytes_cmp X) (P : List ℕ → Type 0) → ((j : ℕ) → j < map.len m → P (get_or (map.keys m) j [])) → (q : List ℕ) → map.contains_key m q ≡ true → P q
each_key m P each q held = by_list (map.keys m) (λ j inside. each j (omega (arith, inside, count_keys m))) (held_key m q held)
  where
    by_list : (xs : List (List ℕ)) → ((j : ℕ) → j < length xs → P (get_or xs j [])) → is_listed xs q ≡ true → P q
    by_list [] all listed = absurd (true≢false (sym listed))
    by_list (x ∷ xs) all listed = ⊎_elim
        (λ same. subst P (sym (equal_bytes q x same)) (all 0 (omega arith)))
        (λ later. by_list xs (λ j inside. all (suc j) (omega (arith, inside))) later)
        (or_cases (bytes_eq q x) (is_listed xs q) listed)

pub file_there : (shape : Shape) (name : List ℕ) (r : Option ℕ) (place : ℕ) (list : List (List ℕ)) → IsFilePlace shape.files name r → r ≡ Some place → slice_get (map.values shape.files) place ≡ Some list → map.get shape.files name ≡ Some list
file_there shape name r place list is some at =
    let key : slice_get (map.keys shape.files) place ≡ Some name = subst (IsFilePlace shape.files name) some is in
    ap (map.get shape.files) (sym (key_is shape.files place name key)) ∙ file_at shape.files place list (place_within shape.files name r place is some) at

-- STEPS OF THE LOOPS

pub upto_step_added : (old other cur : Shape) (k : ℕ) (name : List ℕ) (list : List (List ℕ)) → slice_get (map.keys other.files) k ≡ Some name → slice_get (map.values other.files) k ≡ Some list → HasUpto old other k cur → map.contains_key cur.files name ≡ false
    → HasUpto old other (k + 1) (with_file cur name list)
upto_step_added old other cur k name list at value has lacks = record { files = upto_added old.files other.files k name list at value cur.files has.files lacks; chunks = has.chunks }

pub upto_step_same : (old other cur : Shape) (k : ℕ) (name : List ℕ) → slice_get (map.keys other.files) k ≡ Some name → HasUpto old other k cur → map.contains_key cur.files name ≡ true → HasUpto old other (k + 1) cur
upto_step_same old other cur k name at has held =
    let inside = slice_get_within (map.keys other.files) k name at in
    let value = slice_get-get_or (map.values other.files) k [] (omega (arith, inside, count_keys other.files, values_long other.files)) in
    record {
      files = λ q. has.files q ∙ sym (upto_same old.files other.files k name (get_or (map.values other.files) k []) at value (sym (ap is_some (has.files name)) ∙ held) q);
      chunks = has.chunks;
    }

pub chunks_step : (fn cur next other : Shape) (k : ℕ) (name : List ℕ) → slice_get (map.keys other.chunks) k ≡ Some name → cur.files ≡ fn.files → HoldsChunksOf cur fn → ((j : ℕ) → j < k → HoldsChunk cur (get_or (map.keys other.chunks) j [])) → next.files ≡ cur.files
    → HoldsChunksOf next cur → HoldsChunk next name → (next.files ≡ fn.files) × HoldsChunksOf next fn × ((j : ℕ) → j < k + 1 → HoldsChunk next (get_or (map.keys other.chunks) j []))
chunks_step fn cur next other k name at files old new same more here = (
  same ∙ files,
  λ chunk held. more chunk (old chunk held),
  more_before (λ (j : ℕ). HoldsChunk next (get_or (map.keys other.chunks) j [])) k (λ j less. more (get_or (map.keys other.chunks) j []) (new j less)) (subst (HoldsChunk next) (sym (get_or_from_slice_get (map.keys other.chunks) k name [] at)) here),
)

pub chunk_joined : (cur next : Shape) (name : List ℕ) (len : ℕ) → next ≡ with_chunk cur name len → (next.files ≡ cur.files) × HoldsChunksOf next cur × HoldsChunk next name
chunk_joined cur next name len is = (
  ap (λ (s : Shape). s.files) is,
  λ chunk held. subst (λ (s : Shape). HoldsChunk s chunk) (sym is) (still_held cur.chunks name len chunk held),
  subst (λ (s : Shape). HoldsChunk s name) (sym is) (held_new cur.chunks name len),
)

pub extent_held : (o : Option Extent) → is_some o ≡ true → is_some (option_map (λ (e : Extent). e.len) o) ≡ true
extent_held None held = absurd (true≢false (sym held))
extent_held (Some e) held = refl
