-- What a volume keeps, where a record joins its log.
use Rattle.std.proofs.Common.{◌≡◌, ℕ, ◌≤◌, List, [], ◌∷◌, length, Bool, true, false, Some, refl, sym, ◌∙◌, arith}
use Rattle.std.specs.Prelude.{All, not, ◌&&◌, nat_le}
use Rattle.std.specs.List.{list_all}
use Rattle.std.specs.Str.{bytes_eq}
use Rattle.std.specs.FinMap as map
use Rattle.std.proofs.lemmas.Bool.{and_parts, and_from, or_right, le-leb, not_from_false}
use Rattle.std.proofs.lemmas.List.Elements.{All-nil, All-cons}
use Rattle.file_names.specs.FileNames.{IsFileName}
use Rattle.site_forms.specs.Names.{is_listed, is_name, is_name_list, is_distinct}
use Rattle.site_forms.specs.Sites.{HoldsChunk, IsTidy}
use Rattle.site_forms.specs.VolumeRecords.{IsChunkName}
use Rattle.site_forms.specs.Volumes.{Files, Shape, used, distinct_count, holds_all, chunk_or, may_add_file, without_file, without_chunk}
use Rattle.site_forms.proofs.NameTests.{name_test}
use Rattle.volume_index.specs.HoldingValues.{KeepsShape}
use Rattle.volume_index.proofs.Alls.{key_has, get_without}
use Rattle.volume_index.proofs.Shapes.{MayAdd, listed_held, keeps_without_file, keeps_without_chunk}
use Rattle.site_core.proofs.Counting.{AreAmong, used_within, len_within, sum_within, counts_fit, counts_decide, chunk_short, fewer_fit}
use Rattle.site_core.proofs.Lists.{listed_front}
use Rattle.site_core.proofs.Maps.{user_of, no_user, held_before}

-- a list whose names all pass
pub all_pass : (p : List ℕ → Bool) (list : List (List ℕ)) → ((q : List ℕ) → is_listed list q ≡ true → p q ≡ true) → list_all p list ≡ true
all_pass p [] each = refl
all_pass p (x ∷ xs) each = and_from (p x) (list_all p xs) (each x (listed_front x xs)) (all_pass p xs (λ q listed. each q (or_right (bytes_eq q x) (is_listed xs q) listed)))

pub all_listed : (P : List ℕ → Type 0) (list : List (List ℕ)) → ((q : List ℕ) → is_listed list q ≡ true → P q) → All P list
all_listed P [] each = All-nil P
all_listed P (x ∷ xs) each = All-cons P x xs (each x (listed_front x xs)) (all_listed P xs (λ q listed. each q (or_right (bytes_eq q x) (is_listed xs q) listed)))

pub distinct_of : (names : List (List ℕ)) → is_name_list names ≡ true → is_distinct names ≡ true
distinct_of names lawful =
    let rest = and_parts (nat_le (length names) 16383) (list_all is_name names && is_distinct names) lawful in
    (and_parts (list_all is_name names) (is_distinct names) rest.1).1

module _ (shape : Shape) (keeps : KeepsShape shape) where
  -- the chunks of a file are held
  pub chunk_held : (name chunk : List ℕ) (list : List (List ℕ)) → map.get shape.files name ≡ Some list → is_listed list chunk ≡ true → HoldsChunk shape chunk
  chunk_held name chunk list found uses = listed_held (map.contains_key shape.chunks) list chunk (keeps.held name list found) uses

  pub used_held : (chunk : List ℕ) → map.contains_key (used shape.files) chunk ≡ true → HoldsChunk shape chunk
  used_held chunk uses =
      let user = user_of shape.files chunk uses in
      chunk_held user.0 chunk user.1.0 user.1.1 user.1.2

  pub chunk_named : (chunk : List ℕ) → HoldsChunk shape chunk → IsChunkName chunk
  chunk_named chunk held = key_has shape.chunks IsChunkName keeps.chunk_names chunk held

  pub file_named : (name : List ℕ) → map.contains_key shape.files name ≡ true → IsFileName name
  file_named name held = key_has shape.files IsFileName keeps.names name held

  both_ways : (x y : Bool) → (x ≡ true → y ≡ true) → (y ≡ true → x ≡ true) → x ≡ y
  both_ways true y to from = sym (to refl)
  both_ways false true to from = from refl
  both_ways false false to from = refl

  -- a volume is tidy where it holds no other chunk
  pub tidy_from : ((chunk : List ℕ) → HoldsChunk shape chunk → map.contains_key (used shape.files) chunk ≡ true) → IsTidy shape
  tidy_from each chunk = both_ways (map.contains_key shape.chunks chunk) (map.contains_key (used shape.files) chunk) (each chunk) (used_held chunk)

  pub less_among : (name : List ℕ) → AreAmong (map.remove shape.files name) shape.files
  less_among name = get_without (λ q l. map.get shape.files q ≡ Some l) shape.files name (λ q l _ is. is)

  pub keeps_less : (name : List ℕ) → KeepsShape (without_file shape name)
  keeps_less name = keeps_without_file shape name keeps
      (len_within (map.remove shape.files name) shape.files (held_before shape.files name))
      (len_within (used (map.remove shape.files name)) (used shape.files) (used_within (map.remove shape.files name) shape.files (less_among name)))
      (sum_within distinct_count distinct_count (map.remove shape.files name) shape.files (λ q list is. (list, less_among name q list is, omega arith)))

  pub keeps_unused : (chunk : List ℕ) → map.contains_key (used shape.files) chunk ≡ false → KeepsShape (without_chunk shape chunk)
  keeps_unused chunk unused = keeps_without_chunk shape chunk keeps (no_user shape.files chunk unused)

  -- a file of an origin whose chunks are held may be added
  pub may_join : (o : Files) (name : List ℕ) (list : List (List ℕ)) → IsFileName name → map.contains_key shape.files name ≡ false → ((q : List ℕ) → is_listed list q ≡ true → HoldsChunk shape q) → length list ≤ 524279
      → AreAmong (map.insert shape.files name list) o → counts_fit o ≡ true → MayAdd shape name list
  may_join o name list lawful lacking held short among fit = record {
    lawful = lawful;
    lacking = lacking;
    held = all_pass (map.contains_key shape.chunks) list held;
    short = short;
    limits = counts_decide (λ chunk. chunk_or 0 shape chunk) (map.insert shape.files name list) (chunk_short shape keeps.most) ∙ fewer_fit (map.insert shape.files name list) o among fit;
  }

-- and its record folds
pub may_folds : (shape : Shape) (name : List ℕ) (list : List (List ℕ)) → MayAdd shape name list → may_add_file (λ n. n) 0 shape name list ≡ true
may_folds shape name list may =
    and_from (is_name name) _ ((name_test name).1 may.lawful)
    (and_from (not (map.contains_key shape.files name)) _ (not_from_false (map.contains_key shape.files name) may.lacking)
    (and_from (holds_all shape list) _ may.held
    (and_from (nat_le (length list) 524279) _ (le-leb (length list) 524279 may.short) may.limits)))
