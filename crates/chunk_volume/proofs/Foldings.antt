-- Bodies that fold onto an index, and bodies that do not.
use Rattle.std.specs.Prelude.{min}
use Rattle.std.proofs.Common.{◌≡◌, ◌≢◌, ℕ, ◌+◌, ◌≤◌, List, [], ◌∷◌, ◌++◌, length, take, drop, Bool, true, false, Some, None, Result, Ok, Err, refl, sym, ◌∙◌, ap, arith, length-drop, inl, inr}
use Rattle.std.specs.Prelude.{slice_index, nat_le, ◌&&◌, ◌==◌, if◌then◌else◌, IfOk}
use Rattle.std.specs.FinMap as map
use Rattle.std.proofs.lemmas.Bool.{true≢false, false_from_ne_true, and_parts, eqb-true, ne_eqb, cases_lt}
use Rattle.std.proofs.lemmas.List.{take_all, take-take, length-take, take-append-le, append-nil}
use Rattle.std.proofs.lemmas.Option.{none-some}
use Rattle.file_names.specs.FileNames.{IsFileName}
use Rattle.site_forms.specs.Halves.{half_number}
use Rattle.site_forms.specs.Names.{is_name}
use Rattle.site_forms.specs.VolumeRecords.{VolumeRecord, volume_record}
use Rattle.site_forms.specs.VolumeRecords.VolumeRecord.{ChunkRecord, FileRecord, DropFileRecord, DropChunkRecord}
use Rattle.site_forms.specs.Volumes.{Shape, shape_after, may_add_file, may_drop_chunk, with_chunk, with_file, without_file, without_chunk}
use Rattle.site_forms.proofs.NameTests.{name_test}
use Rattle.site_forms.proofs.Records.{volume_spelled}
use Rattle.chunk_volume.specs.Folding.{IsFolded, IsUnfoldable, FoldsBody, FoldsNext, IsFrontOf, is_front_half}
use Rattle.chunk_volume.specs.Pieces.{bytes_at}
use Rattle.volume_index.specs.HoldingValues.{KeepsShape}
use Rattle.volume_index.specs.Indexes.{IndexValue}
use Rattle.volume_index.proofs.Alls.{key_has}

some_same : {X : Type 0} (x y : X) → Some x ≡ Some y → x ≡ y
some_same x y is = cc

-- BODIES THAT DO NOT FOLD

-- a body whose record does not fold
pub not_folded : (index : IndexValue) (body : List ℕ) (s : VolumeRecord) → volume_record body ≡ Some s → shape_after index.shape s ≡ None → IsUnfoldable index body
not_folded index body s spelled none r is = ap (λ (x : VolumeRecord). shape_after index.shape x) (some_same r s (sym is ∙ spelled)) ∙ none

-- a body that is no record
pub no_record : (index : IndexValue) (body : List ℕ) → volume_record body ≡ None → IsUnfoldable index body
no_record index body none r is = absurd (none-some r (sym none ∙ is))

-- a file whose name is not lawful
not_lawful : (shape : Shape) (name : List ℕ) (list : List (List ℕ)) → ¬ IsFileName name → may_add_file (λ n. n) 0 shape name list ≡ false
not_lawful shape name list bad = false_from_ne_true (may_add_file (λ n. n) 0 shape name list) (λ may. bad ((name_test name).0 (and_parts (is_name name) _ may).0))

if_false : (b : Bool) (x : Shape) → b ≡ false → (if b then Some x else None) ≡ None
if_false b x is = ap (λ (c : Bool). if c then Some x else None) is

if_true : (b : Bool) (x : Shape) → b ≡ true → (if b then None else Some x) ≡ None
if_true b x is = ap (λ (c : Bool). if c then None else Some x) is

pub no_file : (index : IndexValue) (rest : List ℕ) → ((name : List ℕ) (chunks : List (List ℕ)) → volume_record (2 ∷ rest) ≡ Some (FileRecord name chunks) → ¬ IsFileName name) → IsUnfoldable index (2 ∷ rest)
no_file index rest bad (ChunkRecord name bytes) is = let heads = volume_spelled (2 ∷ rest) (ChunkRecord name bytes) is in cc
no_file index rest bad (FileRecord name list) is = if_false (may_add_file (λ n. n) 0 index.shape name list) (with_file index.shape name list) (not_lawful index.shape name list (bad name list is))
no_file index rest bad (DropFileRecord name) is = let heads = volume_spelled (2 ∷ rest) (DropFileRecord name) is in cc
no_file index rest bad (DropChunkRecord name) is = let heads = volume_spelled (2 ∷ rest) (DropChunkRecord name) is in cc

pub file_stays_out : (index : IndexValue) (body name : List ℕ) (list : List (List ℕ)) → volume_record body ≡ Some (FileRecord name list) → may_add_file (λ n. n) 0 index.shape name list ≡ false → IsUnfoldable index body
file_stays_out index body name list spelled may = not_folded index body (FileRecord name list) spelled (if_false (may_add_file (λ n. n) 0 index.shape name list) (with_file index.shape name list) may)

-- a chunk that is held
pub chunk_stays_out : (index : IndexValue) (body name bytes : List ℕ) → volume_record body ≡ Some (ChunkRecord name bytes) → map.contains_key index.shape.chunks name ≡ true → IsUnfoldable index body
chunk_stays_out index body name bytes spelled held = not_folded index body (ChunkRecord name bytes) spelled (if_true (map.contains_key index.shape.chunks name) (with_chunk index.shape name (length bytes)) held)

-- a file that is lacking
pub drop_lacking : (index : IndexValue) (name : List ℕ) → map.contains_key index.shape.files name ≡ false → IsUnfoldable index (3 ∷ name)
drop_lacking index name lacking = not_folded index (3 ∷ name) (DropFileRecord name) refl (if_false (map.contains_key index.shape.files name) (without_file index.shape name) lacking)

pub drop_unlawful : (index : IndexValue) (name : List ℕ) → KeepsShape index.shape → ¬ IsFileName name → IsUnfoldable index (3 ∷ name)
drop_unlawful index name keeps bad = drop_lacking index name (false_from_ne_true (map.contains_key index.shape.files name) (λ held. bad (key_has index.shape.files IsFileName keeps.names name held)))

-- a name that is no chunk's
pub short_name : (index : IndexValue) (rest : List ℕ) → length rest ≢ 32 → IsUnfoldable index (4 ∷ rest)
short_name index rest long = no_record index (4 ∷ rest) (ap (λ (b : Bool). if b then Some (DropChunkRecord rest) else None) (false_from_ne_true (length rest == 32) (λ is. long (eqb-true (length rest) 32 is))))

chunk_named : (rest : List ℕ) → length rest ≡ 32 → volume_record (4 ∷ rest) ≡ Some (DropChunkRecord rest)
chunk_named rest long = ap (λ (n : ℕ). if n == 32 then Some (DropChunkRecord rest) else None) long

pub chunk_stays : (index : IndexValue) (name : List ℕ) → length name ≡ 32 → may_drop_chunk index.shape name ≡ false → IsUnfoldable index (4 ∷ name)
chunk_stays index name long may = not_folded index (4 ∷ name) (DropChunkRecord name) (chunk_named name long) (if_false (may_drop_chunk index.shape name) (without_chunk index.shape name) may)

-- BODIES THAT FOLD

module _ (gate : ℕ) (old new : IndexValue) where
  pub chunk_folded : (body name bytes : List ℕ) (len : ℕ) → volume_record body ≡ Some (ChunkRecord name bytes) → length bytes ≡ len → map.contains_key old.shape.chunks name ≡ false → new.shape ≡ with_chunk old.shape name len → new.places ≡ map.insert old.places name (gate + 38)
      → IsFolded gate old new body
  chunk_folded body name bytes len spelled long lacking shape places = record {
    r = ChunkRecord name bytes;
    spelled = spelled;
    shape = ap (λ (b : Bool). if b then None else Some (with_chunk old.shape name (length bytes))) lacking ∙ ap (λ (n : ℕ). Some (with_chunk old.shape name n)) long ∙ ap (λ (s : Shape). Some s) (sym shape);
    places = places;
  }

  pub file_folded : (body name : List ℕ) (list : List (List ℕ)) → volume_record body ≡ Some (FileRecord name list) → may_add_file (λ n. n) 0 old.shape name list ≡ true → new.shape ≡ with_file old.shape name list → new.places ≡ old.places → IsFolded gate old new body
  file_folded body name list spelled may shape places = record {
    r = FileRecord name list;
    spelled = spelled;
    shape = ap (λ (b : Bool). if b then Some (with_file old.shape name list) else None) may ∙ ap (λ (s : Shape). Some s) (sym shape);
    places = places;
  }

  pub drop_folded : (name : List ℕ) → map.contains_key old.shape.files name ≡ true → new.shape ≡ without_file old.shape name → new.places ≡ old.places → IsFolded gate old new (3 ∷ name)
  drop_folded name held shape places = record {
    r = DropFileRecord name;
    spelled = refl;
    shape = ap (λ (b : Bool). if b then Some (without_file old.shape name) else None) held ∙ ap (λ (s : Shape). Some s) (sym shape);
    places = places;
  }

  pub chunk_dropped : (name : List ℕ) → length name ≡ 32 → may_drop_chunk old.shape name ≡ true → new.shape ≡ without_chunk old.shape name → new.places ≡ map.remove old.places name → IsFolded gate old new (4 ∷ name)
  chunk_dropped name long may shape places = record {
    r = DropChunkRecord name;
    spelled = chunk_named name long;
    shape = ap (λ (b : Bool). if b then Some (without_chunk old.shape name) else None) may ∙ ap (λ (s : Shape). Some s) (sym shape);
    places = places;
  }

-- EITHER

pub when_true : (gate : ℕ) (old new : IndexValue) (body : List ℕ) (is : Bool) → FoldsBody gate old new body is → is ≡ true → IsFolded gate old new body
when_true gate old new body true folds same = folds
when_true gate old new body false folds same = absurd (true≢false (sym same))

-- a kind that none has
pub no_kind : (index : IndexValue) (kind : ℕ) (rest : List ℕ) → kind ≢ 1 → kind ≢ 2 → kind ≢ 3 → kind ≢ 4 → IsUnfoldable index (kind ∷ rest)
no_kind index kind rest one two three four (ChunkRecord name bytes) is = let heads = volume_spelled (kind ∷ rest) (ChunkRecord name bytes) is in absurd (one (ap (λ (l : List ℕ). slice_index l 0) (sym heads)))
no_kind index kind rest one two three four (FileRecord name list) is = let heads = volume_spelled (kind ∷ rest) (FileRecord name list) is in absurd (two (ap (λ (l : List ℕ). slice_index l 0) (sym heads)))
no_kind index kind rest one two three four (DropFileRecord name) is = let heads = volume_spelled (kind ∷ rest) (DropFileRecord name) is in absurd (three (ap (λ (l : List ℕ). slice_index l 0) (sym heads)))
no_kind index kind rest one two three four (DropChunkRecord name) is = let heads = volume_spelled (kind ∷ rest) (DropChunkRecord name) is in absurd (four (ap (λ (l : List ℕ). slice_index l 0) (sym heads)))

-- FRONTS

-- the first byte of a body that begins so
pub front_kind : (front body : List ℕ) → 1 ≤ length body → IsFrontOf front body → slice_index front 0 ≡ slice_index body 0
front_kind [] [] some is = refl
front_kind [] (k ∷ body) some is = let bad : length {A = ℕ} [] ≡ length (k ∷ take 32 body) = ap (λ (l : List ℕ). length l) is in absurd (omega (arith, bad))
front_kind (b ∷ front) [] some is = absurd (omega (arith, some))
front_kind (b ∷ front) (k ∷ body) some is = ap (λ (l : List ℕ). slice_index l 0) is

-- a front of 33 bytes is that of a body that is no shorter
pub front_whole : (front body : List ℕ) → length front ≡ 33 → 33 ≤ length body → IsFrontOf front body → front ≡ take 33 body
front_whole front body long enough is = sym (take_all (length body) front (omega (arith, long, enough))) ∙ is

-- so many bytes that are there
pub bytes_long : (image : List ℕ) (at len : ℕ) → at + len ≤ length image → length (bytes_at image at len) ≡ len
bytes_long image at len whole = omega (arith, whole, length-take len (drop at image), length-drop at image)

pub front_at : (image front : List ℕ) (at len : ℕ) → at + len ≤ length image → take len front ≡ take 33 (bytes_at image at len) → IsFrontOf front (bytes_at image at len)
front_at image front at len whole is = ap (λ (n : ℕ). take n front) (bytes_long image at len whole) ∙ is

no_more : (l : List ℕ) → length l ≡ 0 → l ≡ []
no_more [] none = refl
no_more (x ∷ l) none = absurd (omega (arith, none))

-- first bytes that are read, in front of zeros
pub front_read : (into zeros rest : List ℕ) (count len : ℕ) → count ≡ min len 33 → length into ≡ count → into ≡ take count rest → length zeros ≡ 33 → take len (into ++ drop count zeros) ≡ take 33 (take len rest)
front_read into zeros rest count len most long is all = elim (cases_lt len 33) [
  | inl few ↦
      let same : count ≡ len = omega (arith, most, few) in
      take-append-le len into (drop count zeros) (omega (arith, long, same)) ∙ take_all len into (omega (arith, long, same)) ∙ is ∙ ap (λ (n : ℕ). take n rest) same
      ∙ sym (take_all 33 (take len rest) (omega (arith, few, length-take len rest)))
  | inr many ↦
      let same : count ≡ 33 = omega (arith, most, many) in
      let none : drop count zeros ≡ [] = no_more (drop count zeros) (omega (arith, length-drop count zeros, same, all)) in
      ap (λ (l : List ℕ). take len (into ++ l)) none ∙ ap (take len) (append-nil into) ∙ take_all len into (omega (arith, long, same, many)) ∙ is ∙ ap (λ (n : ℕ). take n rest) same
      ∙ sym (take-take 33 len rest many)
]

-- THE HALF RECORD IN FRONT

pub not_in_front : (at gate : ℕ) (body : List ℕ) → at ≡ gate + 5 → at ≢ 5 → false ≡ is_front_half gate body
not_in_front at gate body placed other = sym (ap (λ (b : Bool). b && nat_le 1 (half_number body)) (ne_eqb gate 0 (λ is. other (placed ∙ ap (λ (n : ℕ). n + 5) is))))

at_zero : (at gate : ℕ) → at ≡ gate + 5 → at ≡ 5 → gate ≡ 0
at_zero at gate placed here = omega (arith, placed, here)

pub in_front : (at gate : ℕ) (body : List ℕ) (is : Bool) → at ≡ gate + 5 → at ≡ 5 → is ≡ nat_le 1 (half_number body) → is ≡ is_front_half gate body
in_front at gate body is placed here same = same ∙ ap (λ (n : ℕ). (n == 0) && nat_le 1 (half_number body)) (sym (at_zero at gate placed here))

-- a body that is not in front folds as its record does
pub next_by : {E : Type 0} (gate : ℕ) (old new : IndexValue) (body : List ℕ) (result : Result Bool E) → is_front_half gate body ≡ false → IfOk result (FoldsBody gate old new body) → IfOk result (FoldsNext gate old new body)
next_by gate old new body (Ok is) behind folds = record { half = λ front. absurd (true≢false (sym front ∙ behind)); record_is = λ _. folds }
next_by gate old new body (Err error) behind folds = tt

pub body_folded : {E : Type 0} (gate : ℕ) (old new : IndexValue) (body : List ℕ) (result : Result Bool E) → IfOk result (FoldsBody gate old new body) → IfOk result (λ is. is ≡ true → IsFolded gate old new body)
body_folded gate old new body (Ok is) folds = when_true gate old new body is folds
body_folded gate old new body (Err error) folds = tt
