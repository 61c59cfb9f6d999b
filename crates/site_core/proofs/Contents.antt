-- The bytes of files: what a reader is given, what a view shows, and what records keep of it.
use Rattle.std.proofs.Common.{◌≡◌, ℕ, List, [], ◌∷◌, ◌++◌, length, Bool, true, false, Option, Some, None, refl, sym, ◌∙◌, ap, subst}
use Rattle.std.specs.Prelude.{is_some, unwrap_or, if◌then◌else◌}
use Rattle.std.specs.List.{flat_map}
use Rattle.std.specs.Option.{option_map, option_and_then}
use Rattle.std.specs.Str.{bytes_eq}
use Rattle.std.specs.FinMap as map
use Rattle.std.proofs.lemmas.Bool.{true≢false, or_right, false_from_ne_true}
use Rattle.sha2.specs.Sha256.{sha256}
use Rattle.site_forms.specs.Names.{is_listed}
use Rattle.site_forms.specs.Sites.{IsNamedByDigests, shape_of}
use Rattle.site_forms.specs.Views.{content, joined_bytes}
use Rattle.site_forms.specs.VolumeRecords.{VolumeRecord}
use Rattle.site_forms.specs.VolumeRecords.VolumeRecord.{ChunkRecord, FileRecord, DropFileRecord, DropChunkRecord}
use Rattle.site_forms.specs.Volumes.{Volume, chunk_or, used, volume_after, may_add_file, may_drop_chunk, with_chunk, with_file, without_file, without_chunk}
use Rattle.volume_index.specs.HoldingValues.{KeepsShape}
use Rattle.volume_index.proofs.Alls.{held_value, get_with, get_without}
use Rattle.site_core.specs.Lasting.{judged_bytes, read_chunk, read_list}
use Rattle.site_core.proofs.Keeping.{chunk_held}
use Rattle.site_core.proofs.Lists.{listed_front}
use Rattle.site_core.proofs.Maps.{either, same_bytes, equal_bytes, get_old, get_left, used_by}
use Rattle.site_core.proofs.Shapes.{same_held}
use Rattle.site_core.proofs.Turning.{if_some, if_none}

pub or_value : (v : Volume) (c x : List ℕ) → map.get v.chunks c ≡ Some x → chunk_or [] v c ≡ x
or_value v c x is = ap (λ (o : Option (List ℕ)). unwrap_or o []) is

module _ (v : Volume) (keeps : KeepsShape (shape_of v)) where
  -- the chunks of a file are held with their bytes
  pub bytes_held : (name chunk : List ℕ) (list : List (List ℕ)) → map.get v.files name ≡ Some list → is_listed list chunk ≡ true → (x : List ℕ) × (map.get v.chunks chunk ≡ Some x)
  bytes_held name chunk list found uses = held_value v.chunks chunk (sym (same_held v chunk) ∙ chunk_held (shape_of v) keeps name chunk list found uses)

  -- READS

  read_front : (name : List ℕ) (rest : List (List ℕ)) (x : List ℕ) → map.get v.chunks name ≡ Some x → sha256 x ≡ name → read_list v rest ≡ Some (joined_bytes v rest) → read_list v (name ∷ rest) ≡ Some (joined_bytes v (name ∷ rest))
  read_front name rest x is digest later =
      let judged : read_chunk v name ≡ Some x = ap (option_and_then (judged_bytes name)) is
      ∙ ap (λ (b : Bool). if b then Some x else None) (ap (λ (n : List ℕ). bytes_eq n name) digest ∙ same_bytes name) in
      ap (option_and_then (λ (bytes : List ℕ). option_map (λ (r : List ℕ). bytes ++ r) (read_list v rest))) judged
      ∙ ap (option_map (λ (r : List ℕ). x ++ r)) later
      ∙ ap (λ (bytes : List ℕ). Some (bytes ++ joined_bytes v rest)) (sym (or_value v name x is))

  read_all : (list : List (List ℕ)) → IsNamedByDigests v → ((c : List ℕ) → is_listed list c ≡ true → (x : List ℕ) × (map.get v.chunks c ≡ Some x)) → read_list v list ≡ Some (joined_bytes v list)
  read_all [] named held = refl
  read_all (c ∷ list) named held =
      let first = held c (listed_front c list) in
      read_front c list first.0 first.1 (named c first.0 first.1) (read_all list named (λ d listed. held d (or_right (bytes_eq d c) (is_listed list d) listed)))

  read_by : (name : List ℕ) (o : Option (List (List ℕ))) → IsNamedByDigests v → map.get v.files name ≡ o → option_and_then (read_list v) o ≡ option_map (joined_bytes v) o
  read_by name None named is = refl
  read_by name (Some list) named is = read_all list named (λ c listed. bytes_held name c list is listed)

  pub reads_content : (name : List ℕ) → IsNamedByDigests v → option_and_then (read_list v) (map.get v.files name) ≡ content v name
  reads_content name named = read_by name (map.get v.files name) named refl

  -- A VOLUME WITH THE SAME BYTES

  joined_same : (f : List ℕ → List ℕ) (list : List (List ℕ)) → ((c : List ℕ) → is_listed list c ≡ true → f c ≡ chunk_or [] v c) → flat_map f list ≡ joined_bytes v list
  joined_same f [] same = refl
  joined_same f (c ∷ list) same = λ i. same c (listed_front c list) i ++ joined_same f list (λ d listed. same d (or_right (bytes_eq d c) (is_listed list d) listed)) i

  content_by : (f : List ℕ → List ℕ) (name : List ℕ) (o : Option (List (List ℕ))) → ((c x : List ℕ) → map.contains_key (used v.files) c ≡ true → map.get v.chunks c ≡ Some x → f c ≡ x) → map.get v.files name ≡ o
      → option_map (flat_map f) o ≡ option_map (joined_bytes v) o
  content_by f name None same is = refl
  content_by f name (Some list) same is = ap Some (joined_same f list (λ c listed.
      let held = bytes_held name c list is listed in
      same c held.0 (used_by v.files name list c is listed) held.1 ∙ sym (or_value v c held.0 held.1)))

  -- a file's content, by what a function says of the chunks that are held and used
  pub content_as : (f : List ℕ → List ℕ) (name : List ℕ) → ((c x : List ℕ) → map.contains_key (used v.files) c ≡ true → map.get v.chunks c ≡ Some x → f c ≡ x) → option_map (flat_map f) (map.get v.files name) ≡ content v name
  content_as f name same = content_by f name (map.get v.files name) same refl

-- the view of a site by its origin, where the chunks of both volumes have these bytes
pub view_as : (a b : Volume) (f : List ℕ → List ℕ) (name : List ℕ) → KeepsShape (shape_of a) → KeepsShape (shape_of b) → ((c x : List ℕ) → map.get a.chunks c ≡ Some x → f c ≡ x) → ((c x : List ℕ) → map.get b.chunks c ≡ Some x → f c ≡ x)
    → (if map.contains_key a.files name then content a name else content b name) ≡ option_map (flat_map f) (either (map.get a.files name) (map.get b.files name))
view_as a b f name keeps_a keeps_b in_a in_b =
    by_first (map.get a.files name) (content a name) (content b name) (map.get b.files name)
    (content_as a keeps_a f name (λ c x _ is. in_a c x is)) (content_as b keeps_b f name (λ c x _ is. in_b c x is))
  where
    by_first : (p : Option (List (List ℕ))) (x y : Option (List ℕ)) (q : Option (List (List ℕ))) → option_map (flat_map f) p ≡ x → option_map (flat_map f) q ≡ y → (if is_some p then x else y) ≡ option_map (flat_map f) (either p q)
    by_first None x y q is_x is_y = sym is_y
    by_first (Some list) x y q is_x is_y = sym is_x

-- WHAT RECORDS KEEP

-- what is so of each chunk and its bytes stays so, where it is so of a new one
pub chunks_after : (P : List ℕ → List ℕ → Type 0) (v : Volume) (r : VolumeRecord) (next : Volume) → ((c x : List ℕ) → map.get v.chunks c ≡ Some x → P c x) → ((c x : List ℕ) → r ≡ ChunkRecord c x → P c x) → volume_after v r ≡ Some next
    → (c x : List ℕ) → map.get next.chunks c ≡ Some x → P c x
chunks_after P v (ChunkRecord name bytes) next all new folds =
    let its = if_none (map.contains_key v.chunks name) (with_chunk v name bytes) next folds in
    subst (λ (w : Volume). (c x : List ℕ) → map.get w.chunks c ≡ Some x → P c x) its.1 (get_with P v.chunks name bytes (new name bytes refl) all)
chunks_after P v (FileRecord name list) next all new folds =
    let its = if_some (may_add_file length [] v name list) (with_file v name list) next folds in
    subst (λ (w : Volume). (c x : List ℕ) → map.get w.chunks c ≡ Some x → P c x) its.1 all
chunks_after P v (DropFileRecord name) next all new folds =
    let its = if_some (map.contains_key v.files name) (without_file v name) next folds in
    subst (λ (w : Volume). (c x : List ℕ) → map.get w.chunks c ≡ Some x → P c x) its.1 all
chunks_after P v (DropChunkRecord name) next all new folds =
    let its = if_some (may_drop_chunk v name) (without_chunk v name) next folds in
    subst (λ (w : Volume). (c x : List ℕ) → map.get w.chunks c ≡ Some x → P c x) its.1 (get_without P v.chunks name (λ q w _ is. all q w is))

-- a chunk that joins, or one that leaves unused, changes no file
pub content_with_chunk : (v : Volume) (name bytes : List ℕ) (q : List ℕ) → KeepsShape (shape_of v) → map.contains_key v.chunks name ≡ false → content (with_chunk v name bytes) q ≡ content v q
content_with_chunk v name bytes q keeps lacking = content_as v keeps (chunk_or [] (with_chunk v name bytes)) q (λ c x _ is.
    or_value (with_chunk v name bytes) c x (get_old v.chunks name bytes c (false_from_ne_true (bytes_eq c name) (λ ties. true≢false (sym (ap is_some is) ∙ ap (map.contains_key v.chunks) (equal_bytes c name ties) ∙ lacking))) ∙ is))

pub content_without_chunk : (v : Volume) (name : List ℕ) (q : List ℕ) → KeepsShape (shape_of v) → map.contains_key (used v.files) name ≡ false → content (without_chunk v name) q ≡ content v q
content_without_chunk v name q keeps unused = content_as v keeps (chunk_or [] (without_chunk v name)) q (λ c x uses is.
    or_value (without_chunk v name) c x (get_left v.chunks name c (false_from_ne_true (bytes_eq c name) (λ ties. true≢false (sym uses ∙ ap (map.contains_key (used v.files)) (equal_bytes c name ties) ∙ unused))) ∙ is))
