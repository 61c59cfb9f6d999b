-- What an index keeps, where a chunk or a file joins or leaves.
use Rattle.std.proofs.Common.{◌≡◌, ℕ, ◌+◌, ◌-◌, ◌*◌, ◌^◌, ◌<◌, ◌≤◌, List, [], ◌∷◌, length, get_or, Bool, true, false, cond, Option, Some, None, refl, sym, ◌∙◌, ap, subst, arith, ◌⊎◌, ⊎_elim}
use Rattle.std.specs.Prelude.{is_some, not, ◌==◌, nat_le, slice_get, sum_by, All, if◌then◌else◌}
use Rattle.std.proofs.lemmas.Option.{get_or_from_slice_get, slice_get-get_or}
use Rattle.std.specs.Option.{option_map, option_map_or}
use Rattle.std.specs.List.{list_all, filter}
use Rattle.std.specs.Ordering.{eq_by_cmp}
use Rattle.std.specs.Cmp.Lexicographic.{nat_list_cmp_total, texts_ties, same_text}
use Rattle.std.specs.FinMap as map
use Rattle.std.proofs.lemmas.Bool.{true≢false, false_from_ne_true, cases_lt, eq-eqb, ne_eqb, and_parts, leb-true}
use Rattle.std.proofs.lemmas.List.{length-map}
use Rattle.std.proofs.lemmas.List.Elements.{All-head, All-tail}
use Rattle.std.proofs.lemmas.List.Sums.{sum_by-cons}
use Rattle.seed_model.specs.declared.limits.TheConstants.{MOST_FILES, MOST_CHUNKS, MOST_PAIRS}
use Rattle.volume_index.proofs.Limits.{counts_decide}
use Rattle.volume_index.proofs.Sets.{count_none, count_first}
use Rattle.std.proofs.lemmas.List.Edits.{get_or-insert_below, get_or-remove_below}
use Rattle.site_forms.specs.Names.{is_listed}
use Rattle.site_forms.specs.VolumeRecords.{IsChunkName}
use Rattle.site_forms.specs.Volumes.{bytes_cmp, Files, Shape, used, pair_count, distinct_count, all_lists, holds_all, with_chunk, with_file, without_file, without_chunk}
use Rattle.volume_index.proofs.MapValues.{insert-map_values, remove-map_values, contains-map_values, get-map_values}
use Rattle.volume_index.proofs.Alls.{get_with, get_without, get_at}
use Rattle.volume_index.proofs.Joins.{CountsAll, same_lengths, same_held, counts_with, counts_without, new_filter, last_filter, users_told}
use Rattle.volume_index.proofs.Keys.{same_keys}
use Rattle.volume_index.proofs.Ranks.{keys_with, keys_without, count_keys, listed_at, place_of, rank_of_place}
use Rattle.volume_index.proofs.Shapes.{MayAdd, keeps_with_chunk, keeps_without_chunk, keeps_with_file, keeps_without_file, lacking_unused}
use Rattle.volume_index.proofs.Users.{used_with, pairs_with, used_without, pairs_without, sum_insert, sum_remove, users_with, users_without}
use Rattle.volume_index.specs.declared.chunk_table.Change.TheVariants.{Join, Leave}
use Rattle.volume_index.specs.declared.chunk_table.ChunkEntry.{ChunkEntry}
use Rattle.volume_index.specs.declared.chunk_table.ListCounts.{ListCounts}
use Rattle.volume_index.specs.declared.index.Index.TheInside.{Inside}
use Rattle.volume_index.specs.ChunkTables.{Entries, IsRank, new_entry, has_users, CountsList, ChangesUsers, ListMayChange, AreFree}
use Rattle.volume_index.specs.FileTables.{FileTableValue}
use Rattle.volume_index.specs.HoldingValues.{KeepsShape, held_bytes}
use Rattle.volume_index.specs.IndexInside.{view_of, KeepsIndex, CountsUsers}
use Rattle.volume_index.specs.MapValues.{map_values}
use Rattle.volume_index.specs.Users.{use_of, user_count}

abbrev pub len_of : ChunkEntry → ℕ
len_of e = e.len

-- the shape of entries and files
abbrev pub shape_by : Entries → Files → Shape
shape_by entries files = record { chunks = map_values len_of entries; files = files }

-- the entries count the files
pub counts_of : (a : Inside) → KeepsIndex a → CountsAll a.files.files a.chunks.entries
counts_of a keeps q e is = ((keeps.users q e is).users, (keeps.users q e is).free)

pub free_of : (a : Inside) → KeepsIndex a → AreFree a.chunks.entries
free_of a keeps q e is = (keeps.users q e is).free

counted : (files : Files) (entries : Entries) → CountsAll files entries → (q : List ℕ) (e : ChunkEntry) → map.get entries q ≡ Some e → CountsUsers files q e
counted files entries all q e is = record { users = (all q e is).0; free = (all q e is).1 }

-- all chunks of a list are held among the entries, too
same_tests : (p q : List ℕ → Bool) (list : List (List ℕ)) → ((x : List ℕ) → p x ≡ q x) → list_all p list ≡ list_all q list
same_tests p q list same = ap (λ (f : List ℕ → Bool). list_all f list) (λ i x. same x i)

pub list_held : (entries : Entries) (files : Files) (list : List (List ℕ)) → holds_all (shape_by entries files) list ≡ list_all (map.contains_key entries) list
list_held entries files list = same_tests (map.contains_key (map_values len_of entries)) (map.contains_key entries) list (contains-map_values len_of entries)

-- the chunks before a place are used
abbrev pub UsedBefore : Entries → ℕ → Type 0
UsedBefore entries first = (j : ℕ) → j < first → has_users 0 entries (get_or (map.keys entries) j []) ≡ false

key_in : (entries : Entries) (j : ℕ) → j < length (map.keys entries) → map.contains_key entries (get_or (map.keys entries) j []) ≡ true
key_in entries j inside = map.contains_key-keys entries (get_or (map.keys entries) j []) ∙ listed_at (get_or (map.keys entries) j []) (map.keys entries) j inside refl

-- A CHUNK MORE

apart_key : (entries : Entries) (name q : List ℕ) → map.contains_key entries name ≡ false → map.contains_key entries q ≡ true → eq_by_cmp bytes_cmp q name ≡ false
apart_key entries name q lacking held = false_from_ne_true (eq_by_cmp bytes_cmp q name) (λ ties.
    true≢false (sym held ∙ ap (λ (x : List ℕ). map.contains_key entries x) (same_text q name (sym (texts_ties q name ∙ ties))) ∙ lacking))

same_users : (users : ℕ) (old new : Entries) (q : List ℕ) → map.get new q ≡ map.get old q → has_users users new q ≡ has_users users old q
same_users users old new q is = ap (λ (o : Option ChunkEntry). option_map_or (λ (e : ChunkEntry). e.users == users) o false) is

used_before_with : (entries : Entries) (name : List ℕ) (e : ChunkEntry) (rank first : ℕ) → IsRank (map.keys entries) name rank → map.contains_key entries name ≡ false → first ≤ rank → UsedBefore entries first → UsedBefore (map.insert entries name e) first
used_before_with entries name e rank first ranked lacking before used j less =
    let old = get_or (map.keys entries) j [] in
    let inside : j < length (map.keys entries) = omega (arith, less, before, ranked.within) in
    let key : get_or (map.keys (map.insert entries name e)) j [] ≡ old =
    ap (λ (l : List (List ℕ)). get_or l j []) (keys_with entries name rank ranked e lacking) ∙ get_or-insert_below (map.keys entries) rank name [] j (omega (arith, less, before)) ranked.within in
    ap (λ (q : List ℕ). has_users 0 (map.insert entries name e) q) key
    ∙ same_users 0 entries (map.insert entries name e) old (map.get-insert nat_list_cmp_total entries name e old ∙ ap (λ (b : Bool). cond b (Some e) (map.get entries old)) (apart_key entries name old lacking (key_in entries j inside)))
    ∙ used j less

-- what is known where a chunk joins
pub record JoinsChunk (a b : Inside) (name : List ℕ) (place len : ℕ) : Type 0 where
  pub lacking : map.contains_key a.chunks.entries name ≡ false
  pub named : IsChunkName name
  pub some : 1 ≤ len
  pub most : len ≤ 2 ^ 20
  pub entries : b.chunks.entries ≡ map.insert a.chunks.entries name (new_entry place len)
  pub files : b.files ≡ a.files
  pub used : b.used ≡ a.used
  pub pairs : b.pairs ≡ a.pairs
  pub bytes : b.bytes ≡ a.bytes + len
  pub few : b.first ≤ a.first
  pub first : (b.first ≡ 0) ⊎ ((rank : ℕ) × IsRank (map.keys a.chunks.entries) name rank × (b.first ≤ rank))

pub shape_with : (entries : Entries) (files : Files) (name : List ℕ) (place len : ℕ) → shape_by (map.insert entries name (new_entry place len)) files ≡ with_chunk (shape_by entries files) name len
shape_with entries files name place len = λ i. record { chunks = insert-map_values len_of entries name (new_entry place len) i; files = files }

module _ (a b : Inside) (name : List ℕ) (place len : ℕ) (keeps : KeepsIndex a) (joins : JoinsChunk a b name place len) where
  lacks_length : map.contains_key (map_values len_of a.chunks.entries) name ≡ false
  lacks_length = contains-map_values len_of a.chunks.entries name ∙ joins.lacking

  pub chunk_in_shape : (view_of b).shape ≡ with_chunk (view_of a).shape name len
  chunk_in_shape =
      (λ i. shape_by (joins.entries i) (joins.files i).files)
      ∙ shape_with a.chunks.entries a.files.files name place len

  chunk_in_users : (q : List ℕ) (e : ChunkEntry) → map.get b.chunks.entries q ≡ Some e → CountsUsers b.files.files q e
  chunk_in_users q e is = subst (λ (f : Files). CountsUsers f q e) (sym (ap (λ (t : FileTableValue). t.files) joins.files))
      (get_with (λ x entry. CountsUsers a.files.files x entry) a.chunks.entries name (new_entry place len)
      (record { users = sym (lacking_unused (view_of a).shape name keeps.shape lacks_length); free = refl }) keeps.users q e (ap (λ (m : Entries). map.get m q) (sym joins.entries) ∙ is))

  chunk_in_bytes : b.bytes ≡ held_bytes (view_of b).shape
  chunk_in_bytes =
      let sum = sum_insert (λ n. n) (map_values len_of a.chunks.entries) name len lacks_length in
      let told : held_bytes (view_of b).shape ≡ held_bytes (with_chunk (view_of a).shape name len) = ap held_bytes chunk_in_shape in
      omega (arith, joins.bytes, keeps.bytes, told, sum)

  longer : map.len b.chunks.entries ≡ map.len a.chunks.entries + 1
  longer = ap map.len joins.entries ∙ map.len-insert nat_list_cmp_total a.chunks.entries name (new_entry place len) ∙ ap (λ (c : Bool). cond c (map.len a.chunks.entries) (map.len a.chunks.entries + 1)) joins.lacking

  chunk_in_first : UsedBefore b.chunks.entries b.first
  chunk_in_first = ⊎_elim
      (λ (zero_first : b.first ≡ 0) (j : ℕ) (less : j < b.first). absurd (omega (arith, zero_first, less)))
      (λ (ranked : (rank : ℕ) × IsRank (map.keys a.chunks.entries) name rank × (b.first ≤ rank)) (j : ℕ) (less : j < b.first).
      subst (λ (m : Entries). has_users 0 m (get_or (map.keys m) j []) ≡ false) (sym joins.entries)
      (used_before_with a.chunks.entries name (new_entry place len) ranked.0 b.first ranked.1 joins.lacking ranked.2 (λ k below. keeps.first k (omega (arith, below, joins.few))) j less))
      joins.first

  pub kept_chunk_in : KeepsIndex b
  kept_chunk_in = record {
    shape = subst KeepsShape (sym chunk_in_shape) (keeps_with_chunk (view_of a).shape name len keeps.shape joins.named joins.some joins.most);
    users = chunk_in_users;
    used = joins.used ∙ keeps.used ∙ ap (λ (f : FileTableValue). map.len (used f.files)) (sym joins.files);
    pairs = joins.pairs ∙ keeps.pairs ∙ ap (λ (f : FileTableValue). pair_count f.files) (sym joins.files);
    bytes = chunk_in_bytes;
    within = omega (arith, joins.few, keeps.within, longer);
    first = chunk_in_first;
  }

-- A CHUNK LESS

-- what is known where a chunk leaves
pub record LeavesChunk (a b : Inside) (name : List ℕ) (e : ChunkEntry) : Type 0 where
  pub held : map.get a.chunks.entries name ≡ Some e
  pub unused : user_count a.files.files name ≡ 0
  pub entries : b.chunks.entries ≡ map.remove a.chunks.entries name
  pub files : b.files ≡ a.files
  pub used : b.used ≡ a.used
  pub pairs : b.pairs ≡ a.pairs
  pub bytes : b.bytes + e.len ≡ a.bytes
  pub first : UsedBefore a.chunks.entries b.first
  pub within : b.first ≤ map.len a.chunks.entries

module _ (a b : Inside) (name : List ℕ) (e : ChunkEntry) (keeps : KeepsIndex a) (leaves : LeavesChunk a b name e) where
  is_held : map.contains_key a.chunks.entries name ≡ true
  is_held = ap is_some leaves.held

  stand : (k : ℕ) × (k < length (map.keys a.chunks.entries)) × (get_or (map.keys a.chunks.entries) k [] ≡ name)
  stand = place_of name (map.keys a.chunks.entries) (sym (map.contains_key-keys a.chunks.entries name) ∙ is_held)

  is_unused : has_users 0 a.chunks.entries name ≡ true
  is_unused = users_told a.files.files a.chunks.entries 0 name (counts_of a keeps) is_held ∙ eq-eqb (user_count a.files.files name) 0 leaves.unused

  -- it stands at or behind the first place that may be unused
  behind_first : b.first ≤ stand.0
  behind_first = ⊎_elim
      (λ (less : stand.0 < b.first). absurd (true≢false (sym is_unused ∙ ap (has_users 0 a.chunks.entries) (sym stand.2) ∙ leaves.first stand.0 less)))
      (λ (behind : b.first ≤ stand.0). behind)
      (cases_lt stand.0 b.first)

  pub chunk_out_shape : (view_of b).shape ≡ without_chunk (view_of a).shape name
  chunk_out_shape =
      (λ i. shape_by (leaves.entries i) (leaves.files i).files)
      ∙ (λ i. record { chunks = remove-map_values len_of a.chunks.entries name i; files = a.files.files })

  chunk_out_bytes : b.bytes ≡ held_bytes (view_of b).shape
  chunk_out_bytes =
      let sum = sum_remove (λ n. n) (map_values len_of a.chunks.entries) name e.len (get-map_values len_of a.chunks.entries name ∙ ap (option_map len_of) leaves.held) in
      let told : held_bytes (view_of b).shape ≡ held_bytes (without_chunk (view_of a).shape name) = ap held_bytes chunk_out_shape in
      omega (arith, leaves.bytes, keeps.bytes, told, sum)

  shorter : map.len b.chunks.entries + 1 ≡ map.len a.chunks.entries
  shorter =
      let less : map.len b.chunks.entries ≡ map.len a.chunks.entries - 1 =
      ap map.len leaves.entries ∙ map.len-remove nat_list_cmp_total a.chunks.entries name ∙ ap (λ (c : Bool). cond c (map.len a.chunks.entries - 1) (map.len a.chunks.entries)) is_held in
      omega (arith, less, stand.1, count_keys a.chunks.entries)

  chunk_out_first : UsedBefore b.chunks.entries b.first
  chunk_out_first j less =
      let m = a.chunks.entries in
      let old = get_or (map.keys m) j [] in
      let before : j < stand.0 = omega (arith, less, behind_first) in
      let inside : j < length (map.keys m) = omega (arith, before, stand.1) in
      let key : get_or (map.keys (map.remove m name)) j [] ≡ old =
      ap (λ (l : List (List ℕ)). get_or l j []) (keys_without m name stand.0 (rank_of_place m name stand.0 stand.1 stand.2) is_held) ∙ get_or-remove_below (map.keys m) stand.0 [] j before stand.1 in
      let other : eq_by_cmp bytes_cmp old name ≡ false = false_from_ne_true (eq_by_cmp bytes_cmp old name) (λ ties.
      true≢false (sym is_unused ∙ ap (has_users 0 m) (sym (same_text old name (sym (texts_ties old name ∙ ties)))) ∙ leaves.first j less)) in
      subst (λ (n : Entries). has_users 0 n (get_or (map.keys n) j []) ≡ false) (sym leaves.entries)
      (ap (λ (q : List ℕ). has_users 0 (map.remove m name) q) key
      ∙ same_users 0 m (map.remove m name) old (map.get-remove nat_list_cmp_total m name old ∙ ap (λ (c : Bool). cond c None (map.get m old)) other)
      ∙ leaves.first j less)

  pub kept_chunk_out : KeepsIndex b
  kept_chunk_out = record {
    shape = subst KeepsShape (sym chunk_out_shape) (keeps_without_chunk (view_of a).shape name keeps.shape leaves.unused);
    users = λ q x is. subst (λ (f : Files). CountsUsers f q x) (sym (ap (λ (t : FileTableValue). t.files) leaves.files))
        (get_without (λ y entry. CountsUsers a.files.files y entry) a.chunks.entries name (λ y entry _ found. keeps.users y entry found) q x (ap (λ (m : Entries). map.get m q) (sym leaves.entries) ∙ is));
    used = leaves.used ∙ keeps.used ∙ ap (λ (f : FileTableValue). map.len (used f.files)) (sym leaves.files);
    pairs = leaves.pairs ∙ keeps.pairs ∙ ap (λ (f : FileTableValue). pair_count f.files) (sym leaves.files);
    bytes = chunk_out_bytes;
    within = omega (arith, behind_first, stand.1, count_keys a.chunks.entries, shorter);
    first = chunk_out_first;
  }

-- A FILE MORE

-- what is known where a file joins
pub record JoinsFile (a b : Inside) (name : List ℕ) (list : List (List ℕ)) (counts : ListCounts) : Type 0 where
  pub may : MayAdd (view_of a).shape name list
  pub changes : ChangesUsers Join list a.chunks.entries b.chunks.entries
  pub told : CountsList 0 a.chunks.entries list counts
  pub files : b.files.files ≡ map.insert a.files.files name list
  pub used : b.used ≡ a.used + counts.matching
  pub pairs : b.pairs ≡ a.pairs + counts.distinct
  pub bytes : b.bytes ≡ a.bytes
  pub first : b.first ≡ a.first

more_used : (k n s : ℕ) → s ≡ k + n → (n == 0) ≡ false → (s == 0) ≡ false
more_used k n s is some = ne_eqb s 0 (λ (z : s ≡ 0). true≢false (sym (eq-eqb n 0 (omega (arith, is, z))) ∙ some))

module _ (a b : Inside) (name : List ℕ) (list : List (List ℕ)) (counts : ListCounts) (keeps : KeepsIndex a) (joins : JoinsFile a b name list counts) where
  pub file_in_shape : (view_of b).shape ≡ with_file (view_of a).shape name list
  file_in_shape = λ i. record { chunks = same_lengths Join list a.chunks.entries b.chunks.entries joins.changes i; files = joins.files i }

  new_counts : CountsAll (map.insert a.files.files name list) b.chunks.entries
  new_counts = counts_with a.files.files name list a.chunks.entries b.chunks.entries joins.may.lacking joins.changes (counts_of a keeps)

  same_key_list : map.keys b.chunks.entries ≡ map.keys a.chunks.entries
  same_key_list = same_keys b.chunks.entries a.chunks.entries (same_held Join list a.chunks.entries b.chunks.entries joins.changes)

  held_list : list_all (map.contains_key a.chunks.entries) list ≡ true
  held_list = sym (list_held a.chunks.entries a.files.files list) ∙ joins.may.held

  file_in_first : UsedBefore b.chunks.entries b.first
  file_in_first j less =
      let key = get_or (map.keys a.chunks.entries) j [] in
      let earlier : j < a.first = omega (arith, less, joins.first) in
      let held : map.contains_key a.chunks.entries key ≡ true = key_in a.chunks.entries j (omega (arith, earlier, keeps.within, count_keys a.chunks.entries)) in
      ap (λ (l : List (List ℕ)). has_users 0 b.chunks.entries (get_or l j [])) same_key_list
      ∙ users_told (map.insert a.files.files name list) b.chunks.entries 0 key new_counts (same_held Join list a.chunks.entries b.chunks.entries joins.changes key ∙ held)
      ∙ more_used (use_of key list) (user_count a.files.files key) (user_count (map.insert a.files.files name list) key) (users_with a.files.files name list key joins.may.lacking)
      (sym (users_told a.files.files a.chunks.entries 0 key (counts_of a keeps) held) ∙ keeps.first j earlier)

  file_in_used : b.used ≡ map.len (used b.files.files)
  file_in_used =
      let filtered : distinct_count (filter (has_users 0 a.chunks.entries) list) ≡ distinct_count (filter (λ n. not (is_listed (all_lists a.files.files) n)) list) =
      ap distinct_count (new_filter a.files.files a.chunks.entries list (counts_of a keeps) held_list) in
      let more = used_with a.files.files name list joins.may.lacking in
      let told : map.len (used b.files.files) ≡ map.len (used (map.insert a.files.files name list)) = ap (λ (f : Files). map.len (used f)) joins.files in
      omega (arith, joins.used, keeps.used, joins.told.matching, filtered, more, told)

  pub kept_file_in : KeepsIndex b
  kept_file_in = record {
    shape = subst KeepsShape (sym file_in_shape) (keeps_with_file (view_of a).shape name list keeps.shape joins.may);
    users = λ q e is. subst (λ (f : Files). CountsUsers f q e) (sym joins.files) (counted (map.insert a.files.files name list) b.chunks.entries new_counts q e is);
    used = file_in_used;
    pairs = omega (arith, joins.pairs, keeps.pairs, joins.told.distinct, pairs_with a.files.files name list joins.may.lacking, ap pair_count joins.files);
    bytes = joins.bytes ∙ keeps.bytes ∙ ap (λ (m : map.FinMap bytes_cmp ℕ). sum_by (λ n. n) (map.values m)) (sym (same_lengths Join list a.chunks.entries b.chunks.entries joins.changes));
    within = omega (arith, joins.first, keeps.within, count_keys a.chunks.entries, count_keys b.chunks.entries, ap length same_key_list);
    first = file_in_first;
  }

-- A FILE LESS

-- what is known where a file leaves
pub record LeavesFile (a b : Inside) (name : List ℕ) (list : List (List ℕ)) (counts : ListCounts) : Type 0 where
  pub found : map.get a.files.files name ≡ Some list
  pub changes : ChangesUsers Leave list a.chunks.entries b.chunks.entries
  pub told : CountsList 1 a.chunks.entries list counts
  pub files : b.files.files ≡ map.remove a.files.files name
  pub used : b.used + counts.matching ≡ a.used
  pub pairs : b.pairs + counts.distinct ≡ a.pairs
  pub bytes : b.bytes ≡ a.bytes
  pub few : b.first ≤ a.first
  pub first : (j : ℕ) → j < b.first → is_listed list (get_or (map.keys b.chunks.entries) j []) ≡ false

still_used : (b : Bool) (n s : ℕ) → s ≡ (if b then 1 else 0) + n → b ≡ false → (s == 0) ≡ false → (n == 0) ≡ false
still_used true n s is unlisted some = absurd (true≢false unlisted)
still_used false n s is unlisted some = ne_eqb n 0 (λ (z : n ≡ 0). true≢false (sym (eq-eqb s 0 (omega (arith, is, z))) ∙ some))

module _ (a b : Inside) (name : List ℕ) (list : List (List ℕ)) (counts : ListCounts) (keeps : KeepsIndex a) (leaves : LeavesFile a b name list counts) where
  pub file_out_shape : (view_of b).shape ≡ without_file (view_of a).shape name
  file_out_shape = λ i. record { chunks = same_lengths Leave list a.chunks.entries b.chunks.entries leaves.changes i; files = leaves.files i }

  left_counts : CountsAll (map.remove a.files.files name) b.chunks.entries
  left_counts = counts_without a.files.files name list a.chunks.entries b.chunks.entries leaves.found leaves.changes (counts_of a keeps)

  same_key_list_out : map.keys b.chunks.entries ≡ map.keys a.chunks.entries
  same_key_list_out = same_keys b.chunks.entries a.chunks.entries (same_held Leave list a.chunks.entries b.chunks.entries leaves.changes)

  file_out_first : UsedBefore b.chunks.entries b.first
  file_out_first j less =
      let key = get_or (map.keys a.chunks.entries) j [] in
      let earlier : j < a.first = omega (arith, less, leaves.few) in
      let held : map.contains_key a.chunks.entries key ≡ true = key_in a.chunks.entries j (omega (arith, earlier, keeps.within, count_keys a.chunks.entries)) in
      let unlisted : is_listed list key ≡ false = ap (λ (l : List (List ℕ)). is_listed list (get_or l j [])) (sym same_key_list_out) ∙ leaves.first j less in
      ap (λ (l : List (List ℕ)). has_users 0 b.chunks.entries (get_or l j [])) same_key_list_out
      ∙ users_told (map.remove a.files.files name) b.chunks.entries 0 key left_counts (same_held Leave list a.chunks.entries b.chunks.entries leaves.changes key ∙ held)
      ∙ still_used (is_listed list key) (user_count (map.remove a.files.files name) key) (user_count a.files.files key) (users_without a.files.files name list key leaves.found) unlisted
      (sym (users_told a.files.files a.chunks.entries 0 key (counts_of a keeps) held) ∙ keeps.first j earlier)

  held_list_out : list_all (map.contains_key a.chunks.entries) list ≡ true
  held_list_out = sym (list_held a.chunks.entries a.files.files list) ∙ keeps.shape.held name list leaves.found

  filtered_out : distinct_count (filter (has_users 1 a.chunks.entries) list) ≡ distinct_count (filter (λ n. not (is_listed (all_lists (map.remove a.files.files name)) n)) list)
  filtered_out = ap distinct_count (last_filter a.files.files name a.chunks.entries list leaves.found (counts_of a keeps) held_list_out)

  fewer_files : map.len (map.remove a.files.files name) ≤ map.len a.files.files
  fewer_files = omega (arith, map.len-remove nat_list_cmp_total a.files.files name ∙ ap (λ (c : Bool). cond c (map.len a.files.files - 1) (map.len a.files.files)) (ap is_some leaves.found))

  pub kept_file_out : KeepsIndex b
  kept_file_out = record {
    shape = subst KeepsShape (sym file_out_shape) (keeps_without_file (view_of a).shape name keeps.shape fewer_files
        (omega (arith, used_without a.files.files name list leaves.found)) (omega (arith, pairs_without a.files.files name list leaves.found)));
    users = λ q e is. subst (λ (f : Files). CountsUsers f q e) (sym leaves.files) (counted (map.remove a.files.files name) b.chunks.entries left_counts q e is);
    used = omega (arith, leaves.used, keeps.used, leaves.told.matching, filtered_out, used_without a.files.files name list leaves.found, ap (λ (f : Files). map.len (used f)) leaves.files);
    pairs = omega (arith, leaves.pairs, keeps.pairs, leaves.told.distinct, pairs_without a.files.files name list leaves.found, ap pair_count leaves.files);
    bytes = leaves.bytes ∙ keeps.bytes ∙ ap (λ (m : map.FinMap bytes_cmp ℕ). sum_by (λ n. n) (map.values m)) (sym (same_lengths Leave list a.chunks.entries b.chunks.entries leaves.changes));
    within = omega (arith, leaves.few, keeps.within, count_keys a.chunks.entries, count_keys b.chunks.entries, ap length same_key_list_out);
    first = file_out_first;
  }

-- THE SAME FILES AND CHUNKS

pub same_shape : (a b : Inside) → b.chunks.entries ≡ a.chunks.entries → b.files.files ≡ a.files.files → (view_of b).shape ≡ (view_of a).shape
same_shape a b entries files = λ i. shape_by (entries i) (files i)

pub kept_same : (a b : Inside) → KeepsIndex a → b.chunks.entries ≡ a.chunks.entries → b.files.files ≡ a.files.files → b.used ≡ a.used → b.pairs ≡ a.pairs → b.bytes ≡ a.bytes → b.first ≤ a.first → KeepsIndex b
kept_same a b keeps entries files same_used same_pairs same_bytes few = record {
  shape = subst KeepsShape (sym (same_shape a b entries files)) keeps.shape;
  users = λ q e is. subst (λ (f : Files). CountsUsers f q e) (sym files) (keeps.users q e (ap (λ (m : Entries). map.get m q) (sym entries) ∙ is));
  used = same_used ∙ keeps.used ∙ ap (λ (f : Files). map.len (used f)) (sym files);
  pairs = same_pairs ∙ keeps.pairs ∙ ap pair_count (sym files);
  bytes = same_bytes ∙ keeps.bytes ∙ ap held_bytes (sym (same_shape a b entries files));
  within = omega (arith, few, keeps.within, ap (λ (m : Entries). map.len m) entries);
  first = λ j less. ap (λ (m : Entries). has_users 0 m (get_or (map.keys m) j [])) entries ∙ keeps.first j (omega (arith, less, few));
}

-- NUMBERS THAT FIT

sum_within : (xs : List ℕ) → All (λ n. n ≤ 2 ^ 20) xs → sum_by (λ n. n) xs ≤ length xs * 2 ^ 20
sum_within [] all = omega arith
sum_within (x ∷ xs) all = omega (arith, sum_by-cons (λ (n : ℕ). n) x xs, All-head (λ n. n ≤ 2 ^ 20) x xs all, sum_within xs (All-tail (λ n. n ≤ 2 ^ 20) x xs all))

pub values_long : {X : Type 0} (m : map.FinMap bytes_cmp X) → length (map.values m) ≡ map.len m
values_long {X} m = length-map (map.entries m) (λ (e : List ℕ × X). e.1) ∙ sym (map.len-entries m)

keys_long : {X : Type 0} (m : map.FinMap bytes_cmp X) → length (map.keys m) ≡ map.len m
keys_long {X} m = length-map (map.entries m) (λ (e : List ℕ × X). e.0) ∙ sym (map.len-entries m)

-- the lengths of entries are as many as the entries
pub chunk_keys : (entries : Entries) → map.keys (map_values len_of entries) ≡ map.keys entries
chunk_keys entries = same_keys (map_values len_of entries) entries (contains-map_values len_of entries)

pub chunk_many : (entries : Entries) → map.len (map_values len_of entries) ≡ map.len entries
chunk_many entries = sym (keys_long (map_values len_of entries)) ∙ ap length (chunk_keys entries) ∙ keys_long entries

-- all chunks together have fewer than 2^53 bytes
pub bytes_few : (a : Inside) → KeepsIndex a → map.len a.chunks.entries ≤ 2 ^ 32 → a.bytes ≤ 2 ^ 52
bytes_few a keeps few =
    omega (arith, keeps.bytes, sum_within (map.values (map_values len_of a.chunks.entries)) keeps.shape.most, values_long (map_values len_of a.chunks.entries), chunk_many a.chunks.entries, few)

-- a chunk's bytes are among all
pub bytes_include : (a : Inside) (name : List ℕ) (e : ChunkEntry) → KeepsIndex a → map.get a.chunks.entries name ≡ Some e → e.len ≤ a.bytes
bytes_include a name e keeps held =
    omega (arith, keeps.bytes, sum_remove (λ n. n) (map_values len_of a.chunks.entries) name e.len (get-map_values len_of a.chunks.entries name ∙ ap (option_map len_of) held))

-- the three counts keep the limits
pub record Few (a : Inside) : Type 0 where
  pub files : map.len a.files.files ≤ MOST_FILES
  pub used : a.used ≤ MOST_CHUNKS
  pub pairs : a.pairs ≤ MOST_PAIRS

pub few_of : (a : Inside) → KeepsIndex a → Few a
few_of a keeps =
    let all = sym (counts_decide (view_of a).shape a.files.files keeps.shape.most) ∙ keeps.shape.limits in
    let p = and_parts (nat_le (map.len a.files.files) MOST_FILES) _ all in
    let q = and_parts (nat_le (map.len (used a.files.files)) MOST_CHUNKS) _ p.1 in
    record {
      files = leb-true (map.len a.files.files) MOST_FILES p.0;
      used = omega (arith, keeps.used, leb-true (map.len (used a.files.files)) MOST_CHUNKS q.0);
      pairs = omega (arith, keeps.pairs, leb-true (pair_count a.files.files) MOST_PAIRS q.1);
    }

-- no list has more distinct names than names
few_distinct : (c : Bool) (n m : ℕ) → n ≤ m → cond c n (n + 1) ≤ m + 1
few_distinct true n m few = omega (arith, few)
few_distinct false n m few = omega (arith, few)

pub distinct_few : (list : List (List ℕ)) → distinct_count list ≤ length list
distinct_few [] = omega (arith, count_none)
distinct_few (x ∷ xs) = omega (arith, count_first xs x, few_distinct (is_listed xs x) (distinct_count xs) (length xs) (distinct_few xs))

filter_shorter : (p : List ℕ → Bool) (xs : List (List ℕ)) → length (filter p xs) ≤ length xs
filter_shorter p [] = omega arith
filter_shorter p (x ∷ xs) = elim (p x) as (λ b. length (cond b (x ∷ filter p xs) (filter p xs)) ≤ length (x ∷ xs)) [ true ↦ omega (arith, filter_shorter p xs) | false ↦ omega (arith, filter_shorter p xs) ]

pub matching_few : (p : List ℕ → Bool) (list : List (List ℕ)) → distinct_count (filter p list) ≤ length list
matching_few p list = omega (arith, distinct_few (filter p list), filter_shorter p list)

-- USERS THAT CAN CHANGE

at_most_one : (b : Bool) → (if b then 1 else 0) ≤ 1
at_most_one true = omega arith
at_most_one false = omega arith

use_few : (q : List ℕ) (lists : List (List (List ℕ))) → sum_by (use_of q) lists ≤ length lists
use_few q [] = omega arith
use_few q (list ∷ lists) = omega (arith, sum_by-cons (use_of q) list lists, at_most_one (is_listed list q), use_few q lists)

-- one user more fits
pub may_join : (a : Inside) (list : List (List ℕ)) → KeepsIndex a → ListMayChange Join list a.chunks.entries
may_join a list keeps q e listed is =
    omega (arith, (keeps.users q e is).users, use_few q (map.values a.files.files), values_long a.files.files, (few_of a keeps).files)

one_use : (b : Bool) (n s : ℕ) → b ≡ true → s ≡ (if b then 1 else 0) + n → 1 ≤ s
one_use true n s listed is = omega (arith, is)
one_use false n s listed is = absurd (true≢false (sym listed))

-- a chunk of a file's list has a user
pub may_leave : (a : Inside) (name : List ℕ) (list : List (List ℕ)) → KeepsIndex a → map.get a.files.files name ≡ Some list → ListMayChange Leave list a.chunks.entries
may_leave a name list keeps found q e listed is =
    omega (arith, (keeps.users q e is).users, one_use (is_listed list q) (user_count (map.remove a.files.files name) q) (user_count a.files.files q) listed (users_without a.files.files name list q found))

-- the list of the file at a place
pub file_at : (files : Files) (place : ℕ) (list : List (List ℕ)) → place < map.len files → slice_get (map.values files) place ≡ Some list → map.get files (get_or (map.keys files) place []) ≡ Some list
file_at files place list inside at = get_at files place list (omega (arith, inside, count_keys files)) ∙ ap Some (get_or_from_slice_get (map.values files) place list list at)

pub name_of_place : (files : Files) (place : ℕ) → place < map.len files → slice_get (map.keys files) place ≡ Some (get_or (map.keys files) place [])
name_of_place files place inside = slice_get-get_or (map.keys files) place [] (omega (arith, inside, count_keys files))

-- the counts of a file's list are among those of all files
pub used_include : (a : Inside) (name : List ℕ) (list : List (List ℕ)) (counts : ListCounts) → KeepsIndex a → map.get a.files.files name ≡ Some list → CountsList 1 a.chunks.entries list counts → (counts.matching ≤ a.used) × (counts.distinct ≤ a.pairs)
used_include a name list counts keeps found told =
    let held = sym (list_held a.chunks.entries a.files.files list) ∙ keeps.shape.held name list found in
    let filtered = ap distinct_count (last_filter a.files.files name a.chunks.entries list found (counts_of a keeps) held) in
    (omega (arith, told.matching, filtered, keeps.used, used_without a.files.files name list found), omega (arith, told.distinct, keeps.pairs, pairs_without a.files.files name list found))
