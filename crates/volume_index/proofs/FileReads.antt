-- What a table of files reads and writes.
use Rattle.std.proofs.Common.{◌≡◌, ◌≢◌, ℕ, ◌<◌, List, [], length, get_or, Bool, true, false, Some, refl, sym, ◌∙◌, ap, subst, arith}
use Rattle.std.specs.Prelude.{map as each, slice_get, option_map}
use Rattle.std.specs.List.{insert, remove}
use Rattle.std.specs.String.{string_bytes}
use lib.Dec.{T}
use Rattle.std.specs.FinMap as map
use Rattle.std.specs.FinMap.Entries.{is_sorted}
use Rattle.std.proofs.lemmas.Bool.{false_from_ne_true}
use Rattle.std.proofs.lemmas.List.{length-map}
use Rattle.std.proofs.lemmas.Option.{slice_get_read, slice_get-map, get_or_from_slice_get, slice_get_within}
use Rattle.site_forms.specs.Volumes.{bytes_cmp, Files}
use Rattle.volume_index.proofs.Ranks.{each_insert, each_remove, entries_with, entries_without, rank_found, rank_of_place, count_keys, listed_at}
use Rattle.volume_index.specs.declared.file_table.FileEntry.{FileEntry}
use Rattle.volume_index.specs.ChunkTables.{IsRank}
use Rattle.volume_index.specs.FileTables.{file_pair}

abbrev pub files_of : List FileEntry → Files
files_of items = map.from_sorted (each file_pair items)

abbrev pub AreSorted : List FileEntry → Type 0
AreSorted items = is_sorted bytes_cmp (each file_pair items) ≡ true

told : (b : Bool) → T b → b ≡ true
told true h = refl
told false h = absurd h

entries_of : (items : List FileEntry) → AreSorted items → map.entries (files_of items) ≡ each file_pair items
entries_of items sorted = map.entries-from_sorted bytes_cmp (each file_pair items) (subst T (sym sorted) tt)

same_files : (m : Files) → map.from_sorted (map.entries m) ≡ m
same_files m = map.same_entries_map (map.from_sorted (map.entries m)) m (map.entries-from_sorted bytes_cmp (map.entries m) (map.entries_sorted m))

pub file_count : (items : List FileEntry) → AreSorted items → map.len (files_of items) ≡ length items
file_count items sorted = map.len-entries (files_of items) ∙ ap length (entries_of items sorted) ∙ length-map items file_pair

at_place : (items : List FileEntry) (place : ℕ) (file : FileEntry) → place < length items → file ≡ get_or items place file → slice_get (each file_pair items) place ≡ Some (file_pair file)
at_place items place file inside is = slice_get-map file_pair items place ∙ ap (option_map file_pair) (slice_get_read items (length items) place file refl inside is)

pub name_there : (items : List FileEntry) (place : ℕ) (file : FileEntry) → AreSorted items → place < length items → file ≡ get_or items place file → slice_get (map.keys (files_of items)) place ≡ Some (string_bytes file.name)
name_there items place file sorted inside is =
    ap (λ (l : List (List ℕ × List (List ℕ))). slice_get (each (λ e. e.0) l) place) (entries_of items sorted)
    ∙ slice_get-map (λ (e : List ℕ × List (List ℕ)). e.0) (each file_pair items) place
    ∙ ap (option_map (λ (e : List ℕ × List (List ℕ)). e.0)) (at_place items place file inside is)

pub list_there : (items : List FileEntry) (place : ℕ) (file : FileEntry) → AreSorted items → place < length items → file ≡ get_or items place file → slice_get (map.values (files_of items)) place ≡ Some file.chunks.items
list_there items place file sorted inside is =
    ap (λ (l : List (List ℕ × List (List ℕ))). slice_get (each (λ e. e.1) l) place) (entries_of items sorted)
    ∙ slice_get-map (λ (e : List ℕ × List (List ℕ)). e.1) (each file_pair items) place
    ∙ ap (option_map (λ (e : List ℕ × List (List ℕ)). e.1)) (at_place items place file inside is)

-- A FILE MORE

put_entries : (items : List FileEntry) (file : FileEntry) (rank : ℕ) → AreSorted items → IsRank (map.keys (files_of items)) (string_bytes file.name) rank → map.contains_key (files_of items) (string_bytes file.name) ≡ false
    → each file_pair (insert items rank file) ≡ map.entries (map.insert (files_of items) (string_bytes file.name) file.chunks.items)
put_entries items file rank sorted ranked lacking =
    each_insert file_pair items rank file
    ∙ ap (λ (l : List (List ℕ × List (List ℕ))). insert l rank (file_pair file)) (sym (entries_of items sorted))
    ∙ sym (entries_with (files_of items) (string_bytes file.name) rank ranked file.chunks.items lacking)

pub put_sorted : (items : List FileEntry) (file : FileEntry) (rank : ℕ) → AreSorted items → IsRank (map.keys (files_of items)) (string_bytes file.name) rank → map.contains_key (files_of items) (string_bytes file.name) ≡ false
    → AreSorted (insert items rank file)
put_sorted items file rank sorted ranked lacking =
    ap (is_sorted bytes_cmp) (put_entries items file rank sorted ranked lacking)
    ∙ told (is_sorted bytes_cmp (map.entries (map.insert (files_of items) (string_bytes file.name) file.chunks.items))) (map.entries_sorted (map.insert (files_of items) (string_bytes file.name) file.chunks.items))

pub put_view : (items : List FileEntry) (file : FileEntry) (rank : ℕ) → AreSorted items → IsRank (map.keys (files_of items)) (string_bytes file.name) rank → map.contains_key (files_of items) (string_bytes file.name) ≡ false
    → files_of (insert items rank file) ≡ map.insert (files_of items) (string_bytes file.name) file.chunks.items
put_view items file rank sorted ranked lacking = ap map.from_sorted (put_entries items file rank sorted ranked lacking) ∙ same_files (map.insert (files_of items) (string_bytes file.name) file.chunks.items)

-- A FILE LESS

held_there : (m : Files) (place : ℕ) (name : List ℕ) → slice_get (map.keys m) place ≡ Some name → map.contains_key m name ≡ true
held_there m place name at = map.contains_key-keys m name ∙ listed_at name (map.keys m) place (slice_get_within (map.keys m) place name at) (get_or_from_slice_get (map.keys m) place name [] at)

take_entries : (items : List FileEntry) (place : ℕ) (name : List ℕ) → AreSorted items → slice_get (map.keys (files_of items)) place ≡ Some name → each file_pair (remove items place) ≡ map.entries (map.remove (files_of items) name)
take_entries items place name sorted at =
    let m = files_of items in
    let inside = slice_get_within (map.keys m) place name at in
    each_remove file_pair items place
    ∙ ap (λ (l : List (List ℕ × List (List ℕ))). remove l place) (sym (entries_of items sorted))
    ∙ sym (entries_without m name place (rank_of_place m name place inside (get_or_from_slice_get (map.keys m) place name [] at)) (held_there m place name at))

pub take_view : (items : List FileEntry) (place : ℕ) (name : List ℕ) → AreSorted items → slice_get (map.keys (files_of items)) place ≡ Some name → files_of (remove items place) ≡ map.remove (files_of items) name
take_view items place name sorted at = ap map.from_sorted (take_entries items place name sorted at) ∙ same_files (map.remove (files_of items) name)

pub take_sorted : (items : List FileEntry) (place : ℕ) (name : List ℕ) → AreSorted items → slice_get (map.keys (files_of items)) place ≡ Some name → AreSorted (remove items place)
take_sorted items place name sorted at =
    ap (is_sorted bytes_cmp) (take_entries items place name sorted at) ∙ told (is_sorted bytes_cmp (map.entries (map.remove (files_of items) name))) (map.entries_sorted (map.remove (files_of items) name))

-- THE PLACE OF A NAME

-- a name that does not stand at its rank is lacking
pub not_found : (m : Files) (name : List ℕ) (rank : ℕ) → IsRank (map.keys m) name rank → (rank < map.len m → get_or (map.keys m) rank [] ≢ name) → map.contains_key m name ≡ false
not_found m name rank is other = false_from_ne_true (map.contains_key m name) (λ held.
    let found = rank_found m name rank is held in
    other (omega (arith, found.0, count_keys m)) found.1)
