-- Chunks in memory, by name.
use Rattle.std.specs.Prelude.{◌≡◌, ◌≢◌, ℕ, ◌+◌, ◌-◌, ◌^◌, ◌<◌, ◌≤◌, ◌==◌, min, Bool, true, false, List, [], map as each, length, slice_index_or, All, Some, if◌then◌else◌, refl}
use Rattle.std.specs.List.{filter}
use Rattle.std.specs.Option.{option_map, option_map_or}
use Rattle.std.specs.Coded.{Coded, code_by, coded×, coded_ℕ, coded_bool, coded_list}
use Rattle.std.specs.declared.cmp.Ordering.TheVariants.{Less}
use Rattle.std.specs.FinMap as map
use Rattle.site_forms.specs.Names.{is_listed}
use Rattle.site_forms.specs.Volumes.{bytes_cmp, distinct_count}
use Rattle.volume_index.specs.declared.chunk_table.Change.{Change}
use Rattle.volume_index.specs.declared.chunk_table.Change.TheVariants.{Keep, Join, Leave}
use Rattle.volume_index.specs.declared.chunk_table.ChunkEntry.{ChunkEntry}
use Rattle.volume_index.specs.declared.chunk_table.ListCounts.{ListCounts}

-- entries by name
abbrev pub Entries : Type 0
Entries = map.FinMap bytes_cmp ChunkEntry

-- an entry as a tuple
abbrev pub entry_code : Coded ChunkEntry
entry_code =
    code_by (ℕ × (ℕ × (ℕ × Bool))) (coded× coded_ℕ (coded× coded_ℕ (coded× coded_ℕ coded_bool))) (λ e. (e.place, (e.len, (e.users, e.is_marked))))
    (λ t. record { place = t.0; len = t.1.0; users = t.1.1.0; is_marked = t.1.1.1 }) (λ _. refl)

-- what is kept of each chunk by name; whether the names are in order, so that one can be told by its place; and how many
-- more chunks have room
pub record ChunkTableValue : Type 0 where
  pub entries : Entries
  pub is_ordered : Bool
  pub room : ℕ

abbrev pub table_code : Coded ChunkTableValue
table_code =
    code_by (Entries × (Bool × ℕ)) (coded× (map.code (coded_list coded_ℕ) entry_code) (coded× coded_bool coded_ℕ)) (λ v. (v.entries, (v.is_ordered, v.room)))
    (λ t. record { entries = t.0; is_ordered = t.1.0; room = t.1.1 }) (λ _. refl)

-- the entry of a chunk that no file uses yet
abbrev pub new_entry : ℕ → ℕ → ChunkEntry
new_entry place len = record { place = place; len = len; users = 0; is_marked = false }

-- the name of an entry by its number
abbrev pub name_at : List (List ℕ × ChunkEntry) → ℕ → List ℕ
name_at entries number = (slice_index_or entries number ([], new_entry 0 0)).0

-- these numbers name the keys of entries in their order
pub record IsOrder (entries : List (List ℕ × ChunkEntry)) (order : List ℕ) : Type 0 where
  pub within : All (λ number. number < length entries) order
  pub names : each (name_at entries) order ≡ map.keys (map.from_entries {R = bytes_cmp} entries)

-- numbers of 32 bits serve; and where the names are in order, the numbers stand so
pub record KeepsTable (is_ordered : Bool) (entries : List (List ℕ × ChunkEntry)) (order : List ℕ) : Type 0 where
  pub few : length entries ≤ 2 ^ 32
  pub ordered : is_ordered ≡ true → IsOrder entries order

-- how many more entries have room: in the map, among the numbers in order, and among numbers of 32 bits
abbrev pub table_room : ℕ → ℕ → ℕ → ℕ
table_room spare ordered count = min (min spare ordered) (2 ^ 32 - count)

-- the place of a name among names in order, or that at which it belongs
pub record IsRank (names : List (List ℕ)) (name : List ℕ) (rank : ℕ) : Type 0 where
  pub within : rank ≤ length names
  pub before : (j : ℕ) → j < rank → bytes_cmp (slice_index_or names j []) name ≡ Less
  pub behind : (j : ℕ) → rank ≤ j → j < length names → bytes_cmp (slice_index_or names j []) name ≢ Less

-- the same chunks in the same order, with no less room
pub record IsSameTable (old new : ChunkTableValue) : Type 0 where
  pub entries : new.entries ≡ old.entries
  pub ordered : new.is_ordered ≡ old.is_ordered
  pub room : old.room ≤ new.room

-- no list is in work
abbrev pub AreFree : Entries → Type 0
AreFree entries = (name : List ℕ) (e : ChunkEntry) → map.get entries name ≡ Some e → e.is_marked ≡ false

-- whether so many files use a chunk
abbrev pub has_users : ℕ → Entries → List ℕ → Bool
has_users users entries name = option_map_or (λ (e : ChunkEntry). e.users == users) (map.get entries name) false

-- how many chunks a list names, and how many of them have so many users
pub record CountsList (users : ℕ) (entries : Entries) (list : List (List ℕ)) (counts : ListCounts) : Type 0 where
  pub distinct : counts.distinct ≡ distinct_count list
  pub matching : counts.matching ≡ distinct_count (filter (has_users users entries) list)

-- the chunks of a list are marked, and no others
abbrev pub with_mark : List (List ℕ) → List ℕ → ChunkEntry → ChunkEntry
with_mark list name e = if is_listed list name then record e { is_marked = true } else e

abbrev pub MarksList : List (List ℕ) → Entries → Entries → Type 0
MarksList list old new = (name : List ℕ) → map.get new name ≡ option_map (with_mark list name) (map.get old name)

-- counts with an entry more, where it was not marked before
abbrev pub with_entry : ListCounts → ChunkEntry → ℕ → ListCounts
with_entry counts e users = if e.is_marked then counts else record { distinct = counts.distinct + 1; matching = (if e.users == users then counts.matching + 1 else counts.matching) }

-- a number of users once a file joins or leaves, and an entry of this number
abbrev pub changed_users : Change → ℕ → ℕ
changed_users Keep users = users
changed_users Join users = users + 1
changed_users Leave users = users - 1

abbrev pub with_user : Change → ChunkEntry → ChunkEntry
with_user change e = record e { users = changed_users change e.users }

-- an entry whose mark is taken away, and whose users change with it
abbrev pub without_mark : Change → ChunkEntry → ChunkEntry
without_mark change e = if e.is_marked then with_user change (record e { is_marked = false }) else e

-- the numbers of users that can change so
abbrev pub MayChange : Change → ℕ → Type 0
MayChange Keep users = Unit {0}
MayChange Join users = users + 1 < 2 ^ 32
MayChange Leave users = 1 ≤ users

abbrev pub ListMayChange : Change → List (List ℕ) → Entries → Type 0
ListMayChange change list entries = (name : List ℕ) (e : ChunkEntry) → is_listed list name ≡ true → map.get entries name ≡ Some e → MayChange change e.users

-- an entry once its mark is gone and its users have changed
abbrev pub settled : Change → List (List ℕ) → List ℕ → ChunkEntry → ChunkEntry
settled change list name e = if is_listed list name then with_user change (record e { is_marked = false }) else e

abbrev pub SettlesList : Change → List (List ℕ) → Entries → Entries → Type 0
SettlesList change list old new = (name : List ℕ) → map.get new name ≡ option_map (settled change list name) (map.get old name)

-- the users of each chunk of a list have changed
abbrev pub changed_by : Change → List (List ℕ) → List ℕ → ChunkEntry → ChunkEntry
changed_by change list name e = if is_listed list name then with_user change e else e

abbrev pub ChangesUsers : Change → List (List ℕ) → Entries → Entries → Type 0
ChangesUsers change list old new = (name : List ℕ) → map.get new name ≡ option_map (changed_by change list name) (map.get old name)
