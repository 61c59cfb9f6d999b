-- Entries whose users change, beside the files that use them.
use Rattle.std.proofs.Common.{◌≡◌, ℕ, zero, suc, ◌+◌, List, [], ◌∷◌, Bool, true, false, cond, Option, Some, None, refl, sym, ◌∙◌, ap, arith}
use Rattle.std.specs.Prelude.{is_some, not, ◌||◌, ◌==◌, if◌then◌else◌}
use Rattle.std.specs.List.{list_all, filter}
use Rattle.std.specs.Option.{option_map, option_map_or}
use Rattle.std.specs.Ordering.{is_eq}
use Rattle.std.specs.Cmp.{tied_itself}
use Rattle.std.specs.Str.{bytes_eq}
use Rattle.std.specs.Cmp.Lexicographic.{nat_list_cmp_total, texts_ties}
use Rattle.std.specs.FinMap as map
use Rattle.std.proofs.lemmas.Bool.{true≢false, and_parts, eq-eqb, ne_eqb, or_right}
use Rattle.std.proofs.lemmas.Option.{none-some}
use Rattle.site_forms.specs.Names.{is_listed}
use Rattle.site_forms.specs.Volumes.{Files, all_lists}
use Rattle.volume_index.proofs.MapValues.{same_names, get-map_values}
use Rattle.volume_index.proofs.Alls.{held_value}
use Rattle.volume_index.proofs.Users.{listed_users, users_with, users_without}
use Rattle.volume_index.specs.declared.chunk_table.Change.{Change}
use Rattle.volume_index.specs.declared.chunk_table.Change.TheVariants.{Keep, Join, Leave}
use Rattle.volume_index.specs.declared.chunk_table.ChunkEntry.{ChunkEntry}
use Rattle.volume_index.specs.ChunkTables.{Entries, has_users, with_user, changed_by, ChangesUsers}
use Rattle.volume_index.specs.MapValues.{map_values}
use Rattle.volume_index.specs.Users.{user_count}

some_same : {X : Type 0} (x y : X) → Some x ≡ Some y → x ≡ y
some_same x y is = cc

-- WHAT A CHANGE OF USERS LEAVES

kept_by : {X : Type 0} (f : ChunkEntry → X) (g : ChunkEntry → ChunkEntry) (o : Option ChunkEntry) → ((e : ChunkEntry) → f (g e) ≡ f e) → option_map f (option_map g o) ≡ option_map f o
kept_by f g None same = refl
kept_by f g (Some e) same = ap Some (same e)

len_stays : (change : Change) (b : Bool) (e : ChunkEntry) → (if b then with_user change e else e).len ≡ e.len
len_stays change true e = refl
len_stays change false e = refl

place_stays : (change : Change) (b : Bool) (e : ChunkEntry) → (if b then with_user change e else e).place ≡ e.place
place_stays change true e = refl
place_stays change false e = refl

mark_stays : (change : Change) (b : Bool) (e : ChunkEntry) → (if b then with_user change e else e).is_marked ≡ e.is_marked
mark_stays change true e = refl
mark_stays change false e = refl

pub same_lengths : (change : Change) (list : List (List ℕ)) (old new : Entries) → ChangesUsers change list old new → map_values (λ (e : ChunkEntry). e.len) new ≡ map_values (λ (e : ChunkEntry). e.len) old
same_lengths change list old new changes = map.same_map nat_list_cmp_total same_names _ _ (λ q.
    get-map_values (λ (e : ChunkEntry). e.len) new q
    ∙ ap (option_map (λ (e : ChunkEntry). e.len)) (changes q)
    ∙ kept_by (λ (e : ChunkEntry). e.len) (changed_by change list q) (map.get old q) (len_stays change (is_listed list q))
    ∙ sym (get-map_values (λ (e : ChunkEntry). e.len) old q))

pub same_places : (change : Change) (list : List (List ℕ)) (old new : Entries) → ChangesUsers change list old new → map_values (λ (e : ChunkEntry). e.place) new ≡ map_values (λ (e : ChunkEntry). e.place) old
same_places change list old new changes = map.same_map nat_list_cmp_total same_names _ _ (λ q.
    get-map_values (λ (e : ChunkEntry). e.place) new q
    ∙ ap (option_map (λ (e : ChunkEntry). e.place)) (changes q)
    ∙ kept_by (λ (e : ChunkEntry). e.place) (changed_by change list q) (map.get old q) (place_stays change (is_listed list q))
    ∙ sym (get-map_values (λ (e : ChunkEntry). e.place) old q))

some_map : (f : ChunkEntry → ChunkEntry) (o : Option ChunkEntry) → is_some (option_map f o) ≡ is_some o
some_map f None = refl
some_map f (Some e) = refl

pub same_held : (change : Change) (list : List (List ℕ)) (old new : Entries) → ChangesUsers change list old new → (q : List ℕ) → map.contains_key new q ≡ map.contains_key old q
same_held change list old new changes q = ap is_some (changes q) ∙ some_map (changed_by change list q) (map.get old q)

-- a change that keeps all users keeps all
kept_whole : (b : Bool) (e : ChunkEntry) → (if b then with_user Keep e else e) ≡ e
kept_whole true e = refl
kept_whole false e = refl

map_id : (f : ChunkEntry → ChunkEntry) (o : Option ChunkEntry) → ((e : ChunkEntry) → f e ≡ e) → option_map f o ≡ o
map_id f None same = refl
map_id f (Some e) same = ap Some (same e)

pub kept_entries : (list : List (List ℕ)) (old new : Entries) → ChangesUsers Keep list old new → new ≡ old
kept_entries list old new changes = map.same_map nat_list_cmp_total same_names new old (λ q. changes q ∙ map_id (changed_by Keep list q) (map.get old q) (kept_whole (is_listed list q)))

-- the entry behind one that has changed
pub origin : (f : ChunkEntry → ChunkEntry) (o : Option ChunkEntry) (e : ChunkEntry) → option_map f o ≡ Some e → (first : ChunkEntry) × (o ≡ Some first) × (f first ≡ e)
origin f None e is = absurd (none-some e is)
origin f (Some first) e is = (first, refl, some_same (f first) e is)

-- ENTRIES THAT COUNT THE FILES

-- each entry counts the files that use its chunk, and is not marked
abbrev pub CountsAll : Files → Entries → Type 0
CountsAll files entries = (q : List ℕ) (e : ChunkEntry) → map.get entries q ≡ Some e → (e.users ≡ user_count files q) × (e.is_marked ≡ false)

joined_users : (b : Bool) (e : ChunkEntry) (n : ℕ) → e.users ≡ n → (if b then with_user Join e else e).users ≡ (if b then 1 else 0) + n
joined_users true e n is = omega (arith, is)
joined_users false e n is = omega (arith, is)

pub counts_with : (files : Files) (name : List ℕ) (list : List (List ℕ)) (old new : Entries) → map.contains_key files name ≡ false → ChangesUsers Join list old new → CountsAll files old → CountsAll (map.insert files name list) new
counts_with files name list old new lacking changes counts q e is =
    let was = origin (changed_by Join list q) (map.get old q) e (sym (changes q) ∙ is) in
    let first = counts q was.0 was.1 in (
      ap (λ (x : ChunkEntry). x.users) (sym was.2) ∙ joined_users (is_listed list q) was.0 (user_count files q) first.0 ∙ sym (users_with files name list q lacking),
      ap (λ (x : ChunkEntry). x.is_marked) (sym was.2) ∙ mark_stays Join (is_listed list q) was.0 ∙ first.1,
    )

left_users : (b : Bool) (e : ChunkEntry) (s n : ℕ) → e.users ≡ s → s ≡ (if b then 1 else 0) + n → (if b then with_user Leave e else e).users ≡ n
left_users true e s n is less = omega (arith, is, less)
left_users false e s n is less = omega (arith, is, less)

pub counts_without : (files : Files) (name : List ℕ) (list : List (List ℕ)) (old new : Entries) → map.get files name ≡ Some list → ChangesUsers Leave list old new → CountsAll files old → CountsAll (map.remove files name) new
counts_without files name list old new held changes counts q e is =
    let was = origin (changed_by Leave list q) (map.get old q) e (sym (changes q) ∙ is) in
    let first = counts q was.0 was.1 in (
      ap (λ (x : ChunkEntry). x.users) (sym was.2) ∙ left_users (is_listed list q) was.0 (user_count files q) (user_count (map.remove files name) q) first.0 (users_without files name list q held),
      ap (λ (x : ChunkEntry). x.is_marked) (sym was.2) ∙ mark_stays Leave (is_listed list q) was.0 ∙ first.1,
    )

-- CHUNKS THAT NO FILE USED, OR ONE

same_filter : (p q : List ℕ → Bool) (list : List (List ℕ)) (held : List ℕ → Bool) → ((x : List ℕ) → is_listed list x ≡ true → held x ≡ true → p x ≡ q x) → list_all held list ≡ true → filter p list ≡ filter q list
same_filter p q [] held same all = refl
same_filter p q (x ∷ xs) held same all =
    let parts = and_parts (held x) (list_all held xs) all in
    ap (λ (b : Bool). cond b (x ∷ filter p xs) (filter p xs)) (same x (ap (λ (b : Bool). b || is_listed xs x) (itself x)) parts.0)
    ∙ ap (λ (l : List (List ℕ)). cond (q x) (x ∷ l) l) (same_filter p q xs held (λ y listed h. same y (or_right (bytes_eq y x) (is_listed xs y) listed) h) parts.1)
  where
    itself : (y : List ℕ) → bytes_eq y y ≡ true
    itself y = texts_ties y y ∙ ap is_eq (tied_itself nat_list_cmp_total y)

-- a chunk that is held has so many users
pub users_told : (files : Files) (entries : Entries) (users : ℕ) (q : List ℕ) → CountsAll files entries → map.contains_key entries q ≡ true → has_users users entries q ≡ (user_count files q == users)
users_told files entries users q counts held =
    let found = held_value entries q held in
    ap (λ (o : Option ChunkEntry). option_map_or (λ (e : ChunkEntry). e.users == users) o false) found.1
    ∙ ap (λ (n : ℕ). n == users) (counts q found.0 found.1).0

twice : (b : Bool) → b ≡ not (not b)
twice true = refl
twice false = refl

-- the chunks of a list that no file used
pub new_filter : (files : Files) (entries : Entries) (list : List (List ℕ)) → CountsAll files entries → list_all (map.contains_key entries) list ≡ true → filter (has_users 0 entries) list ≡ filter (λ n. not (is_listed (all_lists files) n)) list
new_filter files entries list counts all = same_filter (has_users 0 entries) (λ n. not (is_listed (all_lists files) n)) list (map.contains_key entries)
    (λ x _ held. users_told files entries 0 x counts held ∙ twice (user_count files x == 0) ∙ ap not (sym (listed_users files x))) all

one_user : (b : Bool) (s n : ℕ) → b ≡ true → s ≡ (if b then 1 else 0) + n → (s == 1) ≡ (n == 0)
one_user true s zero listed is = eq-eqb s 1 (omega (arith, is))
one_user true s (suc n) listed is = ne_eqb s 1 (λ (e : s ≡ 1). omega (arith, is, e)) ∙ sym (ne_eqb (suc n) 0 (λ (e : suc n ≡ 0). omega (arith, e)))
one_user false s n listed is = absurd (true≢false (sym listed))

-- the chunks of a file's list that no other file uses
pub last_filter : (files : Files) (name : List ℕ) (entries : Entries) (list : List (List ℕ)) → map.get files name ≡ Some list → CountsAll files entries → list_all (map.contains_key entries) list ≡ true
    → filter (has_users 1 entries) list ≡ filter (λ n. not (is_listed (all_lists (map.remove files name)) n)) list
last_filter files name entries list found counts all = same_filter (has_users 1 entries) (λ n. not (is_listed (all_lists (map.remove files name)) n)) list (map.contains_key entries)
    (λ x listed held.
    users_told files entries 1 x counts held
    ∙ one_user (is_listed list x) (user_count files x) (user_count (map.remove files name) x) listed (users_without files name list x found)
    ∙ twice (user_count (map.remove files name) x == 0)
    ∙ ap not (sym (listed_users (map.remove files name) x)))
    all
