-- What an index answers.
use Rattle.std.proofs.Common.{◌≡◌, ℕ, zero, suc, ◌+◌, ◌<◌, ◌≤◌, List, [], ◌∷◌, length, get_or, Bool, true, false, cond, Option, Some, None, refl, sym, ◌∙◌, ap, arith}
use Rattle.std.specs.Prelude.{is_some, not, ◌==◌, ◌&&◌, nat_lt, nat_le, slice_get}
use Rattle.std.specs.List.{filter, list_all}
use Rattle.std.specs.Cmp.Lexicographic.{nat_list_cmp_total}
use Rattle.std.specs.FinMap as map
use Rattle.std.proofs.lemmas.Bool.{true≢false, lt-ltb, ne_eqb, lt-leb, le-leb}
use Rattle.std.proofs.lemmas.Option.{slice_get_within, get_or_from_slice_get}
use Rattle.std.proofs.lemmas.List.{length-map}
use Rattle.file_names.specs.FileNames.{IsFileName}
use Rattle.seed_model.specs.declared.limits.TheConstants.{MOST_FILES, MOST_CHUNKS, MOST_PAIRS}
use Rattle.site_forms.specs.Names.{is_name}
use Rattle.site_forms.specs.Volumes.{Files, Shape, used, pair_count, distinct_count, holds_all, may_add_file, may_drop_chunk}
use Rattle.site_forms.proofs.NameTests.{name_test}
use Rattle.volume_index.proofs.Alls.{key_has, get_at}
use Rattle.volume_index.proofs.Indexing.{counts_of, len_of, chunk_keys, list_held, UsedBefore}
use Rattle.volume_index.proofs.Joins.{new_filter, users_told}
use Rattle.volume_index.proofs.Limits.{counts_decide}
use Rattle.volume_index.proofs.MapValues.{contains-map_values}
use Rattle.volume_index.proofs.Ranks.{count_keys, listed_at}
use Rattle.volume_index.proofs.Shapes.{lacking_unused}
use Rattle.volume_index.proofs.TableReads.{key_held}
use Rattle.volume_index.proofs.Users.{used_users, used_with, pairs_with}
use Rattle.volume_index.specs.declared.chunk_table.ChunkEntry.{ChunkEntry}
use Rattle.volume_index.specs.declared.chunk_table.ListCounts.{ListCounts}
use Rattle.volume_index.specs.declared.index.Index.TheInside.{Inside}
use Rattle.volume_index.specs.ChunkTables.{has_users, CountsList}
use Rattle.volume_index.specs.HoldingCalls.{IsFilePlace}
use Rattle.volume_index.specs.HoldingValues.{KeepsShape, orphans}
use Rattle.volume_index.specs.IndexInside.{view_of, KeepsIndex}
use Rattle.volume_index.specs.Users.{user_count}

-- FILES

-- a file is held exactly where it has a place
pub held_by_place : (files : Files) (name : List ℕ) (place : Option ℕ) → IsFilePlace files name place → is_some place ≡ true → map.contains_key files name ≡ true
held_by_place files name (Some place) at found = key_held files place name at
held_by_place files name None lacking found = absurd (true≢false (sym found))

pub lacking_by_place : (files : Files) (name : List ℕ) (place : Option ℕ) → IsFilePlace files name place → is_some place ≡ false → map.contains_key files name ≡ false
lacking_by_place files name (Some place) at none = absurd (true≢false none)
lacking_by_place files name None lacking none = lacking

pub lawful_at : (shape : Shape) (place : ℕ) (name : List ℕ) → KeepsShape shape → slice_get (map.keys shape.files) place ≡ Some name → IsFileName name
lawful_at shape place name keeps at = key_has shape.files IsFileName keeps.names name (key_held shape.files place name at)

pub short_at : (shape : Shape) (place : ℕ) (list : List (List ℕ)) → KeepsShape shape → slice_get (map.values shape.files) place ≡ Some list → length list ≤ 524279
short_at shape place list keeps at =
    let inside = slice_get_within (map.values shape.files) place list at in
    let here : place < length (map.keys shape.files) = omega (arith, inside, length-map (map.entries shape.files) (λ (e : List ℕ × List (List ℕ)). e.0), length-map (map.entries shape.files) (λ (e : List ℕ × List (List ℕ)). e.1)) in
    keeps.short (get_or (map.keys shape.files) place []) list (get_at shape.files place list here ∙ ap Some (get_or_from_slice_get (map.values shape.files) place list list at))

-- CHUNKS

some_users : (n : ℕ) → nat_lt 0 n ≡ not (n == 0)
some_users zero = refl
some_users (suc n) = lt-ltb 0 (suc n) (omega arith) ∙ ap not (sym (ne_eqb (suc n) 0 (λ (e : suc n ≡ 0). omega (arith, e))))

-- a chunk with users is used
pub used_told : (a : Inside) (name : List ℕ) (e : ChunkEntry) → KeepsIndex a → map.get a.chunks.entries name ≡ Some e → nat_lt 0 e.users ≡ map.contains_key (used a.files.files) name
used_told a name e keeps is =
    some_users e.users ∙ ap (λ (n : ℕ). not (n == 0)) (keeps.users name e is).users ∙ sym (used_users a.files.files name)

lacks : (a : Inside) (name : List ℕ) → map.get a.chunks.entries name ≡ None → map.contains_key (view_of a).shape.chunks name ≡ false
lacks a name none = contains-map_values len_of a.chunks.entries name ∙ ap is_some none

pub lacking_told : (a : Inside) (name : List ℕ) → KeepsIndex a → map.get a.chunks.entries name ≡ None → map.contains_key (used a.files.files) name ≡ false
lacking_told a name keeps none = used_users a.files.files name ∙ ap (λ (n : ℕ). not (n == 0)) (lacking_unused (view_of a).shape name keeps.shape (lacks a name none))

twice : (b : Bool) → b ≡ not (not b)
twice true = refl
twice false = refl

pub may_told : (a : Inside) (name : List ℕ) (e : ChunkEntry) → KeepsIndex a → map.get a.chunks.entries name ≡ Some e → (e.users == 0) ≡ may_drop_chunk (view_of a).shape name
may_told a name e keeps is =
    ap (λ (n : ℕ). n == 0) (keeps.users name e is).users
    ∙ twice (user_count a.files.files name == 0)
    ∙ ap not (sym (used_users a.files.files name))
    ∙ ap (λ (b : Bool). b && not (map.contains_key (used a.files.files) name)) (sym (contains-map_values len_of a.chunks.entries name ∙ ap is_some is))

pub may_not : (a : Inside) (name : List ℕ) → map.get a.chunks.entries name ≡ None → false ≡ may_drop_chunk (view_of a).shape name
may_not a name none = ap (λ (b : Bool). b && not (map.contains_key (used a.files.files) name)) (sym (lacks a name none))

-- THE LEAST ORPHAN

first_passing : (p : List ℕ → Bool) (xs : List (List ℕ)) (i : ℕ) → i < length xs → ((j : ℕ) → j < i → p (get_or xs j []) ≡ false) → p (get_or xs i []) ≡ true → slice_get (filter p xs) 0 ≡ Some (get_or xs i [])
first_passing p [] i inside before at = absurd (omega (arith, inside))
first_passing p (x ∷ xs) zero inside before at = ap (λ (b : Bool). slice_get (cond b (x ∷ filter p xs) (filter p xs)) 0) at
first_passing p (x ∷ xs) (suc i) inside before at =
    ap (λ (b : Bool). slice_get (cond b (x ∷ filter p xs) (filter p xs)) 0) (before zero (omega arith))
    ∙ first_passing p xs i (omega (arith, inside)) (λ j less. before (suc j) (omega (arith, less))) at

none_passing : (p : List ℕ → Bool) (xs : List (List ℕ)) → ((j : ℕ) → j < length xs → p (get_or xs j []) ≡ false) → slice_get (filter p xs) 0 ≡ None
none_passing p [] none = refl
none_passing p (x ∷ xs) none =
    ap (λ (b : Bool). slice_get (cond b (x ∷ filter p xs) (filter p xs)) 0) (none zero (omega arith)) ∙ none_passing p xs (λ j inside. none (suc j) (omega (arith, inside)))

-- whether a chunk that is held is an orphan
orphan_told : (a : Inside) (j : ℕ) → KeepsIndex a → j < length (map.keys a.chunks.entries)
    → not (map.contains_key (used a.files.files) (get_or (map.keys a.chunks.entries) j [])) ≡ has_users 0 a.chunks.entries (get_or (map.keys a.chunks.entries) j [])
orphan_told a j keeps inside =
    let key = get_or (map.keys a.chunks.entries) j [] in
    ap not (used_users a.files.files key) ∙ sym (twice (user_count a.files.files key == 0))
    ∙ sym (users_told a.files.files a.chunks.entries 0 key (counts_of a keeps) (map.contains_key-keys a.chunks.entries key ∙ listed_at key (map.keys a.chunks.entries) j inside refl))

pub least_orphan : (a : Inside) (place : ℕ) (name : List ℕ) → KeepsIndex a → slice_get (map.keys a.chunks.entries) place ≡ Some name → UsedBefore a.chunks.entries place → has_users 0 a.chunks.entries (get_or (map.keys a.chunks.entries) place []) ≡ true
    → Some name ≡ slice_get (orphans (view_of a).shape) 0
least_orphan a place name keeps at before here =
    let keys = map.keys a.chunks.entries in
    let p : List ℕ → Bool = λ n. not (map.contains_key (used a.files.files) n) in
    let inside = slice_get_within keys place name at in
    sym (ap (λ (l : List (List ℕ)). slice_get (filter p l) 0) (chunk_keys a.chunks.entries)
    ∙ first_passing p keys place inside (λ j less. orphan_told a j keeps (omega (arith, less, inside)) ∙ before j less) (orphan_told a place keeps inside ∙ here)
    ∙ ap Some (get_or_from_slice_get keys place name [] at))

pub no_orphan : (a : Inside) (place : ℕ) → KeepsIndex a → map.len a.chunks.entries ≤ place → UsedBefore a.chunks.entries place → None ≡ slice_get (orphans (view_of a).shape) 0
no_orphan a place keeps all before =
    let keys = map.keys a.chunks.entries in
    let p : List ℕ → Bool = λ n. not (map.contains_key (used a.files.files) n) in
    sym (ap (λ (l : List (List ℕ)). slice_get (filter p l) 0) (chunk_keys a.chunks.entries)
    ∙ none_passing p keys (λ j inside. orphan_told a j keeps inside ∙ before j (omega (arith, inside, all, count_keys a.chunks.entries))))

-- WHETHER A FILE MAY BE ADDED

lawful_test : (name : List ℕ) → IsFileName name → is_name name ≡ true
lawful_test name lawful = (name_test name).1 lawful

and_last : (b x : Bool) → b ≡ true → b && x ≡ x
and_last true x is = refl
and_last false x is = absurd (true≢false (sym is))

and_no : (a b c : Bool) → b ≡ false → a && (b && c) ≡ false
and_no true b c failed = ap (λ (x : Bool). x && c) failed
and_no false b c failed = refl

pub no_held_file : (shape : Shape) (name : List ℕ) (list : List (List ℕ)) → map.contains_key shape.files name ≡ true → false ≡ may_add_file (λ n. n) 0 shape name list
no_held_file shape name list held = sym (and_no (is_name name) (not (map.contains_key shape.files name)) _ (ap not held))

three_no : (a b c d e : Bool) → d ≡ false → a && (b && (c && (d && e))) ≡ false
three_no true true true d e failed = ap (λ (x : Bool). x && e) failed
three_no true true false d e failed = refl
three_no true false c d e failed = refl
three_no false b c d e failed = refl

pub no_long_list : (shape : Shape) (name : List ℕ) (list : List (List ℕ)) → 524279 < length list → false ≡ may_add_file (λ n. n) 0 shape name list
no_long_list shape name list long = sym (three_no (is_name name) (not (map.contains_key shape.files name)) (holds_all shape list) (nat_le (length list) 524279) _ (lt-leb (length list) 524279 long))

two_no : (a b c d : Bool) → c ≡ false → a && (b && (c && d)) ≡ false
two_no true true c d failed = ap (λ (x : Bool). x && d) failed
two_no true false c d failed = refl
two_no false b c d failed = refl

pub no_lacking_chunk : (shape : Shape) (name : List ℕ) (list : List (List ℕ)) → holds_all shape list ≡ false → false ≡ may_add_file (λ n. n) 0 shape name list
no_lacking_chunk shape name list lacks_one = sym (two_no (is_name name) (not (map.contains_key shape.files name)) (holds_all shape list) _ lacks_one)

four_yes : (a b c d e : Bool) → a ≡ true → b ≡ true → c ≡ true → d ≡ true → e ≡ (a && (b && (c && (d && e))))
four_yes true true true true e p q r s = refl
four_yes false b c d e p q r s = absurd (true≢false (sym p))
four_yes true false c d e p q r s = absurd (true≢false (sym q))
four_yes true true false d e p q r s = absurd (true≢false (sym r))
four_yes true true true false e p q r s = absurd (true≢false (sym s))

pub by_counts : (a : Inside) (name : List ℕ) (list : List (List ℕ)) (counts : ListCounts) → KeepsIndex a → IsFileName name → map.contains_key a.files.files name ≡ false → list_all (map.contains_key a.chunks.entries) list ≡ true → length list ≤ 524279
    → CountsList 0 a.chunks.entries list counts
    → (nat_le (map.len a.files.files + 1) MOST_FILES && (nat_le (a.used + counts.matching) MOST_CHUNKS && nat_le (a.pairs + counts.distinct) MOST_PAIRS)) ≡ may_add_file (λ n. n) 0 (view_of a).shape name list
by_counts a name list counts keeps lawful lacking held short told =
    let files = map.insert a.files.files name list in
    let shape = (view_of a).shape in
    let longer : map.len files ≡ map.len a.files.files + 1 =
    map.len-insert nat_list_cmp_total a.files.files name list ∙ ap (λ (b : Bool). cond b (map.len a.files.files) (map.len a.files.files + 1)) lacking in
    let filtered = ap distinct_count (new_filter a.files.files a.chunks.entries list (counts_of a keeps) held) in
    let more : map.len (used files) ≡ a.used + counts.matching = omega (arith, used_with a.files.files name list lacking, keeps.used, told.matching, filtered) in
    let pairs : pair_count files ≡ a.pairs + counts.distinct = omega (arith, pairs_with a.files.files name list lacking, keeps.pairs, told.distinct) in
    (λ i. nat_le (sym longer i) MOST_FILES && (nat_le (sym more i) MOST_CHUNKS && nat_le (sym pairs i) MOST_PAIRS))
    ∙ sym (counts_decide shape files keeps.shape.most)
    ∙ four_yes (is_name name) (not (map.contains_key a.files.files name)) (holds_all shape list) (nat_le (length list) 524279) _ (lawful_test name lawful) (ap not lacking) (list_held a.chunks.entries a.files.files list ∙ held)
    (le-leb (length list) 524279 short)
