-- Lists of chunks in work: marks, users and counts, one chunk more at a time.
use Rattle.std.proofs.Common.{◌≡◌, ℕ, ◌+◌, ◌<◌, ◌≤◌, List, [], ◌∷◌, ◌++◌, length, get_or, take, Bool, true, false, cond, Option, Some, None, refl, sym, ◌∙◌, ap, subst, arith, append-nil}
use Rattle.std.specs.Prelude.{is_some, not, ◌&&◌, ◌||◌, ◌==◌, if◌then◌else◌}
use Rattle.std.specs.List.{list_all, filter}
use Rattle.std.specs.Option.{option_map, option_map_or}
use Rattle.std.specs.Ordering.{eq_by_cmp, is_eq}
use Rattle.std.specs.Cmp.Lexicographic.{nat_list_cmp_total, texts_ties, same_text, bytes_decides}
use Rattle.std.specs.Str.{bytes_eq}
use Rattle.std.specs.FinMap as map
use Rattle.std.proofs.lemmas.Bool.{true≢false, true_from_ne_false}
use Rattle.std.proofs.lemmas.Option.{none-some}
use Rattle.std.proofs.lemmas.List.Folds.{list_any_more, list_all_at, list_any_at}
use Rattle.std.proofs.lemmas.List.Elements.{filter_more}
use Rattle.std.proofs.lemmas.List.{take_more, take_all}
use Rattle.std.specs.declared.cmp.Ordering.TheVariants.{Less}
use Rattle.site_forms.specs.Names.{is_listed}
use Rattle.site_forms.specs.Volumes.{bytes_cmp, distinct_count}
use Rattle.volume_index.proofs.Sets.{count_last, listed_passes}
use Rattle.volume_index.specs.declared.chunk_table.Change.{Change}
use Rattle.volume_index.specs.declared.chunk_table.ChunkEntry.{ChunkEntry}
use Rattle.volume_index.specs.declared.chunk_table.ListCounts.{ListCounts}
use Rattle.volume_index.specs.ChunkTables.{Entries, IsRank, AreFree, has_users, with_mark, MarksList, with_entry, with_user, without_mark, MayChange, settled, SettlesList, changed_by, ChangesUsers}

some_same : {X : Type 0} (x y : X) → Some x ≡ Some y → x ≡ y
some_same x y is = cc

-- ONE ENTRY MORE OF A MAP THAT IS MADE OF ANOTHER

-- entries made of those of a first map, each by its name
abbrev IsMade : (List ℕ → ChunkEntry → ChunkEntry) → Entries → Entries → Type 0
IsMade f init now = (q : List ℕ) → map.get now q ≡ option_map (f q) (map.get init q)

-- the entry behind one that was found
origin : (f : List ℕ → ChunkEntry → ChunkEntry) (name : List ℕ) (e : ChunkEntry) (o : Option ChunkEntry) → option_map (f name) o ≡ Some e → (first : ChunkEntry) × (o ≡ Some first) × (f name first ≡ e)
origin f name e None is = absurd (none-some e is)
origin f name e (Some first) is = (first, refl, some_same (f name first) e is)

same_map_of : (f g : ChunkEntry → ChunkEntry) (o : Option ChunkEntry) → ((e : ChunkEntry) → o ≡ Some e → f e ≡ g e) → option_map f o ≡ option_map g o
same_map_of f g None same = refl
same_map_of f g (Some e) same = ap Some (same e refl)

-- two names tie, or not
by_tie : (P : Type 0) (q name : List ℕ) (b : Bool) → eq_by_cmp bytes_cmp q name ≡ b → (q ≡ name → P) → (eq_by_cmp bytes_cmp q name ≡ false → P) → P
by_tie P q name true is same other = same (same_text q name (sym (texts_ties q name ∙ is)))
by_tie P q name false is same other = other is

itself : (x : List ℕ) → bytes_eq x x ≡ true
itself x = (bytes_decides x x).1 refl

made_on : (f g : List ℕ → ChunkEntry → ChunkEntry) (init now : Entries) (name : List ℕ) (e new : ChunkEntry) → IsMade f init now → map.get now name ≡ Some e
    → ((first : ChunkEntry) → map.get init name ≡ Some first → f name first ≡ e → g name first ≡ new)
    → ((q : List ℕ) (first : ChunkEntry) → eq_by_cmp bytes_cmp q name ≡ false → g q first ≡ f q first)
    → IsMade g init (map.insert now name new)
made_on f g init now name e new made found here there q =
    by_tie (map.get (map.insert now name new) q ≡ option_map (g q) (map.get init q)) q name (eq_by_cmp bytes_cmp q name) refl
    (λ same.
    let was = origin f name e (map.get init name) (sym (made name) ∙ found) in
    map.get-insert nat_list_cmp_total now name new q
    ∙ ap (λ (b : Bool). cond b (Some new) (map.get now q)) (sym (texts_ties q name) ∙ ap (λ (x : List ℕ). bytes_eq x name) same ∙ itself name)
    ∙ ap Some (sym (here was.0 was.1 was.2))
    ∙ ap (option_map (g name)) (sym was.1)
    ∙ ap (λ (x : List ℕ). option_map (g x) (map.get init x)) (sym same))
    (λ other.
    map.get-insert nat_list_cmp_total now name new q
    ∙ ap (λ (b : Bool). cond b (Some new) (map.get now q)) other
    ∙ made q
    ∙ same_map_of (f q) (g q) (map.get init q) (λ first _. sym (there q first other)))

made_still : (f g : List ℕ → ChunkEntry → ChunkEntry) (init now : Entries) (name : List ℕ) (e : ChunkEntry) → IsMade f init now → map.get now name ≡ Some e
    → ((first : ChunkEntry) → map.get init name ≡ Some first → f name first ≡ e → g name first ≡ e)
    → ((q : List ℕ) (first : ChunkEntry) → eq_by_cmp bytes_cmp q name ≡ false → g q first ≡ f q first)
    → IsMade g init now
made_still f g init now name e made found here there q =
    by_tie (map.get now q ≡ option_map (g q) (map.get init q)) q name (eq_by_cmp bytes_cmp q name) refl
    (λ same.
    let was = origin f name e (map.get init name) (sym (made name) ∙ found) in
    ap (λ (x : List ℕ). map.get now x) same
    ∙ found
    ∙ ap Some (sym (here was.0 was.1 was.2))
    ∙ ap (option_map (g name)) (sym was.1)
    ∙ ap (λ (x : List ℕ). option_map (g x) (map.get init x)) (sym same))
    (λ other. made q ∙ same_map_of (f q) (g q) (map.get init q) (λ first _. sym (there q first other)))

-- ONE NAME MORE OF A LIST

abbrev pub Next : List (List ℕ) → ℕ → List ℕ → Type 0
Next list i name = (i < length list) × (name ≡ get_or list i [])

listed_next : (list : List (List ℕ)) (i : ℕ) (name q : List ℕ) → Next list i name → is_listed (take (i + 1) list) q ≡ (is_listed (take i list) q || bytes_eq q name)
listed_next list i name q next = list_any_more (bytes_eq q) list i [] next.0 ∙ ap (λ (x : List ℕ). is_listed (take i list) q || bytes_eq q x) (sym next.1)

or_false : (b : Bool) → (b || false) ≡ b
or_false true = refl
or_false false = refl

or_true : (b : Bool) → (b || true) ≡ true
or_true true = refl
or_true false = refl

listed_else : (list : List (List ℕ)) (i : ℕ) (name q : List ℕ) → Next list i name → eq_by_cmp bytes_cmp q name ≡ false → is_listed (take (i + 1) list) q ≡ is_listed (take i list) q
listed_else list i name q next other =
    listed_next list i name q next ∙ ap (λ (b : Bool). is_listed (take i list) q || b) (texts_ties q name ∙ other) ∙ or_false (is_listed (take i list) q)

listed_here : (list : List (List ℕ)) (i : ℕ) (name : List ℕ) → Next list i name → is_listed (take (i + 1) list) name ≡ true
listed_here list i name next = listed_next list i name name next ∙ ap (λ (b : Bool). is_listed (take i list) name || b) (itself name) ∙ or_true (is_listed (take i list) name)

-- MARKS

mark_gone : (b : Bool) (e : ChunkEntry) → record (if b then record e { is_marked = true } else e) { is_marked = true } ≡ record e { is_marked = true }
mark_gone true e = refl
mark_gone false e = refl

already : (e : ChunkEntry) → e.is_marked ≡ true → record e { is_marked = true } ≡ e
already e is = λ i. record e { is_marked = sym is i }

mark_stays : (b : Bool) (first e : ChunkEntry) → (if b then record first { is_marked = true } else first) ≡ e → e.is_marked ≡ true → record first { is_marked = true } ≡ e
mark_stays true first e is marked = is
mark_stays false first e is marked = already first (ap (λ (x : ChunkEntry). x.is_marked) is ∙ marked) ∙ is

pub mark_more : (init now : Entries) (list : List (List ℕ)) (i : ℕ) (name : List ℕ) (e : ChunkEntry) → Next list i name → MarksList (take i list) init now → map.get now name ≡ Some e
    → MarksList (take (i + 1) list) init (map.insert now name (record e { is_marked = true }))
mark_more init now list i name e next marks found =
    made_on (with_mark (take i list)) (with_mark (take (i + 1) list)) init now name e (record e { is_marked = true }) marks found
    (λ first was is.
    ap (λ (b : Bool). if b then record first { is_marked = true } else first) (listed_here list i name next)
    ∙ sym (mark_gone (is_listed (take i list) name) first)
    ∙ ap (λ (x : ChunkEntry). record x { is_marked = true }) is)
    (λ q first other. ap (λ (b : Bool). if b then record first { is_marked = true } else first) (listed_else list i name q next other))

pub mark_again : (init now : Entries) (list : List (List ℕ)) (i : ℕ) (name : List ℕ) (e : ChunkEntry) → Next list i name → MarksList (take i list) init now → map.get now name ≡ Some e → e.is_marked ≡ true
    → MarksList (take (i + 1) list) init now
mark_again init now list i name e next marks found marked =
    made_still (with_mark (take i list)) (with_mark (take (i + 1) list)) init now name e marks found
    (λ first was is.
    ap (λ (b : Bool). if b then record first { is_marked = true } else first) (listed_here list i name next)
    ∙ mark_stays (is_listed (take i list) name) first e is marked)
    (λ q first other. ap (λ (b : Bool). if b then record first { is_marked = true } else first) (listed_else list i name q next other))

-- COUNTS

told_mark : (b : Bool) (first e : ChunkEntry) → (if b then record first { is_marked = true } else first) ≡ e → first.is_marked ≡ false → e.is_marked ≡ b
told_mark true first e is free = sym (ap (λ (x : ChunkEntry). x.is_marked) is)
told_mark false first e is free = sym (ap (λ (x : ChunkEntry). x.is_marked) is) ∙ free

same_users : (b : Bool) (first e : ChunkEntry) → (if b then record first { is_marked = true } else first) ≡ e → first.users ≡ e.users
same_users true first e is = ap (λ (x : ChunkEntry). x.users) is
same_users false first e is = ap (λ (x : ChunkEntry). x.users) is

-- a chunk is marked exactly where the list has named it, and has the users that it had
pub told_entry : (init now : Entries) (done : List (List ℕ)) (name : List ℕ) (e : ChunkEntry) (users : ℕ) → AreFree init → MarksList done init now → map.get now name ≡ Some e
    → (e.is_marked ≡ is_listed done name) × (has_users users init name ≡ (e.users == users))
told_entry init now done name e users free marks found =
    let was = origin (with_mark done) name e (map.get init name) (sym (marks name) ∙ found) in (
      told_mark (is_listed done name) was.0 e was.2 (free name was.0 was.1),
      ap (λ (o : Option ChunkEntry). option_map_or (λ (x : ChunkEntry). x.users == users) o false) was.1
          ∙ ap (λ (n : ℕ). n == users) (same_users (is_listed done name) was.0 e was.2),
    )

count_passing : (p : List ℕ → Bool) (done : List (List ℕ)) (name : List ℕ) (listed passes : Bool) → is_listed done name ≡ listed → p name ≡ passes
    → distinct_count (filter p done ++ cond passes (name ∷ []) []) ≡ cond (passes && not listed) (distinct_count (filter p done) + 1) (distinct_count (filter p done))
count_passing p done name true true is passes = count_last (filter p done) name ∙ ap (λ (b : Bool). cond b (distinct_count (filter p done)) (distinct_count (filter p done) + 1)) (listed_passes p done name ∙ (λ i. is i && passes i))
count_passing p done name false true is passes = count_last (filter p done) name ∙ ap (λ (b : Bool). cond b (distinct_count (filter p done)) (distinct_count (filter p done) + 1)) (listed_passes p done name ∙ (λ i. is i && passes i))
count_passing p done name true false is passes = ap distinct_count (append-nil (filter p done))
count_passing p done name false false is passes = ap distinct_count (append-nil (filter p done))

-- the counts of a list with one name more
pub counts_next : (users : ℕ) (init : Entries) (list : List (List ℕ)) (i : ℕ) (name : List ℕ) (listed passes : Bool) → Next list i name → is_listed (take i list) name ≡ listed → has_users users init name ≡ passes
    → (distinct_count (take (i + 1) list) ≡ cond listed (distinct_count (take i list)) (distinct_count (take i list) + 1))
    × (distinct_count (filter (has_users users init) (take (i + 1) list))
    ≡ cond (passes && not listed) (distinct_count (filter (has_users users init) (take i list)) + 1) (distinct_count (filter (has_users users init) (take i list))))
counts_next users init list i name listed passes next is_listed_so has = (
  ap distinct_count (take_more list i [] next.0 ∙ ap (λ (x : List ℕ). take i list ++ x ∷ []) (sym next.1))
      ∙ count_last (take i list) name
      ∙ ap (λ (b : Bool). cond b (distinct_count (take i list)) (distinct_count (take i list) + 1)) is_listed_so,
  ap distinct_count (filter_more (has_users users init) list i [] next.0 ∙ ap (λ (x : List ℕ). filter (has_users users init) (take i list) ++ cond (has_users users init x) (x ∷ []) []) (sym next.1)
      ∙ ap (λ (b : Bool). filter (has_users users init) (take i list) ++ cond b (name ∷ []) []) has)
      ∙ count_passing (has_users users init) (take i list) name listed passes is_listed_so has,
)

new_counts : (listed passes : Bool) (d m : ℕ) (counts : ListCounts) → counts.distinct ≡ d → counts.matching ≡ m
    → ((if listed then counts else record { distinct = counts.distinct + 1; matching = (if passes then counts.matching + 1 else counts.matching) }).distinct ≡ cond listed d (d + 1))
    × ((if listed then counts else record { distinct = counts.distinct + 1; matching = (if passes then counts.matching + 1 else counts.matching) }).matching ≡ cond (passes && not listed) (m + 1) m)
new_counts true true d m counts is_d is_m = (is_d, is_m)
new_counts true false d m counts is_d is_m = (is_d, is_m)
new_counts false true d m counts is_d is_m = (ap (λ (n : ℕ). n + 1) is_d, ap (λ (n : ℕ). n + 1) is_m)
new_counts false false d m counts is_d is_m = (ap (λ (n : ℕ). n + 1) is_d, is_m)

-- the counts of a list are those of a front of it, with the entry of one name more
pub counts_more : (users : ℕ) (init now : Entries) (list : List (List ℕ)) (i : ℕ) (name : List ℕ) (e : ChunkEntry) (counts : ListCounts) → Next list i name → AreFree init → MarksList (take i list) init now → map.get now name ≡ Some e
    → counts.distinct ≡ distinct_count (take i list) → counts.matching ≡ distinct_count (filter (has_users users init) (take i list))
    → ((with_entry counts e users).distinct ≡ distinct_count (take (i + 1) list)) × ((with_entry counts e users).matching ≡ distinct_count (filter (has_users users init) (take (i + 1) list)))
counts_more users init now list i name e counts next free marks found is_d is_m =
    let told = told_entry init now (take i list) name e users free marks found in
    let after = counts_next users init list i name e.is_marked (e.users == users) next (sym told.0) told.1 in
    let new = new_counts e.is_marked (e.users == users) (distinct_count (take i list)) (distinct_count (filter (has_users users init) (take i list))) counts is_d is_m in
    (new.0 ∙ sym after.0, new.1 ∙ sym after.1)

few_by : (listed passes : Bool) (counts : ListCounts) (i : ℕ) → counts.distinct ≤ i → counts.matching ≤ i
    → ((if listed then counts else record { distinct = counts.distinct + 1; matching = (if passes then counts.matching + 1 else counts.matching) }).distinct ≤ i + 1)
    × ((if listed then counts else record { distinct = counts.distinct + 1; matching = (if passes then counts.matching + 1 else counts.matching) }).matching ≤ i + 1)
few_by true passes counts i d m = (omega (arith, d), omega (arith, m))
few_by false true counts i d m = (omega (arith, d), omega (arith, m))
few_by false false counts i d m = (omega (arith, d), omega (arith, m))

pub few_more : (counts : ListCounts) (e : ChunkEntry) (users i : ℕ) → counts.distinct ≤ i → counts.matching ≤ i → ((with_entry counts e users).distinct ≤ i + 1) × ((with_entry counts e users).matching ≤ i + 1)
few_more counts e users i d m = few_by e.is_marked (e.users == users) counts i d m

-- MARKS TAKEN AWAY, AND USERS CHANGED

no_mark : (change : Change) (e : ChunkEntry) → (with_user change (record e { is_marked = false })).is_marked ≡ false
no_mark change e = refl

settle_new : (change : Change) (b : Bool) (first e : ChunkEntry) → (if b then with_user change (record first { is_marked = false }) else first) ≡ e → e.is_marked ≡ true
    → with_user change (record first { is_marked = false }) ≡ with_user change (record e { is_marked = false })
settle_new change true first e is marked = absurd (true≢false (sym marked ∙ sym (ap (λ (x : ChunkEntry). x.is_marked) is) ∙ no_mark change first))
settle_new change false first e is marked = ap (λ (x : ChunkEntry). with_user change (record x { is_marked = false })) is

settle_old : (change : Change) (b : Bool) (first e : ChunkEntry) → (if b then with_user change (record first { is_marked = false }) else first) ≡ e → first.is_marked ≡ true → e.is_marked ≡ false
    → with_user change (record first { is_marked = false }) ≡ e
settle_old change true first e is marked gone = is
settle_old change false first e is marked gone = absurd (true≢false (sym marked ∙ ap (λ (x : ChunkEntry). x.is_marked) is ∙ gone))

settle_by : (change : Change) (gone listed : Bool) (first e : ChunkEntry) → e.is_marked ≡ gone → first.is_marked ≡ true → (if listed then with_user change (record first { is_marked = false }) else first) ≡ e
    → with_user change (record first { is_marked = false }) ≡ (if gone then with_user change (record e { is_marked = false }) else e)
settle_by change true listed first e marked was is = settle_new change listed first e is marked
settle_by change false listed first e marked was is = settle_old change listed first e is was marked

pub settle_more : (change : Change) (init now : Entries) (list : List (List ℕ)) (i : ℕ) (name : List ℕ) (e : ChunkEntry) → Next list i name → SettlesList change (take i list) init now → map.get now name ≡ Some e
    → ((first : ChunkEntry) → map.get init name ≡ Some first → first.is_marked ≡ true) → SettlesList change (take (i + 1) list) init (map.insert now name (without_mark change e))
settle_more change init now list i name e next settles found marked =
    made_on (settled change (take i list)) (settled change (take (i + 1) list)) init now name e (without_mark change e) settles found
    (λ first was is.
    ap (λ (b : Bool). if b then with_user change (record first { is_marked = false }) else first) (listed_here list i name next)
    ∙ settle_by change e.is_marked (is_listed (take i list) name) first e refl (marked first was) is)
    (λ q first other. ap (λ (b : Bool). if b then with_user change (record first { is_marked = false }) else first) (listed_else list i name q next other))

-- the entry that is met has users that can change, where it is marked
still_may : (change : Change) (listed : Bool) (first e : ChunkEntry) → (if listed then with_user change (record first { is_marked = false }) else first) ≡ e → e.is_marked ≡ true → MayChange change first.users → MayChange change e.users
still_may change true first e is marked may = absurd (true≢false (sym marked ∙ sym (ap (λ (x : ChunkEntry). x.is_marked) is)))
still_may change false first e is marked may = subst (λ (x : ChunkEntry). MayChange change x.users) is may

pub met_may : (change : Change) (init now : Entries) (done : List (List ℕ)) (name : List ℕ) (e : ChunkEntry) → SettlesList change done init now → map.get now name ≡ Some e → e.is_marked ≡ true
    → ((first : ChunkEntry) → map.get init name ≡ Some first → MayChange change first.users) → MayChange change e.users
met_may change init now done name e settles found marked may =
    let was = origin (settled change done) name e (map.get init name) (sym (settles name) ∙ found) in
    still_may change (is_listed done name) was.0 e was.2 marked (may was.0 was.1)

-- a chunk that was held is met
some_after : (f : ChunkEntry → ChunkEntry) (o : Option ChunkEntry) → is_some (option_map f o) ≡ is_some o
some_after f None = refl
some_after f (Some e) = refl

pub met : (f : List ℕ → ChunkEntry → ChunkEntry) (init now : Entries) (name : List ℕ) → ((q : List ℕ) → map.get now q ≡ option_map (f q) (map.get init q)) → map.contains_key init name ≡ true → map.contains_key now name ≡ true
met f init now name made held = ap is_some (made name) ∙ some_after (f name) (map.get init name) ∙ held

-- each name of a list whose chunks are held
pub next_held : (p : List ℕ → Bool) (list : List (List ℕ)) (i : ℕ) (name : List ℕ) → Next list i name → list_all p list ≡ true → p name ≡ true
next_held p list i name next all = true_from_ne_false (p name) (λ no.
    true≢false (sym all ∙ list_all_at p list i [] next.0 (ap p (sym next.1) ∙ no)))

pub next_listed : (list : List (List ℕ)) (i : ℕ) (name : List ℕ) → Next list i name → is_listed list name ≡ true
next_listed list i name next = list_any_at (bytes_eq name) list i [] next.0 (ap (bytes_eq name) (sym next.1) ∙ itself name)

-- BOTH

both_by : (change : Change) (b : Bool) (e : ChunkEntry) → e.is_marked ≡ false
    → (if b then with_user change (record (if b then record e { is_marked = true } else e) { is_marked = false }) else (if b then record e { is_marked = true } else e)) ≡ (if b then with_user change e else e)
both_by change true e free = ap (with_user change) (λ i. record e { is_marked = sym free i })
both_by change false e free = refl

map_twice : (f g : ChunkEntry → ChunkEntry) (o : Option ChunkEntry) → option_map f (option_map g o) ≡ option_map (λ e. f (g e)) o
map_twice f g None = refl
map_twice f g (Some e) = refl

pub marked_then_settled : (change : Change) (list : List (List ℕ)) (old marked new : Entries) → AreFree old → MarksList list old marked → SettlesList change list marked new → ChangesUsers change list old new
marked_then_settled change list old marked new free marks settles q =
    settles q
    ∙ ap (option_map (settled change list q)) (marks q)
    ∙ map_twice (settled change list q) (with_mark list q) (map.get old q)
    ∙ same_map_of (λ e. settled change list q (with_mark list q e)) (changed_by change list q) (map.get old q) (λ e is. both_by change (is_listed list q) e (free q e is))

-- NO NAME YET, AND ALL NAMES

same_as : (f : ChunkEntry → ChunkEntry) (o : Option ChunkEntry) → ((e : ChunkEntry) → f e ≡ e) → o ≡ option_map f o
same_as f None same = refl
same_as f (Some e) same = ap Some (sym (same e))

pub marks_none : (init : Entries) → MarksList [] init init
marks_none init q = same_as (with_mark [] q) (map.get init q) (λ _. refl)

less_apart : (x y : List ℕ) → bytes_cmp x y ≡ Less → bytes_eq x y ≡ false
less_apart x y less = texts_ties x y ∙ ap is_eq less

-- the names before a place are none of a list, with one name more of a rank at or behind this place
pub least_more : (m : Entries) (list : List (List ℕ)) (i : ℕ) (name : List ℕ) (rank least after : ℕ) → Next list i name → IsRank (map.keys m) name rank → after ≤ least → after ≤ rank
    → ((j : ℕ) → j < least → j < map.len m → is_listed (take i list) (get_or (map.keys m) j []) ≡ false)
    → (j : ℕ) → j < after → j < map.len m → is_listed (take (i + 1) list) (get_or (map.keys m) j []) ≡ false
least_more m list i name rank least after next ranked below_least below_rank before j less inside =
    let key = get_or (map.keys m) j [] in
    listed_next list i name key next
    ∙ ap (λ (b : Bool). b || bytes_eq key name) (before j (omega (arith, less, below_least)) inside)
    ∙ less_apart key name (ranked.before j (omega (arith, less, below_rank)))

pub least_all : (m : Entries) (list : List (List ℕ)) (i least : ℕ) → length list ≤ i → ((j : ℕ) → j < least → j < map.len m → is_listed (take i list) (get_or (map.keys m) j []) ≡ false)
    → (j : ℕ) → j < least → j < map.len m → is_listed list (get_or (map.keys m) j []) ≡ false
least_all m list i least all before j less inside = ap (λ (l : List (List ℕ)). is_listed l (get_or (map.keys m) j [])) (sym (take_all i list all)) ∙ before j less inside
