-- What is judged of volumes and a phase.
use Rattle.std.proofs.Common.{◌≡◌, ◌⊎◌, inl, inr, ⊎_elim, ℕ, suc, ◌<◌, ◌≤◌, List, [], ◌∷◌, length, get_or, Bool, true, false, Option, Some, None, refl, sym, ◌∙◌, ap, subst, arith}
use Rattle.std.specs.Prelude.{is_some, not, ◌&&◌, ◌==◌, slice_get, if◌then◌else◌}
use Rattle.std.specs.Cmp.Lexicographic.{nat_list_cmp_total}
use Rattle.std.specs.Str.{bytes_eq}
use Rattle.std.specs.Bool.{nat_eq}
use lib.Pointwise.{pointwise}
use Rattle.std.proofs.lemmas.Option.{none-some}
use Rattle.std.specs.FinMap as map
use Rattle.std.proofs.lemmas.Bool.{true≢false, cases_lt, and_from, and_parts, or_cases, not-true, not_from_false, true_from_ne_false, eqb-true, eq-eqb}
use Rattle.site_forms.specs.Names.{is_listed}
use Rattle.site_forms.specs.Sites.{HoldsFile, HoldsChunk, UsesChunk, IsNamed, IsTidy, IsUnderway, FitsMoving, KeepsLimits, length_in}
use Rattle.site_forms.specs.Views.{joined_files}
use Rattle.site_forms.specs.Volumes.{bytes_cmp, Files, Shape, used}
use Rattle.volume_index.specs.HoldingValues.{KeepsShape, orphans}
use Rattle.volume_index.proofs.MapValues.{same_names}
use Rattle.volume_index.proofs.Sets.{listed_passes}
use Rattle.site_core.specs.Fitting.{counts_keep, HoldsChunksOf, HoldsUsed, AddsFiles, AddsNamed, Merges}
use Rattle.site_core.proofs.Counting.{AreAmong, counts_decide, length_short}
use Rattle.site_core.proofs.Keeping.{chunk_held, tidy_from}
use Rattle.site_core.proofs.Lists.{first_listed, none_first, listed_at}
use Rattle.site_core.proofs.Maps.{either, get_joined, same_bytes, equal_bytes, key_held, held_key, user_of, used_by}
use Rattle.site_core.proofs.Merging.{counts_are}

-- BOTH WAYS

pub is_so : {P : Type 0} → P → (true ≡ true → P) × (P → true ≡ true)
is_so p = (λ _. p, λ _. refl)

pub is_not : {P : Type 0} → (P → ⊥) → (false ≡ true → P) × (P → false ≡ true)
is_not never = (λ e. absurd (true≢false (sym e)), λ p. absurd (never p))

pub either_way : {P : Type 0} (b : Bool) → (b ≡ true → P) → (b ≡ false → P → ⊥) → (b ≡ true → P) × (P → b ≡ true)
either_way b first second = (first, λ p. true_from_ne_false b (λ fails. second fails p))

-- what holds of each name by its place holds of each name
pub each_listed : (P : List ℕ → Type 0) (xs : List (List ℕ)) → ((j : ℕ) → j < length xs → P (get_or xs j [])) → (q : List ℕ) → is_listed xs q ≡ true → P q
each_listed P [] all q listed = absurd (true≢false (sym listed))
each_listed P (x ∷ xs) all q listed = ⊎_elim
    (λ same. subst P (sym (equal_bytes q x same)) (all 0 (omega arith)))
    (λ later. each_listed P xs (λ j inside. all (suc j) (omega (arith, inside))) q later)
    (or_cases (bytes_eq q x) (is_listed xs q) listed)

pub not_both : (x y : Bool) → (x && y) ≡ false → x ≡ true → y ≡ true → ⊥
not_both x y apart first second = true≢false (sym (and_from x y first second) ∙ apart)

pub apart_by : (x y : Bool) → (x ≡ true → y ≡ false) → (x && y) ≡ false
apart_by true y lacks = lacks refl
apart_by false y lacks = refl

-- NAMES OF A VOLUME

pub all_names_held : (volume : Shape) (names : List (List ℕ)) (r len : ℕ) → len ≡ length names → r ≤ length names → ((i : ℕ) → i < r → HoldsFile volume (get_or names i [])) → (r < length names → map.contains_key volume.files (get_or names r []) ≡ false)
    → ((r == len) ≡ true → (name : List ℕ) → IsNamed names name → HoldsFile volume name) × (((name : List ℕ) → IsNamed names name → HoldsFile volume name) → (r == len) ≡ true)
all_names_held volume names r len count within held lacks = (
  λ same. let all : r ≡ len = eqb-true r len same in each_listed (HoldsFile volume) names (λ j inside. held j (omega (arith, inside, all, count))),
  λ all. ⊎_elim
      (λ (less : r < length names). absurd (true≢false (sym (all (get_or names r []) (listed_at names r less)) ∙ lacks less)))
      (λ (past : length names ≤ r). eq-eqb r len (omega (arith, past, within, count)))
      (cases_lt r (length names)),
)

pub no_name_held : (volume : Shape) (names : List (List ℕ)) (r len : ℕ) → len ≡ length names → r ≤ length names → ((i : ℕ) → i < r → map.contains_key volume.files (get_or names i []) ≡ false) → (r < length names → HoldsFile volume (get_or names r []))
    → ((r == len) ≡ true → (name : List ℕ) → IsNamed names name → map.contains_key volume.files name ≡ false) × (((name : List ℕ) → IsNamed names name → map.contains_key volume.files name ≡ false) → (r == len) ≡ true)
no_name_held volume names r len count within lacked holds = (
  λ same. let all : r ≡ len = eqb-true r len same in each_listed (λ n. map.contains_key volume.files n ≡ false) names (λ j inside. lacked j (omega (arith, inside, all, count))),
  λ all. ⊎_elim
      (λ (less : r < length names). absurd (true≢false (sym (holds less) ∙ all (get_or names r []) (listed_at names r less))))
      (λ (past : length names ≤ r). eq-eqb r len (omega (arith, past, within, count)))
      (cases_lt r (length names)),
)

-- A TIDY VOLUME

some_first : (xs : List (List ℕ)) → is_some (slice_get xs 0) ≡ true → (c : List ℕ) × (is_listed xs c ≡ true)
some_first [] is = absurd (true≢false (sym is))
some_first (x ∷ xs) is = (x, first_listed (x ∷ xs) x refl)

no_first : (o : Option (List ℕ)) → is_some o ≡ false → o ≡ None
no_first None is = refl
no_first (Some c) is = absurd (true≢false is)

orphan_listed : (shape : Shape) (c : List ℕ) → is_listed (orphans shape) c ≡ (is_listed (map.keys shape.chunks) c && not (map.contains_key (used shape.files) c))
orphan_listed shape c = listed_passes (λ x. not (map.contains_key (used shape.files) x)) (map.keys shape.chunks) c

pub tidy_judged : (shape : Shape) (o : Option (List ℕ)) (r : Bool) → KeepsShape shape → o ≡ slice_get (orphans shape) 0 → is_some o ≡ not r → (r ≡ true → IsTidy shape) × (IsTidy shape → r ≡ true)
tidy_judged shape o r keeps first told = either_way r
    (λ so.
    let none : orphans shape ≡ [] = none_first (orphans shape) (sym first ∙ no_first o (told ∙ ap not so)) in
    tidy_from shape keeps (λ chunk held. true_from_ne_false (map.contains_key (used shape.files) chunk) (λ unused.
    true≢false (sym (orphan_listed shape chunk ∙ and_from (is_listed (map.keys shape.chunks) chunk) (not (map.contains_key (used shape.files) chunk)) (held_key shape.chunks chunk held) (not_from_false (map.contains_key (used shape.files) chunk) unused))
    ∙ ap (λ (l : List (List ℕ)). is_listed l chunk) none))))
    (λ fails tidy.
    let orphan = some_first (orphans shape) (ap is_some (sym first) ∙ told ∙ ap not fails) in
    let parts = and_parts (is_listed (map.keys shape.chunks) orphan.0) (not (map.contains_key (used shape.files) orphan.0)) (sym (orphan_listed shape orphan.0) ∙ orphan.1) in
    true≢false (sym (key_held shape.chunks orphan.0 parts.0) ∙ tidy orphan.0 ∙ not-true (map.contains_key (used shape.files) orphan.0) parts.1))

-- BOTH VOLUMES TOGETHER

either_none : {X : Type 0} (o : Option X) → either None o ≡ o
either_none o = refl

pub joined_empty : (files : Files) → joined_files map.empty files ≡ files
joined_empty files = map.same_map nat_list_cmp_total same_names _ _ (λ q. get_joined map.empty files q ∙ ap (λ o. either o (map.get files q)) (map.get-empty bytes_cmp q))

pub first_among : (a b : Files) → AreAmong a (joined_files a b)
first_among a b q list is = get_joined a b q ∙ ap (λ o. either o (map.get b q)) is

pub limits_are : (a b : Shape) → KeepsShape a → KeepsShape b → (KeepsLimits a b → counts_keep (joined_files a.files b.files) ≡ true) × (counts_keep (joined_files a.files b.files) ≡ true → KeepsLimits a b)
limits_are a b keeps_a keeps_b =
    let o = joined_files a.files b.files in
    let by = counts_decide (length_in a b) o (length_short a b keeps_a.most keeps_b.most) in
    (λ keep. counts_are o ∙ sym by ∙ keep, λ keep. by ∙ sym (counts_are o) ∙ keep)

-- LISTS

pub same_lists : (xs ys : List (List ℕ)) → pointwise (pointwise nat_eq) xs ys ≡ true → xs ≡ ys
same_lists [] [] is = refl
same_lists [] (y ∷ ys) is = absurd (true≢false (sym is))
same_lists (x ∷ xs) [] is = absurd (true≢false (sym is))
same_lists (x ∷ xs) (y ∷ ys) is =
    let parts = and_parts (pointwise nat_eq x y) (pointwise (pointwise nat_eq) xs ys) is in
    λ i. equal_bytes x y parts.0 i ∷ same_lists xs ys parts.1 i

pub list_itself : (xs : List (List ℕ)) → pointwise (pointwise nat_eq) xs xs ≡ true
list_itself [] = refl
list_itself (x ∷ xs) = and_from (pointwise nat_eq x x) (pointwise (pointwise nat_eq) xs xs) (same_bytes x) (list_itself xs)

-- A MERGE

pub merges_from : (a b cur new : Shape) (is : Bool) → cur.files ≡ a.files → AddsFiles cur b new is → Merges a b new is
merges_from a b cur new true same adds = adds.0 ∙ ap (λ (f : Files). joined_files f b.files) same
merges_from a b cur new false same adds = ap (λ (f : Files). counts_keep (joined_files f b.files)) (sym same) ∙ adds

-- UNDER WAY

module _ (a b whole named : Shape) (names : List (List ℕ)) (keeps_a : KeepsShape a) (keeps_b : KeepsShape b) (merged : whole.files ≡ joined_files a.files b.files) (has : AddsNamed whole names named true) where
  at_origin : (q : List ℕ) → map.get whole.files q ≡ either (map.get a.files q) (map.get b.files q)
  at_origin q = ap (λ (f : Files). map.get f q) merged ∙ get_joined a.files b.files q

  held_in : (x y : Option (List (List ℕ))) → is_some (either x y) ≡ true → is_some x ≡ true ⊎ is_some y ≡ true
  held_in None y held = inr held
  held_in (Some l) y held = inl refl

  second_held : (x y : Option (List (List ℕ))) → is_some y ≡ true → is_some (either x y) ≡ true
  second_held None y held = held
  second_held (Some l) y held = refl

  if_listed : (c : Bool) (o : Option (List (List ℕ))) → is_some (if c then o else None) ≡ true → c ≡ true
  if_listed true o held = refl
  if_listed false o held = absurd (true≢false (sym held))

  if_list : (c : Bool) (o : Option (List (List ℕ))) (l : List (List ℕ)) → (if c then o else None) ≡ Some l → (c ≡ true) × (o ≡ Some l)
  if_list true o l is = (refl, is)
  if_list false o l is = absurd (none-some l is)

  -- what is used by the named files
  used_named : (chunk : List ℕ) → map.contains_key (used named.files) chunk ≡ true → (name : List ℕ) × IsNamed names name × UsesChunk (joined_files a.files b.files) name chunk
  used_named chunk uses =
      let user = user_of named.files chunk uses in
      let its = if_list (is_listed names user.0) (map.get whole.files user.0) user.1.0 (sym (has.0 user.0) ∙ user.1.1) in
      (user.0, its.0, (user.1.0, ap (λ (f : Files). map.get f user.0) (sym merged) ∙ its.1, user.1.2))

  pub underway_so : ((name : List ℕ) → HoldsFile b name → HoldsFile named name) → ((name : List ℕ) → HoldsFile a name → HoldsFile b name → map.get a.files name ≡ map.get b.files name)
      → ((chunk : List ℕ) → HoldsChunk b chunk → map.contains_key (used named.files) chunk ≡ true) → ((chunk : List ℕ) → HoldsChunk a chunk → map.contains_key (used whole.files) chunk ≡ true)
      → counts_keep (joined_files a.files b.files) ≡ true → IsUnderway a b names
  underway_so files lists chunks_b chunks_a keep = record {
    somewhere = λ name listed. held_in (map.get a.files name) (map.get b.files name) (ap is_some (sym (at_origin name)) ∙ has.1 name listed);
    planned = λ name held. if_listed (is_listed names name) (map.get whole.files name) (ap is_some (sym (has.0 name)) ∙ files name held);
    one_list = lists;
    copied = λ chunk held. used_named chunk (chunks_b chunk held);
    needed = λ chunk held. subst (λ (f : Files). (name : List ℕ) × UsesChunk f name chunk) merged (user_of whole.files chunk (chunks_a chunk held));
    limits = (limits_are a b keeps_a keeps_b).1 keep;
  }

  pub files_then : IsUnderway a b names → (name : List ℕ) → HoldsFile b name → HoldsFile named name
  files_then under name held =
      ap is_some (has.0 name) ∙ ap (λ (c : Bool). is_some (if c then map.get whole.files name else None)) (under.planned name held)
      ∙ ap is_some (at_origin name) ∙ second_held (map.get a.files name) (map.get b.files name) held

  pub chunks_b_then : IsUnderway a b names → (chunk : List ℕ) → HoldsChunk b chunk → map.contains_key (used named.files) chunk ≡ true
  chunks_b_then under chunk held =
      let user = under.copied chunk held in
      used_by named.files user.0 user.2.0 chunk (has.0 user.0 ∙ ap (λ (c : Bool). if c then map.get whole.files user.0 else None) user.1 ∙ ap (λ (f : Files). map.get f user.0) merged ∙ user.2.1) user.2.2

  pub chunks_a_then : IsUnderway a b names → (chunk : List ℕ) → HoldsChunk a chunk → map.contains_key (used whole.files) chunk ≡ true
  chunks_a_then under chunk held =
      let user = under.needed chunk held in
      used_by whole.files user.0 user.1.0 chunk (ap (λ (f : Files). map.get f user.0) merged ∙ user.1.1) user.1.2

-- a name that is lacking in both, or limits that are passed, are not under way
pub no_limits : (a b : Shape) (names : List (List ℕ)) → KeepsShape a → KeepsShape b → counts_keep (joined_files a.files b.files) ≡ false → IsUnderway a b names → ⊥
no_limits a b names keeps_a keeps_b fails under = true≢false (sym ((limits_are a b keeps_a keeps_b).0 under.limits) ∙ fails)

pub no_names : (a b whole : Shape) (names : List (List ℕ)) → whole.files ≡ joined_files a.files b.files → AddsNamed whole names whole false → IsUnderway a b names → ⊥
no_names a b whole names merged lacking under = lacking (λ name listed. ap is_some (ap (λ (f : Files). map.get f name) merged ∙ get_joined a.files b.files name) ∙ ⊎_elim
    (λ in_a. first_is (map.get a.files name) (map.get b.files name) in_a) (λ in_b. second_is (map.get a.files name) (map.get b.files name) in_b) (under.somewhere name listed))
  where
    first_is : (x y : Option (List (List ℕ))) → is_some x ≡ true → is_some (either x y) ≡ true
    first_is None y held = absurd (true≢false (sym held))
    first_is (Some l) y held = refl

    second_is : (x y : Option (List (List ℕ))) → is_some y ≡ true → is_some (either x y) ≡ true
    second_is None y held = held
    second_is (Some l) y held = refl

-- the chunks that both volumes' files use are held where both volumes' chunks are
pub used_of_both : (a b whole next : Shape) → KeepsShape a → KeepsShape b → whole.files ≡ joined_files a.files b.files → HoldsChunksOf next a → HoldsChunksOf next b → HoldsUsed next whole
used_of_both a b whole next keeps_a keeps_b merged first second chunk uses =
    let user = user_of whole.files chunk uses in
    by_volume (map.get a.files user.0) (map.get b.files user.0) refl refl (sym (get_joined a.files b.files user.0) ∙ ap (λ (f : Files). map.get f user.0) (sym merged) ∙ user.1.1)
  where
    by_volume : (x y : Option (List (List ℕ))) → map.get a.files (user_of whole.files chunk uses).0 ≡ x → map.get b.files (user_of whole.files chunk uses).0 ≡ y → either x y ≡ Some (user_of whole.files chunk uses).1.0 → HoldsChunk next chunk
    by_volume None y in_a in_b is = second chunk (chunk_held b keeps_b (user_of whole.files chunk uses).0 chunk (user_of whole.files chunk uses).1.0 (in_b ∙ is) (user_of whole.files chunk uses).1.2)
    by_volume (Some l) y in_a in_b is = first chunk (chunk_held a keeps_a (user_of whole.files chunk uses).0 chunk (user_of whole.files chunk uses).1.0 (in_a ∙ is) (user_of whole.files chunk uses).1.2)

-- MOVING, where files are under way

same_bool : (x y : Bool) → ((x ≡ y → ⊥) → ⊥) → x ≡ y
same_bool true true stable = refl
same_bool true false stable = absurd (stable true≢false)
same_bool false true stable = absurd (stable (λ (e : false ≡ true). true≢false (sym e)))
same_bool false false stable = refl

module _ (a b : Shape) (names : List (List ℕ)) where
  abbrev AllOf : Shape → Type 0
  AllOf volume = (name : List ℕ) → IsNamed names name → HoldsFile volume name

  pub moving_arrived : IsUnderway a b names → AllOf b → FitsMoving a b names
  moving_arrived under all = record { underway = under; copied_first = λ name named. inr all; tidied_last = λ name named. inl (all name named) }

  pub moving_copies : IsUnderway a b names → AllOf a → IsTidy a → FitsMoving a b names
  moving_copies under all tidy = record { underway = under; copied_first = λ name named. inl (all name named); tidied_last = λ name named. inr tidy }

  pub still_all : FitsMoving a b names → (AllOf b → ⊥) → AllOf a
  still_all fit never name named = ⊎_elim (λ held. held) (λ all. absurd (never all)) (fit.copied_first name named)

  pub still_tidy : FitsMoving a b names → (AllOf b → ⊥) → IsTidy a
  still_tidy fit never chunk = same_bool (map.contains_key a.chunks chunk) (map.contains_key (used a.files) chunk) (λ differ.
      never (λ name named. ⊎_elim (λ held. held) (λ tidy. absurd (differ (tidy chunk))) (fit.tidied_last name named)))
