-- Adding chunk after chunk makes the merged classes; and these keep to the limits of a table.
use Rattle.std.proofs.Common.{◌≡◌, ◌∙◌, ◌+◌, ◌<◌, ◌≤◌, ◌∷◌, [], ℕ, zero, suc, List, Bool, true, false, refl, sym, ap, length, get_or, take, arith, inl, inr}
use Rattle.std.specs.Prelude.{not, filter, map, sum_by, fold}
use Rattle.std.specs.List.{range_with_len, AllByRecursion}
use Rattle.std.proofs.lemmas.Bool.{cases_Bool}
use Rattle.std.proofs.lemmas.List.Elements.{recursion_from_All, All-from_recursion}
use Rattle.std.proofs.lemmas.List.FromFn.{map-range_with_len_more, take-map-range_with_len, sum_by-map-range_with_len_more}
use Rattle.std.proofs.lemmas.List.{length-map}
use Rattle.std.proofs.lemmas.List.Sums.{sum_by-cons, sum_by-take-le, fold-append}
use Rattle.list_facts.proofs.FirstParts.{all-firsts, length-firsts, weight-firsts}
use Rattle.seed_model.specs.declared.limits.TheConstants.{MOST_BYTES}
use Rattle.seed_model.specs.declared.table.Class.{Class}
use Rattle.seed_model.specs.Sums.{bytes_where}
use Rattle.seed_model.specs.Tables.{TableValue, IsTable, IsClass}
use Rattle.incidence.specs.Incidences.{IncidenceValue, IsIncidence, class_at, chunk_classes}
use Rattle.chunk_merge.specs.Classes.{with_class, bytes_in}
use Rattle.chunk_merge.specs.Merged.{same_users, each_once, joined, classes_of, merged}
use Rattle.chunk_merge.proofs.Merging.{without, without-own, without-other, bytes-cons, counted-yes, counted-no, first_class, classes-cons, without-fewer, keeps}

with-own : (d : Class) (ds : List Class) (c : Class) → same_users c.users d.users ≡ true → with_class (d ∷ ds) c ≡ record { size = d.size + c.size; users = d.users } ∷ ds
with-own d ds c t = rw t refl

with-other : (d : Class) (ds : List Class) (c : Class) → same_users c.users d.users ≡ false → with_class (d ∷ ds) c ≡ d ∷ with_class ds c
with-other d ds c f = rw f refl

-- a class takes its chunks, and the others go on without them
fold-cons : (d : Class) (ds cs : List Class) → fold with_class (d ∷ ds) cs ≡ first_class d cs ∷ fold with_class ds (without d.users cs)
unfolding first_class without
fold-cons d ds [] = let none : d.size ≡ d.size + 0 = omega arith in λ i. record { size = none i; users = d.users } ∷ ds
fold-cons d ds (c ∷ cs) =
    let own = λ (other : List ℕ). same_users other d.users in
    let more = bytes-cons own c cs in
    elim (cases_Bool (same_users c.users d.users)) [
      | inl t ↦
          let joint : Class = record { size = d.size + c.size; users = d.users } in
          let sum : d.size + c.size + bytes_where own cs ≡ d.size + bytes_where own (c ∷ cs) = omega (arith, more, counted-yes own c t) in
          let left : without d.users cs ≡ without d.users (c ∷ cs) = sym (without-own d.users c cs t) in
          ap (λ (l : List Class). fold with_class l cs) (with-own d ds c t) ∙ (fold-cons joint ds cs ∙ (λ i. record { size = sum i; users = d.users } ∷ fold with_class ds (left i)))
      | inr f ↦
          let sum : d.size + bytes_where own cs ≡ d.size + bytes_where own (c ∷ cs) = omega (arith, more, counted-no own c f) in
          let left : c ∷ without d.users cs ≡ without d.users (c ∷ cs) = sym (without-other d.users c cs f) in
          ap (λ (l : List Class). fold with_class l cs) (with-other d ds c f)
          ∙ (fold-cons d (with_class ds c) cs ∙ (λ i. record { size = sum i; users = d.users } ∷ fold with_class ds (left i)))
    ]

folded_within : (n : ℕ) (cs : List Class) → length cs ≤ n → fold with_class [] cs ≡ classes_of cs
folded_within n [] le = refl
folded_within zero (c ∷ cs) le = absurd (omega arith)
folded_within (suc n) (c ∷ cs) le =
    fold-cons c [] cs
    ∙ (ap (λ (l : List Class). first_class c cs ∷ l) (folded_within n (without c.users cs) (omega (arith, le, without-fewer c.users cs))) ∙ sym (classes-cons c cs))

pub folded : (cs : List Class) → fold with_class [] cs ≡ classes_of cs
folded cs = folded_within (length cs) cs (omega arith)

-- sums over the classes so far
bytes-with_class : (ds : List Class) (c : Class) → bytes_in (with_class ds c) ≡ bytes_in ds + c.size
bytes-with_class [] c = omega (arith, sum_by-cons (λ (c : Class). c.size) c [])
bytes-with_class (d ∷ ds) c =
    let size = λ (c : Class). c.size in
    let here = sum_by-cons size d ds in
    elim (cases_Bool (same_users c.users d.users)) [
      | inl t ↦ rw t (omega (arith, here, sum_by-cons size (record { size = d.size + c.size; users = d.users }) ds))
      | inr f ↦ rw f (omega (arith, here, sum_by-cons size d (with_class ds c), bytes-with_class ds c))
    ]

bytes-fold : (ds cs : List Class) → bytes_in (fold with_class ds cs) ≡ bytes_in ds + bytes_in cs
bytes-fold ds [] = omega arith
bytes-fold ds (c ∷ cs) = omega (arith, bytes-fold (with_class ds c) cs, bytes-with_class ds c, sum_by-cons (λ (c : Class). c.size) c cs)

-- one chunk more
pub folded-more : (incidence : IncidenceValue) (before after : List Class) (chunk : ℕ) (c : Class) → before ≡ fold with_class [] (map (class_at incidence) (range_with_len 0 chunk))
    → c ≡ class_at incidence chunk → after ≡ with_class before c → after ≡ fold with_class [] (map (class_at incidence) (range_with_len 0 (chunk + 1)))
folded-more incidence before after chunk c is same step =
    let front = map (class_at incidence) (range_with_len 0 chunk) in
    step ∙ ((λ i. with_class (is i) (same i))
    ∙ sym (ap (fold with_class []) (map-range_with_len_more (class_at incidence) 0 chunk chunk (omega arith)) ∙ fold-append with_class [] front (class_at incidence chunk ∷ [])))

-- and it fits
pub chunk-fits : (incidence : IncidenceValue) (before : List Class) (chunk : ℕ) → IsIncidence incidence → chunk < length incidence.users
    → before ≡ fold with_class [] (map (class_at incidence) (range_with_len 0 chunk)) → bytes_in before + get_or incidence.sizes chunk 0 ≤ MOST_BYTES
chunk-fits incidence before chunk is lt made =
    let size = λ (c : Class). c.size in
    let n = length incidence.users in
    let f = class_at incidence in
    let whole = map f (range_with_len 0 n) in
    let front : take (chunk + 1) whole ≡ map f (range_with_len 0 (chunk + 1)) = take-map-range_with_len f 0 n (chunk + 1) (omega arith) in
    let part : bytes_in (map f (range_with_len 0 (chunk + 1))) ≤ bytes_in whole = rw front at (sum_by-take-le size whole (chunk + 1)) in
    let more = sum_by-map-range_with_len_more size f 0 chunk chunk (omega arith) in
    let so_far = ap bytes_in made ∙ bytes-fold [] (map f (range_with_len 0 chunk)) in
    omega (arith, part, more, so_far, is.table.bytes)

-- users that may be those of a class
pub IsUsers : ℕ → List ℕ → Type 0
IsUsers files users = IsClass files (record { size = 0; users = users })

users_of_classes : (files : ℕ) (cs : List Class) → AllByRecursion (IsClass files) cs → AllByRecursion (IsUsers files) (map (λ (c : Class). c.users) cs)
unfolding IsUsers
users_of_classes files [] all = tt
users_of_classes files (c ∷ cs) all = (record { used = all.0.used; rising = all.0.rising; below = all.0.below }, users_of_classes files cs all.1)

classes_of_users : (files : ℕ) (chunks : List Class) (xs : List (List ℕ)) → AllByRecursion (IsUsers files) xs → AllByRecursion (IsClass files) (map (joined chunks) xs)
unfolding IsUsers
classes_of_users files chunks [] all = tt
classes_of_users files chunks (x ∷ xs) all = (record { used = all.0.used; rising = all.0.rising; below = all.0.below }, classes_of_users files chunks xs all.1)

sum_by-joined : (chunks : List Class) (xs : List (List ℕ)) → sum_by (λ (c : Class). length c.users) (map (joined chunks) xs) ≡ sum_by length xs
sum_by-joined chunks [] = refl
sum_by-joined chunks (x ∷ xs) = omega (arith, sum_by-cons (λ (c : Class). length c.users) (joined chunks x) (map (joined chunks) xs), sum_by-cons length x xs, sum_by-joined chunks xs)

sum_by-users : (cs : List Class) → sum_by length (map (λ (c : Class). c.users) cs) ≡ sum_by (λ (c : Class). length c.users) cs
sum_by-users [] = refl
sum_by-users (c ∷ cs) = omega (arith, sum_by-cons length c.users (map (λ (c : Class). c.users) cs), sum_by-cons (λ (c : Class). length c.users) c cs, sum_by-users cs)

pub is-table : (table : TableValue) → IsTable table → IsTable (merged table)
is-table table t =
    let cs = table.classes in
    let lists = map (λ (c : Class). c.users) cs in
    let same = λ (users other : List ℕ). same_users other users in
    let total : bytes_in (classes_of cs) ≡ bytes_in cs = keeps (λ users. true) cs in
    record {
      files = t.files;
      classes = omega (arith, length-map (each_once lists) (joined cs), length-firsts same lists, length-map cs (λ (c : Class). c.users), t.classes);
      pairs = omega (arith, sum_by-joined cs (each_once lists), weight-firsts same length lists, sum_by-users cs, t.pairs);
      bytes = omega (arith, total, t.bytes);
      each = All-from_recursion (IsClass table.files) (classes_of cs)
          (classes_of_users table.files cs (each_once lists) (all-firsts same (IsUsers table.files) lists (users_of_classes table.files cs (recursion_from_All (IsClass table.files) cs t.each))));
    }

-- all chunks are added
pub folded-all : (incidence : IncidenceValue) (classes : List Class) (n : ℕ) → n ≡ length incidence.users → classes ≡ fold with_class [] (map (class_at incidence) (range_with_len 0 n))
    → classes ≡ classes_of (chunk_classes incidence)
folded-all incidence classes n e is =
    is ∙ (ap (λ (m : ℕ). fold with_class [] (map (class_at incidence) (range_with_len 0 m))) e ∙ folded (chunk_classes incidence))
