-- Tables with the same sums have the same best sets.
use Rattle.std.proofs.Common.{◌≡◌, ◌∙◌, ◌+◌, ◌≤◌, ◌∷◌, [], ℕ, zero, suc, List, Bool, true, false, refl, sym, ap, subst, length, arith, inl, inr}
use Rattle.std.specs.Prelude.{not, ◌&&◌, sum_by, if◌then◌else◌}
use Rattle.std.specs.List.{list_all, list_any}
use Rattle.std.proofs.lemmas.Bool.{cases_Bool}
use Rattle.std.proofs.lemmas.List.Sums.{sum_by-cons}
use Rattle.seed_model.specs.declared.range.Range.{Range}
use Rattle.seed_model.specs.declared.table.Class.{Class}
use Rattle.seed_model.specs.Best.{IsBest, IsFirstBest}
use Rattle.seed_model.specs.Files.{rank}
use Rattle.seed_model.specs.Ranges.{InRange}
use Rattle.seed_model.specs.Sums.{migrated_of, replicated_of}
use Rattle.seed_model.specs.Tables.{TableValue}
use Rattle.recipe_reader.specs.Recipes.{RecipeValue, table_of}
use Rattle.incidence.specs.Incidences.{incidence_of, chunk_table}
use Rattle.incidence.proofs.Exact.{table_same}
use Rattle.chunk_merge.specs.Merged.{same_users, classes_of, merged, KeepsBest, KeepsNone, KeepsSums, KeepsTotal, HasEachOnce, MergesRecipes}
use Rattle.chunk_merge.proofs.Merging.{keeps, same-is, differs, without, without-fewer, first_class, classes-cons}

-- two tables with the same files and the same sums of every set
record SameSums (one other : TableValue) : Type 0 where
  pub files : one.files ≡ other.files
  pub migrated : (set : ℕ → Bool) → migrated_of set one ≡ migrated_of set other
  pub replicated : (set : ℕ → Bool) → replicated_of set one ≡ replicated_of set other

back : (one other : TableValue) → SameSums one other → SameSums other one
back one other s = record { files = sym s.files; migrated = λ set. sym (s.migrated set); replicated = λ set. sym (s.replicated set) }

in_range-over : (one other : TableValue) (range : Range) (set : ℕ → Bool) → SameSums one other → InRange one range set → InRange other range set
in_range-over one other range set s h =
    let m = s.migrated set in
    record { enough = omega (arith, m, h.enough); no_more = omega (arith, m, h.no_more) }

best-over : (one other : TableValue) (range : Range) (set : ℕ → Bool) → SameSums one other → IsBest one range set → IsBest other range set
best-over one other range set s h = record {
  in_range = in_range-over one other range set s h.in_range;
  least = λ rival r.
      let least = h.least rival (in_range-over other one range rival (back one other s) r) in
      omega (arith, least, s.replicated set, s.replicated rival);
}

first_best-over : (one other : TableValue) (range : Range) (set : ℕ → Bool) → SameSums one other → IsFirstBest one range set → IsFirstBest other range set
first_best-over one other range set s h = record {
  best = best-over one other range set s h.best;
  first = λ rival b.
      let first = h.first rival (best-over other one range rival (back one other s) b) in
      let here : rank one.files set ≡ rank other.files set = ap (λ (n : ℕ). rank n set) s.files in
      let there : rank one.files rival ≡ rank other.files rival = ap (λ (n : ℕ). rank n rival) s.files in
      omega (arith, first, here, there);
}

merged-same : (table : TableValue) → SameSums (merged table) table
merged-same table = record {
  files = refl;
  migrated = λ set. keeps (list_all set) table.classes;
  replicated = λ set. keeps (λ users. list_any set users && not (list_all set users)) table.classes;
}

of-recipe : (recipe : RecipeValue) → SameSums (merged (chunk_table (incidence_of recipe))) (table_of recipe)
of-recipe recipe =
    let P : TableValue → Type 0 = λ t. SameSums (merged t) (table_of recipe) in
    subst P (sym (table_same recipe)) (merged-same (table_of recipe))

pub keeps_sums : KeepsSums
keeps_sums table test = keeps test table.classes

pub keeps_total : KeepsTotal
keeps_total table = keeps (λ users. true) table.classes

pub keeps_best : KeepsBest
keeps_best recipe range set r =
    let s = of-recipe recipe in
    let one = merged (chunk_table (incidence_of recipe)) in
    (first_best-over one (table_of recipe) range set s, first_best-over (table_of recipe) one range set (back one (table_of recipe) s))

pub keeps_none : KeepsNone
keeps_none recipe range r =
    let s = of-recipe recipe in
    let one = merged (chunk_table (incidence_of recipe)) in
    (λ none set h. none set (in_range-over (table_of recipe) one range set (back one (table_of recipe) s) h), λ none set h. none set (in_range-over one (table_of recipe) range set s h))

pub merges_recipes : MergesRecipes
merges_recipes recipe r = ap merged (table_same recipe)

-- how many classes have these users
with_users : List ℕ → List Class → ℕ
with_users users classes = sum_by (λ (c : Class). if same_users c.users users then 1 else 0) classes

has_users : List ℕ → Class → Bool
has_users users c = same_users c.users users

any-without : (users other : List ℕ) (cs : List Class) → same_users other users ≡ false → list_any (has_users users) (without other cs) ≡ list_any (has_users users) cs
unfolding without differs has_users
any-without users other [] apart = refl
any-without users other (c ∷ cs) apart = elim (cases_Bool (same_users c.users other)) [
  | inl t ↦
      let no : same_users c.users users ≡ false = ap (λ (l : List ℕ). same_users l users) (same-is c.users other t) ∙ apart in
      rw (t, no) (any-without users other cs apart)
  | inr f ↦ rw f (elim (cases_Bool (same_users c.users users)) [ inl u ↦ rw u refl | inr u ↦ rw u (any-without users other cs apart) ])
]

none-without : (users : List ℕ) (cs : List Class) → list_any (has_users users) (without users cs) ≡ false
unfolding without differs has_users
none-without users [] = refl
none-without users (c ∷ cs) = elim (cases_Bool (same_users c.users users)) [ inl t ↦ rw t (none-without users cs) | inr f ↦ rw f (rw f (none-without users cs)) ]

once_within : (n : ℕ) (users : List ℕ) (cs : List Class) → length cs ≤ n → with_users users (classes_of cs) ≡ (if list_any (has_users users) cs then 1 else 0)
unfolding with_users first_class has_users
once_within n users [] le = refl
once_within zero users (c ∷ cs) le = absurd (omega arith)
once_within (suc n) users (c ∷ cs) le =
    let left = without c.users cs in
    let rest = once_within n users left (omega (arith, le, without-fewer c.users cs)) in
    let whole = ap (with_users users) (classes-cons c cs) ∙ sum_by-cons (λ (c : Class). if same_users c.users users then 1 else 0) (first_class c cs) (classes_of left) in
    elim (cases_Bool (same_users c.users users)) [
      | inl t ↦
          let none = ap (λ (l : List ℕ). list_any (has_users users) (without l cs)) (same-is c.users users t) ∙ none-without users cs in
          let now = rw t at whole in
          let then_none = rw none at rest in
          rw t (omega (arith, now, then_none))
      | inr f ↦
          let now = rw f at whole in
          let then_same = rw (any-without users c.users cs f) at rest in
          let alone : 0 + with_users users (classes_of left) ≡ with_users users (classes_of left) = omega arith in
          rw f (now ∙ (alone ∙ then_same))
    ]

pub has_each_once : HasEachOnce
unfolding with_users has_users
has_each_once table users = once_within (length table.classes) users table.classes (omega arith)
