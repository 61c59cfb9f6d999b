-- The classes that a file uses, from pairs of a user and a class.
use Rattle.std.specs.Prelude.{All, ◌==◌}
use Rattle.std.proofs.Common.{◌≡◌, ◌≢◌, ◌∙◌, ℕ, zero, suc, ◌+◌, ◌^◌, ◌<◌, ◌≤◌, List, [], ◌∷◌, ◌++◌, true, false, cond, length, get_or, refl, sym, ap, subst, arith, inl, inr}
use Rattle.std.proofs.lemmas.Bool.{cases_Bool, cases_eq, cases_lt}
use Rattle.std.proofs.lemmas.Bool.Decides.{nat_tests}
use Rattle.std.proofs.lemmas.List.{length-append, get_or_default}
use Rattle.std.proofs.lemmas.List.Elements.{All-map}
use Rattle.std.proofs.lemmas.List.Sums.{sum_by-append}
use Rattle.list_facts.specs.Keyed.{lists_by_key, numbered, paired, values_of}
use Rattle.list_facts.proofs.ByKey.{at-table, length-table}
use Rattle.list_facts.proofs.Grouped.{values-append}
use Rattle.list_facts.proofs.Joined.{All-joined}
use Rattle.list_facts.proofs.Turned.{length-paired}
use Rattle.seed_model.specs.declared.table.Class.{Class}
use Rattle.seed_model.specs.Keys.{class_at, no_class, sum_below}
use Rattle.seed_model.specs.Tables.{TableValue, IsTable}
use Rattle.seed_model.proofs.KeySums.{sum_below_entries}
use Rattle.greedy_seed.specs.Shares.{times, AreUses, AreAllUses}
use Rattle.greedy_seed.proofs.Counted.{count_no, count_yes, stands}

-- the users of a class
abbrev pub row : TableValue → ℕ → List ℕ
row table k = (class_at table.classes k).users

-- how often a number comes out for a user, from pairs with that number and from others
values_here : (f n u : ℕ) (us : List ℕ) → (u == f) ≡ true → values_of f (paired (u ∷ us) n) ≡ n ∷ values_of f (paired us n)
values_here f n u us e = let same : (f == u) ≡ true = turned f u e in rw same refl
  where
    turned : (f u : ℕ) → (u == f) ≡ true → (f == u) ≡ true
    turned f u e = grind (arith, nat_tests)

values_apart : (f n u : ℕ) (us : List ℕ) → (u == f) ≡ false → values_of f (paired (u ∷ us) n) ≡ values_of f (paired us n)
values_apart f n u us e = let apart : (f == u) ≡ false = turned f u e in rw apart refl
  where
    turned : (f u : ℕ) → (u == f) ≡ false → (f == u) ≡ false
    turned f u e = grind (arith, nat_tests)

same_number : (n : ℕ) → (n == n) ≡ true
same_number n = grind (arith, nat_tests)

other_number : (n k : ℕ) → n ≢ k → (n == k) ≡ false
other_number n k apart = grind (arith, nat_tests)

times_own : (f n : ℕ) (users : List ℕ) → times n (values_of f (paired users n)) ≡ times f users
times_own f n [] = refl
times_own f n (u ∷ us) =
    let rest : times n (values_of f (paired us n)) ≡ times f us = times_own f n us in
    elim (cases_Bool (u == f)) [
      | inl e ↦
          let user : times f (u ∷ us) ≡ 1 + times f us = count_yes (λ v. v == f) u us e in
          ap (times n) (values_here f n u us e) ∙ (count_yes (λ k. k == n) n (values_of f (paired us n)) (same_number n) ∙ (ap (λ (m : ℕ). 1 + m) rest ∙ sym user))
      | inr ne ↦
          let user : times f (u ∷ us) ≡ times f us = count_no (λ v. v == f) u us ne in
          ap (times n) (values_apart f n u us ne) ∙ (rest ∙ sym user)
    ]

times_other : (f n k : ℕ) (users : List ℕ) → n ≢ k → times k (values_of f (paired users n)) ≡ 0
times_other f n k [] apart = refl
times_other f n k (u ∷ us) apart =
    let rest : times k (values_of f (paired us n)) ≡ 0 = times_other f n k us apart in
    elim (cases_Bool (u == f)) [
      | inl e ↦ ap (times k) (values_here f n u us e) ∙ (count_no (λ v. v == k) n (values_of f (paired us n)) (other_number n k apart) ∙ rest)
      | inr ne ↦ ap (times k) (values_apart f n u us ne) ∙ rest
    ]

times_next : (rows : ℕ → List ℕ) (f k n : ℕ) → times k (values_of f (numbered rows (suc n))) ≡ times k (values_of f (numbered rows n)) + times k (values_of f (paired (rows n) n))
times_next rows f k n =
    ap (times k) (values-append f (numbered rows n) (paired (rows n) n))
    ∙ sum_by-append (λ (v : ℕ). cond (v == k) 1 0) (values_of f (numbered rows n)) (values_of f (paired (rows n) n))

times_past : (rows : ℕ → List ℕ) (f k n : ℕ) → n ≤ k → times k (values_of f (numbered rows n)) ≡ 0
times_past rows f k zero le = refl
times_past rows f k (suc n) le =
    omega (arith, times_next rows f k n, times_past rows f k n (omega (arith, le)), times_other f n k (rows n) (λ q. absurd (omega (arith, le, q))))

times_within : (rows : ℕ → List ℕ) (f k n : ℕ) → k < n → times k (values_of f (numbered rows n)) ≡ times f (rows k)
times_within rows f k zero lt = absurd (omega (arith, lt))
times_within rows f k (suc n) lt = elim (cases_eq n k) [
  | inl e ↦
      let own : times k (values_of f (paired (rows n) n)) ≡ times f (rows k) = rw (sym e) (times_own f n (rows n)) in
      omega (arith, times_next rows f k n, times_past rows f k n (omega (arith, e)), own)
  | inr ne ↦
      omega (arith, times_next rows f k n, times_within rows f k n (omega (arith, lt, ne)), times_other f n k (rows n) ne)
]

-- only numbers below the end come out
values_below : (rows : ℕ → List ℕ) (f n : ℕ) → All (λ k. k < n) (values_of f (numbered rows n))
values_below rows f n i d lt =
    let xs = values_of f (numbered rows n) in
    let k = get_or xs i 0 in
    let read : get_or xs i d ≡ k = get_or_default xs i d 0 lt in
    elim (cases_lt k n) [
      | inl below ↦ omega (arith, read, below)
      | inr past ↦ absurd (omega (arith, stands xs i lt, times_past rows f k n (omega (arith, past))))
    ]

uses_each : (table : TableValue) (f : ℕ) → AreUses table f (values_of f (numbered (row table) (length table.classes)))
uses_each table f = record {
  below = values_below (row table) f (length table.classes);
  each = λ k lt. times_within (row table) f k (length table.classes) lt;
}

pub uses_all : (table : TableValue) (n files : ℕ) (pairs : List (ℕ × ℕ)) (uses : List (List ℕ)) → n ≡ length table.classes → files ≡ table.files → pairs ≡ numbered (row table) n
    → uses ≡ lists_by_key pairs files → AreAllUses table uses
uses_all table n files pairs uses all every made is =
    let whole : pairs ≡ numbered (row table) (length table.classes) = made ∙ ap (numbered (row table)) all in
    record {
      long = ap length is ∙ (length-table (λ f. values_of f pairs) files ∙ every);
      each = λ f lt.
          let P : List ℕ → Type 0 = λ t. AreUses table f t in
          let at : get_or uses f [] ≡ values_of f pairs = ap (λ (l : List (List ℕ)). get_or l f []) is ∙ at-table (λ g. values_of g pairs) files f [] (omega (arith, lt, every)) in
          subst P (sym (at ∙ ap (values_of f) whole)) (uses_each table f);
    }

-- a class more
pub pairs_next : (table : TableValue) (old new : List (ℕ × ℕ)) (users : List ℕ) (n : ℕ) → users ≡ row table n → old ≡ numbered (row table) n → new ≡ old ++ paired users n
    → new ≡ numbered (row table) (n + 1)
pairs_next table old new users n is before pushed =
    let next : n + 1 ≡ suc n = omega arith in
    pushed ∙ ((λ i. before i ++ paired (is i) n) ∙ ap (numbered (row table)) (sym next))

-- the pairs are few, and their users are files
length_pairs : (rows : ℕ → List ℕ) (n : ℕ) → length (numbered rows n) ≡ sum_below (λ k. length (rows k)) n
length_pairs rows zero = refl
length_pairs rows (suc n) = omega (arith, length-append (numbered rows n) (paired (rows n) n), length-paired (rows n) n, length_pairs rows n)

pub pairs_few : (table : TableValue) (n : ℕ) (pairs : List (ℕ × ℕ)) → IsTable table → n ≡ length table.classes → pairs ≡ numbered (row table) n → length pairs < 2 ^ 32
pairs_few table n pairs t all is =
    let entries = sum_below_entries (λ (c : Class). length c.users) table.classes no_class in
    omega (arith, ap length (is ∙ ap (numbered (row table)) all), length_pairs (row table) (length table.classes), entries, t.pairs)

pub pairs_below : (table : TableValue) (n files : ℕ) (pairs : List (ℕ × ℕ)) → IsTable table → n ≡ length table.classes → files ≡ table.files → pairs ≡ numbered (row table) n
    → All (λ p. p.0 < files) pairs
pairs_below table n files pairs t all every is =
    rw (is, all, every) (All-joined (λ (p : ℕ × ℕ). p.0 < table.files) (λ k. paired (row table k) k) (length table.classes) (λ k lt.
    All-map (λ (p : ℕ × ℕ). p.0 < table.files) (λ (v : ℕ). (v, k)) (row table k) (t.each k no_class lt).below))
