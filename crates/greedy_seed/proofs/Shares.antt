-- What moving a file changes, class by class.
use Rattle.std.specs.Prelude.{count_by, nat_lt, ◌==◌, if◌then◌else◌}
use Rattle.std.proofs.Common.{◌≡◌, ◌≢◌, ◌∙◌, ℕ, ◌+◌, ◌-◌, ◌*◌, ◌<◌, ◌≤◌, List, [], ◌∷◌, Bool, true, false, not, length, refl, sym, ap, arith, inl, inr}
use Rattle.std.specs.List.{list_all, list_any}
use Rattle.std.proofs.lemmas.Bool.{cases_Bool, cases_eq, eqb-true}
use Rattle.std.proofs.lemmas.Bool.Decides.{nat_tests}
use Rattle.std.proofs.lemmas.List.Elements.{recursion_from_All}
use Rattle.std.proofs.lemmas.List.Sums.{count_by-le-length}
use Rattle.seed_model.specs.declared.table.Class.{Class}
use Rattle.seed_model.specs.Files.{holds}
use Rattle.seed_model.specs.Sums.{migrated_of, touched_of}
use Rattle.seed_model.specs.Tables.{TableValue, IsTable, IsClass}
use Rattle.seed_model.proofs.KeySums.{sum_same, sum_plus}
use Rattle.greedy_seed.specs.Greedy.{flipped}
use Rattle.greedy_seed.specs.Shares.{times, share, share_of, gained, reached}
use Rattle.greedy_seed.proofs.Counted.{count_cons, count_no, count_yes, all_counted, any_counted, at_most_once}
use Rattle.greedy_seed.proofs.Flags.{flipped_same, flipped_other}

-- a set without a file, and the set with it
pub record IsBeside (small large : ℕ → Bool) (f : ℕ) : Type 0 where
  pub lacks : small f ≡ false
  pub has : large f ≡ true
  pub others : (g : ℕ) → g ≢ f → large g ≡ small g

not_same : (u f : ℕ) → (u == f) ≡ false → u ≢ f
not_same u f ne q = grind (arith, nat_tests, ne, q)

-- an element alike in both sets
same_cons : (s other : ℕ → Bool) (u : ℕ) (us : List ℕ) → other u ≡ s u → count_by other us ≡ count_by s us → count_by other (u ∷ us) ≡ count_by s (u ∷ us)
same_cons s other u us same rest =
    let here : (if other u then 1 else 0) + count_by other us ≡ (if s u then 1 else 0) + count_by s us = λ i. (if same i then 1 else 0) + rest i in
    count_cons other u us ∙ (here ∙ sym (count_cons s u us))

-- how many users are in the larger set
pub count_beside : (small large : ℕ → Bool) (f : ℕ) (users : List ℕ) → IsBeside small large f → count_by large users ≡ count_by small users + times f users
count_beside small large f [] h = refl
count_beside small large f (u ∷ us) h =
    let rest : count_by large us ≡ count_by small us + times f us = count_beside small large f us h in
    elim (cases_Bool (u == f)) [
      | inl e ↦
          let same : u ≡ f = eqb-true u f e in
          let one : count_by large (u ∷ us) ≡ 1 + count_by large us = count_yes large u us (ap large same ∙ h.has) in
          let two : count_by small (u ∷ us) ≡ count_by small us = count_no small u us (ap small same ∙ h.lacks) in
          let three : times f (u ∷ us) ≡ 1 + times f us = count_yes (λ v. v == f) u us e in
          omega (arith, one, two, three, rest)
      | inr ne ↦
          let three : times f (u ∷ us) ≡ times f us = count_no (λ v. v == f) u us ne in
          let one : count_by large (u ∷ us) ≡ (if large u then 1 else 0) + count_by large us = count_cons large u us in
          let two : count_by small (u ∷ us) ≡ (if small u then 1 else 0) + count_by small us = count_cons small u us in
          let same : ◌≡◌ {A = ℕ} (if large u then 1 else 0) (if small u then 1 else 0) = ap (λ (b : Bool). if b then 1 else 0) (h.others u (not_same u f ne)) in
          omega (arith, one, two, three, same, rest)
    ]

-- the share of the file, told by the larger set
abbrev full_share : (Class → ℕ) → (ℕ → Bool) → ℕ → Class → ℕ
full_share whole large f c = times f c.users * (if count_by large c.users == whole c then c.size else 0)

none_or_once : (t n m whole size : ℕ) → t ≤ 1 → (t ≡ 1 → n ≡ m) → t * (if n == whole then size else 0) ≡ t * (if m == whole then size else 0)
none_or_once t n m whole size le same = elim (cases_eq t 0) [
  | inl e ↦ rw e (omega arith)
  | inr ne ↦
      let one : t ≡ 1 = omega (arith, le, ne) in
      ap (λ (k : ℕ). t * (if k == whole then size else 0)) (same one)
]

share_small : (files : ℕ) (whole : Class → ℕ) (small large : ℕ → Bool) (f : ℕ) (c : Class) → IsBeside small large f → IsClass files c → share_of (whole c) small c f ≡ full_share whole large f c
share_small files whole small large f c h class =
    let missing : count_by small c.users + (if small f then 0 else 1) ≡ count_by small c.users + 1 = ap (λ (b : Bool). count_by small c.users + (if b then 0 else 1)) h.lacks in
    let more : count_by large c.users ≡ count_by small c.users + times f c.users = count_beside small large f c.users h in
    none_or_once (times f c.users) (count_by small c.users + (if small f then 0 else 1)) (count_by large c.users) (whole c) c.size (at_most_once f c.users class.rising)
    (λ one. omega (arith, missing, more, one))

share_large : (files : ℕ) (whole : Class → ℕ) (small large : ℕ → Bool) (f : ℕ) (c : Class) → IsBeside small large f → IsClass files c → share_of (whole c) large c f ≡ full_share whole large f c
share_large files whole small large f c h class =
    let missing : count_by large c.users + (if large f then 0 else 1) ≡ count_by large c.users + 0 = ap (λ (b : Bool). count_by large c.users + (if b then 0 else 1)) h.has in
    none_or_once (times f c.users) (count_by large c.users + (if large f then 0 else 1)) (count_by large c.users) (whole c) c.size (at_most_once f c.users class.rising)
    (λ one. omega (arith, missing))

-- the arithmetic of one class
gain_once : (less more len size : ℕ) → more ≡ less + 1 → more ≤ len → (if more == len then size else 0) ≡ (if less == len then size else 0) + (if more == len then size else 0)
gain_once less more len size m fits = let other : (less == len) ≡ false = apart less more len m fits in rw other (omega arith)
  where
    apart : (less more len : ℕ) → more ≡ less + 1 → more ≤ len → (less == len) ≡ false
    apart less more len m fits = grind (arith, nat_tests)

gain_of_one : (less more len size t : ℕ) → more ≡ less + t → more ≤ len → t ≤ 1
    → (if more == len then size else 0) ≡ (if less == len then size else 0) + t * (if more == len then size else 0)
gain_of_one less more len size t m fits few = elim (cases_eq t 0) [
  | inl e ↦
      let same : more ≡ less = omega (arith, m, e) in
      rw (e, same) (omega arith)
  | inr ne ↦
      let one : t ≡ 1 = omega (arith, few, ne) in
      let step : (if more == len then size else 0) ≡ (if less == len then size else 0) + (if more == len then size else 0) = gain_once less more len size (omega (arith, m, one)) fits in
      rw one (omega (arith, step))
]

reach_once : (less more size : ℕ) → more ≡ less + 1 → (if nat_lt 0 more then size else 0) ≡ (if nat_lt 0 less then size else 0) + (if more == 1 then size else 0)
reach_once less more size m = grind (arith, nat_tests)

reach_of_one : (less more size t : ℕ) → more ≡ less + t → t ≤ 1 → (if nat_lt 0 more then size else 0) ≡ (if nat_lt 0 less then size else 0) + t * (if more == 1 then size else 0)
reach_of_one less more size t m few = elim (cases_eq t 0) [
  | inl e ↦
      let same : more ≡ less = omega (arith, m, e) in
      rw (e, same) (omega arith)
  | inr ne ↦
      let one : t ≡ 1 = omega (arith, few, ne) in
      let step : (if nat_lt 0 more then size else 0) ≡ (if nat_lt 0 less then size else 0) + (if more == 1 then size else 0) = reach_once less more size (omega (arith, m, one)) in
      rw one (omega (arith, step))
]

class_gain : (files : ℕ) (small large : ℕ → Bool) (f : ℕ) (c : Class) → IsBeside small large f → IsClass files c
    → (if list_all large c.users then c.size else 0) ≡ (if list_all small c.users then c.size else 0) + full_share (λ class. length class.users) large f c
class_gain files small large f c h class =
    let full = full_share (λ class. length class.users) large f c in
    let one : (if count_by large c.users == length c.users then c.size else 0) ≡ (if count_by small c.users == length c.users then c.size else 0) + full
    = gain_of_one (count_by small c.users) (count_by large c.users) (length c.users) c.size (times f c.users) (count_beside small large f c.users h) (count_by-le-length large c.users)
    (at_most_once f c.users class.rising) in
    ap (λ (b : Bool). if b then c.size else 0) (all_counted large c.users) ∙ (one ∙ ap (λ (b : Bool). (if b then c.size else 0) + full) (sym (all_counted small c.users)))

class_reach : (files : ℕ) (small large : ℕ → Bool) (f : ℕ) (c : Class) → IsBeside small large f → IsClass files c
    → (if list_any large c.users then c.size else 0) ≡ (if list_any small c.users then c.size else 0) + full_share (λ class. 1) large f c
class_reach files small large f c h class =
    let full = full_share (λ class. 1) large f c in
    let one : (if nat_lt 0 (count_by large c.users) then c.size else 0) ≡ (if nat_lt 0 (count_by small c.users) then c.size else 0) + full
    = reach_of_one (count_by small c.users) (count_by large c.users) c.size (times f c.users) (count_beside small large f c.users h) (at_most_once f c.users class.rising) in
    ap (λ (b : Bool). if b then c.size else 0) (any_counted large c.users) ∙ (one ∙ ap (λ (b : Bool). (if b then c.size else 0) + full) (sym (any_counted small c.users)))

-- a file changes what a set migrates by what it gains, and what it touches by what it reaches, told from either set
pub record AreDifferences (table : TableValue) (small large s : ℕ → Bool) (f : ℕ) : Type 0 where
  pub gain : migrated_of large table ≡ migrated_of small table + gained s table.classes f
  pub reach : touched_of large table ≡ touched_of small table + reached s table.classes f

differences : (table : TableValue) (small large s : ℕ → Bool) (f : ℕ) → IsTable table
    → ((c : Class) → IsClass table.files c → (if list_all large c.users then c.size else 0) ≡ (if list_all small c.users then c.size else 0) + share_of (length c.users) s c f)
    → ((c : Class) → IsClass table.files c → (if list_any large c.users then c.size else 0) ≡ (if list_any small c.users then c.size else 0) + share_of 1 s c f)
    → AreDifferences table small large s f
differences table small large s f t gains reaches =
    let each = recursion_from_All (IsClass table.files) table.classes t.each in
    record {
      gain =
          sum_same (IsClass table.files) (λ (c : Class). if list_all large c.users then c.size else 0)
          (λ (c : Class). (if list_all small c.users then c.size else 0) + share_of (length c.users) s c f) table.classes gains each
          ∙ sum_plus (λ (c : Class). if list_all small c.users then c.size else 0) (λ (c : Class). share_of (length c.users) s c f) table.classes;
      reach =
          sum_same (IsClass table.files) (λ (c : Class). if list_any large c.users then c.size else 0)
          (λ (c : Class). (if list_any small c.users then c.size else 0) + share_of 1 s c f) table.classes reaches each
          ∙ sum_plus (λ (c : Class). if list_any small c.users then c.size else 0) (λ (c : Class). share_of 1 s c f) table.classes;
    }

pub differences_small : (table : TableValue) (small large : ℕ → Bool) (f : ℕ) → IsTable table → IsBeside small large f → AreDifferences table small large small f
differences_small table small large f t h =
    differences table small large small f t
    (λ c class. class_gain table.files small large f c h class
    ∙ ap (λ (x : ℕ). (if list_all small c.users then c.size else 0) + x) (sym (share_small table.files (λ k. length k.users) small large f c h class)))
    (λ c class. class_reach table.files small large f c h class
    ∙ ap (λ (x : ℕ). (if list_any small c.users then c.size else 0) + x) (sym (share_small table.files (λ k. 1) small large f c h class)))

pub differences_large : (table : TableValue) (small large : ℕ → Bool) (f : ℕ) → IsTable table → IsBeside small large f → AreDifferences table small large large f
differences_large table small large f t h =
    differences table small large large f t
    (λ c class. class_gain table.files small large f c h class
    ∙ ap (λ (x : ℕ). (if list_all small c.users then c.size else 0) + x) (sym (share_large table.files (λ k. length k.users) small large f c h class)))
    (λ c class. class_reach table.files small large f c h class
    ∙ ap (λ (x : ℕ). (if list_any small c.users then c.size else 0) + x) (sym (share_large table.files (λ k. 1) small large f c h class)))

-- a file that uses no user of a class moves none of them
pub count_apart : (s other : ℕ → Bool) (f : ℕ) (users : List ℕ) → times f users ≡ 0 → ((g : ℕ) → g ≢ f → other g ≡ s g) → count_by other users ≡ count_by s users
count_apart s other f [] none others = refl
count_apart s other f (u ∷ us) none others = elim (cases_Bool (u == f)) [
  | inl e ↦
      let more : times f (u ∷ us) ≡ 1 + times f us = count_yes (λ v. v == f) u us e in
      absurd (omega (arith, more, none))
  | inr ne ↦
      let more : times f (u ∷ us) ≡ times f us = count_no (λ v. v == f) u us ne in
      same_cons s other u us (others u (not_same u f ne)) (count_apart s other f us (omega (arith, more, none)) others)
]

-- a class that does not use the file sees no change
pub share_apart : (whole : ℕ) (s other : ℕ → Bool) (f g : ℕ) (c : Class) → times f c.users ≡ 0 → ((g : ℕ) → g ≢ f → other g ≡ s g) → share_of whole other c g ≡ share_of whole s c g
share_apart whole s other f g c none others = elim (cases_eq g f) [
  | inl e ↦
      let no_times : times g c.users ≡ 0 = ap (λ (x : ℕ). times x c.users) e ∙ none in
      ap (λ (t : ℕ). t * share whole (count_by other c.users) (other g) c.size) no_times
      ∙ (zero_times (share whole (count_by other c.users) (other g) c.size) (share whole (count_by s c.users) (s g) c.size)
      ∙ ap (λ (t : ℕ). t * share whole (count_by s c.users) (s g) c.size) (sym no_times))
  | inr ne ↦ λ i. times g c.users * share whole (count_apart s other f c.users none others i) (others g ne i) c.size
]
  where
    zero_times : (a b : ℕ) → 0 * a ≡ 0 * b
    zero_times a b = omega arith

-- the set and the one with a file flipped
pub beside_out : (flags : List Bool) (file : ℕ) → file < length flags → holds flags file ≡ true → IsBeside (holds (flipped flags file)) (holds flags) file
beside_out flags file lt inside = record { lacks = flipped_same flags file lt ∙ ap not inside; has = inside; others = λ g apart. sym (flipped_other flags file g apart) }

pub beside_in : (flags : List Bool) (file : ℕ) → file < length flags → holds flags file ≡ false → IsBeside (holds flags) (holds (flipped flags file)) file
beside_in flags file lt out = record { lacks = out; has = flipped_same flags file lt ∙ ap not out; others = λ g apart. flipped_other flags file g apart }

-- how many users of a class are in the set once one of them is flipped
pub some_before : (flags : List Bool) (file before : ℕ) (users : List ℕ) → file < length flags → times file users ≡ 1 → before ≡ count_by (holds flags) users → holds flags file ≡ true → 1 ≤ before
some_before flags file before users lt once is inside =
    let law : count_by (holds flags) users ≡ count_by (holds (flipped flags file)) users + times file users
    = count_beside (holds (flipped flags file)) (holds flags) file users (beside_out flags file lt inside) in
    omega (arith, law, once, is)

pub one_less : (flags : List Bool) (file before after : ℕ) (users : List ℕ) → file < length flags → times file users ≡ 1 → before ≡ count_by (holds flags) users → holds flags file ≡ true
    → after ≡ before - 1 → after ≡ count_by (holds (flipped flags file)) users
one_less flags file before after users lt once is inside less =
    let law : count_by (holds flags) users ≡ count_by (holds (flipped flags file)) users + times file users
    = count_beside (holds (flipped flags file)) (holds flags) file users (beside_out flags file lt inside) in
    omega (arith, law, once, is, less)

pub one_more : (flags : List Bool) (file before after : ℕ) (users : List ℕ) → file < length flags → times file users ≡ 1 → before ≡ count_by (holds flags) users → holds flags file ≡ false
    → after ≡ before + 1 → after ≡ count_by (holds (flipped flags file)) users
one_more flags file before after users lt once is out more =
    let law : count_by (holds (flipped flags file)) users ≡ count_by (holds flags) users + times file users
    = count_beside (holds flags) (holds (flipped flags file)) file users (beside_in flags file lt out) in
    omega (arith, law, once, is, more)
