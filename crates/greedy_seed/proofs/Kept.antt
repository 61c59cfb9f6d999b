-- What is kept of a set class by class: as classes are counted, and while a file moves.
use Rattle.std.specs.Prelude.{All, count_by, nat_lt, ◌==◌, if◌then◌else◌}
use Rattle.std.proofs.Common.{◌≡◌, ◌≢◌, ◌∙◌, ℕ, zero, suc, ◌+◌, ◌*◌, ◌<◌, ◌≤◌, ◌⊎◌, List, [], ◌∷◌, ◌++◌, Bool, true, set, length, get_or, take, replicate, refl, sym, ap, subst, arith, inl, inr}
use Rattle.std.proofs.Math.Seq.{take-length}
use Rattle.std.proofs.lemmas.Bool.{cases_Bool, cases_eq}
use Rattle.std.proofs.lemmas.Bool.Decides.{nat_tests}
use Rattle.std.proofs.lemmas.List.{get_or-set_same, get_or-set_other, get_or_default, get_or_append_left, get_or_push, get_or-replicate, length-replicate, length-set, length_push}
use Rattle.std.proofs.lemmas.List.Sums.{count_by-le-length, get_or-le-sum_by}
use Rattle.seed_model.specs.declared.limits.TheConstants.{MOST_BYTES, MOST_PAIRS}
use Rattle.seed_model.specs.declared.table.Class.{Class}
use Rattle.seed_model.specs.Keys.{class_at, no_class, sum_below}
use Rattle.seed_model.specs.Tables.{TableValue, IsTable}
use Rattle.seed_model.proofs.KeySums.{sum_below_same, sum_below_le, sum_below_entries}
use Rattle.greedy_seed.specs.declared.sharing.Shares.{Shares}
use Rattle.greedy_seed.specs.Shares.{times, share_of, HasClass, HaveRoom, AreChanged, AreShares, AreCounts, AreKept, AreUses}
use Rattle.greedy_seed.proofs.Counted.{IsNext, at_most_once, is_next, stands}
use Rattle.greedy_seed.proofs.Shares.{count_apart, share_apart}

-- a class has few users
pub users_few : (table : TableValue) (k files : ℕ) → HasClass table k files → length (class_at table.classes k).users ≤ MOST_PAIRS
users_few table k files has = omega (arith, get_or-le-sum_by (λ (c : Class). length c.users) table.classes k no_class has.within, has.lawful.pairs)

pub count_few : (table : TableValue) (k files count : ℕ) (s : ℕ → Bool) → HasClass table k files → count ≡ count_by s (class_at table.classes k).users → count ≤ MOST_PAIRS
count_few table k files count s has is = omega (arith, is, count_by-le-length s (class_at table.classes k).users, users_few table k files has)

-- what is known of a class that a file uses
pub record AtClass (table : TableValue) (file files : ℕ) (classes : List ℕ) (i k : ℕ) : Type 0 where
  pub has : HasClass table k files
  pub next : IsNext classes i k
  pub user : times file (class_at table.classes k).users ≡ 1

pub at_class : (table : TableValue) (file files : ℕ) (classes : List ℕ) (i : ℕ) → IsTable table → files ≡ table.files → AreUses table file classes → i < length classes
    → AtClass table file files classes i (get_or classes i 0)
at_class table file files classes i t same uses lt =
    let k = get_or classes i 0 in
    let below : k < length table.classes = uses.below i 0 lt in
    let often = uses.each k below in
    let few = at_most_once file (class_at table.classes k).users (t.each k no_class below).rising in
    let some : 1 ≤ times k classes = stands classes i lt in
    record {
      has = record { lawful = t; within = below; files = same };
      next = is_next classes i k lt refl (omega (arith, often, few));
      user = omega (arith, often, few, some);
    }

-- a sum with one term changed
change_one : (f h : ℕ → ℕ) (k n : ℕ) → k < n → ((j : ℕ) → j ≢ k → f j ≡ h j) → sum_below h n + f k ≡ sum_below f n + h k
change_one f h k zero lt same = absurd (omega arith)
change_one f h k (suc n) lt same = elim (cases_eq n k) [
  | inl e ↦
      let below = sum_below_same f h n (λ j l. same j (λ q. absurd (omega (arith, e, q, l)))) in
      omega (arith, below, ap f e, ap h e)
  | inr ne ↦ omega (arith, change_one f h k n (omega (arith, lt, ne)) same, same n ne)
]

-- no term is more than the sum, and no first part
term_below : (f : ℕ → ℕ) (k n : ℕ) → k < n → f k ≤ sum_below f n
term_below f k zero lt = absurd (omega arith)
term_below f k (suc n) lt = elim (cases_eq n k) [ inl e ↦ omega (arith, ap f e) | inr ne ↦ omega (arith, term_below f k n (omega (arith, lt, ne))) ]

part_below : (f : ℕ → ℕ) (k n : ℕ) → k ≤ n → sum_below f k ≤ sum_below f n
part_below f k zero le = let none : k ≡ 0 = omega (arith, le) in rw none (omega arith)
part_below f k (suc n) le = elim (cases_eq k (suc n)) [ inl e ↦ rw e (omega arith) | inr ne ↦ omega (arith, part_below f k n (omega (arith, le, ne))) ]

-- no share is more than the bytes of its class
share_at_most : (whole count : ℕ) (b : Bool) (size t : ℕ) → t ≤ 1 → t * (if count + (if b then 0 else 1) == whole then size else 0) ≤ size
share_at_most whole count b size t le = elim (cases_eq t 0) [
  | inl e ↦ rw e (omega arith)
  | inr ne ↦
      let one : t ≡ 1 = omega (arith, le, ne) in
      rw one (elim (cases_Bool (count + (if b then 0 else 1) == whole)) [ inl y ↦ rw y (omega arith) | inr n ↦ rw n (omega arith) ])
]

-- so no file has large shares
shares_small : (whole : Class → ℕ) (sets : ℕ → ℕ → Bool) (table : TableValue) (n : ℕ) (shares : List ℕ) → IsTable table → n ≤ length table.classes → AreShares whole sets table n shares
    → All (λ bytes. bytes ≤ MOST_BYTES) shares
shares_small whole sets table n shares t le are g d below =
    let f : ℕ → ℕ = λ j. share_of (whole (class_at table.classes j)) (sets j) (class_at table.classes j) g in
    let sizes : ℕ → ℕ = λ j. (class_at table.classes j).size in
    let most = sum_below_le f sizes n
    (λ j l. share_at_most (whole (class_at table.classes j)) (count_by (sets j) (class_at table.classes j).users) (sets j g) (class_at table.classes j).size
    (times g (class_at table.classes j).users) (at_most_once g (class_at table.classes j).users (t.each j no_class (omega (arith, l, le))).rising)) in
    let part = part_below sizes n (length table.classes) le in
    let all = sum_below_entries (λ (c : Class). c.size) table.classes no_class in
    let read : get_or shares g d ≡ get_or shares g 0 = get_or_default shares g d 0 below in
    omega (arith, read, are.each g (omega (arith, below, are.long)), most, part, all, t.bytes)

-- nothing is counted at first
pub kept_none : (sets : ℕ → ℕ → Bool) (table : TableValue) (shares : Shares) → shares.counts.items ≡ [] → shares.gains.items ≡ replicate table.files 0
    → shares.reaches.items ≡ replicate table.files 0 → AreKept sets table 0 shares
kept_none sets table shares counts gains reaches = record {
  counts = record { long = ap length counts; each = λ k lt. absurd (omega (arith, lt)) };
  gains = none (λ class. length class.users) shares.gains.items gains;
  reaches = none (λ class. 1) shares.reaches.items reaches;
}
  where
    none : (whole : Class → ℕ) (values : List ℕ) → values ≡ replicate table.files 0 → AreShares whole sets table 0 values
    none whole values is = record {
      long = ap length is ∙ length-replicate table.files 0;
      each = λ g below. ap (λ (l : List ℕ). get_or l g 0) is ∙ get_or-replicate table.files g 0 0 below;
    }

-- there is room for a class more
pub room_for_more : (whole : Class → ℕ) (sets : ℕ → ℕ → Bool) (table : TableValue) (n : ℕ) (shares values : List ℕ) → IsTable table → n ≤ length table.classes
    → AreShares whole sets table n shares → values ≡ shares → HaveRoom table.files (λ g. 0) values
room_for_more whole sets table n shares values t le are same =
    let P : List ℕ → Type 0 = λ l. HaveRoom table.files (λ g. 0) l in
    let have : P shares = record {
      long = are.long;
      small = shares_small whole sets table n shares t le are;
      room = λ g below. omega arith;
    } in
    subst P (sym same) have

-- what is added, told of the class and of the values before
pub changed_from : (whole k : ℕ) (s : ℕ → Bool) (c : Class) (given old new made : List ℕ) → whole ≡ k → given ≡ old → made ≡ new → AreChanged (λ g. 0) (share_of whole s c) given new
    → AreChanged (λ g. 0) (share_of k s c) old made
changed_from whole k s c given old new made is same kept changed =
    let P : ℕ → Type 0 = λ w. AreChanged (λ g. 0) (share_of w s c) given new in
    let Q : List ℕ → Type 0 = λ l. AreChanged (λ g. 0) (share_of k s c) l new in
    let R : List ℕ → Type 0 = λ l. AreChanged (λ g. 0) (share_of k s c) old l in
    subst R (sym kept) (subst Q same (subst P is changed))

-- a class more
shares_push : (whole : Class → ℕ) (s : ℕ → Bool) (table : TableValue) (n : ℕ) (old new : List ℕ) → AreShares whole (λ class. s) table n old
    → AreChanged (λ g. 0) (share_of (whole (class_at table.classes n)) s (class_at table.classes n)) old new → AreShares whole (λ class. s) table (n + 1) new
shares_push whole s table n old new are changed = record {
  long = changed.long ∙ are.long;
  each = λ g below.
      let f : ℕ → ℕ = λ j. share_of (whole (class_at table.classes j)) s (class_at table.classes j) g in
      let more : n + 1 ≡ suc n = omega arith in
      let next : sum_below f (n + 1) ≡ sum_below f n + f n = ap (sum_below f) more in
      omega (arith, changed.each g (omega (arith, below, are.long)), are.each g below, next);
}

counts_push : (s : ℕ → Bool) (table : TableValue) (n count : ℕ) (old new : List ℕ) → count ≡ count_by s (class_at table.classes n).users → new ≡ old ++ count ∷ []
    → AreCounts (λ class. s) table n old → AreCounts (λ class. s) table (n + 1) new
counts_push s table n count old new is pushed are = record {
  long = ap length pushed ∙ (length_push old count ∙ omega (arith, are.long));
  each = λ k lt. ap (λ (l : List ℕ). get_or l k 0) pushed ∙ elim (cases_eq k n) [
    | inl e ↦ rw e (get_or_push old count 0 n are.long ∙ is)
    | inr ne ↦
        let inside : k < n = omega (arith, lt, ne) in
        get_or_append_left old (count ∷ []) 0 k (omega (arith, inside, are.long)) ∙ are.each k inside
  ];
}

pub kept_push : (s : ℕ → Bool) (table : TableValue) (n count : ℕ) (old new : Shares) → count ≡ count_by s (class_at table.classes n).users → new.counts.items ≡ old.counts.items ++ count ∷ []
    → AreChanged (λ g. 0) (share_of (length (class_at table.classes n).users) s (class_at table.classes n)) old.gains.items new.gains.items
    → AreChanged (λ g. 0) (share_of 1 s (class_at table.classes n)) old.reaches.items new.reaches.items
    → AreKept (λ class. s) table n old → AreKept (λ class. s) table (n + 1) new
kept_push s table n count old new is counts gains reaches kept = record {
  counts = counts_push s table n count old.counts.items new.counts.items is counts kept.counts;
  gains = shares_push (λ class. length class.users) s table n old.gains.items new.gains.items kept.gains gains;
  reaches = shares_push (λ class. 1) s table n old.reaches.items new.reaches.items kept.reaches reaches;
}

-- the set that each class sees, once those of some numbers see the other one
abbrev pub sets_at : (ℕ → Bool) → (ℕ → Bool) → List ℕ → ℕ → ℕ → Bool
sets_at s other moved k = if nat_lt 0 (times k moved) then other else s

sees_first : (s other : ℕ → Bool) (numbers : List ℕ) (i k : ℕ) → IsNext numbers i k → sets_at s other (take i numbers) k ≡ s
sees_first s other numbers i k next = ap (λ (n : ℕ). if nat_lt 0 n then other else s) next.none

sees_other : (s other : ℕ → Bool) (numbers : List ℕ) (i k : ℕ) → IsNext numbers i k → sets_at s other (take (i + 1) numbers) k ≡ other
sees_other s other numbers i k next = ap (λ (n : ℕ). if nat_lt 0 n then other else s) next.one

sees_same : (s other : ℕ → Bool) (numbers : List ℕ) (i k j : ℕ) → IsNext numbers i k → j ≢ k → sets_at s other (take (i + 1) numbers) j ≡ sets_at s other (take i numbers) j
sees_same s other numbers i k j next apart = ap (λ (n : ℕ). if nat_lt 0 n then other else s) (next.others j apart)

-- the shares of a class that is next can be taken
pub room_for_move : (whole : Class → ℕ) (s other : ℕ → Bool) (table : TableValue) (numbers shares : List ℕ) (i k : ℕ) → IsTable table → IsNext numbers i k → k < length table.classes
    → AreShares whole (sets_at s other (take i numbers)) table (length table.classes) shares
    → HaveRoom table.files (share_of (whole (class_at table.classes k)) s (class_at table.classes k)) shares
room_for_move whole s other table numbers shares i k t next lt are = record {
  long = are.long;
  small = shares_small whole (sets_at s other (take i numbers)) table (length table.classes) shares t (omega arith) are;
  room = λ g below.
      let f : ℕ → ℕ = λ j. share_of (whole (class_at table.classes j)) (sets_at s other (take i numbers) j) (class_at table.classes j) g in
      let part = term_below f k (length table.classes) lt in
      let mine : f k ≡ share_of (whole (class_at table.classes k)) s (class_at table.classes k) g
      = ap (λ (x : ℕ → Bool). share_of (whole (class_at table.classes k)) x (class_at table.classes k) g) (sees_first s other numbers i k next) in
      omega (arith, are.each g below, part, mine);
}

-- the class that is next sees the other set
shares_next : (whole : Class → ℕ) (s other : ℕ → Bool) (table : TableValue) (numbers old new : List ℕ) (i k : ℕ) → IsNext numbers i k → k < length table.classes
    → AreChanged (share_of (whole (class_at table.classes k)) s (class_at table.classes k)) (share_of (whole (class_at table.classes k)) other (class_at table.classes k)) old new
    → AreShares whole (sets_at s other (take i numbers)) table (length table.classes) old → AreShares whole (sets_at s other (take (i + 1) numbers)) table (length table.classes) new
shares_next whole s other table numbers old new i k next lt changed are = record {
  long = changed.long ∙ are.long;
  each = λ g below.
      let at : (ℕ → Bool) → ℕ → ℕ = λ t j. share_of (whole (class_at table.classes j)) t (class_at table.classes j) g in
      let f : ℕ → ℕ = λ j. at (sets_at s other (take i numbers) j) j in
      let h : ℕ → ℕ = λ j. at (sets_at s other (take (i + 1) numbers) j) j in
      let one = change_one f h k (length table.classes) lt (λ j apart. ap (λ (t : ℕ → Bool). at t j) (sym (sees_same s other numbers i k j next apart))) in
      let before : f k ≡ at s k = ap (λ (t : ℕ → Bool). at t k) (sees_first s other numbers i k next) in
      let after : h k ≡ at other k = ap (λ (t : ℕ → Bool). at t k) (sees_other s other numbers i k next) in
      omega (arith, one, before, after, changed.each g (omega (arith, below, are.long)), are.each g below);
}

counts_next : (s other : ℕ → Bool) (table : TableValue) (numbers old new : List ℕ) (i k : ℕ) → IsNext numbers i k → k < length table.classes
    → new ≡ set old k (count_by other (class_at table.classes k).users) → AreCounts (sets_at s other (take i numbers)) table (length table.classes) old
    → AreCounts (sets_at s other (take (i + 1) numbers)) table (length table.classes) new
counts_next s other table numbers old new i k next lt is are =
    let v = count_by other (class_at table.classes k).users in
    record {
      long = ap length is ∙ (length-set old k v ∙ are.long);
      each = λ j within. ap (λ (l : List ℕ). get_or l j 0) is ∙ elim (cases_eq j k) [
        | inl e ↦
            let here : get_or (set old k v) k 0 ≡ v = get_or-set_same old k v 0 (omega (arith, lt, are.long)) in
            rw e (here ∙ ap (λ (t : ℕ → Bool). count_by t (class_at table.classes k).users) (sym (sees_other s other numbers i k next)))
        | inr apart ↦
            get_or-set_other old k j v 0 apart ∙ (are.each j within ∙ ap (λ (t : ℕ → Bool). count_by t (class_at table.classes j).users) (sym (sees_same s other numbers i k j next apart)))
      ];
    }

pub kept_next : (s other : ℕ → Bool) (table : TableValue) (numbers : List ℕ) (old new : Shares) (i k : ℕ) → IsNext numbers i k → k < length table.classes
    → new.counts.items ≡ set old.counts.items k (count_by other (class_at table.classes k).users)
    → AreChanged (share_of (length (class_at table.classes k).users) s (class_at table.classes k)) (share_of (length (class_at table.classes k).users) other (class_at table.classes k)) old.gains.items new.gains.items
    → AreChanged (share_of 1 s (class_at table.classes k)) (share_of 1 other (class_at table.classes k)) old.reaches.items new.reaches.items
    → AreKept (sets_at s other (take i numbers)) table (length table.classes) old → AreKept (sets_at s other (take (i + 1) numbers)) table (length table.classes) new
kept_next s other table numbers old new i k next lt counts gains reaches kept = record {
  counts = counts_next s other table numbers old.counts.items new.counts.items i k next lt counts kept.counts;
  gains = shares_next (λ class. length class.users) s other table numbers old.gains.items new.gains.items i k next lt gains kept.gains;
  reaches = shares_next (λ class. 1) s other table numbers old.reaches.items new.reaches.items i k next lt reaches kept.reaches;
}

-- how many users of the next class are in the first set
pub count_first : (s other : ℕ → Bool) (table : TableValue) (numbers counts : List ℕ) (i k : ℕ) → IsNext numbers i k → k < length table.classes
    → AreCounts (sets_at s other (take i numbers)) table (length table.classes) counts → get_or counts k 0 ≡ count_by s (class_at table.classes k).users
count_first s other table numbers counts i k next lt are =
    are.each k lt ∙ ap (λ (t : ℕ → Bool). count_by t (class_at table.classes k).users) (sees_first s other numbers i k next)

-- a class that does not use the file sees no difference
sees_either : (s other : ℕ → Bool) (table : TableValue) (file : ℕ) (numbers : List ℕ) (k : ℕ) → AreUses table file numbers → k < length table.classes
    → (sets_at s other numbers k ≡ other) ⊎ ((sets_at s other numbers k ≡ s) × (times file (class_at table.classes k).users ≡ 0))
sees_either s other table file numbers k uses lt = elim (cases_eq (times k numbers) 0) [
  | inl none ↦ inr (ap (λ (n : ℕ). if nat_lt 0 n then other else s) none, sym (uses.each k lt) ∙ none)
  | inr some ↦
      let yes : nat_lt 0 (times k numbers) ≡ true = grind (arith, nat_tests, some) in
      inl (ap (λ (b : Bool). if b then other else s) yes)
]

shares_all : (whole : Class → ℕ) (s other : ℕ → Bool) (table : TableValue) (file : ℕ) (numbers shares : List ℕ) → AreUses table file numbers → ((g : ℕ) → g ≢ file → other g ≡ s g)
    → AreShares whole (sets_at s other numbers) table (length table.classes) shares → AreShares whole (λ class. other) table (length table.classes) shares
shares_all whole s other table file numbers shares uses others are = record {
  long = are.long;
  each = λ g below.
      let at : (ℕ → Bool) → ℕ → ℕ = λ t j. share_of (whole (class_at table.classes j)) t (class_at table.classes j) g in
      are.each g below ∙ sum_below_same (λ j. at (sets_at s other numbers j) j) (at other) (length table.classes) (λ j l. elim (sees_either s other table file numbers j uses l) [
        | inl same ↦ ap (λ (t : ℕ → Bool). at t j) same
        | inr first ↦ ap (λ (t : ℕ → Bool). at t j) first.0 ∙ sym (share_apart (whole (class_at table.classes j)) s other file g (class_at table.classes j) first.1 others)
      ]);
}

counts_all : (s other : ℕ → Bool) (table : TableValue) (file : ℕ) (numbers counts : List ℕ) → AreUses table file numbers → ((g : ℕ) → g ≢ file → other g ≡ s g)
    → AreCounts (sets_at s other numbers) table (length table.classes) counts → AreCounts (λ class. other) table (length table.classes) counts
counts_all s other table file numbers counts uses others are = record {
  long = are.long;
  each = λ k lt.
      let at : (ℕ → Bool) → ℕ = λ t. count_by t (class_at table.classes k).users in
      are.each k lt ∙ elim (sees_either s other table file numbers k uses lt) [
        | inl same ↦ ap at same
        | inr first ↦ ap at first.0 ∙ sym (count_apart s other file (class_at table.classes k).users first.1 others)
      ];
}

-- once all classes of the file see the other set, all do
pub kept_all : (s other : ℕ → Bool) (table : TableValue) (file : ℕ) (numbers : List ℕ) (i : ℕ) (shares : Shares) → i ≡ length numbers → AreUses table file numbers
    → ((g : ℕ) → g ≢ file → other g ≡ s g) → AreKept (sets_at s other (take i numbers)) table (length table.classes) shares → AreKept (λ class. other) table (length table.classes) shares
kept_all s other table file numbers i shares all uses others kept =
    let P : List ℕ → Type 0 = λ t. AreKept (sets_at s other t) table (length table.classes) shares in
    let whole : AreKept (sets_at s other numbers) table (length table.classes) shares = subst P (ap (λ (n : ℕ). take n numbers) all ∙ take-length numbers) kept in
    record {
      counts = counts_all s other table file numbers shares.counts.items uses others whole.counts;
      gains = shares_all (λ class. length class.users) s other table file numbers shares.gains.items uses others whole.gains;
      reaches = shares_all (λ class. 1) s other table file numbers shares.reaches.items uses others whole.reaches;
    }
