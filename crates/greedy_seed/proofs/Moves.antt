-- Values of files that change, user by user.
use Rattle.std.specs.Prelude.{count_by}
use Rattle.std.proofs.Common.{Bool, ◌≡◌, ◌∙◌, ℕ, ◌+◌, ◌-◌, ◌*◌, ◌<◌, ◌≤◌, List, set, length, get_or, take, refl, sym, ap, subst, arith, inl, inr}
use Rattle.std.proofs.Math.Seq.{take-length}
use Rattle.std.proofs.lemmas.Bool.{cases_eq}
use Rattle.std.proofs.lemmas.List.{get_or-set_same, get_or-set_other, length-set}
use Rattle.seed_model.specs.declared.limits.TheConstants.{MOST_BYTES}
use Rattle.seed_model.specs.declared.table.Class.{Class}
use Rattle.seed_model.specs.Keys.{class_at, no_class}
use Rattle.seed_model.specs.Tables.{TableValue}
use Rattle.greedy_seed.specs.Shares.{times, share, share_of, AreChanged, HasClass, HaveRoom}
use Rattle.greedy_seed.proofs.Counted.{IsNext, at_most_once, is_next, stands}

-- what is taken or added so far
abbrev pub so_far : List ℕ → ℕ → (ℕ → ℕ) → ℕ → ℕ
so_far users i amount g = times g (take i users) * amount g

pub changed_none : (users old : List ℕ) (less more : ℕ → ℕ) → AreChanged (so_far users 0 less) (so_far users 0 more) old old
changed_none users old less more = record { long = refl; each = λ g below. none (get_or old g 0) (less g) (more g) }
  where
    none : (x l m : ℕ) → x + 0 * l ≡ x + 0 * m
    none x l m = omega arith

-- the value of the next user is still the one at the start
pub still : (users old now : List ℕ) (i u : ℕ) (less more : ℕ → ℕ) → IsNext users i u → u < length old
    → AreChanged (so_far users i less) (so_far users i more) old now → get_or now u 0 ≡ get_or old u 0
still users old now i u less more next below h =
    let no_less : so_far users i less u ≡ 0 * less u = ap (λ (t : ℕ). t * less u) next.none in
    let no_more : so_far users i more u ≡ 0 * more u = ap (λ (t : ℕ). t * more u) next.none in
    let each : get_or now u 0 + so_far users i less u ≡ get_or old u 0 + so_far users i more u = h.each u below in
    omega (arith, each, no_less, no_more)

-- the value of one user more is changed
pub changed_next : (users old now : List ℕ) (i u v : ℕ) (less more : ℕ → ℕ) → IsNext users i u → u < length old → v + less u ≡ get_or now u 0 + more u
    → AreChanged (so_far users i less) (so_far users i more) old now → AreChanged (so_far users (i + 1) less) (so_far users (i + 1) more) old (set now u v)
changed_next users old now i u v less more next below changed h = record {
  long = length-set now u v ∙ h.long;
  each = λ g within. elim (cases_eq g u) [
    | inl e ↦
        let P : ℕ → Type 0 = λ n. get_or (set now u v) n 0 + so_far users (i + 1) less n ≡ get_or old n 0 + so_far users (i + 1) more n in
        let here : get_or (set now u v) u 0 ≡ v = get_or-set_same now u v 0 (omega (arith, below, h.long)) in
        let one_less : so_far users (i + 1) less u ≡ 1 * less u = ap (λ (t : ℕ). t * less u) next.one in
        let one_more : so_far users (i + 1) more u ≡ 1 * more u = ap (λ (t : ℕ). t * more u) next.one in
        let own : P u = omega (arith, here, one_less, one_more, changed, still users old now i u less more next below h) in
        subst P (sym e) own
    | inr ne ↦
        let there : get_or (set now u v) g 0 ≡ get_or now g 0 = get_or-set_other now u g v 0 ne in
        let same_less : so_far users (i + 1) less g ≡ so_far users i less g = ap (λ (t : ℕ). t * less g) (next.others g ne) in
        let same_more : so_far users (i + 1) more g ≡ so_far users i more g = ap (λ (t : ℕ). t * more g) (next.others g ne) in
        omega (arith, there, same_less, same_more, h.each g within)
  ];
}

-- after all users
pub changed_all : (users old now : List ℕ) (i : ℕ) (less more : ℕ → ℕ) → i ≡ length users → AreChanged (so_far users i less) (so_far users i more) old now
    → AreChanged (λ g. times g users * less g) (λ g. times g users * more g) old now
changed_all users old now i less more all h =
    let P : List ℕ → Type 0 = λ t. AreChanged (λ g. times g t * less g) (λ g. times g t * more g) old now in
    subst P (ap (λ (n : ℕ). take n users) all ∙ take-length users) h

-- no value is large, and what is to be taken is there
pub record Fits (value less : ℕ) : Type 0 where
  pub small : value ≤ MOST_BYTES
  pub room : less ≤ value

pub fits_here : (users old now : List ℕ) (i u files : ℕ) (less more : ℕ → ℕ) → IsNext users i u → times u users ≡ 1 → u < files → HaveRoom files (λ g. times g users * less g) old
    → AreChanged (so_far users i less) (so_far users i more) old now → Fits (get_or now u 0) (less u)
fits_here users old now i u files less more next once below have h =
    let within : u < length old = omega (arith, below, have.long) in
    let same = still users old now i u less more next within h in
    let here : times u users * less u ≡ 1 * less u = ap (λ (t : ℕ). t * less u) once in
    record { small = omega (arith, same, have.small u 0 within); room = omega (arith, same, here, have.room u below) }

-- what is known of a user of a class
pub record AtUser (files : ℕ) (users : List ℕ) (i u : ℕ) : Type 0 where
  pub below : u < files
  pub next : IsNext users i u
  pub once : times u users ≡ 1

pub at_user : (table : TableValue) (k files : ℕ) (items : List ℕ) (i : ℕ) → HasClass table k files → items ≡ (class_at table.classes k).users → i < length items
    → AtUser table.files (class_at table.classes k).users i (get_or items i 0)
at_user table k files items i has same lt =
    let users = (class_at table.classes k).users in
    let class = has.lawful.each k no_class has.within in
    let within : i < length users = omega (arith, lt, ap length same) in
    let u = get_or items i 0 in
    let is : u ≡ get_or users i 0 = ap (λ (l : List ℕ). get_or l i 0) same in
    let few = at_most_once u users class.rising in
    let some : 1 ≤ times u users = rw is (stands users i within) in
    record { below = omega (arith, class.below i 0 within, is); next = is_next users i u within is few; once = omega (arith, few, some) }

-- a share that is computed, of a class and a user as they are
pub share_is : (whole count k bytes size x : ℕ) (b inside : Bool) → x ≡ share whole count b bytes → count ≡ k → b ≡ inside → bytes ≡ size → x ≡ share whole k inside size
share_is whole count k bytes size x b inside is counts flags sizes = is ∙ (λ i. share whole (counts i) (flags i) (sizes i))

-- one user more has its share added
room_none : (files : ℕ) (users values : List ℕ) → HaveRoom files (λ g. 0) values → HaveRoom files (λ g. times g users * 0) values
room_none files users values have = record { long = have.long; small = have.small; room = λ g below. omega arith }

pub add_fits : (table : TableValue) (k files whole i : ℕ) (s : ℕ → Bool) (items old now : List ℕ) → HasClass table k files → items ≡ (class_at table.classes k).users → i < length items
    → HaveRoom table.files (λ g. 0) old
    → AreChanged (so_far (class_at table.classes k).users i (λ g. 0)) (so_far (class_at table.classes k).users i (λ g. share whole (count_by s (class_at table.classes k).users) (s g) (class_at table.classes k).size)) old now
    → get_or now (get_or items i 0) 0 ≤ MOST_BYTES
add_fits table k files whole i s items old now has same lt have h =
    let c = class_at table.classes k in
    let at = at_user table k files items i has same lt in
    let fits = fits_here c.users old now i (get_or items i 0) table.files (λ g. 0) (λ g. share whole (count_by s c.users) (s g) c.size) at.next at.once at.below (room_none table.files c.users old have) h in
    fits.small

pub add_next : (table : TableValue) (k files whole i x : ℕ) (s : ℕ → Bool) (items old now : List ℕ) → HasClass table k files → items ≡ (class_at table.classes k).users → i < length items
    → HaveRoom table.files (λ g. 0) old → x ≡ share whole (count_by s (class_at table.classes k).users) (s (get_or items i 0)) (class_at table.classes k).size
    → AreChanged (so_far (class_at table.classes k).users i (λ g. 0)) (so_far (class_at table.classes k).users i (λ g. share whole (count_by s (class_at table.classes k).users) (s g) (class_at table.classes k).size)) old now
    → AreChanged (so_far (class_at table.classes k).users (i + 1) (λ g. 0)) (so_far (class_at table.classes k).users (i + 1) (λ g. share whole (count_by s (class_at table.classes k).users) (s g) (class_at table.classes k).size)) old
    (set now (get_or items i 0) (get_or now (get_or items i 0) 0 + x))
add_next table k files whole i x s items old now has same lt have is h =
    let c = class_at table.classes k in
    let u = get_or items i 0 in
    let at = at_user table k files items i has same lt in
    changed_next c.users old now i u (get_or now u 0 + x) (λ g. 0) (λ g. share whole (count_by s c.users) (s g) c.size) at.next (omega (arith, at.below, have.long)) (omega (arith, is)) h

-- one user more has its share changed
pub move_fits : (table : TableValue) (k files whole i count bytes : ℕ) (s other : ℕ → Bool) (items old now : List ℕ) → HasClass table k files → items ≡ (class_at table.classes k).users → i < length items
    → HaveRoom table.files (share_of whole s (class_at table.classes k)) old → count ≡ count_by s (class_at table.classes k).users → bytes ≡ (class_at table.classes k).size
    → AreChanged (so_far (class_at table.classes k).users i (λ g. share whole (count_by s (class_at table.classes k).users) (s g) (class_at table.classes k).size))
    (so_far (class_at table.classes k).users i (λ g. share whole (count_by other (class_at table.classes k).users) (other g) (class_at table.classes k).size)) old now
    → Fits (get_or now (get_or items i 0) 0) (share whole count (s (get_or items i 0)) bytes)
move_fits table k files whole i count bytes s other items old now has same lt have counts sizes h =
    let c = class_at table.classes k in
    let u = get_or items i 0 in
    let at = at_user table k files items i has same lt in
    let fits = fits_here c.users old now i u table.files (λ g. share whole (count_by s c.users) (s g) c.size) (λ g. share whole (count_by other c.users) (other g) c.size) at.next at.once at.below have h in
    let is : share whole count (s u) bytes ≡ share whole (count_by s c.users) (s u) c.size = λ i. share whole (counts i) (s u) (sizes i) in
    record { small = fits.small; room = omega (arith, fits.room, is) }

pub move_next : (table : TableValue) (k files whole i before after bytes : ℕ) (s other : ℕ → Bool) (items old now new : List ℕ) → HasClass table k files → items ≡ (class_at table.classes k).users
    → i < length items → HaveRoom table.files (share_of whole s (class_at table.classes k)) old → before ≡ count_by s (class_at table.classes k).users
    → after ≡ count_by other (class_at table.classes k).users → bytes ≡ (class_at table.classes k).size
    → new ≡ set now (get_or items i 0) (get_or now (get_or items i 0) 0 + share whole after (other (get_or items i 0)) bytes - share whole before (s (get_or items i 0)) bytes)
    → AreChanged (so_far (class_at table.classes k).users i (λ g. share whole (count_by s (class_at table.classes k).users) (s g) (class_at table.classes k).size))
    (so_far (class_at table.classes k).users i (λ g. share whole (count_by other (class_at table.classes k).users) (other g) (class_at table.classes k).size)) old now
    → AreChanged (so_far (class_at table.classes k).users (i + 1) (λ g. share whole (count_by s (class_at table.classes k).users) (s g) (class_at table.classes k).size))
    (so_far (class_at table.classes k).users (i + 1) (λ g. share whole (count_by other (class_at table.classes k).users) (other g) (class_at table.classes k).size)) old new
move_next table k files whole i before after bytes s other items old now new has same lt have befores afters sizes is h =
    let c = class_at table.classes k in
    let u = get_or items i 0 in
    let less : ℕ → ℕ = λ g. share whole (count_by s c.users) (s g) c.size in
    let more : ℕ → ℕ = λ g. share whole (count_by other c.users) (other g) c.size in
    let at = at_user table k files items i has same lt in
    let fits = fits_here c.users old now i u table.files less more at.next at.once at.below have h in
    let one : share whole before (s u) bytes ≡ less u = λ i. share whole (befores i) (s u) (sizes i) in
    let two : share whole after (other u) bytes ≡ more u = λ i. share whole (afters i) (other u) (sizes i) in
    let v = get_or now u 0 + share whole after (other u) bytes - share whole before (s u) bytes in
    let changed : v + less u ≡ get_or now u 0 + more u = omega (arith, fits.room, one, two) in
    let P : List ℕ → Type 0 = λ t. AreChanged (so_far c.users (i + 1) less) (so_far c.users (i + 1) more) old t in
    subst P (sym is) (changed_next c.users old now i u v less more at.next (omega (arith, at.below, have.long)) changed h)

-- what is changed for all users
pub moved_all : (whole i : ℕ) (s other : ℕ → Bool) (c : Class) (old now : List ℕ) → i ≡ length c.users
    → AreChanged (so_far c.users i (λ g. share whole (count_by s c.users) (s g) c.size)) (so_far c.users i (λ g. share whole (count_by other c.users) (other g) c.size)) old now
    → AreChanged (share_of whole s c) (share_of whole other c) old now
moved_all whole i s other c old now all h =
    changed_all c.users old now i (λ g. share whole (count_by s c.users) (s g) c.size) (λ g. share whole (count_by other c.users) (other g) c.size) all h

-- what is added for all users
pub added_all : (whole i : ℕ) (s : ℕ → Bool) (c : Class) (old now : List ℕ) → i ≡ length c.users
    → AreChanged (so_far c.users i (λ g. 0)) (so_far c.users i (λ g. share whole (count_by s c.users) (s g) c.size)) old now → AreChanged (λ g. 0) (share_of whole s c) old now
added_all whole i s c old now all h =
    let done = changed_all c.users old now i (λ g. 0) (λ g. share whole (count_by s c.users) (s g) c.size) all h in
    record { long = done.long; each = λ g below. omega (arith, done.each g below) }

-- nothing changes where no user has a share before or after
pub changed_apart : (whole : ℕ) (s other : ℕ → Bool) (c : Class) (values : List ℕ) → ((inside : Bool) (bytes : ℕ) → share whole (count_by s c.users) inside bytes ≡ 0)
    → ((inside : Bool) (bytes : ℕ) → share whole (count_by other c.users) inside bytes ≡ 0) → AreChanged (share_of whole s c) (share_of whole other c) values values
changed_apart whole s other c values before after = record { long = refl; each = λ g below. rw (before (s g) c.size, after (other g) c.size) refl }
