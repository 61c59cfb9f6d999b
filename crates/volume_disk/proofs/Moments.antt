-- How a run of calls goes on. For the crates above.
use Rattle.std.proofs.Common.{inl, inr, ⊎_elim, ℕ, ◌≤◌, arith}
use Rattle.volume_disk.specs.Disk.{Images}
use Rattle.volume_disk.specs.Time.{Elapses, Passes}

module _ {D : Type 0} (moment : D → ℕ) (left_since : D → ℕ → Images → Type 0) where
  -- before the first call
  pub begins : (old : D) (P : Images → Type 0) → ((c : Images) → left_since old (moment old) c → P c) → Passes moment left_since old old P
  begins old P here = record { later = omega arith; each = here; before = λ t c le left. inl left }

  -- one call more, after which a crash leaves only images that have P
  pub goes_on : (old mid new : D) (P may_leave : Images → Type 0) → Passes moment left_since old mid P → Elapses (moment mid) (moment new) (left_since mid) (left_since new) may_leave
      → ((c : Images) → may_leave c → P c) → Passes moment left_since old new P
  goes_on old mid new P may_leave so_far time here = record {
    later = omega (arith, so_far.later, time.later);
    each = λ c left. ⊎_elim (so_far.each c) (here c) (time.nothing_else (moment old) c so_far.later left);
    before = λ t c le left. ⊎_elim (so_far.before t c le) (λ now. inr (here c now)) (time.nothing_else t c (omega (arith, le, so_far.later)) left);
  }

  -- what a crash now may leave has the property too
  pub holds_now : (old now : D) (P may_leave : Images → Type 0) → ((t : ℕ) (c : Images) → t ≤ moment now → may_leave c → left_since now t c) → Passes moment left_since old now P → (c : Images) → may_leave c → P c
  holds_now old now P may_leave counts passes = λ c left. passes.each c (counts (moment old) c passes.later left)

  -- one call more, after which a crash leaves nothing that it might not have left before: a size, a read, a sync
  pub goes_on_quietly : (old mid new : D) (P might_leave may_leave : Images → Type 0) → ((t : ℕ) (c : Images) → t ≤ moment mid → might_leave c → left_since mid t c) → Passes moment left_since old mid P
      → Elapses (moment mid) (moment new) (left_since mid) (left_since new) may_leave → ((c : Images) → may_leave c → might_leave c) → Passes moment left_since old new P
  goes_on_quietly old mid new P might_leave may_leave counts passes time fewer =
      goes_on old mid new P may_leave passes time (λ c left. holds_now old mid P might_leave counts passes c (fewer c left))

  -- the same calls, and a weaker property
  pub weaker : (old new : D) (P Q : Images → Type 0) → Passes moment left_since old new P → ((c : Images) → P c → Q c) → Passes moment left_since old new Q
  weaker old new P Q passes implies = record {
    later = passes.later;
    each = λ c left. implies c (passes.each c left);
    before = λ t c le left. ⊎_elim (λ past. inl past) (λ now. inr (implies c now)) (passes.before t c le left);
  }

  -- two runs of calls, of which the second's property gives the first's
  pub follows_on : (a b c : D) (P Q : Images → Type 0) → Passes moment left_since a b P → Passes moment left_since b c Q → ((x : Images) → Q x → P x) → Passes moment left_since a c P
  follows_on a b c P Q first second implies = record {
    later = omega (arith, first.later, second.later);
    each = λ x left. ⊎_elim (first.each x) (implies x) (second.before (moment a) x first.later left);
    before = λ t x le left. ⊎_elim (first.before t x le) (λ q. inr (implies x q)) (second.before t x (omega (arith, le, first.later)) left);
  }

  -- two runs of calls, each by a relation from the crash images of its start to those of its moments
  pub chained : (a b c : D) (A B : Images → Type 0) (S Q R : Images → Images → Type 0)
      → ((x : Images) → B x → left_since b (moment a) x)
      → Passes moment left_since a b (λ x. (y : Images) × A y × S y x)
      → Passes moment left_since b c (λ x. (y : Images) × B y × Q y x)
      → ((y x : Images) → S y x → R y x) → ((y z x : Images) → S y z → Q z x → R y x)
      → Passes moment left_since a c (λ x. (y : Images) × A y × R y x)
  chained a b c A B S Q R counts first second one both =
      follows_on a b c (λ x. (y : Images) × A y × R y x) (λ x. (y : Images) × B y × Q y x)
      (weaker a b (λ x. (y : Images) × A y × S y x) (λ x. (y : Images) × A y × R y x) first (λ x was. (was.0, was.1, one was.0 x was.2)))
      second
      (λ x q. let was = first.each q.0 (counts q.0 q.1) in (was.0, was.1, both was.0 q.0 x was.2 q.2))

  -- a run of calls that keeps to S, and one more whose Q leads S on: what was before it is a crash image of then
  pub leads_on : (old mid new : D) (A B : Images → Type 0) (S Q : Images → Images → Type 0) → ((t : ℕ) (c : Images) → t ≤ moment mid → B c → left_since mid t c)
      → Passes moment left_since old mid (λ x. (y : Images) × A y × S y x) → Passes moment left_since mid new (λ x. (y : Images) × B y × Q y x)
      → ((y z x : Images) → B z → S y z → Q z x → S y x) → Passes moment left_since old new (λ x. (y : Images) × A y × S y x)
  leads_on old mid new A B S Q counts first second both =
      follows_on old mid new (λ x. (y : Images) × A y × S y x) (λ x. (y : Images) × B y × Q y x) first second
      (λ x q. let was = holds_now old mid (λ x. (y : Images) × A y × S y x) B counts first q.0 q.1 in (was.0, was.1, both was.0 q.0 x q.1 was.2 q.2))
