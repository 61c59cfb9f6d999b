-- The greedy choice is one: its set, its turns and its rounds.
use Rattle.std.proofs.Common.{◌≡◌, ◌∙◌, ◌<◌, ◌≤◌, ℕ, zero, suc, List, Bool, refl, sym, ap, subst, inl, inr, arith}
use Rattle.std.specs.Prelude.{◌⊎◌}
use Rattle.std.proofs.lemmas.Bool.{cases_eq, cases_lt}
use Rattle.seed_model.specs.declared.node.Node.{Node}
use Rattle.seed_model.specs.declared.range.Range.{Range}
use Rattle.seed_model.specs.Tables.{TableValue}
use Rattle.greedy_seed.specs.Greedy.{AddsNext, Finds, FindsNone, FlipsNext, GetsStuck, MayAdd, MayFlip, Rounds, Turns, added, flipped, migrates, replicates}

module _ (table : TableValue) (range : Range) (pins : Node) where
  -- one file is added next, and one is flipped
  one_added : (set : List Bool) (a b : ℕ) → AddsNext table range pins set a → AddsNext table range pins set b → a ≡ b
  one_added set a b p q =
      let less = p.least b q.may in
      let more = q.least a p.may in
      let same : replicates table (added set a) ≡ replicates table (added set b) = omega (arith, less, more) in
      let big = p.most b q.may (sym same) in
      let small = q.most a p.may same in
      let even : migrates table (added set a) ≡ migrates table (added set b) = omega (arith, big, small) in
      let first = p.first b q.may (sym same) (sym even) in
      let second = q.first a p.may same even in
      omega (arith, first, second)

  one_flipped : (set : List Bool) (a b : ℕ) → FlipsNext table range pins set a → FlipsNext table range pins set b → a ≡ b
  one_flipped set a b p q =
      let less = p.least b q.may in
      let more = q.least a p.may in
      let same : replicates table (flipped set a) ≡ replicates table (flipped set b) = omega (arith, less, more) in
      let first = p.first b q.may (sym same) in
      let second = q.first a p.may same in
      omega (arith, first, second)

  -- so many turns, and so many rounds, lead to one set
  one_reached : (turns : ℕ) (from a b : List Bool) → Turns table range pins turns from a → Turns table range pins turns from b → a ≡ b
  one_reached zero from a b p q = p ∙ sym q
  one_reached (suc turns) from a b p q =
      let before = one_reached turns from p.0 q.0 p.1 q.1 in
      let next = subst (λ (t : List Bool). AddsNext table range pins t p.3.0) before p.3.1 in
      let file = one_added q.0 p.3.0 q.3.0 next q.3.1 in
      p.3.2 ∙ (ap (λ (t : List Bool). added t p.3.0) before ∙ (ap (λ (f : ℕ). added q.0 f) file ∙ sym q.3.2))

  one_rounded : (rounds : ℕ) (from a b : List Bool) → Rounds table range pins rounds from a → Rounds table range pins rounds from b → a ≡ b
  one_rounded zero from a b p q = p ∙ sym q
  one_rounded (suc rounds) from a b p q =
      let before = one_rounded rounds from p.0 q.0 p.1 q.1 in
      let next = subst (λ (t : List Bool). FlipsNext table range pins t p.2.0) before p.2.1 in
      let file = one_flipped q.0 p.2.0 q.2.0 next q.2.1 in
      p.2.2 ∙ (ap (λ (t : List Bool). flipped t p.2.0) before ∙ (ap (λ (f : ℕ). flipped q.0 f) file ∙ sym q.2.2))

  -- where more turns were made than so many, a further one followed upon them
  record TurnsOn (turns : ℕ) (from : List Bool) : Type 0 where
    set : List Bool
    led : Turns table range pins turns from set
    low : migrates table set < range.low
    file : ℕ
    next : AddsNext table range pins set file

  record RoundsOn (rounds : ℕ) (from : List Bool) : Type 0 where
    set : List Bool
    led : Rounds table range pins rounds from set
    file : ℕ
    next : FlipsNext table range pins set file

  turns_on : (more turns : ℕ) (from to : List Bool) → turns < more → Turns table range pins more from to → TurnsOn turns from
  turns_on zero turns from to lt led = absurd (omega (arith, lt))
  turns_on (suc more) turns from to lt led = elim (cases_eq turns more) [
    | inl same ↦ record {
      set = led.0;
      led = subst (λ (n : ℕ). Turns table range pins n from led.0) (sym same) led.1;
      low = led.2;
      file = led.3.0;
      next = led.3.1;
    }
    | inr apart ↦ turns_on more turns from led.0 (omega (arith, lt, apart)) led.1
  ]

  rounds_on : (more rounds : ℕ) (from to : List Bool) → rounds < more → Rounds table range pins more from to → RoundsOn rounds from
  rounds_on zero rounds from to lt led = absurd (omega (arith, lt))
  rounds_on (suc more) rounds from to lt led = elim (cases_eq rounds more) [
    | inl same ↦ record { set = led.0; led = subst (λ (n : ℕ). Rounds table range pins n from led.0) (sym same) led.1; file = led.2.0; next = led.2.1 }
    | inr apart ↦ rounds_on more rounds from led.0 (omega (arith, lt, apart)) led.1
  ]

  -- turns that came to enough are not followed by another
  enough_ends : (turns more : ℕ) (from a to : List Bool) → Turns table range pins turns from a → range.low ≤ migrates table a → Turns table range pins more from to → turns < more → ⊥
  enough_ends turns more from a to led enough others lt =
      let on = turns_on more turns from to lt others in
      let same = ap (λ (t : List Bool). migrates table t) (one_reached turns from on.set a on.led led) in
      let low = on.low in
      omega (arith, same, low, enough)

  -- nor are those that got stuck
  stuck_ends : (turns more : ℕ) (from a to : List Bool) → Turns table range pins turns from a → ((file : ℕ) → ¬ MayAdd table range pins a file) → Turns table range pins more from to → turns < more → ⊥
  stuck_ends turns more from a to led none others lt =
      let on = turns_on more turns from to lt others in
      none on.file (subst (λ (t : List Bool). MayAdd table range pins t on.file) (one_reached turns from on.set a on.led led) on.next.may)

  -- nor rounds after which none is left
  rounds_end : (rounds more : ℕ) (from a to : List Bool) → Rounds table range pins rounds from a → (rounds ≡ table.files) ⊎ ((file : ℕ) → ¬ MayFlip table range pins a file) → more ≤ table.files
      → Rounds table range pins more from to → rounds < more → ⊥
  rounds_end rounds more from a to led (inl all) few others lt = omega (arith, all, few, lt)
  rounds_end rounds more from a to led (inr none) few others lt =
      let on = rounds_on more rounds from to lt others in
      none on.file (subst (λ (t : List Bool). MayFlip table range pins t on.file) (one_rounded rounds from on.set a on.led led) on.next.may)

  -- one of two numbers, neither of which is less
  neither_less : (m n : ℕ) → ¬ (m < n) → ¬ (n < m) → m ≡ n
  neither_less m n one other = elim (cases_lt m n) [
    | inl less ↦ absurd (one less)
    | inr more ↦ elim (cases_lt n m) [ inl less ↦ absurd (other less) | inr same ↦ omega (arith, more, same) ]
  ]

  -- what is found is one
  pub record AreOneFind (set other : List Bool) (turns second rounds last : ℕ) : Type 0 where
    pub sets : set ≡ other
    pub same_turns : turns ≡ second
    pub same_rounds : rounds ≡ last

  pub one_find : (set other : List Bool) (turns second rounds last : ℕ) → Finds table range pins set turns rounds → Finds table range pins other second last
      → AreOneFind set other turns second rounds last
  one_find set other turns second rounds last p q =
      let counts = neither_less turns second (λ lt. enough_ends turns second pins.inside p.reached q.reached p.added_to p.enough q.added_to lt)
      (λ lt. enough_ends second turns pins.inside q.reached p.reached q.added_to q.enough p.added_to lt) in
      let reached = one_reached second pins.inside p.reached q.reached (subst (λ (n : ℕ). Turns table range pins n pins.inside p.reached) counts p.added_to) q.added_to in
      let from = subst (λ (t : List Bool). Rounds table range pins rounds t set) reached p.flipped_to in
      let passes = neither_less rounds last (λ lt. rounds_end rounds last q.reached set other from p.ended q.few q.flipped_to lt)
      (λ lt. rounds_end last rounds q.reached other set q.flipped_to q.ended p.few from lt) in
      record {
        sets = one_rounded last q.reached set other (subst (λ (n : ℕ). Rounds table range pins n q.reached set) passes from) q.flipped_to;
        same_turns = counts;
        same_rounds = passes;
      }

  -- nothing is found in one number of turns
  pub one_stuck : (turns other : ℕ) → FindsNone table range pins turns → FindsNone table range pins other → turns ≡ other
  one_stuck turns other (inl p) (inl q) = p.1 ∙ sym q.1
  one_stuck turns other (inl p) (inr q) = let high = p.0 in let low = q.0 in absurd (omega (arith, high, low))
  one_stuck turns other (inr p) (inl q) = let high = q.0 in let low = p.0 in absurd (omega (arith, high, low))
  one_stuck turns other (inr p) (inr q) =
      let one = p.1 in
      let two = q.1 in
      neither_less turns other (λ lt. stuck_ends turns other pins.inside one.reached two.reached one.added_to one.none_left two.added_to lt)
      (λ lt. stuck_ends other turns pins.inside two.reached one.reached two.added_to two.none_left one.added_to lt)

  -- a set is found, or none is
  pub found_or_stuck : (set : List Bool) (turns rounds other : ℕ) → Finds table range pins set turns rounds → FindsNone table range pins other → ⊥
  found_or_stuck set turns rounds other p (inl q) = let high = q.0 in let low = p.begun in omega (arith, high, low)
  found_or_stuck set turns rounds other p (inr q) =
      let stuck = q.1 in
      elim (cases_lt other turns) [
        | inl more ↦ stuck_ends other turns pins.inside stuck.reached p.reached stuck.added_to stuck.none_left p.added_to more
        | inr few ↦ elim (cases_lt turns other) [
          | inl more ↦ enough_ends turns other pins.inside p.reached stuck.reached p.added_to p.enough stuck.added_to more
          | inr same ↦
              let counts : turns ≡ other = omega (arith, few, same) in
              let reached = one_reached other pins.inside p.reached stuck.reached (subst (λ (n : ℕ). Turns table range pins n pins.inside p.reached) counts p.added_to) stuck.added_to in
              let sums = ap (λ (t : List Bool). migrates table t) reached in
              let enough = p.enough in
              let little = stuck.too_little in
              omega (arith, sums, enough, little)
        ]
      ]
