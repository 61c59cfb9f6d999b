-- Turns and rounds, one after the other, and where they end.
use Rattle.std.specs.Prelude.{sum_by, if◌then◌else◌, None}
use Rattle.std.proofs.Common.{◌≡◌, ◌∙◌, ℕ, suc, ◌+◌, ◌<◌, ◌≤◌, List, [], ◌∷◌, Bool, true, false, length, refl, sym, ap, subst, arith, inl, inr, ◌⊎◌}
use Rattle.std.proofs.lemmas.List.Sums.{sum_by-set, sum_by-cons}
use Rattle.seed_model.specs.declared.node.Node.{Node}
use Rattle.seed_model.specs.declared.range.Range.{Range}
use Rattle.seed_model.specs.Files.{holds}
use Rattle.seed_model.specs.Tables.{TableValue}
use Rattle.greedy_seed.specs.declared.tried.Tried.{Tried}
use Rattle.greedy_seed.specs.Greedy.{MayAdd, MayFlip, AddsNext, FlipsNext, Turns, Rounds, Finds, GetsStuck, IsGreedy, added, flipped, migrates}
use Rattle.greedy_seed.proofs.Flags.{flips_in}

-- how many files are out of a set
abbrev pub out_weight : Bool → ℕ
out_weight inside = if inside then 0 else 1

abbrev pub files_out : List Bool → ℕ
files_out flags = sum_by out_weight flags

pub out_at_most : (flags : List Bool) → files_out flags ≤ length flags
out_at_most [] = omega arith
out_at_most (true ∷ flags) = omega (arith, sum_by-cons out_weight true flags, out_at_most flags)
out_at_most (false ∷ flags) = omega (arith, sum_by-cons out_weight false flags, out_at_most flags)

-- one fewer once a file is added
pub one_fewer : (flags to : List Bool) (file : ℕ) → file < length flags → holds flags file ≡ false → to ≡ flipped flags file → files_out to + 1 ≡ files_out flags
one_fewer flags to file within out is =
    let more = sum_by-set out_weight flags file true false within in
    let weight : out_weight (holds flags file) ≡ 1 = ap out_weight out in
    let same : files_out to ≡ files_out (added flags file) = ap files_out (is ∙ flips_in flags file out) in
    omega (arith, more, weight, same)

-- turns so far, with files left for more
pub record IsAdding (table : TableValue) (range : Range) (pins : Node) (from now : List Bool) (turns : ℕ) : Type 0 where
  pub led : Turns table range pins turns from now
  pub few : turns + files_out now ≤ table.files

pub no_turn : (table : TableValue) (range : Range) (pins : Node) (from : List Bool) → length from ≡ table.files → IsAdding table range pins from from 0
no_turn table range pins from files = record { led = refl; few = omega (arith, files, out_at_most from) }

-- a turn more, and a round more
pub turn_made : (table : TableValue) (range : Range) (pins : Node) (turns : ℕ) (from before to : List Bool) (file : ℕ) → Turns table range pins turns from before
    → migrates table before < range.low → AddsNext table range pins before file → to ≡ flipped before file → Turns table range pins (turns + 1) from to
turn_made table range pins turns from before to file led low next is =
    let more : suc turns ≡ turns + 1 = omega arith in
    let P : ℕ → Type 0 = λ n. Turns table range pins n from to in
    subst P more (before, led, low, (file, next, is ∙ flips_in before file next.may.out))

pub adds_on : (table : TableValue) (range : Range) (pins : Node) (turns : ℕ) (from before to : List Bool) (file : ℕ) → length before ≡ table.files
    → IsAdding table range pins from before turns → migrates table before < range.low → AddsNext table range pins before file → to ≡ flipped before file
    → IsAdding table range pins from to (turns + 1)
adds_on table range pins turns from before to file files so_far low next is =
    let fewer = one_fewer before to file (omega (arith, next.may.within, files)) next.may.out is in
    record { led = turn_made table range pins turns from before to file so_far.led low next is; few = omega (arith, so_far.few, fewer) }

pub round_made : (table : TableValue) (range : Range) (pins : Node) (rounds : ℕ) (from before to : List Bool) (file : ℕ) → Rounds table range pins rounds from before
    → FlipsNext table range pins before file → to ≡ flipped before file → Rounds table range pins (rounds + 1) from to
round_made table range pins rounds from before to file led next is =
    let more : suc rounds ≡ rounds + 1 = omega arith in
    let P : ℕ → Type 0 = λ n. Rounds table range pins n from to in
    subst P more (before, led, (file, next, is))

pub rounds_all : (table : TableValue) (range : Range) (pins : Node) (rounds files : ℕ) (from to : List Bool) → rounds ≡ files → Rounds table range pins rounds from to
    → Rounds table range pins files from to
rounds_all table range pins rounds files from to all led = let P : ℕ → Type 0 = λ n. Rounds table range pins n from to in subst P all led

-- the three ends
pub begun_too_high : (table : TableValue) (range : Range) (pins : Node) (tried : Tried) (flags : List Bool) (m : ℕ) → tried ≡ record { set = None; turns = 0; rounds = 0 }
    → flags ≡ pins.inside → m ≡ migrates table flags → range.high < m → IsGreedy table range pins tried
begun_too_high table range pins tried flags m is same sum high =
    let P : Tried → Type 0 = λ t. IsGreedy table range pins t in
    let over : range.high < migrates table pins.inside = omega (arith, ap (migrates table) same, sum, high) in
    subst P (sym is) (inl (over, refl), refl)

pub stuck : (table : TableValue) (range : Range) (pins : Node) (tried : Tried) (from flags : List Bool) (m n turns : ℕ) → tried ≡ record { set = None; turns = turns; rounds = 0 }
    → from ≡ pins.inside → m ≡ migrates table from → m ≤ range.high → Turns table range pins turns from flags → n ≡ migrates table flags → n < range.low
    → (range.low ≤ migrates table flags) ⊎ ((file : ℕ) → ¬ MayAdd table range pins flags file) → IsGreedy table range pins tried
stuck table range pins tried from flags m n turns is same sum fits led low_sum low ended =
    let P : Tried → Type 0 = λ t. IsGreedy table range pins t in
    let Q : List Bool → Type 0 = λ f. Turns table range pins turns f flags in
    let begun : migrates table pins.inside ≤ range.high = omega (arith, ap (migrates table) same, sum, fits) in
    let too_little : migrates table flags < range.low = omega (arith, low_sum, low) in
    elim ended [
      | inl enough ↦ absurd (omega (arith, enough, too_little))
      | inr none ↦
          let get : GetsStuck table range pins turns = record { reached = flags; added_to = subst Q same led; too_little = too_little; none_left = none } in
          subst P (sym is) (inr (begun, get), refl)
    ]

pub found : (table : TableValue) (range : Range) (pins : Node) (from reached flags : List Bool) (m n turns rounds : ℕ) → from ≡ pins.inside → m ≡ migrates table from → m ≤ range.high
    → Turns table range pins turns from reached → n ≡ migrates table reached → range.low ≤ n → Rounds table range pins rounds reached flags → rounds ≤ table.files
    → (rounds ≡ table.files) ⊎ ((file : ℕ) → ¬ MayFlip table range pins flags file) → Finds table range pins flags turns rounds
found table range pins from reached flags m n turns rounds same sum fits led enough_sum enough flips few ended =
    let Q : List Bool → Type 0 = λ f. Turns table range pins turns f reached in
    record {
      begun = omega (arith, ap (migrates table) same, sum, fits);
      reached = reached;
      added_to = subst Q same led;
      enough = omega (arith, enough_sum, enough);
      flipped_to = flips;
      few = few;
      ended = ended;
    }
