-- What a judge is seen as, and the lines that it stands for.
use Rattle.std.specs.Prelude.{◌≡◌, ◌≢◌, ℕ, ◌+◌, ◌-◌, ◌≤◌, List, [], ◌∷◌, ◌++◌, length, Bool, true, false, Option, Some, None, option_map, if◌then◌else◌}
use Rattle.seed_model.specs.declared.node.Node.{Node}
use Rattle.seed_model.specs.Tables.{TableValue}
use Rattle.seed_io.specs.Lines.{LineText}
use Rattle.bound_cert.specs.declared.heading.Answer.TheVariants.{Infeasible}
use Rattle.bound_cert.specs.declared.place.Place.{Place}
use Rattle.bound_cert.specs.declared.place.Place.TheVariants.{Past}
use Rattle.bound_cert.specs.Grammar.{nodes_at}
use Rattle.bound_cert.specs.Judgements.{Told}
use Rattle.cert_check.specs.declared.judged.Checked.{Checked}
use Rattle.cert_check.specs.declared.judged.Judged.{Judged}
use Rattle.cert_check.specs.declared.judged.Judged.TheVariants.{More, Failed, Valid}
use Rattle.cert_check.specs.declared.judged.Verdict.TheVariants.{Yes, No}
use Rattle.cert_check.specs.declared.kept.Broken.{Broken}
use Rattle.cert_check.specs.declared.kept.Kept.{Kept}
use Rattle.cert_check.specs.declared.kept.Sums.{Sums}
use Rattle.cert_check.specs.Histories.{IsTold, AllFail}
use Rattle.cert_check.specs.Keeping.{IsKept, KeepsTold}

-- its table, the number of lines that it took, what it last said, and what it keeps of the lines
pub record JudgeValue : Type 0 where
  pub table : TableValue
  pub lines : ℕ
  pub judged : Judged
  pub kept : Kept

-- what is kept where no judgement has failed: something that lines can tell, with no more nodes and branchings than lines
pub record IsGoing (table : TableValue) (lines : ℕ) (kept : Kept) : Type 0 where
  pub kept_fits : IsKept table kept
  pub told : Told
  pub keeps : KeepsTold table kept told
  pub nodes : nodes_at told.place ≤ lines + 1
  pub branchings : told.branchings ≤ lines

pub record IsJudge (table : TableValue) (lines : ℕ) (judged : Judged) (kept : Kept) : Type 0 where
  pub goes : judged ≡ More → IsGoing table lines kept
  pub read : judged ≡ Valid → kept.path.waiting ≡ []

-- no judgement on these lines has failed, and they have told what is kept
pub record Going (table : TableValue) (kept : Kept) (count : ℕ) (lines : List LineText) (ended : Bool) : Type 0 where
  pub unended : ended ≡ false
  pub told : Told
  pub is_told : IsTold table lines told
  pub keeps : KeepsTold table kept told
  pub counted : count ≡ length lines

-- the text has ended behind these lines, and no judgement has failed
pub record Passed (table : TableValue) (kept : Kept) (lines : List LineText) (ended : Bool) : Type 0 where
  pub whole : ended ≡ true
  pub told : Told
  pub is_told : IsTold table lines told
  pub past : told.place ≡ Past
  pub keeps : KeepsTold table kept told

abbrev pub Stands : Judged → TableValue → Kept → ℕ → List LineText → Bool → Type 0
Stands More table kept count lines ended = Going table kept count lines ended
Stands (Failed line rule) table kept count lines ended = AllFail table ended lines line rule
Stands Valid table kept count lines ended = Passed table kept lines ended

-- A judge stands for lines that it took, and where `ended`, for the end of the text behind them. It said `More` where no
-- judgement on them has failed, `Failed` with the first that has, whatever the text has behind them, and `Valid` where
-- the text is at its end and none has.
abbrev pub StandsFor : JudgeValue → List LineText → Bool → Type 0
StandsFor judge lines ended = Stands judge.judged judge.table judge.kept judge.lines lines ended

-- what lines have told with one more is kept
pub record IsGrown (table : TableValue) (told : Told) (new : Kept) : Type 0 where
  pub next : Told
  pub keeps : KeepsTold table new next
  pub nodes : nodes_at next.place ≤ nodes_at told.place + 1
  pub branchings : next.branchings ≤ told.branchings + 1

-- what is said behind a line that is not the text's end
abbrev pub Says : Judged → TableValue → Kept → List LineText → Bool → Type 0
Says More table new lines ended = (told : Told) × IsTold table lines told × KeepsTold table new told
Says (Failed line rule) table new lines ended = AllFail table ended lines line rule
Says Valid table new lines ended = ⊥

-- a line of this number is judged and kept
pub record TakesLine (table : TableValue) (number : ℕ) (old new : Kept) (line : LineText) (result : Judged) : Type 0 where
  pub judged : (lines : List LineText) (told : Told) (ended : Bool) → number ≡ length lines + 1 → IsTold table lines told → KeepsTold table old told → Says result table new (lines ++ line ∷ []) ended
  pub fits : result ≡ More → IsKept table new
  pub grows : result ≡ More → (told : Told) → KeepsTold table old told → IsGrown table told new
  pub not_valid : result ≢ Valid

-- what is said of a line of this number that is judged
abbrev pub said_of : ℕ → Option Broken → Judged
said_of number None = More
said_of number (Some broken) = Failed (number - broken.back) broken.rule

-- what is said at the end of the text
abbrev pub judged_end : Place → ℕ → Judged
judged_end Past number = Valid
judged_end place number = Failed number 1

-- a line of this number, or the end of the text in its place
abbrev pub TakesNext : TableValue → ℕ → Kept → Kept → Option LineText → Judged → Type 0
TakesNext table number old new None result = (result ≡ judged_end old.place number) × (new ≡ old)
TakesNext table number old new (Some line) result = TakesLine table number old new line result

-- what a text that is not valid gives
abbrev pub none_checked : ℕ → ℕ → Checked
none_checked line rule = record { verdict = No line rule; range = record { low = 0; high = 0 }; pins = None; answer = Infeasible; plan = None; migrated = 0; replicated = 0; bound = None; branchings = 0 }

abbrev pub migrated_in : Option Sums → ℕ
migrated_in None = 0
migrated_in (Some sums) = sums.migrated

abbrev pub replicated_in : Option Sums → ℕ
replicated_in None = 0
replicated_in (Some sums) = sums.replicated

abbrev pub pins_in : Kept → Option Node
pins_in kept = if kept.pinned then Some kept.path.root else None

-- what a valid text says
abbrev pub checked_of : Kept → Checked
checked_of kept = record {
  verdict = Yes;
  range = kept.range;
  pins = pins_in kept;
  answer = kept.answer;
  plan = option_map (λ _. kept.plan) kept.sums;
  migrated = migrated_in kept.sums;
  replicated = replicated_in kept.sums;
  bound = kept.bound;
  branchings = kept.branchings;
}

-- what a judge that has come to a verdict gives
abbrev pub given_by : Judged → Kept → Checked
given_by More kept = checked_of kept
given_by (Failed line rule) kept = none_checked line rule
given_by Valid kept = checked_of kept

abbrev pub checked_by : JudgeValue → Checked
checked_by judge = given_by judge.judged judge.kept
