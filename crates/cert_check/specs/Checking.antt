-- What a checked text gives.
use Rattle.std.specs.Prelude.{◌≡◌, ℕ, ◌<◌, ◌≤◌, List, length, count_by, Bool, Option, Some, None, option_map, IfSome}
use Rattle.seed_model.specs.declared.node.Node.{Node}
use Rattle.seed_model.specs.Files.{holds}
use Rattle.seed_model.specs.Nodes.{IsNode, undecided_node}
use Rattle.seed_model.specs.Ranges.{IsRange}
use Rattle.seed_model.specs.Sums.{migrated_of, replicated_of}
use Rattle.seed_model.specs.Tables.{TableValue}
use Rattle.seed_io.specs.declared.lines.LineError.{LineError}
use Rattle.seed_io.specs.declared.lines.LineError.TheVariants as line_fails
use Rattle.bound_cert.specs.declared.heading.Answer.{Answer}
use Rattle.bound_cert.specs.declared.heading.Answer.TheVariants.{Optimal, Infeasible, Open}
use Rattle.bound_cert.specs.declared.heading.Claimed.{Claimed}
use Rattle.bound_cert.specs.declared.heading.Heading.{Heading}
use Rattle.bound_cert.specs.declared.heading.Pins.{Pins}
use Rattle.bound_cert.specs.declared.node_line.NodeLine.{NodeLine}
use Rattle.bound_cert.specs.Documents.{IsDocument, document_text}
use Rattle.bound_cert.specs.Judgements.{FailsFirst}
use Rattle.bound_cert.specs.Laws.{Says, plan_named}
use Rattle.bound_cert.specs.Sets.{root_of}
use Rattle.bound_cert.specs.Trees.{is_branch}
use Rattle.bound_cert.specs.Valid.{IsValid, IsValidText}
use Rattle.bound_cert.specs.Within.{FailsWithin}
use Rattle.cert_check.specs.declared.checking.CheckError.{CheckError}
use Rattle.cert_check.specs.declared.checking.CheckError.TheVariants.{Fault, NotThere, TooLong, Memory}
use Rattle.cert_check.specs.declared.judged.Checked.{Checked}
use Rattle.cert_check.specs.declared.judged.Verdict.{Verdict}
use Rattle.cert_check.specs.declared.judged.Verdict.TheVariants.{Yes, No}
use Rattle.cert_check.specs.Judging.{none_checked}

-- what a verdict says of a text
abbrev pub IsVerdict : TableValue → List ℕ → Verdict → Type 0
IsVerdict table text Yes = IsValidText table text
IsVerdict table text (No line rule) = FailsFirst table text line rule

-- the node of pins
abbrev pub pins_node : ℕ → Option Pins → Option Node
pins_node files None = None
pins_node files (Some pins) = Some (root_of files (Some pins))

-- the sums that are claimed of a plan
abbrev pub migrated_by : Option Claimed → ℕ
migrated_by None = 0
migrated_by (Some claimed) = claimed.migrated

abbrev pub replicated_by : Option Claimed → ℕ
replicated_by None = 0
replicated_by (Some claimed) = claimed.replicated

-- what a valid document gives
abbrev pub shown_by : ℕ → Heading → List NodeLine → Checked
shown_by files heading nodes = record {
  verdict = Yes;
  range = heading.range;
  pins = pins_node files heading.pins;
  answer = heading.answer;
  plan = plan_named files heading.plan;
  migrated = migrated_by heading.plan;
  replicated = replicated_by heading.plan;
  bound = heading.bound;
  branchings = count_by is_branch nodes;
}

-- a text is that of a valid document, and this is what the document gives
pub record ShowsText (table : TableValue) (text : List ℕ) (checked : Checked) : Type 0 where
  pub heading : Heading
  pub nodes : List NodeLine
  pub document : IsDocument heading nodes
  pub text_is : text ≡ document_text heading nodes
  pub valid : IsValid table heading nodes
  pub shown : checked ≡ shown_by table.files heading nodes

-- what a text gives of which no more than so many bytes are taken: a valid one is no longer, and what it says is given;
-- of another, the judgement that fails first, on what is seen
abbrev pub IsCheckedBy : Verdict → TableValue → ℕ → List ℕ → Checked → Type 0
IsCheckedBy Yes table limit text checked = (length text ≤ limit) × ShowsText table text checked
IsCheckedBy (No line rule) table limit text checked = FailsWithin table limit text line rule × (checked ≡ none_checked line rule)

abbrev pub IsChecked : TableValue → ℕ → List ℕ → Checked → Type 0
IsChecked table limit text checked = IsCheckedBy checked.verdict table limit text checked

-- the root of the tree
abbrev pub root_checked : ℕ → Option Node → Node
root_checked files None = undecided_node files
root_checked files (Some node) = node

-- answer, plan and bound go together, by what the plan replicates
abbrev pub GoTogether : Answer → Option ℕ → Option ℕ → Type 0
GoTogether Optimal (Some replicated) (Some bound) = bound ≡ replicated
GoTogether Optimal (Some replicated) None = ⊥
GoTogether Optimal None bound = ⊥
GoTogether Infeasible None None = Unit {0}
GoTogether Infeasible None (Some bound) = ⊥
GoTogether Infeasible (Some replicated) bound = ⊥
GoTogether Open None (Some bound) = Unit {0}
GoTogether Open (Some replicated) (Some bound) = bound < replicated
GoTogether Open plan None = ⊥

-- a plan is a set of the table's files, with its sums
pub record IsPlan (table : TableValue) (migrated replicated : ℕ) (set : List Bool) : Type 0 where
  pub files : length set ≡ table.files
  pub migrated_is : migrated ≡ migrated_of (holds set) table
  pub replicated_is : replicated ≡ replicated_of (holds set) table

-- Whatever a shelf told: what is given is lawful, and where the verdict is yes, what it says is so.
pub record IsSound (table : TableValue) (checked : Checked) : Type 0 where
  pub range : IsRange checked.range
  pub pins : IfSome checked.pins (IsNode table.files)
  pub plan : IfSome checked.plan (IsPlan table checked.migrated checked.replicated)
  pub says : checked.verdict ≡ Yes → Says table checked.range (root_checked table.files checked.pins) checked.answer checked.plan checked.bound
  pub agrees : checked.verdict ≡ Yes → GoTogether checked.answer (option_map (λ _. checked.replicated) checked.plan) checked.bound

-- an error of a reader of lines, handed on
abbrev pub check_error : LineError → CheckError
check_error line_fails.Fault = Fault
check_error line_fails.NotThere = NotThere
check_error line_fails.TooLong = TooLong
check_error line_fails.Memory = Memory
