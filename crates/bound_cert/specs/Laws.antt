-- The laws of certificates.
use Rattle.std.specs.Prelude.{◌≡◌, ◌↔◌, ℕ, ◌+◌, ◌*◌, ◌≤◌, ◌∷◌, [], Bool, List, length, count_by, Option, IsSomeAnd, option_map}
use Rattle.seed_model.specs.declared.node.Node.{Node}
use Rattle.seed_model.specs.declared.node.Mix.{Mix}
use Rattle.seed_model.specs.declared.range.Range.{Range}
use Rattle.seed_model.specs.Files.{holds}
use Rattle.seed_model.specs.Tables.{TableValue, IsTable}
use Rattle.seed_model.specs.Sums.{migrated_of, touched_of, replicated_of}
use Rattle.seed_model.specs.Nodes.{IsMember, IsAdmitted, IsBestAdmitted, NoneAdmitted, IsMix, weight_of, mixed_replicated}
use Rattle.seed_text.specs.SetTexts.{set_text}
use Rattle.bound_cert.specs.declared.multipliers.Multipliers.{Multipliers}
use Rattle.bound_cert.specs.declared.node_line.NodeLine.{NodeLine}
use Rattle.bound_cert.specs.declared.heading.Answer.{Answer}
use Rattle.bound_cert.specs.declared.heading.Answer.TheVariants.{Optimal, Infeasible, Open}
use Rattle.bound_cert.specs.declared.heading.Heading.{Heading}
use Rattle.bound_cert.specs.declared.heading.Claimed.{Claimed}
use Rattle.bound_cert.specs.Multipliers.{AreMultipliers, won, lost, turning_point}
use Rattle.bound_cert.specs.Sets.{set_named, root_of}
use Rattle.bound_cert.specs.Trees.{Tree, preorder, Stands, Reads, is_branch}
use Rattle.bound_cert.specs.Valid.{IsValid, IsValidText}
use Rattle.bound_cert.specs.Lines.{Entry, IsLine, line_text}
use Rattle.bound_cert.specs.Grammar.{IsInGrammar, IsFirstBadLine}
use Rattle.bound_cert.specs.Documents.{IsDocument, document_entries, document_text}
use Rattle.bound_cert.specs.Judgements.{Told, nothing_told, Tells, PassesAll, FailsFirst}
use Rattle.bound_cert.specs.declared.place.Place.TheVariants.{Past}
use Rattle.bound_cert.specs.Within.{RunsOn, FailsWithin}

-- no member costs less than multipliers say, where each touched byte costs q and each migrated one earns p
abbrev pub WeakDuality : Type 0
WeakDuality = (table : TableValue) (node : Node) (set : ℕ → Bool) (m : Multipliers) → AreMultipliers table m → IsMember table.files node set
    → won table.files node m.gives + m.p * migrated_of set table ≤ lost table.files node m.gives + m.q * touched_of set table

-- so their bound holds for each member in range
abbrev pub BoundsMembers : Type 0
BoundsMembers = (table : TableValue) (range : Range) (node : Node) (set : ℕ → Bool) (m : Multipliers) → IsTable table → AreMultipliers table m → IsAdmitted table range node set
    → won table.files node m.gives + m.p * turning_point range m.p m.q ≤ lost table.files node m.gives + m.q * turning_point range m.p m.q + m.q * replicated_of set table

-- and for each mix
abbrev pub BoundsMixes : Type 0
BoundsMixes = (table : TableValue) (range : Range) (node : Node) (mix : Mix) (m : Multipliers) → IsTable table → AreMultipliers table m → IsMix table range node mix
    → (won table.files node m.gives + m.p * turning_point range m.p m.q) * weight_of mix
    ≤ (lost table.files node m.gives + m.q * turning_point range m.p m.q) * weight_of mix + m.q * mixed_replicated table mix

-- where a tree stands for a bound at a node, each member in range replicates at least the bound; where there is none,
-- no member is in range
abbrev pub TreesBound : Type 0
TreesBound = (table : TableValue) (range : Range) (bound : Option ℕ) (node : Node) (tree : Tree) (set : ℕ → Bool) → IsTable table
    → Stands table range bound node tree → IsAdmitted table range node set → IsSomeAnd bound (λ z. z ≤ replicated_of set table)

-- lines that can be read to the end at a node are those of a tree that stands there, and the other way round
abbrev pub LinesAreTrees : Type 0
LinesAreTrees = (table : TableValue) (range : Range) (bound : Option ℕ) (node : Node) (lines : List NodeLine)
    → Reads table range bound (node ∷ []) lines [] ↔ ((tree : Tree) × (lines ≡ preorder tree) × Stands table range bound node tree)

-- What a heading says: the plan is best, no set is admitted, or every admitted set replicates at least the bound.
abbrev pub Says : TableValue → Range → Node → Answer → Option (List Bool) → Option ℕ → Type 0
Says table range root Optimal plan bound = IsSomeAnd plan (λ set. IsBestAdmitted table range root (holds set))
Says table range root Infeasible plan bound = NoneAdmitted table range root
Says table range root Open plan bound = IsSomeAnd bound (λ z. (set : ℕ → Bool) → IsAdmitted table range root set → z ≤ replicated_of set table)

abbrev pub plan_named : ℕ → Option Claimed → Option (List Bool)
plan_named files plan = option_map (λ claimed. set_named files claimed.set) plan

-- what a valid document says is so
abbrev pub ValidIsSo : Type 0
ValidIsSo = (table : TableValue) (heading : Heading) (nodes : List NodeLine) → IsTable table → IsValid table heading nodes
    → Says table heading.range (root_of table.files heading.pins) heading.answer (plan_named table.files heading.plan) heading.bound

-- a set's text names the set
abbrev pub TextsName : Type 0
TextsName = (set : List Bool) → set_named (length set) (set_text set) ≡ set

-- a text passes every judgement just where it is that of a valid document
abbrev pub ValidPasses : Type 0
ValidPasses = (table : TableValue) (text : List ℕ) → PassesAll table text ↔ IsValidText table text

-- and where a judgement fails, it is not
abbrev pub FailureIsNotValid : Type 0
FailureIsNotValid = (table : TableValue) (text : List ℕ) (line rule : ℕ) → FailsFirst table text line rule → ¬ IsValidText table text

-- one judgement fails first
abbrev pub OneFailure : Type 0
OneFailure = (table : TableValue) (text : List ℕ) (line rule other second : ℕ) → FailsFirst table text line rule → FailsFirst table text other second → (line ≡ other) × (rule ≡ second)

-- and none on what is seen of a text that runs on
abbrev pub RunsOnUnfailed : Type 0
RunsOnUnfailed = (table : TableValue) (limit : ℕ) (text : List ℕ) (line rule : ℕ) → RunsOn table limit text → ¬ FailsWithin table limit text line rule

-- a text with a first bad line is in no document's form
abbrev pub BadIsNoDocument : Type 0
BadIsNoDocument = (text : List ℕ) (line : ℕ) → IsFirstBadLine text line → ¬ IsInGrammar text

-- documents with one text are one document
abbrev pub OneDocument : Type 0
OneDocument = (h k : Heading) (ns ms : List NodeLine) → IsDocument h ns → IsDocument k ms → document_text h ns ≡ document_text k ms → (h ≡ k) × (ns ≡ ms)

-- a text has one first bad line at most
abbrev pub OneBadLine : Type 0
OneBadLine = (text : List ℕ) (line other : ℕ) → IsFirstBadLine text line → IsFirstBadLine text other → line ≡ other

-- no line is longer than a reader of lines takes
abbrev pub LinesAreShort : Type 0
LinesAreShort = (e : Entry) → IsLine e → length (line_text e) ≤ 16384

-- what lines have told is what a document says, with as many branchings as it has lines of branchings
pub record IsToldBy (heading : Heading) (nodes : List NodeLine) (told : Told) : Type 0 where
  pub range : told.range ≡ heading.range
  pub pins : told.pins ≡ heading.pins
  pub answer : told.answer ≡ heading.answer
  pub plan : told.plan ≡ heading.plan
  pub bound : told.bound ≡ heading.bound
  pub branchings : told.branchings ≡ count_by is_branch nodes

-- lines are those of a valid document, and have told what it says
pub record TellDocument (table : TableValue) (lines : List Entry) (told : Told) : Type 0 where
  pub heading : Heading
  pub nodes : List NodeLine
  pub lines_are : lines ≡ document_entries heading nodes
  pub document : IsDocument heading nodes
  pub valid : IsValid table heading nodes
  pub told_by : IsToldBy heading nodes told

-- lines that tell to the end do
abbrev pub LinesTellDocuments : Type 0
LinesTellDocuments = (table : TableValue) (lines : List Entry) (told : Told) → Tells table nothing_told lines told → told.place ≡ Past → TellDocument table lines told
