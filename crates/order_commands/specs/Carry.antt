-- How `carry` ends.
use Rattle.std.specs.Prelude.{◌≡◌, ◌≢◌, ◌⊎◌, ℕ, ◌≤◌, List, length, take, Bool, true, false, Option, Some, None, IsSomeAnd}
use Rattle.seed_model.specs.declared.node.Node.{Node}
use Rattle.seed_model.specs.declared.range.Range.{Range}
use Rattle.seed_model.specs.Files.{holds}
use Rattle.seed_model.specs.Ranges.{InRange}
use Rattle.seed_model.specs.SumLaws.{AgreesBelow}
use Rattle.seed_io.specs.Shelf.{Told}
use Rattle.bound_cert.specs.declared.heading.Heading.{Heading}
use Rattle.bound_cert.specs.declared.node_line.NodeLine.{NodeLine}
use Rattle.bound_cert.specs.Laws.{plan_named}
use Rattle.cert_check.specs.declared.judged.Checked.{Checked}
use Rattle.cert_check.specs.declared.judged.Verdict.{Verdict}
use Rattle.cert_check.specs.declared.judged.Verdict.TheVariants.{Yes}
use Rattle.cert_check.specs.declared.judged.Verdict.TheVariants as verdict
use Rattle.recipe_reader.specs.Recipes.{RecipeValue, table_of}
use Rattle.recipe_order.specs.Pins.{PinsExactly}
use Rattle.recipe_order.specs.Reordered.{IsReordered, carried_set}
use Rattle.command_texts.specs.declared.status.Status.{Status}
use Rattle.command_texts.specs.declared.status.Status.TheVariants.{Done}
use Rattle.command_texts.specs.declared.status.Status.TheVariants as ended
use Rattle.command_texts.specs.Refusals.{Refuses, no_plan, not_there, other_recipe, too_long}
use Rattle.command_endings.specs.Laws.{Common, IsSameEnd}
use Rattle.command_endings.specs.Reading.{LacksName}
use Rattle.command_endings.specs.Worlds.{Creating, Over, ShelfEnds, World}
use Rattle.planning_commands.specs.Check.{HearsFailure, HoldsCertificate, PrintsFailure, RunsTooLong, failure_text}
use Rattle.planning_commands.specs.Plan.{PrintsSearched}
use Rattle.planning_commands.specs.Reading.{HoldsRecipe, RecipeEnds}

-- the two recipes are not one but for their order, and the command is refused
pub record IsOtherRecipe (first second : RecipeValue) (status : Status) (text : List ℕ) : Type 0 where
  pub apart : ¬ IsReordered first second
  pub refuses : Refuses other_recipe status text

-- the set of the second recipe's files that has the names of a plan of the first one, and the node of which it is the only member
pub record CarriesPlan (first second : RecipeValue) (plan set : List Bool) (pins : Node) : Type 0 where
  pub same : IsReordered first second
  pub files : length set ≡ length second.files
  pub carried : AgreesBelow (length second.files) (holds set) (carried_set first second (holds plan))
  pub pinned : PinsExactly set pins

-- a node that is made so
pub record IsPinned (first second : RecipeValue) (plan : List Bool) (pins : Node) : Type 0 where
  pub set : List Bool
  pub carries : CarriesPlan first second plan set pins

-- so many bytes are in a range
pub record IsWithin (range : Range) (bytes : ℕ) : Type 0 where
  pub enough : range.low ≤ bytes
  pub no_more : bytes ≤ range.high

-- Such a set was pinned and searched for a range without a branching: a certificate that is valid for the second recipe stands
-- behind a name and is printed, and its plan is that set.
pub record PrintsCarried (first second : RecipeValue) (range : Range) (plan : List Bool) (status : Status) (text : List ℕ) (now : Option (List ℕ)) : Type 0 where
  pub set : List Bool
  pub pins : Node
  pub carries : CarriesPlan first second plan set pins
  pub searched : PrintsSearched second range (Some pins) 0 status text now
  pub answers : status ≡ Done
  pub plan_is : plan_named (length second.files) searched.heading.plan ≡ Some set

-- how `carry` ends over its second recipe
abbrev pub CarryTo : RecipeValue → Range → List Bool → Status → List ℕ → Option (List ℕ) → RecipeValue → Type 0
CarryTo first range plan status text now second = IsOtherRecipe first second status text ⊎ PrintsCarried first second range plan status text now

-- how it ends by what the document shows: refused where that is no plan
abbrev pub CarryBy : Told → List ℕ → RecipeValue → Range → Option (List Bool) → Status → List ℕ → Option (List ℕ) → Type 0
CarryBy given other first range None status text now = Refuses no_plan status text
CarryBy given other first range (Some plan) status text now = RecipeEnds given other status text (CarryTo first range plan status text now)

-- the document is valid for the first recipe
pub record CarriesValid (given : Told) (document other : List ℕ) (first : RecipeValue) (status : Status) (text : List ℕ) (now : Option (List ℕ)) : Type 0 where
  pub heading : Heading
  pub nodes : List NodeLine
  pub held : HoldsCertificate given document first heading nodes
  pub rest : CarryBy given other first heading.range (plan_named (length first.files) heading.plan) status text now

-- the document is not valid, and nothing is written
pub record CarriesNone (given : Told) (document out : List ℕ) (first : RecipeValue) (status : Status) (text : List ℕ) (now : Option (List ℕ)) : Type 0 where
  pub failure : PrintsFailure given document status text first
  pub same : now ≡ given out

-- how it ends over its first recipe: where the document is not valid, as `check` does
abbrev pub CarryOf : Told → List ℕ → List ℕ → List ℕ → Status → List ℕ → Option (List ℕ) → RecipeValue → Type 0
CarryOf given document other out status text now first =
    LacksName given document status text ⊎ (RunsTooLong given document status text first ⊎ (CarriesNone given document out first status text now ⊎ CarriesValid given document other first status text now))

-- how `carry RECIPE DOC OTHER OUT` ends over these byte strings, and what it leaves behind OUT
abbrev pub CarryEnds : List ℕ → List ℕ → List ℕ → List ℕ → Told → Status → List ℕ → Option (List ℕ) → Type 0
CarryEnds name document other out given status text now = RecipeEnds given name status text (CarryOf given document other out status text now)

-- over a shelf that does not tell its bytes: a plan was carried, whatever the shelf gave of the document
pub record HearsCarried (first : RecipeValue) (range : Range) (plan : List Bool) (status : Status) (text : List ℕ) (second : RecipeValue) : Type 0 where
  pub whole : List ℕ
  pub printed : PrintsCarried first second range plan status text (Some whole)

abbrev pub HeardTo : RecipeValue → Range → List Bool → Status → List ℕ → RecipeValue → Type 0
HeardTo first range plan status text second = IsOtherRecipe first second status text ⊎ HearsCarried first range plan status text second

pub record HearsPlan (tells : Bool) (map : Told) (other : List ℕ) (first : RecipeValue) (status : Status) (text : List ℕ) : Type 0 where
  pub range : Range
  pub plan : List Bool
  pub within : InRange (table_of first) range (holds plan)
  pub rest : Over tells map (λ given. RecipeEnds given other status text (HeardTo first range plan status text))

abbrev pub HeardCarry : Bool → Told → List ℕ → List ℕ → Status → List ℕ → RecipeValue → Type 0
HeardCarry tells map document other status text first =
    Refuses (not_there document) status text
    ⊎ (Refuses (too_long document) status text ⊎ (HearsFailure status text ⊎ (Refuses no_plan status text ⊎ HearsPlan tells map other first status text)))

-- how `carry` ends over a shelf that does not tell its bytes, where the first name gave a recipe
pub record HearsCarry (tells : Bool) (map : Told) (name document other : List ℕ) (status : Status) (text : List ℕ) : Type 0 where
  pub silent : tells ≡ false
  pub first : RecipeValue
  pub held : Over tells map (λ given. HoldsRecipe given name first)
  pub rest : HeardCarry tells map document other status text first

-- how it ends over any shelf: as its byte strings determine it, where it tells them
abbrev pub CarryOver : Bool → Told → Told → List ℕ → List ℕ → List ℕ → List ℕ → Status → List ℕ → Type 0
CarryOver tells old new name document other out status text =
    ShelfEnds tells old new (Creating out (CarryEnds name document other out)) status text ⊎ HearsCarry tells old name document other status text

-- a command that is not done changes nothing
abbrev pub IsUnchanged : Told → Told → Status → Type 0
IsUnchanged old new status = (status ≡ Done) ⊎ (new ≡ old)

-- a plan was carried and that was printed, and its certificate stands behind its name of a shelf that tells its bytes
pub record HasCarried (tells : Bool) (first second : RecipeValue) (range : Range) (plan : List Bool) (status : Status) (text : List ℕ) (now : Option (List ℕ)) : Type 0 where
  pub whole : List ℕ
  pub printed : PrintsCarried first second range plan status text (Some whole)
  pub held : tells ≡ true → now ≡ Some whole

-- that, or the recipes are not one but for their order
abbrev pub CarriedTo : Bool → RecipeValue → Range → List Bool → Status → List ℕ → Option (List ℕ) → RecipeValue → Type 0
CarriedTo tells first range plan status text now second = IsOtherRecipe first second status text ⊎ HasCarried tells first second range plan status text now

-- that to the recipe of a name
abbrev pub CarriedOver : Bool → Told → List ℕ → RecipeValue → Range → List Bool → Status → List ℕ → Option (List ℕ) → Type 0
CarriedOver tells map other first range plan status text now = Over tells map (λ given. RecipeEnds given other status text (CarriedTo tells first range plan status text now))

-- what a document shows is a plan in its range
abbrev pub ShowsPlan : RecipeValue → Range → Option (List Bool) → Type 0
ShowsPlan first range plan = IsSomeAnd plan (λ set. InRange (table_of first) range (holds set))

-- it is none, and the command is refused
pub record LacksPlan (first : RecipeValue) (range : Range) (plan : Option (List Bool)) (status : Status) (text : List ℕ) : Type 0 where
  pub none : ¬ ShowsPlan first range plan
  pub refuses : Refuses no_plan status text

-- it is one, and was carried
pub record HasCarriedPlan (tells : Bool) (map : Told) (other : List ℕ) (first : RecipeValue) (range : Range) (plan : Option (List Bool)) (status : Status) (text : List ℕ) (now : Option (List ℕ)) : Type 0 where
  pub set : List Bool
  pub is : plan ≡ Some set
  pub within : InRange (table_of first) range (holds set)
  pub carried : CarriedOver tells map other first range set status text now

-- what is done with what a checked document shows
abbrev pub CarriedBy : Bool → Told → List ℕ → RecipeValue → Range → Option (List Bool) → Status → List ℕ → Option (List ℕ) → Type 0
CarriedBy tells map other first range plan status text now = LacksPlan first range plan status text ⊎ HasCarriedPlan tells map other first range plan status text now

-- that by a verdict on it
abbrev pub ReportsCarried : Verdict → Bool → Told → List ℕ → RecipeValue → Checked → Status → List ℕ → Option (List ℕ) → Type 0
ReportsCarried Yes tells map other first checked status text now = CarriedBy tells map other first checked.range checked.plan status text now
ReportsCarried (verdict.No line rule) tells map other first checked status text now = (status ≡ ended.No) × (text ≡ failure_text line rule)

-- behind a name stands a front of the certificate by which a plan is carried
pub record HoldsCarriedFront (first second : RecipeValue) (range : Range) (plan : List Bool) (now : Option (List ℕ)) : Type 0 where
  pub status : Status
  pub text : List ℕ
  pub whole : List ℕ
  pub printed : PrintsCarried first second range plan status text (Some whole)
  pub count : ℕ
  pub front : now ≡ Some (take count whole)

-- that, or what stood there
abbrev pub LeavesCarried : RecipeValue → RecipeValue → Range → List Bool → Option (List ℕ) → Option (List ℕ) → Type 0
LeavesCarried first second range plan old now = (now ≡ old) ⊎ HoldsCarriedFront first second range plan now

-- that to the recipe of a name
pub record HoldsOtherFront (given : Told) (other : List ℕ) (first : RecipeValue) (range : Range) (plan : List Bool) (now : Option (List ℕ)) : Type 0 where
  pub second : RecipeValue
  pub held : HoldsRecipe given other second
  pub front : HoldsCarriedFront first second range plan now

abbrev pub LeavesTo : Told → List ℕ → RecipeValue → Range → List Bool → Option (List ℕ) → Option (List ℕ) → Type 0
LeavesTo given other first range plan old now = (now ≡ old) ⊎ HoldsOtherFront given other first range plan now

-- that by a checked document
pub record HoldsCheckedFront (given : Told) (other : List ℕ) (first : RecipeValue) (checked : Checked) (now : Option (List ℕ)) : Type 0 where
  pub valid : checked.verdict ≡ Yes
  pub plan : List Bool
  pub is : checked.plan ≡ Some plan
  pub front : HoldsOtherFront given other first checked.range plan now

abbrev pub LeavesChecked : Told → List ℕ → RecipeValue → Checked → Option (List ℕ) → Option (List ℕ) → Type 0
LeavesChecked given other first checked old now = (now ≡ old) ⊎ HoldsCheckedFront given other first checked now

-- that by a document of this name
pub record HoldsValidFront (given : Told) (document other : List ℕ) (first : RecipeValue) (now : Option (List ℕ)) : Type 0 where
  pub heading : Heading
  pub nodes : List NodeLine
  pub held : HoldsCertificate given document first heading nodes
  pub plan : List Bool
  pub is : plan_named (length first.files) heading.plan ≡ Some plan
  pub front : HoldsOtherFront given other first heading.range plan now

abbrev pub LeavesCarry : Told → List ℕ → List ℕ → RecipeValue → Option (List ℕ) → Option (List ℕ) → Type 0
LeavesCarry given document other first old now = (now ≡ old) ⊎ HoldsValidFront given document other first now

-- What two carryings over the same byte strings have in common: status and text, and but for the certificate's name all that is left.
-- How the certificate shows its bound is not determined.
pub record AgreeInCarry (out : List ℕ) (one other : Status) (text told : List ℕ) (left kept : World) : Type 0 where
  pub one_status : one ≡ other
  pub one_text : text ≡ told
  pub files : (name : List ℕ) → name ≢ out → left.files name ≡ kept.files name
  pub devices : (dev : ℕ) → dev ≤ 5 → left.devices dev ≡ kept.devices dev

-- two refusals are one; else the carryings agree
abbrev pub IsOneCarry : List ℕ → Common
IsOneCarry out one other text told left kept = IsSameEnd one other text told left kept ⊎ AgreeInCarry out one other text told left kept
