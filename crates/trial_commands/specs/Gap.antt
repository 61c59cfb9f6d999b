-- How `gap` ends.
use Rattle.std.specs.Prelude.{◌≡◌, ◌⊎◌, ℕ, ◌≤◌, List, Bool, false, Option, Some, length}
use Rattle.seed_model.specs.declared.node.Node.{Node}
use Rattle.seed_model.specs.declared.range.Range.{Range}
use Rattle.seed_model.specs.Files.{holds}
use Rattle.seed_model.specs.Nodes.{IsAdmitted}
use Rattle.seed_model.specs.Sums.{replicated_of}
use Rattle.seed_model.specs.Tables.{TableValue}
use Rattle.seed_io.specs.Shelf.{Told}
use Rattle.bound_cert.specs.declared.heading.Heading.{Heading}
use Rattle.bound_cert.specs.declared.node_line.NodeLine.{NodeLine}
use Rattle.bound_cert.specs.Laws.{Says}
use Rattle.bound_cert.specs.Sets.{root_of}
use Rattle.cert_check.specs.declared.judged.Checked.{Checked}
use Rattle.cert_check.specs.declared.judged.Verdict.{Verdict}
use Rattle.cert_check.specs.declared.judged.Verdict.TheVariants.{Yes}
use Rattle.cert_check.specs.declared.judged.Verdict.TheVariants as verdict
use Rattle.cert_check.specs.Checking.{root_checked}
use Rattle.recipe_reader.specs.Recipes.{RecipeValue, table_of}
use Rattle.greedy_seed.specs.Greedy.{FindsNone}
use Rattle.goseed_words.specs.Asked.{Asks, asking}
use Rattle.goseed_words.specs.Commands.{Gap}
use Rattle.command_texts.specs.declared.status.Status.{Status}
use Rattle.command_texts.specs.declared.status.Status.TheVariants.{Done, No}
use Rattle.command_texts.specs.Refusals.{Refuses, not_there, too_long}
use Rattle.command_endings.specs.Reading.{LacksName}
use Rattle.command_endings.specs.Worlds.{Over}
use Rattle.planning_commands.specs.Check.{HearsFailure, HoldsCertificate, HoldsFailure, PrintsFailure, RunsTooLong, failure_text, judged_table}
use Rattle.planning_commands.specs.Reading.{HoldsRecipe, RecipeEnds}
use Rattle.trial_commands.specs.Greedy.{FindsSet}
use Rattle.trial_commands.specs.Texts.{gap_text, no_set_line}

-- no admitted set replicates less than this bound
abbrev pub BoundsAll : TableValue → Range → Node → ℕ → Type 0
BoundsAll table range pins bound = (set : ℕ → Bool) → IsAdmitted table range pins set → bound ≤ replicated_of set table

-- A set was found greedily beside a bound, and is printed with the bound and their difference. The bound is at most what any admitted
-- set replicates, and the set is one of them: so the least that any replicates lies between the two.
pub record PrintsBetween (recipe : RecipeValue) (range : Range) (pins : Node) (bound : Option ℕ) (status : Status) (text : List ℕ) : Type 0 where
  pub set : List Bool
  pub turns : ℕ
  pub rounds : ℕ
  pub found : FindsSet recipe range pins set turns rounds
  pub least : ℕ
  pub bound_is : bound ≡ Some least
  pub bounds : BoundsAll (table_of recipe) range pins least
  pub between : least ≤ replicated_of (holds set) (table_of recipe)
  pub answers : status ≡ Done
  pub prints : text ≡ gap_text recipe set least

-- none was found, and that is printed
pub record PrintsNoSet (recipe : RecipeValue) (range : Range) (pins : Node) (status : Status) (text : List ℕ) : Type 0 where
  pub turns : ℕ
  pub none : FindsNone (judged_table recipe) range pins turns
  pub answers : status ≡ No
  pub prints : text ≡ no_set_line

-- a set beside a bound, or none; where there is no bound, there is none
abbrev pub PrintsBeside : RecipeValue → Range → Node → Option ℕ → Status → List ℕ → Type 0
PrintsBeside recipe range pins bound status text = PrintsBetween recipe range pins bound status text ⊎ PrintsNoSet recipe range pins status text

-- the certificate is valid, and beside its bound a set was sought greedily with its range and pins
pub record PrintsGap (given : Told) (name : List ℕ) (status : Status) (text : List ℕ) (recipe : RecipeValue) : Type 0 where
  pub heading : Heading
  pub nodes : List NodeLine
  pub held : HoldsCertificate given name recipe heading nodes
  pub beside : PrintsBeside recipe heading.range (root_of (length recipe.files) heading.pins) heading.bound status text

-- how `gap` ends over its recipe: where the certificate is not valid, as `check` does
abbrev pub GapOf : Told → List ℕ → Status → List ℕ → RecipeValue → Type 0
GapOf given name status text recipe =
    LacksName given name status text ⊎ (RunsTooLong given name status text recipe ⊎ (PrintsFailure given name status text recipe ⊎ PrintsGap given name status text recipe))

-- how `gap RECIPE DOC` ends over these byte strings
abbrev pub GapEnds : List ℕ → List ℕ → Told → Status → List ℕ → Type 0
GapEnds recipe name given status text = RecipeEnds given recipe status text (GapOf given name status text)

-- what is printed of a certificate by a verdict
abbrev pub ReportsBeside : Verdict → RecipeValue → Checked → Status → List ℕ → Type 0
ReportsBeside Yes recipe checked status text = PrintsBeside recipe checked.range (root_checked (length recipe.files) checked.pins) checked.bound status text
ReportsBeside (verdict.No line rule) recipe checked status text = (status ≡ No) × (text ≡ failure_text line rule)

-- over a shelf that does not tell its bytes: what is printed beside a bound is so, whatever the shelf gave
pub record HearsBound (recipe : RecipeValue) (status : Status) (text : List ℕ) : Type 0 where
  pub checked : Checked
  pub says : Says (table_of recipe) checked.range (root_checked (length recipe.files) checked.pins) checked.answer checked.plan checked.bound
  pub beside : PrintsBeside recipe checked.range (root_checked (length recipe.files) checked.pins) checked.bound status text

abbrev pub HeardGap : List ℕ → Status → List ℕ → RecipeValue → Type 0
HeardGap name status text recipe = Refuses (not_there name) status text ⊎ (Refuses (too_long name) status text ⊎ (HearsFailure status text ⊎ HearsBound recipe status text))

-- how `gap RECIPE DOC` ends over a shelf that does not tell its bytes, where the first name gave a recipe
pub record HearsGap (tells : Bool) (map : Told) (recipe name : List ℕ) (status : Status) (text : List ℕ) : Type 0 where
  pub silent : tells ≡ false
  pub value : RecipeValue
  pub held : Over tells map (λ given. HoldsRecipe given recipe value)
  pub rest : HeardGap name status text value

-- how it ends over any shelf: as its byte strings determine it, where it tells them
abbrev pub GapOver : Bool → Told → List ℕ → List ℕ → Status → List ℕ → Type 0
GapOver tells map recipe name status text = Over tells map (λ given. GapEnds recipe name given status text) ⊎ HearsGap tells map recipe name status text

-- the words ask for the gap of what has this name by this recipe
pub record AsksGap (given : Told) (words : List (List ℕ)) (recipe : RecipeValue) (name : List ℕ) : Type 0 where
  pub read : List ℕ
  pub asks : Asks words (asking Gap read name)
  pub held : HoldsRecipe given read recipe

-- a valid certificate that the words ask for
pub record HasValid (given : Told) (words : List (List ℕ)) : Type 0 where
  pub recipe : RecipeValue
  pub name : List ℕ
  pub asks : AsksGap given words recipe name
  pub heading : Heading
  pub nodes : List NodeLine
  pub held : HoldsCertificate given name recipe heading nodes

-- why `gap` is done: beside its bound a set is found, and the least replicated bytes lie between
pub record HasGap (given : Told) (words : List (List ℕ)) : Type 0 where
  pub valid : HasValid given words
  pub set : List Bool
  pub turns : ℕ
  pub rounds : ℕ
  pub found : FindsSet valid.recipe valid.heading.range (root_of (length valid.recipe.files) valid.heading.pins) set turns rounds
  pub least : ℕ
  pub bound_is : valid.heading.bound ≡ Some least
  pub between : least ≤ replicated_of (holds set) (table_of valid.recipe)

-- why its answer is no: none is found
pub record HasNoSet (given : Told) (words : List (List ℕ)) : Type 0 where
  pub valid : HasValid given words
  pub turns : ℕ
  pub none : FindsNone (judged_table valid.recipe) valid.heading.range (root_of (length valid.recipe.files) valid.heading.pins) turns

-- or a judgement of the certificate fails
pub record HasInvalid (given : Told) (words : List (List ℕ)) : Type 0 where
  pub recipe : RecipeValue
  pub name : List ℕ
  pub asks : AsksGap given words recipe name
  pub line : ℕ
  pub rule : ℕ
  pub held : HoldsFailure given name recipe line rule
