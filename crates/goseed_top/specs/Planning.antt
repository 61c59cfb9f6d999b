-- What a search leaves, prints and answers that words ask for, and what `gen` does.
use Rattle.std.specs.Prelude.{◌≡◌, ℕ, ◌++◌, List, Bool, true, Option}
use Rattle.seed_io.specs.Shelf.{Told, OthersStay}
use Rattle.seed_model.specs.declared.node.Node.{Node}
use Rattle.seed_model.specs.declared.range.Range.{Range}
use Rattle.bound_cert.specs.declared.heading.Heading.{Heading}
use Rattle.bound_cert.specs.declared.node_line.NodeLine.{NodeLine}
use Rattle.recipe_reader.specs.Recipes.{RecipeValue}
use Rattle.goseed_words.specs.Asked.{Asks, asking}
use Rattle.goseed_words.specs.Commands.{Gen}
use Rattle.command_texts.specs.declared.status.Status.{Status}
use Rattle.command_texts.specs.declared.status.Status.TheVariants.{Done}
use Rattle.planning_commands.specs.Check.{PrintsValid, valid_text}
use Rattle.planning_commands.specs.Plan.{AsksSearch, PrintsSearched}
use Rattle.trial_commands.specs.Gen.{GenEnds, document_name}

-- The status, the text and the bytes behind a name are one outcome of a search, and all other names are as they were.
pub record HasPlanned (recipe : RecipeValue) (range : Range) (pins : Option Node) (budget : ℕ) (document : List ℕ) (old new : Told) (status : Status) (sink_tells : Bool) (before after : List ℕ) : Type 0 where
  pub text : List ℕ
  pub outcome : PrintsSearched recipe range pins budget status text (new document)
  pub printed : sink_tells ≡ true → after ≡ before ++ text
  pub others : OthersStay old new document
  -- `check` says yes to the certificate
  pub checked : PrintsValid new document Done (valid_text recipe outcome.heading outcome.nodes) recipe

-- The headline of planning: whatever recipe, range, pins and budget the words ask to search over, the search has planned for them.
abbrev pub Plans : Told → Told → List (List ℕ) → Status → Bool → List ℕ → List ℕ → Type 0
Plans old new words status sink_tells before after =
    (recipe : RecipeValue) (range : Range) (pins : Option Node) (budget : ℕ) (document : List ℕ) → AsksSearch old words recipe range pins budget document
    → HasPlanned recipe range pins budget document old new status sink_tells before after

-- The text of the drawn recipe and a certificate stand behind the names of `gen`, all other names are as they were, and what was
-- printed and answered is what the certificate shows, ended by `check yes`.
pub record HasDrawn (number files : ℕ) (old new : Told) (status : Status) (sink_tells : Bool) (before after : List ℕ) : Type 0 where
  pub text : List ℕ
  pub ended : GenEnds number files old status text new
  pub printed : sink_tells ≡ true → after ≡ before ++ text
  -- `check` says yes to the certificate
  pub heading : Heading
  pub nodes : List NodeLine
  pub checked : PrintsValid new document_name Done (valid_text ended.ends.recipe heading nodes) ended.ends.recipe

-- The same for `gen`: whatever number and how many files the words ask for.
abbrev pub Draws : Told → Told → List (List ℕ) → Status → Bool → List ℕ → List ℕ → Type 0
Draws old new words status sink_tells before after =
    (number files : ℕ) → Asks words (asking Gen number files) → HasDrawn number files old new status sink_tells before after
