-- How `gen` ends.
use Rattle.std.specs.Prelude.{◌≡◌, ◌≢◌, ◌⊎◌, ℕ, ◌+◌, ◌*◌, ◌<◌, ◌≤◌, ◌^◌, List, length, take, codes, Bool, true, false, Option, Some, None}
use Rattle.csv_rows.specs.Rows.{rows_of, rows_text}
use Rattle.seed_model.specs.declared.range.Range.{Range}
use Rattle.seed_model.specs.Files.{holds}
use Rattle.seed_model.specs.Nodes.{IsBestAdmitted, NoneAdmitted, undecided_node}
use Rattle.seed_io.specs.Shelf.{Told}
use Rattle.bound_cert.specs.declared.heading.Answer.TheVariants.{Open}
use Rattle.bound_cert.specs.declared.heading.Heading.{Heading}
use Rattle.bound_cert.specs.declared.node_line.NodeLine.{NodeLine}
use Rattle.bound_cert.specs.Valid.{IsValidText}
use Rattle.branch_bound.specs.Outcomes.{IsSearched, free_files}
use Rattle.cert_check.specs.declared.judged.Verdict.{Verdict}
use Rattle.cert_check.specs.declared.judged.Verdict.TheVariants.{Yes, No}
use Rattle.recipe_reader.specs.Reading.{Leads}
use Rattle.recipe_reader.specs.Recipes.{RecipeValue, empty_recipe, table_of}
use Rattle.recipe_reader.specs.Same.{IsSameRecipe}
use Rattle.recipe_reader.specs.WrittenRows.{rows_of_recipe}
use Rattle.load_gen.specs.Draws.{recipe_drawn}
use Rattle.goseed_words.specs.declared.amount.Amount.TheVariants.{Percent}
use Rattle.goseed_words.specs.Asked.{Asks, asking}
use Rattle.goseed_words.specs.Commands.{Gen}
use Rattle.command_texts.specs.declared.status.Status.{Status}
use Rattle.command_texts.specs.declared.status.Status.TheVariants as ended
use Rattle.command_texts.specs.Refusals.{Refuses, not_there, too_long}
use Rattle.command_endings.specs.declared.limits.TheConstants.{MOST_CERTIFICATE_BYTES}
use Rattle.command_endings.specs.Creating.{HoldsFront}
use Rattle.command_endings.specs.Worlds.{ShelfEnds, World}
use Rattle.planning_commands.specs.Best.{range_in}
use Rattle.planning_commands.specs.Check.{judged_table, failure_text}
use Rattle.planning_commands.specs.Plan.{AgreeInAnswer, PrintsSearched}
use Rattle.trial_commands.specs.declared.drawing.Drawn.{Drawn}
use Rattle.trial_commands.specs.Texts.{gen_text, yes_line}

-- the names that `gen` creates: for the recipe's text, and for the certificate
abbrev pub recipe_name : List ℕ
recipe_name = codes "gen.csv"

abbrev pub document_name : List ℕ
document_name = codes "gen.doc"

-- the text of the recipe that is drawn from a number, with so many files
abbrev pub drawn_text : ℕ → ℕ → List ℕ
drawn_text number files = rows_text (rows_of_recipe (recipe_drawn number files (4 * files)))

-- the recipe that this text gives again: the same files in order, and the same chunks and pairs by name
pub record IsDrawn (number files : ℕ) (recipe : RecipeValue) : Type 0 where
  pub reads : Leads empty_recipe (rows_of (drawn_text number files)) recipe
  pub same : IsSameRecipe (recipe_drawn number files (4 * files)) recipe

-- 30% of its bytes, 2% more or less
abbrev pub drawn_range : RecipeValue → Range
drawn_range recipe = range_in recipe (Percent 30) (Percent 2)

-- what a search over it with at most 200 branchings prints and leaves behind the certificate's name
abbrev pub SearchesDrawn : RecipeValue → Status → List ℕ → Option (List ℕ) → Type 0
SearchesDrawn recipe status text now = PrintsSearched recipe (drawn_range recipe) None 200 status text now

-- It is searched over: the status is that of the search, and its lines are printed between those of the recipe and `check yes`, since
-- the certificate is valid.
pub record PrintsOf (recipe : RecipeValue) (status : Status) (text : List ℕ) (now : Option (List ℕ)) : Type 0 where
  pub lines : List ℕ
  pub searched : SearchesDrawn recipe status lines now
  pub prints : text ≡ gen_text recipe lines yes_line

-- the same of the recipe that is drawn
pub record PrintsDrawn (number files : ℕ) (status : Status) (text : List ℕ) (now : Option (List ℕ)) : Type 0 where
  pub recipe : RecipeValue
  pub drawn : IsDrawn number files recipe
  pub printed : PrintsOf recipe status text now

-- how `gen NUMBER FILES` ends over these byte strings: the recipe's text and the certificate stand behind their names, and all
-- other names are as before
pub record GenEnds (number files : ℕ) (found : Told) (status : Status) (text : List ℕ) (left : Told) : Type 0 where
  pub written : left recipe_name ≡ Some (drawn_text number files)
  pub ends : PrintsDrawn number files status text (left document_name)
  pub others : (name : List ℕ) → name ≢ recipe_name → name ≢ document_name → left name ≡ found name

-- what is printed of a search whose certificate, as it is given back, is valid
pub record IsPassed (recipe : RecipeValue) (planned : Status) (lines : List ℕ) (status : Status) (text : List ℕ) : Type 0 where
  pub answers : status ≡ planned
  pub prints : text ≡ gen_text recipe lines yes_line

-- and of one whose certificate is given back as a text that is not valid
pub record IsFailed (recipe : RecipeValue) (lines : List ℕ) (status : Status) (text : List ℕ) : Type 0 where
  pub line : ℕ
  pub rule : ℕ
  pub answers : status ≡ ended.No
  pub prints : text ≡ gen_text recipe lines (failure_text line rule)

-- none is given back, or too many bytes
abbrev pub IsRefused : Status → List ℕ → Type 0
IsRefused status text = Refuses (not_there document_name) status text ⊎ Refuses (too_long document_name) status text

-- what is printed of a search, whatever is given back as its certificate
abbrev pub JudgesDrawn : RecipeValue → Status → List ℕ → Status → List ℕ → Type 0
JudgesDrawn recipe planned lines status text = IsPassed recipe planned lines status text ⊎ (IsFailed recipe lines status text ⊎ IsRefused status text)

-- the line of a verdict
abbrev pub judged_lines : Verdict → List ℕ
judged_lines Yes = yes_line
judged_lines (No line rule) = failure_text line rule

-- how the command ends by a verdict
abbrev pub judged_status : Verdict → Status → Status
judged_status Yes planned = planned
judged_status (No line rule) planned = ended.No

-- the certificate's name has a valid certificate of the recipe, which is no longer than is read
pub record HoldsValid (given : Told) (recipe : RecipeValue) : Type 0 where
  pub bytes : List ℕ
  pub held : given document_name ≡ Some bytes
  pub short : length bytes ≤ MOST_CERTIFICATE_BYTES
  pub valid : IsValidText (judged_table recipe) bytes

-- over a shelf that does not tell its bytes: what it gives back as the certificate is not valid, is none, or too much
pub record HearsOf (tells : Bool) (recipe : RecipeValue) (status : Status) (text : List ℕ) : Type 0 where
  pub silent : tells ≡ false
  pub planned : Status
  pub lines : List ℕ
  pub whole : List ℕ
  pub searched : SearchesDrawn recipe planned lines (Some whole)
  pub rest : IsFailed recipe lines status text ⊎ IsRefused status text

-- the search was made and printed, and its certificate stands behind its name of a shelf that tells its bytes
pub record HasPrinted (tells : Bool) (recipe : RecipeValue) (status : Status) (text : List ℕ) (now : Option (List ℕ)) : Type 0 where
  pub whole : List ℕ
  pub printed : PrintsOf recipe status text (Some whole)
  pub held : tells ≡ true → now ≡ Some whole

abbrev pub SearchedOver : Bool → RecipeValue → Status → List ℕ → Option (List ℕ) → Type 0
SearchedOver tells recipe status text now = HasPrinted tells recipe status text now ⊎ HearsOf tells recipe status text

-- the same of the recipe that is drawn
pub record HearsDrawn (tells : Bool) (number files : ℕ) (status : Status) (text : List ℕ) : Type 0 where
  pub recipe : RecipeValue
  pub drawn : IsDrawn number files recipe
  pub hears : HearsOf tells recipe status text

-- how `gen` ends over any shelf
abbrev pub GenOver : Bool → Told → Told → ℕ → ℕ → Status → List ℕ → Type 0
GenOver tells old new number files status text = ShelfEnds tells old new (GenEnds number files) status text ⊎ HearsDrawn tells number files status text

-- behind a name stands a front of the certificate of a search over the recipe
pub record HoldsFrontOf (recipe : RecipeValue) (now : Option (List ℕ)) : Type 0 where
  pub status : Status
  pub text : List ℕ
  pub whole : List ℕ
  pub printed : PrintsOf recipe status text (Some whole)
  pub count : ℕ
  pub front : now ≡ Some (take count whole)

-- that, or what stood there
abbrev pub LeavesDocument : RecipeValue → Option (List ℕ) → Option (List ℕ) → Type 0
LeavesDocument recipe old now = (now ≡ old) ⊎ HoldsFrontOf recipe now

-- the same of the recipe that is drawn
pub record HoldsDrawnFront (number files : ℕ) (now : Option (List ℕ)) : Type 0 where
  pub recipe : RecipeValue
  pub drawn : IsDrawn number files recipe
  pub holds : HoldsFrontOf recipe now

-- a text, and the recipe that it gives, are those that are drawn
pub record DrawnBy (number files : ℕ) (drawn : Drawn) : Type 0 where
  pub text_is : drawn.text.items ≡ drawn_text number files
  pub recipe_is : IsDrawn number files drawn.recipe

-- the recipe's text and a certificate were written, each whole or a front of it, and all other names are as before
pub record LeavesBoth (bytes : List ℕ) (recipe : RecipeValue) (old new : Told) : Type 0 where
  pub front : HoldsFront old new recipe_name bytes
  pub document : LeavesDocument recipe (old document_name) (new document_name)
  pub others : (name : List ℕ) → name ≢ recipe_name → name ≢ document_name → new name ≡ old name

-- the recipe's text was written, and it was searched over
pub record GivesBoth (tells : Bool) (bytes : List ℕ) (recipe : RecipeValue) (old new : Told) (status : Status) (text : List ℕ) : Type 0 where
  pub written : tells ≡ true → new recipe_name ≡ Some bytes
  pub searched : SearchedOver tells recipe status text (new document_name)
  pub others : tells ≡ true → (name : List ℕ) → name ≢ recipe_name → name ≢ document_name → new name ≡ old name

-- what the command leaves, stopped or not: behind each of its two names what was there, or a front of what it leaves there; all
-- other names as before
pub record LeavesDrawn (number files : ℕ) (old new : Told) : Type 0 where
  pub recipe : HoldsFront old new recipe_name (drawn_text number files)
  pub document : (new document_name ≡ old document_name) ⊎ HoldsDrawnFront number files (new document_name)
  pub others : (name : List ℕ) → name ≢ recipe_name → name ≢ document_name → new name ≡ old name

-- What two ends of `gen` have in common: their answers agree, all names but the certificate's are left the same, and where one
-- certificate is left, status and text are one. So the text is a function of the two numbers and the certificate.
pub record AgreeInDrawn (one other : Status) (text told : List ℕ) (left kept : World) : Type 0 where
  pub answers : AgreeInAnswer one other text told
  pub files : (name : List ℕ) → name ≢ document_name → left.files name ≡ kept.files name
  pub same_status : left.files document_name ≡ kept.files document_name → one ≡ other
  pub same_text : left.files document_name ≡ kept.files document_name → text ≡ told
  pub devices : (dev : ℕ) → dev ≤ 5 → left.devices dev ≡ kept.devices dev

-- the words ask for a recipe that is drawn, and this is the one
pub record AsksGen (words : List (List ℕ)) (recipe : RecipeValue) : Type 0 where
  pub number : ℕ
  pub files : ℕ
  pub asks : Asks words (asking Gen number files)
  pub drawn : IsDrawn number files recipe

-- why `gen` is done: a set of its files is best
pub record HasDrawnPlan (words : List (List ℕ)) : Type 0 where
  pub recipe : RecipeValue
  pub asks : AsksGen words recipe
  pub plan : List Bool
  pub best : IsBestAdmitted (table_of recipe) (drawn_range recipe) (undecided_node (length recipe.files)) (holds plan)

-- why its answer is no: no set is in range
pub record HasNoDrawnPlan (words : List (List ℕ)) : Type 0 where
  pub recipe : RecipeValue
  pub asks : AsksGen words recipe
  pub none : NoneAdmitted (table_of recipe) (drawn_range recipe) (undecided_node (length recipe.files))

-- why it is unfinished: a valid certificate has spent the 200 branchings, which were fewer than decide every file
pub record HasSpentDrawn (words : List (List ℕ)) : Type 0 where
  pub recipe : RecipeValue
  pub asks : AsksGen words recipe
  pub heading : Heading
  pub nodes : List NodeLine
  pub open_is : heading.answer ≡ Open
  pub searched : IsSearched (judged_table recipe) (drawn_range recipe) None 200 heading nodes
  pub few : 200 + 1 < 2 ^ free_files (length recipe.files) (undecided_node (length recipe.files))
