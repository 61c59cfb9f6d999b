-- How `check` ends.
use Rattle.std.specs.Prelude.{◌≡◌, ◌⊎◌, ℕ, List, [], ◌∷◌, ◌++◌, Option, Some, None, option_map, IfSome, length, count_by, codes, Bool, false}
use Rattle.seed_model.specs.declared.node.Node.{Node}
use Rattle.seed_model.specs.Tables.{TableValue}
use Rattle.bound_cert.specs.declared.heading.Heading.{Heading}
use Rattle.bound_cert.specs.declared.heading.Pins.{Pins}
use Rattle.bound_cert.specs.declared.node_line.NodeLine.{NodeLine}
use Rattle.bound_cert.specs.Documents.{IsDocument, document_text}
use Rattle.bound_cert.specs.Laws.{Says, plan_named}
use Rattle.bound_cert.specs.Sets.{root_of}
use Rattle.bound_cert.specs.Trees.{is_branch}
use Rattle.bound_cert.specs.Valid.{IsValid}
use Rattle.bound_cert.specs.Within.{RunsOn, FailsWithin}
use Rattle.cert_check.specs.declared.judged.Checked.{Checked}
use Rattle.cert_check.specs.declared.judged.Verdict.{Verdict}
use Rattle.cert_check.specs.declared.judged.Verdict.TheVariants.{Yes, No}
use Rattle.cert_check.specs.Checking.{GoTogether, IsPlan, migrated_by, replicated_by, root_checked}
use Rattle.chunk_merge.specs.Merged.{merged}
use Rattle.seed_text.specs.SetTexts.{set_text}
use Rattle.seed_io.specs.Shelf.{Told}
use Rattle.recipe_reader.specs.Recipes.{RecipeValue, table_of}
use Rattle.goseed_words.specs.Asked.{Asks, asking}
use Rattle.goseed_words.specs.Commands.{Certificate, Check}
use Rattle.command_texts.specs.declared.status.Status.{Status}
use Rattle.command_texts.specs.declared.status.Status.TheVariants.{Done}
use Rattle.command_texts.specs.declared.status.Status.TheVariants as ended
use Rattle.command_texts.specs.Lines.{line, numbers_line}
use Rattle.command_texts.specs.Refusals.{Refuses, not_there, too_long}
use Rattle.command_endings.specs.declared.limits.TheConstants.{MOST_CERTIFICATE_BYTES}
use Rattle.command_endings.specs.Reading.{LacksName, Reads}
use Rattle.command_endings.specs.Worlds.{Over}
use Rattle.planning_commands.specs.Reading.{HoldsRecipe, RecipeEnds}
use Rattle.planning_commands.specs.Texts.{answer_lines}

-- what certificates of a recipe speak of: its table with a class for each set of users
abbrev pub judged_table : RecipeValue → TableValue
judged_table recipe = merged (table_of recipe)

-- the pins of a certificate, if it has any
abbrev pub pins_line : Option Pins → List ℕ
pins_line None = []
pins_line (Some pins) = line (codes "pins " ++ pins.go ++ codes " " ++ pins.stay)

-- what `check` prints of a valid certificate
abbrev pub valid_text : RecipeValue → Heading → List NodeLine → List ℕ
valid_text recipe heading nodes =
    line (codes "check yes")
    ++ numbers_line (codes "range") (heading.range.low ∷ heading.range.high ∷ [])
    ++ pins_line heading.pins
    ++ answer_lines recipe.files heading.answer (plan_named (length recipe.files) heading.plan) (migrated_by heading.plan) (replicated_by heading.plan) heading.bound (count_by is_branch nodes)

-- what it prints of the first judgement that fails: its line, and the number of its rule
abbrev pub failure_text : ℕ → ℕ → List ℕ
failure_text line rule = numbers_line (codes "check no") (line ∷ rule ∷ [])

-- the files that must go and those that must stay, if there are any
abbrev pub node_lines : Option Node → List ℕ
node_lines None = []
node_lines (Some node) = line (codes "pins " ++ set_text node.inside ++ codes " " ++ set_text node.outside)

-- what it prints of what a checked certificate gives
abbrev pub yes_text : RecipeValue → Checked → List ℕ
yes_text recipe checked =
    line (codes "check yes")
    ++ numbers_line (codes "range") (checked.range.low ∷ checked.range.high ∷ [])
    ++ node_lines checked.pins
    ++ answer_lines recipe.files checked.answer checked.plan checked.migrated checked.replicated checked.bound checked.branchings

abbrev pub text_by : Verdict → RecipeValue → Checked → List ℕ
text_by Yes recipe checked = yes_text recipe checked
text_by (No line rule) recipe checked = failure_text line rule

abbrev pub shown_text : RecipeValue → Checked → List ℕ
shown_text recipe checked = text_by checked.verdict recipe checked

-- how it ends by a verdict
abbrev pub verdict_status : Verdict → Status
verdict_status Yes = Done
verdict_status (No line rule) = ended.No

-- what is printed of a checked certificate, and how the command ends
pub record ReportsOn (recipe : RecipeValue) (checked : Checked) (status : Status) (text : List ℕ) : Type 0 where
  pub answers : status ≡ verdict_status checked.verdict
  pub prints : text ≡ shown_text recipe checked

-- the bytes of the name are this certificate, which is valid for the recipe
pub record HoldsCertificate (given : Told) (name : List ℕ) (recipe : RecipeValue) (heading : Heading) (nodes : List NodeLine) : Type 0 where
  pub bytes : List ℕ
  pub reads : Reads given name Certificate bytes
  pub document : IsDocument heading nodes
  pub text_is : bytes ≡ document_text heading nodes
  pub valid : IsValid (judged_table recipe) heading nodes

-- of the bytes of the name this judgement fails first
pub record HoldsFailure (given : Told) (name : List ℕ) (recipe : RecipeValue) (line rule : ℕ) : Type 0 where
  pub bytes : List ℕ
  pub held : given name ≡ Some bytes
  pub fails : FailsWithin (judged_table recipe) MOST_CERTIFICATE_BYTES bytes line rule

-- the certificate is valid, and what it shows is printed
pub record PrintsValid (given : Told) (name : List ℕ) (status : Status) (text : List ℕ) (recipe : RecipeValue) : Type 0 where
  pub heading : Heading
  pub nodes : List NodeLine
  pub held : HoldsCertificate given name recipe heading nodes
  pub answers : status ≡ Done
  pub prints : text ≡ valid_text recipe heading nodes

-- it is not, and the first judgement that fails is printed
pub record PrintsFailure (given : Told) (name : List ℕ) (status : Status) (text : List ℕ) (recipe : RecipeValue) : Type 0 where
  pub line : ℕ
  pub rule : ℕ
  pub held : HoldsFailure given name recipe line rule
  pub answers : status ≡ ended.No
  pub prints : text ≡ failure_text line rule

-- no judgement fails of what is read, and there are more bytes than are read: the command is refused
pub record RunsTooLong (given : Told) (name : List ℕ) (status : Status) (text : List ℕ) (recipe : RecipeValue) : Type 0 where
  pub bytes : List ℕ
  pub held : given name ≡ Some bytes
  pub runs : RunsOn (judged_table recipe) MOST_CERTIFICATE_BYTES bytes
  pub refuses : Refuses (too_long name) status text

-- how `check` ends over its recipe
abbrev pub CheckOf : Told → List ℕ → Status → List ℕ → RecipeValue → Type 0
CheckOf given name status text recipe =
    LacksName given name status text ⊎ (RunsTooLong given name status text recipe ⊎ (PrintsFailure given name status text recipe ⊎ PrintsValid given name status text recipe))

-- how `check RECIPE CERTIFICATE` ends over these byte strings
abbrev pub CheckEnds : List ℕ → List ℕ → Told → Status → List ℕ → Type 0
CheckEnds recipe name given status text = RecipeEnds given recipe status text (CheckOf given name status text)

-- Over a shelf that does not tell its bytes: what is printed as shown is so, of the recipe's sets of files, whatever the
-- shelf gave. A plan is a set of the recipe's files with its sums, and answer, plan and bound go together.
pub record HearsValid (recipe : RecipeValue) (status : Status) (text : List ℕ) : Type 0 where
  pub checked : Checked
  pub says : Says (table_of recipe) checked.range (root_checked (length recipe.files) checked.pins) checked.answer checked.plan checked.bound
  pub plan : IfSome checked.plan (IsPlan (table_of recipe) checked.migrated checked.replicated)
  pub agrees : GoTogether checked.answer (option_map (λ _. checked.replicated) checked.plan) checked.bound
  pub answers : status ≡ Done
  pub prints : text ≡ yes_text recipe checked

-- a judgement failed of what the shelf gave
pub record HearsFailure (status : Status) (text : List ℕ) : Type 0 where
  pub line : ℕ
  pub rule : ℕ
  pub answers : status ≡ ended.No
  pub prints : text ≡ failure_text line rule

-- how `check` ends over its recipe, whatever the shelf gave
abbrev pub HeardOf : List ℕ → Status → List ℕ → RecipeValue → Type 0
HeardOf name status text recipe = Refuses (not_there name) status text ⊎ (Refuses (too_long name) status text ⊎ (HearsFailure status text ⊎ HearsValid recipe status text))

-- how `check RECIPE CERTIFICATE` ends over a shelf that does not tell its bytes, where the first name gave a recipe
pub record HearsCheck (tells : Bool) (map : Told) (recipe name : List ℕ) (status : Status) (text : List ℕ) : Type 0 where
  pub silent : tells ≡ false
  pub value : RecipeValue
  pub held : Over tells map (λ given. HoldsRecipe given recipe value)
  pub rest : HeardOf name status text value

-- how it ends over any shelf: as its byte strings determine it, where it tells them
abbrev pub CheckOver : Bool → Told → List ℕ → List ℕ → Status → List ℕ → Type 0
CheckOver tells map recipe name status text = Over tells map (λ given. CheckEnds recipe name given status text) ⊎ HearsCheck tells map recipe name status text

-- the words ask to judge what has this name by this recipe
pub record AsksCheck (given : Told) (words : List (List ℕ)) (recipe : RecipeValue) (name : List ℕ) : Type 0 where
  pub read : List ℕ
  pub asks : Asks words (asking Check read name)
  pub held : HoldsRecipe given read recipe

-- why `check` is done: the certificate is valid for the recipe, and so what it says of the recipe's sets of files is so
pub record HasCertificate (given : Told) (words : List (List ℕ)) : Type 0 where
  pub recipe : RecipeValue
  pub name : List ℕ
  pub asks : AsksCheck given words recipe name
  pub heading : Heading
  pub nodes : List NodeLine
  pub held : HoldsCertificate given name recipe heading nodes
  pub says : Says (table_of recipe) heading.range (root_of (length recipe.files) heading.pins) heading.answer (plan_named (length recipe.files) heading.plan) heading.bound

-- why its answer is no: a judgement of it fails
pub record HasFailure (given : Told) (words : List (List ℕ)) : Type 0 where
  pub recipe : RecipeValue
  pub name : List ℕ
  pub asks : AsksCheck given words recipe name
  pub line : ℕ
  pub rule : ℕ
  pub held : HoldsFailure given name recipe line rule
