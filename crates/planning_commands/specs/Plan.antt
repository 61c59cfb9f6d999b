-- How `plan` and `pinned` end.
use Rattle.std.specs.Prelude.{◌≡◌, ◌≢◌, ◌⊎◌, ℕ, ◌+◌, ◌<◌, ◌≤◌, ◌^◌, List, ◌++◌, length, take, codes, count_by, Bool, true, Option, Some, None}
use Rattle.seed_model.specs.declared.node.Node.{Node}
use Rattle.seed_model.specs.declared.range.Range.{Range}
use Rattle.seed_model.specs.Files.{holds}
use Rattle.seed_model.specs.Nodes.{IsBestAdmitted, NoneAdmitted}
use Rattle.seed_io.specs.Shelf.{Told}
use Rattle.bound_cert.specs.declared.heading.Answer.{Answer}
use Rattle.bound_cert.specs.declared.heading.Answer.TheVariants.{Optimal, Infeasible, Open}
use Rattle.bound_cert.specs.declared.heading.Heading.{Heading}
use Rattle.bound_cert.specs.declared.node_line.NodeLine.{NodeLine}
use Rattle.bound_cert.specs.Documents.{IsDocument, document_text}
use Rattle.bound_cert.specs.Laws.{Says, plan_named}
use Rattle.bound_cert.specs.Trees.{is_branch}
use Rattle.branch_bound.specs.declared.outcome.Outcome.{Outcome}
use Rattle.branch_bound.specs.Outcomes.{IsSearched, free_files, search_root}
use Rattle.cert_check.specs.Checking.{migrated_by, replicated_by}
use Rattle.recipe_reader.specs.Recipes.{RecipeValue, table_of}
use Rattle.goseed_words.specs.declared.amount.Amount.{Amount}
use Rattle.goseed_words.specs.Asked.{Asks, asking}
use Rattle.goseed_words.specs.Commands.{Plan, Pinned}
use Rattle.command_texts.specs.declared.status.Status.{Status}
use Rattle.command_texts.specs.declared.status.Status.TheVariants as ended
use Rattle.command_texts.specs.Lines.{number_line}
use Rattle.command_endings.specs.declared.limits.TheConstants.{MOST_CERTIFICATE_BYTES}
use Rattle.command_endings.specs.Worlds.{World}
use Rattle.command_endings.specs.Laws.{Common, IsSameEnd}
use Rattle.planning_commands.specs.Best.{range_in}
use Rattle.planning_commands.specs.Check.{judged_table, node_lines, pins_line}
use Rattle.planning_commands.specs.Nodes.{SpellsNode, IsBadNode, RefusesNode}
use Rattle.planning_commands.specs.Reading.{HoldsRecipe, RecipeEnds}
use Rattle.planning_commands.specs.Texts.{answer_lines}

-- done with a best plan, no where none is admitted, unfinished where the branchings were spent
abbrev pub answer_status : Answer → Status
answer_status Optimal = ended.Done
answer_status Infeasible = ended.No
answer_status Open = ended.Unfinished

-- what is printed of a search: the files that must go and those that must stay, if there are any, and what its certificate shows
abbrev pub search_text : RecipeValue → Heading → List NodeLine → List ℕ
search_text recipe heading nodes =
    pins_line heading.pins
    ++ answer_lines recipe.files heading.answer (plan_named (length recipe.files) heading.plan) (migrated_by heading.plan) (replicated_by heading.plan) heading.bound (count_by is_branch nodes)

-- The outcome of a search over a recipe: a certificate stands behind a name, which is valid for the recipe, the range and the
-- pins, has at most as many branchings as were given and is no longer than is read, and what it shows is printed. Its plan is best among all admitted sets of
-- the recipe's files; or none is admitted; or it is open, and then all branchings were spent, which were fewer than decide every
-- file.
pub record PrintsSearched (recipe : RecipeValue) (range : Range) (pins : Option Node) (budget : ℕ) (status : Status) (text : List ℕ) (now : Option (List ℕ)) : Type 0 where
  pub heading : Heading
  pub nodes : List NodeLine
  pub held : now ≡ Some (document_text heading nodes)
  pub document : IsDocument heading nodes
  pub searched : IsSearched (judged_table recipe) range pins budget heading nodes
  pub short : length (document_text heading nodes) ≤ MOST_CERTIFICATE_BYTES
  pub says : Says (table_of recipe) range (search_root (length recipe.files) pins) heading.answer (plan_named (length recipe.files) heading.plan) heading.bound
  pub few : status ≡ ended.Unfinished → budget + 1 < 2 ^ free_files (length recipe.files) (search_root (length recipe.files) pins)
  pub answers : status ≡ answer_status heading.answer
  pub prints : text ≡ search_text recipe heading nodes

-- how `plan` ends over its recipe
abbrev pub PlanOf : Amount → Amount → ℕ → Status → List ℕ → Option (List ℕ) → RecipeValue → Type 0
PlanOf target slack budget status text now recipe = PrintsSearched recipe (range_in recipe target slack) None budget status text now

-- the words spell a node of the recipe's files, and it is searched
pub record PrintsPinned (recipe : RecipeValue) (range : Range) (go stay : List ℕ) (budget : ℕ) (status : Status) (text : List ℕ) (now : Option (List ℕ)) : Type 0 where
  pub pins : Node
  pub spells : SpellsNode (length recipe.files) go stay pins
  pub searched : PrintsSearched recipe range (Some pins) budget status text now

-- how `pinned` ends over its recipe; the words of the pins stand at the places 7 and 8
abbrev pub PinnedOf : Amount → Amount → ℕ → List ℕ → List ℕ → Status → List ℕ → Option (List ℕ) → RecipeValue → Type 0
PinnedOf target slack budget go stay status text now recipe =
    RefusesNode (length recipe.files) go stay 7 status text ⊎ PrintsPinned recipe (range_in recipe target slack) go stay budget status text now

-- how `plan RECIPE DOC TARGET SLACK NODES` ends over these byte strings, and what it leaves behind DOC
abbrev pub PlanEnds : List ℕ → Amount → Amount → ℕ → Told → Status → List ℕ → Option (List ℕ) → Type 0
PlanEnds name target slack budget given status text now = RecipeEnds given name status text (PlanOf target slack budget status text now)

-- how `pinned RECIPE DOC TARGET SLACK NODES GO STAY` does
abbrev pub PinnedEnds : List ℕ → Amount → Amount → ℕ → List ℕ → List ℕ → Told → Status → List ℕ → Option (List ℕ) → Type 0
PinnedEnds name target slack budget go stay given status text now = RecipeEnds given name status text (PinnedOf target slack budget go stay status text now)

-- the lines of an outcome are printed, and the command ends by its answer
pub record ReportsOutcome (recipe : RecipeValue) (pins : Option Node) (outcome : Outcome) (status : Status) (text : List ℕ) : Type 0 where
  pub answers : status ≡ answer_status outcome.answer
  pub prints : text ≡ node_lines pins ++ answer_lines recipe.files outcome.answer outcome.plan outcome.migrated outcome.replicated outcome.bound outcome.branchings

-- The outcome of a search is printed, and its certificate stands behind a name of a shelf that tells its bytes.
pub record HasSearched (tells : Bool) (recipe : RecipeValue) (range : Range) (pins : Option Node) (budget : ℕ) (status : Status) (text : List ℕ) (now : Option (List ℕ)) : Type 0 where
  pub whole : List ℕ
  pub searched : PrintsSearched recipe range pins budget status text (Some whole)
  pub held : tells ≡ true → now ≡ Some whole

-- how `pinned` ended that searched over the pins that its words spell
pub record SearchesPins (tells : Bool) (recipe : RecipeValue) (range : Range) (budget : ℕ) (go stay : List ℕ) (status : Status) (text : List ℕ) (now : Option (List ℕ)) : Type 0 where
  pub pins : Node
  pub spells : SpellsNode (length recipe.files) go stay pins
  pub searched : HasSearched tells recipe range (Some pins) budget status text now

-- its words spell no node, and nothing was changed; or it searched
abbrev pub PinnedBy : Bool → Told → Told → List ℕ → RecipeValue → Range → ℕ → List ℕ → List ℕ → Status → List ℕ → Type 0
PinnedBy tells old new document recipe range budget go stay status text =
    (RefusesNode (length recipe.files) go stay 7 status text × (new ≡ old)) ⊎ SearchesPins tells recipe range budget go stay status text (new document)

-- behind a name stands a front of the certificate of a search
pub record HoldsSearchFront (recipe : RecipeValue) (range : Range) (pins : Option Node) (budget : ℕ) (now : Option (List ℕ)) : Type 0 where
  pub status : Status
  pub text : List ℕ
  pub whole : List ℕ
  pub searched : PrintsSearched recipe range pins budget status text (Some whole)
  pub count : ℕ
  pub front : now ≡ Some (take count whole)

-- that, or what stood there
abbrev pub LeavesSearched : RecipeValue → Range → Option Node → ℕ → Option (List ℕ) → Option (List ℕ) → Type 0
LeavesSearched recipe range pins budget old now = (now ≡ old) ⊎ HoldsSearchFront recipe range pins budget now

-- the same of a search over pins that two words spell
pub record LeavesPinsFront (recipe : RecipeValue) (range : Range) (budget : ℕ) (go stay : List ℕ) (old now : Option (List ℕ)) : Type 0 where
  pub pins : Node
  pub spells : SpellsNode (length recipe.files) go stay pins
  pub left : LeavesSearched recipe range (Some pins) budget old now

abbrev pub LeavesPinned : RecipeValue → Range → ℕ → List ℕ → List ℕ → Option (List ℕ) → Option (List ℕ) → Type 0
LeavesPinned recipe range budget go stay old now = (now ≡ old) ⊎ LeavesPinsFront recipe range budget go stay old now

-- the text has this line
pub record HasLine (line text : List ℕ) : Type 0 where
  pub before : List ℕ
  pub behind : List ℕ
  pub is : text ≡ before ++ (line ++ behind)

-- two texts say that so many bytes are replicated
pub record ReplicateTheSame (text told : List ℕ) : Type 0 where
  pub bytes : ℕ
  pub first : HasLine (number_line (codes "replicated") bytes) text
  pub second : HasLine (number_line (codes "replicated") bytes) told

-- what two answers have in common: it is not that one has a plan and the other shows that there is none, and two best plans
-- replicate the same
pub record AgreeInAnswer (one other : Status) (text told : List ℕ) : Type 0 where
  pub one_is : one ≡ ended.Done → other ≢ ended.No
  pub other_is : other ≡ ended.Done → one ≢ ended.No
  pub best : one ≡ ended.Done → other ≡ ended.Done → ReplicateTheSame text told

-- What two searches of one recipe have in common: their answers agree, and but for the certificate's name all is left the same.
-- Which best plan is found, and how many branchings that takes, is not determined, and so not whether they suffice.
pub record AgreeInSearch (document : List ℕ) (one other : Status) (text told : List ℕ) (left kept : World) : Type 0 where
  pub answers : AgreeInAnswer one other text told
  pub files : (name : List ℕ) → name ≢ document → left.files name ≡ kept.files name
  pub devices : (dev : ℕ) → dev ≤ 5 → left.devices dev ≡ kept.devices dev

-- two refusals are one; else the searches agree
abbrev pub IsOneSearch : List ℕ → Common
IsOneSearch document one other text told left kept = IsSameEnd one other text told left kept ⊎ AgreeInSearch document one other text told left kept

-- the words ask `plan` to search over this recipe
pub record AsksPlan (given : Told) (words : List (List ℕ)) (recipe : RecipeValue) (range : Range) (budget : ℕ) (document : List ℕ) : Type 0 where
  pub name : List ℕ
  pub target : Amount
  pub slack : Amount
  pub asks : Asks words (asking Plan name document target slack budget)
  pub held : HoldsRecipe given name recipe
  pub range_is : range ≡ range_in recipe target slack

-- they ask `pinned`, whose two words spell these pins
pub record AsksPinned (given : Told) (words : List (List ℕ)) (recipe : RecipeValue) (range : Range) (pins : Node) (budget : ℕ) (document : List ℕ) : Type 0 where
  pub name : List ℕ
  pub target : Amount
  pub slack : Amount
  pub go : List ℕ
  pub stay : List ℕ
  pub asks : Asks words (asking Pinned name document target slack budget go stay)
  pub held : HoldsRecipe given name recipe
  pub range_is : range ≡ range_in recipe target slack
  pub spells : SpellsNode (length recipe.files) go stay pins

-- the words ask for a search over this recipe, with this range, these pins or none, and so many branchings at most, whose certificate
-- is to stand behind this name
abbrev pub AsksSearch : Told → List (List ℕ) → RecipeValue → Range → Option Node → ℕ → List ℕ → Type 0
AsksSearch given words recipe range None budget document = AsksPlan given words recipe range budget document
AsksSearch given words recipe range (Some pins) budget document = AsksPinned given words recipe range pins budget document

-- a search that words ask for
pub record Asked (given : Told) (words : List (List ℕ)) : Type 0 where
  pub recipe : RecipeValue
  pub range : Range
  pub pins : Option Node
  pub budget : ℕ
  pub document : List ℕ
  pub asks : AsksSearch given words recipe range pins budget document

-- why a search is done: a set of the recipe's files is best among the admitted ones
pub record HasPlan (given : Told) (words : List (List ℕ)) : Type 0 where
  pub asked : Asked given words
  pub plan : List Bool
  pub best : IsBestAdmitted (table_of asked.recipe) asked.range (search_root (length asked.recipe.files) asked.pins) (holds plan)

-- why its answer is no: none is admitted
pub record HasNoPlan (given : Told) (words : List (List ℕ)) : Type 0 where
  pub asked : Asked given words
  pub none : NoneAdmitted (table_of asked.recipe) asked.range (search_root (length asked.recipe.files) asked.pins)

-- why it is unfinished: a valid certificate for the words has spent the branchings, which were fewer than decide every file
pub record HasSpentAll (given : Told) (words : List (List ℕ)) : Type 0 where
  pub asked : Asked given words
  pub heading : Heading
  pub nodes : List NodeLine
  pub open_is : heading.answer ≡ Open
  pub searched : IsSearched (judged_table asked.recipe) asked.range asked.pins asked.budget heading nodes
  pub few : asked.budget + 1 < 2 ^ free_files (length asked.recipe.files) (search_root (length asked.recipe.files) asked.pins)

-- why `pinned` is refused for its pins: its words spell no node
pub record HasNoPins (given : Told) (words : List (List ℕ)) : Type 0 where
  pub recipe : RecipeValue
  pub name : List ℕ
  pub document : List ℕ
  pub target : Amount
  pub slack : Amount
  pub budget : ℕ
  pub go : List ℕ
  pub stay : List ℕ
  pub asks : Asks words (asking Pinned name document target slack budget go stay)
  pub held : HoldsRecipe given name recipe
  pub bad : ℕ
  pub fault : IsBadNode (length recipe.files) go stay 7 bad
