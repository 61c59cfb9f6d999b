-- How a command ends: its status, what it prints and what it leaves, as the words and what it finds determine them.
use Rattle.std.specs.Prelude.{◌≡◌, ◌⊎◌, ℕ, List, ◌++◌, take, Bool, true, Option, Some, option_map, Result, Ok, Err}
use Rattle.seed_io.specs.Shelf.{Told}
use Rattle.goseed_words.specs.declared.order.Order.{Order}
use Rattle.goseed_words.specs.declared.order.WordError.{WordError}
use Rattle.goseed_words.specs.declared.order.WordError.TheVariants.{Usage, BadWord}
use Rattle.goseed_words.specs.Commands.{Command, Best, Weigh, Check, Relax, Plan, Pinned, Gen, Greedy, Gap, Sort, Carry, row}
use Rattle.goseed_words.specs.Asked.{Asked, Asks, Takes, IsCreated, asking}
use Rattle.goseed_words.specs.Orders.{Means, asked_of}
use Rattle.command_texts.specs.declared.status.Status.{Status}
use Rattle.command_endings.specs.Laws.{ends_with}
use Rattle.command_endings.specs.Worlds.{World, Ending, Reading, OnShelf, Seen, OverWorld, EndsOver}
use Rattle.command_texts.specs.Refusals.{Refusal, Refuses, usage, bad_word}
use Rattle.order_commands.specs.Carry.{HearsCarry}
use Rattle.order_commands.specs.Endings.{carry_ends, sort_ends}
use Rattle.planning_commands.specs.Check.{HearsCheck}
use Rattle.planning_commands.specs.Endings.{best_ends, weigh_ends, check_ends, relax_ends, plan_ends, pinned_ends}
use Rattle.trial_commands.specs.Endings.{gen_ends, greedy_ends, gap_ends}
use Rattle.trial_commands.specs.Gap.{HearsGap}
use Rattle.trial_commands.specs.Gen.{HearsDrawn, drawn_text, recipe_name}

-- how each command ends
abbrev pub command_ends : (command : Command) → Takes (row command).operands Ending
command_ends Best = best_ends
command_ends Weigh = weigh_ends
command_ends Check = check_ends
command_ends Relax = relax_ends
command_ends Plan = plan_ends
command_ends Pinned = pinned_ends
command_ends Gen = gen_ends
command_ends Greedy = greedy_ends
command_ends Gap = gap_ends
command_ends Sort = sort_ends
command_ends Carry = carry_ends

-- how a command with its values ends
abbrev pub AskedEnds : Asked → Ending
AskedEnds asked = ends_with asked.command (command_ends asked.command) asked.values

-- the refusal of words that mean no order
abbrev pub no_order : WordError → Refusal
no_order Usage = usage
no_order (BadWord place) = bad_word place

-- how words end that mean this: an order, or none
abbrev pub MeaningEnds : Result Order WordError → Ending
MeaningEnds (Ok order) = AskedEnds (asked_of order)
MeaningEnds (Err error) = OnShelf (Reading (λ given. Refuses (no_order error)))

-- how a command with these words ends
pub record Ends (words : List (List ℕ)) (found : World) (status : Status) (text : List ℕ) (left : World) : Type 0 where
  pub meaning : Result Order WordError
  pub means : Means words meaning
  pub ends : MeaningEnds meaning found status text left

-- the words ask to judge a certificate, to carry its plan or of a search of the command's own or not, and the shelf does not tell its
-- bytes: so it ends, whatever the shelf gave of it
pub data Hears (old : Seen) (words : List (List ℕ)) (status : Status) (text : List ℕ) : Type 0 where
  Checking : (recipe certificate : List ℕ) → Asks words (asking Check recipe certificate) → HearsCheck old.tells old.map recipe certificate status text → Hears old words status text
  Gapping : (recipe certificate : List ℕ) → Asks words (asking Gap recipe certificate) → HearsGap old.tells old.map recipe certificate status text → Hears old words status text
  Drawing : (number files : ℕ) → Asks words (asking Gen number files) → HearsDrawn old.tells number files status text → Hears old words status text
  Carrying : (recipe document other out : List ℕ) → Asks words (asking Carry recipe document other out) → HearsCarry old.tells old.map recipe document other status text → Hears old words status text

-- how a command with these words ends over a shelf and a rack: as what they hold determines it, where the shelf tells its bytes
abbrev pub Answers : Seen → Seen → List (List ℕ) → Status → List ℕ → Type 0
Answers old new words status text = EndsOver old new (Ends words) status text ⊎ Hears old words status text

-- the command's text was printed whole, behind what was printed before
pub record Prints (old new : Seen) (words : List (List ℕ)) (status : Status) (sink_tells : Bool) (before after : List ℕ) : Type 0 where
  pub text : List ℕ
  pub ends : Answers old new words status text
  pub taken : sink_tells ≡ true → after ≡ before ++ text

-- a command with these words may end so, and leave this
pub record MayEnd (old : Seen) (words : List (List ℕ)) (status : Status) (text : List ℕ) : Type 0 where
  pub left : World
  pub ends : OverWorld old (λ found. Ends words found status text left)

-- a front of a text was printed that ends the command
pub record PrintsFront (old : Seen) (words : List (List ℕ)) (before after : List ℕ) : Type 0 where
  pub status : Status
  pub text : List ℕ
  pub ends : MayEnd old words status text ⊎ Hears old words status text
  pub count : ℕ
  pub taken : after ≡ before ++ take count text

-- what a command printed that was stopped: nothing, or a front of its text
abbrev pub PrintsPart : Seen → List (List ℕ) → List ℕ → List ℕ → Type 0
PrintsPart old words before after = (after ≡ before) ⊎ PrintsFront old words before after

-- behind a name that the command creates stands a front of what it leaves there
pub record CreatesFront (old : Seen) (words : List (List ℕ)) (name : List ℕ) (now : Option (List ℕ)) : Type 0 where
  pub created : IsCreated words name
  pub status : Status
  pub text : List ℕ
  pub left : World
  pub ends : OverWorld old (λ found. Ends words found status text left)
  pub count : ℕ
  pub front : now ≡ option_map (take count) (left.files name)

-- behind the name of a recipe that is drawn stands a front of its text
pub record CreatesDrawn (words : List (List ℕ)) (name : List ℕ) (now : Option (List ℕ)) : Type 0 where
  pub number : ℕ
  pub files : ℕ
  pub asks : Asks words (asking Gen number files)
  pub is : name ≡ recipe_name
  pub count : ℕ
  pub front : now ≡ Some (take count (drawn_text number files))

-- what a command left, stopped or not: behind each name what was there, or where it creates the name, a front of what it
-- leaves there
abbrev pub LeavesPart : Seen → Told → List (List ℕ) → Type 0
LeavesPart old new words = (name : List ℕ) → (new name ≡ old.map name) ⊎ (CreatesFront old words name (new name) ⊎ CreatesDrawn words name (new name))
