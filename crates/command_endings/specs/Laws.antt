-- What is proved of each command: what it finds determines how it ends, as far as is said, and how it ends has a cause.
use Rattle.std.specs.Prelude.{◌≡◌, ℕ, ◌≤◌, List}
use Rattle.goseed_words.specs.Asked.{Asks, Takes, Values, all_at_once}
use Rattle.goseed_words.specs.Commands.{Command, row}
use Rattle.command_texts.specs.declared.status.Status.{Status}
use Rattle.command_endings.specs.Worlds.{World, Ending}

-- what two ends have in common: of two statuses, two texts, and what is left twice
abbrev pub Common : Type 1
Common = Status → Status → List ℕ → List ℕ → World → World → Type 0

-- one status, texts that have this in common, one thing left behind each name, and one image on each device
pub record IsSameEndWith (SameText : List ℕ → List ℕ → Type 0) (one other : Status) (text told : List ℕ) (left kept : World) : Type 0 where
  pub statuses : one ≡ other
  pub texts : SameText text told
  pub files : (name : List ℕ) → left.files name ≡ kept.files name
  pub devices : (dev : ℕ) → dev ≤ 5 → left.devices dev ≡ kept.devices dev

-- one text
abbrev pub IsOneText : List ℕ → List ℕ → Type 0
IsOneText text told = text ≡ told

-- one status, one text, one thing left behind each name, and one image on each device
abbrev pub IsSameEnd : Common
IsSameEnd = IsSameEndWith IsOneText

-- whatever a command finds, two of its ends have this in common
abbrev pub IsDetermined : Common → Ending → Type 0
IsDetermined Same Ends = (found : World) (one other : Status) (text told : List ℕ) (left kept : World) → Ends found one text left → Ends found other told kept → Same one other text told left kept

-- why a command with these words answered so over what it found
abbrev pub Reason : Type 1
Reason = World → List (List ℕ) → Status → Type 0

-- how a command ends that has these values, one after the other
abbrev pub ends_with : (command : Command) → Takes (row command).operands Ending → Values (row command).operands → Ending
ends_with command ends values = all_at_once (row command).operands ends values

-- what two ends of a command with these values have in common
abbrev pub common_with : (command : Command) → Takes (row command).operands Common → Values (row command).operands → Common
common_with command common values = all_at_once (row command).operands common values

-- a command that ends so: two of its ends over what it finds have this in common, and its end has a cause among these
pub record IsLawfulCommand (Because : Reason) (command : Command) (ends : Takes (row command).operands Ending) (common : Takes (row command).operands Common) : Type 0 where
  pub determined : (values : Values (row command).operands) → IsDetermined (common_with command common values) (ends_with command ends values)
  pub caused : (words : List (List ℕ)) (values : Values (row command).operands) → Asks words (record { command = command; values = values })
      → (found left : World) (status : Status) (text : List ℕ) → ends_with command ends values found status text left → Because found words status
