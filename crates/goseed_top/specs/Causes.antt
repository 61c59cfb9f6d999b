-- Why a command answered as it did.
use Rattle.std.specs.Prelude.{◌⊎◌, ℕ, List}
use Rattle.goseed_words.specs.declared.order.WordError.TheVariants as word
use Rattle.goseed_words.specs.Orders.{IsWordFault}
use Rattle.command_texts.specs.declared.status.Status.{Status}
use Rattle.command_texts.specs.declared.status.Status.TheVariants.{Refused}
use Rattle.command_endings.specs.Worlds.{World, Seen, OverWorld}
use Rattle.order_commands.specs.Causes.{OrderCause}
use Rattle.planning_commands.specs.Causes.{PlanningCause}
use Rattle.trial_commands.specs.Causes.{TrialCause}
use Rattle.goseed_top.specs.Endings.{Hears}

-- why words are refused that mean no order
pub data WordCause (words : List (List ℕ)) : Status → Type 0 where
  Usage : IsWordFault words word.Usage → WordCause words (Refused 1)
  BadWord : (place : ℕ) → IsWordFault words (word.BadWord place) → WordCause words (Refused 10)

-- why a command answered so over what it found: by its words alone, or as the commands of its crate
pub data Cause (found : World) (words : List (List ℕ)) (status : Status) : Type 0 where
  Words : WordCause words status → Cause found words status
  Planning : PlanningCause found words status → Cause found words status
  Trying : TrialCause found words status → Cause found words status
  Ordering : OrderCause found words status → Cause found words status

-- why it answered so over a shelf and a rack: by what they hold, or by what a shelf gave that does not tell its bytes
abbrev pub CauseOver : Seen → List (List ℕ) → Status → Type 0
CauseOver old words status = OverWorld old (λ found. Cause found words status) ⊎ ((text : List ℕ) × Hears old words status text)
