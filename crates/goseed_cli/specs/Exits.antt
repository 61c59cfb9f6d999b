-- How the program ends: its exit code, and what that says of the command.
use Rattle.std.specs.Prelude.{◌≡◌, ◌≢◌, ℕ, List, Bool}
use Rattle.std.specs.declared.io.ErrorKind.{ErrorKind}
use Rattle.std.specs.declared.io.ErrorKind.TheVariants.{OutOfMemory}
use Rattle.command_texts.specs.declared.status.Status.{Status}
use Rattle.command_texts.specs.declared.status.Status.TheVariants.{Outside, Memory}
use Rattle.command_endings.specs.Worlds.{Seen}
use Rattle.goseed_top.specs.Causes.{CauseOver}
use Rattle.goseed_top.specs.Endings.{Prints}
use Rattle.goseed_cli.specs.ExitCodes.{exit_code}

-- how the program ends whose words could not be read: want of memory, or else a fault
abbrev pub unread_status : ErrorKind → Status
unread_status OutOfMemory = Memory
unread_status _ = Outside

-- the exit code is that of a status: of a command that printed its text and has a cause for answering so, or that was stopped for
-- one of these reasons, or for want of memory
pub record Exits (old new : Seen) (words : List (List ℕ)) (sink_tells : Bool) (before after : List ℕ) (Stopped : Type 0) (code : ℕ) : Type 0 where
  pub status : Status
  pub is : code ≡ exit_code status
  pub answer : status ≢ Outside → status ≢ Memory → Prints old new words status sink_tells before after
  pub cause : status ≢ Outside → status ≢ Memory → CauseOver old words status
  pub outside : status ≡ Outside → Stopped
