-- What is proved of each command.
use Rattle.goseed_words.specs.Commands.{Command}
use Rattle.command_endings.specs.Laws.{IsLawfulCommand}
use Rattle.goseed_top.specs.Causes.{Cause}
use Rattle.goseed_top.specs.Determined.{command_common}
use Rattle.goseed_top.specs.Endings.{command_ends}

-- what a command finds determines how it ends, as far as is said, and how it ends has a cause
abbrev pub AllLawful : Type 0
AllLawful = (command : Command) → IsLawfulCommand Cause command (command_ends command) (command_common command)
