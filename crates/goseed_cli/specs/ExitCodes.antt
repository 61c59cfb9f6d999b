-- The exit statuses of the program.
use Rattle.std.specs.Prelude.{ℕ}
use Rattle.command_texts.specs.declared.status.Status.{Status}
use Rattle.command_texts.specs.declared.status.Status.TheVariants.{Done, No, Unfinished, Refused, Outside, Memory}

-- 0 and 1 answer, 2 is open, 3 refuses, 4 and 5 stopped
abbrev pub exit_code : Status → ℕ
exit_code Done = 0
exit_code No = 1
exit_code Unfinished = 2
exit_code (Refused number) = 3
exit_code Outside = 4
exit_code Memory = 5
