use Rattle.std.proofs.Common.{◌≡◌, ◌++◌}
use Rattle.seed_model.specs.Files.{holds}
use Rattle.planning_commands.specs.Texts.{file_line}
use Rattle.command_texts.proofs.LineLemmas.{first_lines}
use Rattle.planning_commands.proofs.best_text.add_files.Given as goal

abbrev pub invariant-loop-file : goal.invariant-loop-file
invariant-loop-file l = l.text.items ≡ l.fn.text.items ++ first_lines (file_line (holds l.plan)) l.recipe.files l.file
