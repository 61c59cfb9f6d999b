use Rattle.std.proofs.Common.{◌≡◌, ◌++◌}
use Rattle.seed_model.specs.Files.{holds}
use Rattle.planning_commands.specs.Texts.{class_line}
use Rattle.command_texts.proofs.LineLemmas.{first_lines}
use Rattle.planning_commands.proofs.weigh_text.add_classes.Given as goal

abbrev pub invariant-loop-class : goal.invariant-loop-class
invariant-loop-class l = l.text.items ≡ l.fn.text.items ++ first_lines (class_line (holds l.set)) l.table.classes l.class
