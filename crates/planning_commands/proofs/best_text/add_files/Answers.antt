use Rattle.std.proofs.Common.{◌<◌, [], arith, length}
use Rattle.seed_model.specs.Files.{holds}
use Rattle.planning_commands.specs.Texts.{file_line}
use Rattle.command_texts.proofs.LineLemmas.{lines_more, lines_all}
use Rattle.planning_commands.proofs.best_text.add_files.Goals as goal

pub loop-file-preserved : goal.loop-file-preserved
loop-file-preserved c =
    let names = c.args.recipe.now.files in
    let below : c.loop-file.file < length names = omega (arith, c.files-file-end.ensures.files) in
    lines_more (file_line (holds c.args.plan.now)) names c.loop-file.file [] _ _ _ below c.loop-file.invariant c.in_ok-add_file.ensures

pub returns : goal.returns
returns c = lines_all (file_line (holds c.args.plan.now)) c.args.recipe.now.files c.loop-file.file _ _ (omega (arith, c.files-file-end.ensures.files)) c.loop-file.invariant
