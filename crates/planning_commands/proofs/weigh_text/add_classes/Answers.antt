use Rattle.std.proofs.Common.{◌<◌, arith, length}
use Rattle.seed_model.specs.Files.{holds}
use Rattle.planning_commands.specs.Texts.{class_line}
use Rattle.seed_model.specs.Keys.{no_class}
use Rattle.command_texts.proofs.LineLemmas.{lines_more, lines_all}
use Rattle.planning_commands.proofs.weigh_text.add_classes.Goals as goal

pub loop-class-preserved : goal.loop-class-preserved
loop-class-preserved c =
    let classes = c.args.table.now.classes in
    let below : c.loop-class.class < length classes = omega (arith, c.classes-class-end.ensures) in
    lines_more (class_line (holds c.args.set.now)) classes c.loop-class.class no_class _ _ _ below c.loop-class.invariant c.in_ok-add_class.ensures

pub returns : goal.returns
returns c = lines_all (class_line (holds c.args.set.now)) c.args.table.now.classes c.loop-class.class _ _ (omega (arith, c.classes-class-end.ensures)) c.loop-class.invariant
