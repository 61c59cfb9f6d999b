use Rattle.std.proofs.Common.{arith}
use Rattle.std.proofs.lemmas.Grind.{common_steps}
use Rattle.planning_commands.proofs.SearchLemmas.{pins_of}
use Rattle.planning_commands.proofs.plan_text.text_of_outcome.Goals as goal

pub returns : goal.returns
returns c = let pins = pins_of c.args.pins in grind (arith, common_steps)
