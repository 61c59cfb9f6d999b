use Rattle.std.proofs.Common.{refl}
use Rattle.trial_commands.proofs.TrialLemmas.{below_classes, no_none, prints_between}
use Rattle.trial_commands.proofs.gap.report_between.Goals as goal

pub text_of_gap-requires-clause-bound : goal.text_of_gap-requires-clause-bound
text_of_gap-requires-clause-bound c =
    below_classes c.merge_laws.ensures.sums c.args.recipe.now _ c.requires.table c.args.checked.now c.requires.sound c.requires.valid c.args.set.now c.requires.found c.in-Some.bound c.in-Some.is

pub returns : goal.returns
returns c =
    prints_between c.merge_laws.ensures.sums c.args.recipe.now _ c.requires.table c.args.checked.now c.requires.sound c.requires.valid c.args.set.now c.requires.found c.in-Some.bound c.in-Some.is _ _ refl
    c.in_ok-text_of_gap.ensures
