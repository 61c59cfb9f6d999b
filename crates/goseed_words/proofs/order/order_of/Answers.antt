use Rattle.std.specs.Prelude.{codes}
use Rattle.goseed_words.proofs.WordLemmas.{command_words}
use Rattle.goseed_words.proofs.order.order_of.Goals as goal

pub returns-in-best-clause-meaning : goal.returns-in-best-clause-meaning
returns-in-best-clause-meaning c =
    rw (command_words c.args.words.now c.in-Some.operands.now c.in-Some.command.now (codes "best") _ c.in-Some.ensures.cases.0 c.as_str.ensures.value c.in-best.is) c.best_of.ensures.meaning

pub returns-in-weigh-clause-meaning : goal.returns-in-weigh-clause-meaning
returns-in-weigh-clause-meaning c =
    rw (command_words c.args.words.now c.in-Some.operands.now c.in-Some.command.now (codes "weigh") _ c.in-Some.ensures.cases.0 c.as_str.ensures.value c.in-weigh.is) c.weigh_of.ensures.meaning

pub returns-in-check-clause-meaning : goal.returns-in-check-clause-meaning
returns-in-check-clause-meaning c =
    rw (command_words c.args.words.now c.in-Some.operands.now c.in-Some.command.now (codes "check") _ c.in-Some.ensures.cases.0 c.as_str.ensures.value c.in-check.is) c.check_of.ensures.meaning

pub returns-in-relax-clause-meaning : goal.returns-in-relax-clause-meaning
returns-in-relax-clause-meaning c =
    rw (command_words c.args.words.now c.in-Some.operands.now c.in-Some.command.now (codes "relax") _ c.in-Some.ensures.cases.0 c.as_str.ensures.value c.in-relax.is) c.relax_of.ensures.meaning

pub returns-in-plan-clause-meaning : goal.returns-in-plan-clause-meaning
returns-in-plan-clause-meaning c =
    rw (command_words c.args.words.now c.in-Some.operands.now c.in-Some.command.now (codes "plan") _ c.in-Some.ensures.cases.0 c.as_str.ensures.value c.in-plan.is) c.plan_of.ensures.meaning

pub returns-in-pinned-clause-meaning : goal.returns-in-pinned-clause-meaning
returns-in-pinned-clause-meaning c =
    rw (command_words c.args.words.now c.in-Some.operands.now c.in-Some.command.now (codes "pinned") _ c.in-Some.ensures.cases.0 c.as_str.ensures.value c.in-pinned.is) c.pinned_of.ensures.meaning

pub returns-in-gen-clause-meaning : goal.returns-in-gen-clause-meaning
returns-in-gen-clause-meaning c =
    rw (command_words c.args.words.now c.in-Some.operands.now c.in-Some.command.now (codes "gen") _ c.in-Some.ensures.cases.0 c.as_str.ensures.value c.in-gen.is) c.gen_of.ensures.meaning

pub returns-in-greedy-clause-meaning : goal.returns-in-greedy-clause-meaning
returns-in-greedy-clause-meaning c =
    rw (command_words c.args.words.now c.in-Some.operands.now c.in-Some.command.now (codes "greedy") _ c.in-Some.ensures.cases.0 c.as_str.ensures.value c.in-greedy.is) c.greedy_of.ensures.meaning

pub returns-in-gap-clause-meaning : goal.returns-in-gap-clause-meaning
returns-in-gap-clause-meaning c =
    rw (command_words c.args.words.now c.in-Some.operands.now c.in-Some.command.now (codes "gap") _ c.in-Some.ensures.cases.0 c.as_str.ensures.value c.in-gap.is) c.gap_of.ensures.meaning

pub returns-in-sort-clause-meaning : goal.returns-in-sort-clause-meaning
returns-in-sort-clause-meaning c =
    rw (command_words c.args.words.now c.in-Some.operands.now c.in-Some.command.now (codes "sort") _ c.in-Some.ensures.cases.0 c.as_str.ensures.value c.in-sort.is) c.sort_of.ensures.meaning

pub returns-in-carry-clause-meaning : goal.returns-in-carry-clause-meaning
returns-in-carry-clause-meaning c =
    rw (command_words c.args.words.now c.in-Some.operands.now c.in-Some.command.now (codes "carry") _ c.in-Some.ensures.cases.0 c.as_str.ensures.value c.in-carry.is) c.carry_of.ensures.meaning
