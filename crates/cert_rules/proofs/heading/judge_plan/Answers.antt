use Rattle.std.proofs.Common.{◌∙◌, length}
use Rattle.cert_rules.proofs.Rules.{fails, named_at, named_pinning, named_reach, named_sums, named_width, plan_pass, plan_pinning, plan_reach, plan_sums, plan_width}
use Rattle.cert_rules.proofs.heading.judge_plan.Goals as goal

pub returns-then-not-fill_named-clause-judged : goal.returns-then-not-fill_named-clause-judged
returns-then-not-fill_named-clause-judged c = λ told range root.
    let width = named_width c.fill_named.result (length c.args.plan.now) c.args.table.now.files c.args.word.now c.requires.plan c.fill_named.ensures.named in
    plan_width c.args.table.now told c.args.word.now c.args.migrates c.args.replicates (fails _ _ c.if-not-fill_named.true width)

pub returns-then-not-has_sums-clause-judged : goal.returns-then-not-has_sums-clause-judged
returns-then-not-has_sums-clause-judged c = λ told range root.
    let table = c.args.table.now in
    let width = named_width c.fill_named.result (length c.args.plan.now) table.files c.args.word.now c.requires.plan c.fill_named.ensures.named in
    let plan = named_at c.fill_named.new.set (length c.args.plan.now) table.files c.args.word.now c.requires.plan (c.fill_named.ensures.set c.if-not-fill_named.false) in
    let sums = named_sums c.has_sums.result table c.fill_named.new.set c.args.word.now c.args.migrates c.args.replicates plan c.has_sums.ensures in
    plan_sums table told c.args.word.now c.args.migrates c.args.replicates (width.0 c.if-not-fill_named.false) (fails _ _ c.if-not-has_sums.true sums)

pub returns-then-not-in_range-clause-judged : goal.returns-then-not-in_range-clause-judged
returns-then-not-in_range-clause-judged c = λ told range root.
    let table = c.args.table.now in
    let width = named_width c.fill_named.result (length c.args.plan.now) table.files c.args.word.now c.requires.plan c.fill_named.ensures.named in
    let plan = named_at c.fill_named.new.set (length c.args.plan.now) table.files c.args.word.now c.requires.plan (c.fill_named.ensures.set c.if-not-fill_named.false) in
    let sums = named_sums c.has_sums.result table c.fill_named.new.set c.args.word.now c.args.migrates c.args.replicates plan c.has_sums.ensures in
    let reach = named_reach c.in_range.result table c.args.range.now told.range c.fill_named.new.set c.args.word.now c.args.migrates c.args.replicates plan range c.in_range.ensures in
    plan_reach table told c.args.word.now c.args.migrates c.args.replicates (width.0 c.if-not-fill_named.false) (sums.0 c.if-not-has_sums.false) (fails _ _ c.if-not-in_range.true reach)

pub returns-then-not-is_member-clause-judged : goal.returns-then-not-is_member-clause-judged
returns-then-not-is_member-clause-judged c = λ told range root.
    let table = c.args.table.now in
    let width = named_width c.fill_named.result (length c.args.plan.now) table.files c.args.word.now c.requires.plan c.fill_named.ensures.named in
    let plan = named_at c.fill_named.new.set (length c.args.plan.now) table.files c.args.word.now c.requires.plan (c.fill_named.ensures.set c.if-not-fill_named.false) in
    let sums = named_sums c.has_sums.result table c.fill_named.new.set c.args.word.now c.args.migrates c.args.replicates plan c.has_sums.ensures in
    let reach = named_reach c.in_range.result table c.args.range.now told.range c.fill_named.new.set c.args.word.now c.args.migrates c.args.replicates plan range c.in_range.ensures in
    let long = c.fill_named.ensures.stays ∙ c.requires.plan in
    let pinning = named_pinning c.is_member.result table.files c.args.root.now told.pins c.fill_named.new.set c.args.word.now c.args.migrates c.args.replicates long plan root c.is_member.ensures in
    plan_pinning table told c.args.word.now c.args.migrates c.args.replicates (width.0 c.if-not-fill_named.false) (sums.0 c.if-not-has_sums.false) (reach.0 c.if-not-in_range.false) (fails _ _ c.if-not-is_member.true pinning)

pub returns-clause-judged : goal.returns-clause-judged
returns-clause-judged c = λ told range root.
    let table = c.args.table.now in
    let width = named_width c.fill_named.result (length c.args.plan.now) table.files c.args.word.now c.requires.plan c.fill_named.ensures.named in
    let plan = named_at c.fill_named.new.set (length c.args.plan.now) table.files c.args.word.now c.requires.plan (c.fill_named.ensures.set c.if-not-fill_named.false) in
    let sums = named_sums c.has_sums.result table c.fill_named.new.set c.args.word.now c.args.migrates c.args.replicates plan c.has_sums.ensures in
    let reach = named_reach c.in_range.result table c.args.range.now told.range c.fill_named.new.set c.args.word.now c.args.migrates c.args.replicates plan range c.in_range.ensures in
    let long = c.fill_named.ensures.stays ∙ c.requires.plan in
    let pinning = named_pinning c.is_member.result table.files c.args.root.now told.pins c.fill_named.new.set c.args.word.now c.args.migrates c.args.replicates long plan root c.is_member.ensures in
    plan_pass table told c.args.word.now c.args.migrates c.args.replicates (width.0 c.if-not-fill_named.false) (sums.0 c.if-not-has_sums.false) (reach.0 c.if-not-in_range.false) (pinning.0 c.if-not-is_member.false)
