use Rattle.std.proofs.Common.{◌∙◌, arith}
use Rattle.greedy_seed.proofs.FileUses.{pairs_below, pairs_few, pairs_next, uses_all}
use Rattle.greedy_seed.proofs.uses.uses_of.Goals as goal

pub loop-class-preserved : goal.loop-class-preserved
loop-class-preserved c =
    pairs_next c.args.table.now c.loop-class.pairs.items c.push_uses.new.pairs.items c.users.result.now c.loop-class.class c.users.ensures.users c.loop-class.invariant c.in_ok-push_uses.ensures

pub group-requires-clause-keys : goal.group-requires-clause-keys
group-requires-clause-keys c =
    pairs_below c.args.table.now c.loop-class.class c.files.result c.deref.result.now c.files.ensures.table (omega arith) c.files.ensures.files (c.deref.ensures.value ∙ c.loop-class.invariant)

pub group-requires-clause-few : goal.group-requires-clause-few
group-requires-clause-few c =
    pairs_few c.args.table.now c.loop-class.class c.deref.result.now c.files.ensures.table (omega arith) (c.deref.ensures.value ∙ c.loop-class.invariant)

pub returns-clause-uses : goal.returns-clause-uses
returns-clause-uses c =
    uses_all c.args.table.now c.loop-class.class c.files.result c.deref.result.now c.in_ok-group.field-0 (omega arith) c.files.ensures.files (c.deref.ensures.value ∙ c.loop-class.invariant) c.in_ok-group.ensures
