use Rattle.std.proofs.Common.{refl}
use Rattle.branch_bound.proofs.Keeping.{new_kept}
use Rattle.branch_bound.proofs.kept.offer.Goals as goal

pub returns-clause-plan : goal.returns-clause-plan
returns-clause-plan c = λ root member old.
    new_kept c.args.table.now c.args.range.now root (record { set = c.in_ok-copy.copy; migrated = c.migrated.result; replicated = c.args.bytes }) c.args.set.now c.in_ok-copy.ensures.same c.requires.files c.migrated.ensures.sum c.requires.bytes
    (c.if-not-in_range.ensures.0 refl) member
