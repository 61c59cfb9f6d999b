use Rattle.std.proofs.Common.{arith}
use Rattle.cert_rules.proofs.Searched.{used}
use Rattle.cert_rules.proofs.users.is_used.Goals as goal

pub returns-then-class-classes : goal.returns-then-class-classes
returns-then-class-classes c = λ told charge reward.
    let e = c.users.ensures in
    used c.args.table.now c.args.class c.args.file charge reward c.users.result.now c.is_ok.result c.binary_search.result c.is_ok.ensures.value (omega arith) e.users e.rising e.below c.binary_search.ensures.position
