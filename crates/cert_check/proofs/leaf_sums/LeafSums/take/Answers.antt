use Rattle.std.proofs.Common.{◌<◌, length, ap, arith}
use Rattle.cert_check.proofs.Leafing.{Gave, give_more}
use Rattle.cert_check.proofs.leaf_sums.LeafSums.take.Goals as goal

pub returns-clause-sums : goal.returns-clause-sums
returns-clause-sums c = λ gives s.
    let gave : Gave c.args.give c.advance.new.self c.add.new.self = record { gives = c.add.ensures.gives; work = c.add.ensures.work; shares = c.add.ensures.shares; rest = c.add.ensures.rest } in
    let file : c.args.give.file < length c.advance.new.self.shares.items = omega (arith, c.requires.file, ap (λ v. length v.items) c.advance.ensures.rest.3) in
    give_more c.args.table.now gives c.args.give c.advance.new.self c.add.new.self c.advance.ensures.class file gave (c.advance.ensures.sums gives s)
