use Rattle.std.proofs.Common.{◌∙◌, arith}
use Rattle.cert_check.proofs.LeafLines.{Begun, leaf_goes, leaf_ends}
use Rattle.cert_check.proofs.kept.Kept.take_leaf.Goals as goal

pub returns-then-gives-gt0 : goal.returns-then-gives-gt0
returns-then-gives-gt0 c =
    let b : Begun c.begin.new.self c.args.p c.args.q c.args.table.now.files = record { small = c.begin.ensures.small; shares = c.begin.ensures.files ∙ c.requires.kept.shares; p_is = c.begin.ensures.p; q_is = c.begin.ensures.q; class = c.begin.ensures.class; sums = c.begin.ensures.sums } in
    leaf_goes c.args.table.now c.args.self.now c.begin.new.self c.args.p c.args.q c.args.gives c.args.next c.requires.kept c.requires.lawful c.requires.placed c.if-gives-gt0.true b

pub returns : goal.returns
returns c =
    let b : Begun c.begin.new.self c.args.p c.args.q c.args.table.now.files = record { small = c.begin.ensures.small; shares = c.begin.ensures.files ∙ c.requires.kept.shares; p_is = c.begin.ensures.p; q_is = c.begin.ensures.q; class = c.begin.ensures.class; sums = c.begin.ensures.sums } in
    leaf_ends c.args.table.now c.args.self.now c.end_leaf.new.self c.begin.new.self c.args.p c.args.q c.args.gives c.args.next c.end_leaf.result c.requires.kept c.requires.lawful c.requires.placed (omega (arith, c.if-gives-gt0.false)) b c.end_leaf.ensures
