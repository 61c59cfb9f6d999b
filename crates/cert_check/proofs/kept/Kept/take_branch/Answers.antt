use Rattle.cert_check.proofs.Keepings.{free_file, may_branch, branch_take, branch_breaks}
use Rattle.cert_check.proofs.kept.Kept.take_branch.Goals as goal

pub branch-self-requires-clause-known : goal.branch-self-requires-clause-known
branch-self-requires-clause-known c =
    (may_branch c.args.table.now c.args.self.now c.node-node.result.now c.args.line.now.file c.requires.kept c.node-node.ensures
    (free_file c.args.table.now c.args.self.now.range c.args.self.now.bound c.node-node.result.now c.args.line.now.file c.args.line.now.first.now c.args.line.now.second.now c.args.line.now.alpha c.args.line.now.beta c.in-None.ensures.judged)).0

pub branch-self-requires-clause-free : goal.branch-self-requires-clause-free
branch-self-requires-clause-free c =
    (may_branch c.args.table.now c.args.self.now c.node-node.result.now c.args.line.now.file c.requires.kept c.node-node.ensures
    (free_file c.args.table.now c.args.self.now.range c.args.self.now.bound c.node-node.result.now c.args.line.now.file c.args.line.now.first.now c.args.line.now.second.now c.args.line.now.alpha c.args.line.now.beta c.in-None.ensures.judged)).1

pub returns-in-None : goal.returns-in-None
returns-in-None c =
    branch_take c.args.table.now c.args.self.now c.branch-self.new.self c.judge_branch.new.mix.first c.judge_branch.new.mix.second c.judge_branch.new.mix.alpha c.judge_branch.new.mix.beta c.node-node.result.now
    c.args.line.now.file c.args.line.now.first.now c.args.line.now.second.now c.args.line.now.alpha c.args.line.now.beta c.args.next c.requires.kept c.requires.placed c.node-node.ensures
    c.branch-self.ensures.root c.branch-self.ensures.waiting c.judge_branch.ensures.first_stays c.judge_branch.ensures.second_stays c.in-None.ensures.judged

pub returns-in-Some : goal.returns-in-Some
returns-in-Some c =
    branch_breaks c.args.table.now c.args.self.now _ c.node-node.result.now
    c.args.line.now.file c.args.line.now.first.now c.args.line.now.second.now c.args.line.now.alpha c.args.line.now.beta c.in-Some.rule c.args.next c.node-node.ensures c.in-Some.ensures.judged
