use Rattle.std.proofs.Common.{drop}
use Rattle.cert_check.proofs.Pathing.{Stands}
use Rattle.cert_check.proofs.path.Path.close.Given as goal

-- while steps to in children are taken back, the root and the nodes behind the one in work stay
abbrev pub invariant-loop-self : goal.invariant-loop-self
invariant-loop-self l = Stands l.self-inside.steps.items l.self-inside.depth l.self-inside.node l.self-inside.reads l.fn.self.root (drop 1 l.fn.self.waiting)

abbrev pub decreases-loop-self : goal.decreases-loop-self
decreases-loop-self l = l.self-inside.depth
