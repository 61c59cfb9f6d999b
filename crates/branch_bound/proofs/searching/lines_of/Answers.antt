use Rattle.std.proofs.Common.{◌+◌, false, [], take, sym, subst}
use Rattle.std.proofs.lemmas.List.{take_all}
use Rattle.branch_bound.specs.Ended.{EachLine, AreVisited}
use Rattle.branch_bound.proofs.EachLines.{visited_more}
use Rattle.branch_bound.proofs.searching.lines_of.Goals as goal

pub loop-visit-init : goal.loop-visit-init
loop-visit-init c = λ nodes a. subst (EachLine c.args.table.now c.args.entries.now nodes []) (sym c.new-lines.ensures.items) tt

pub loop-visit-preserved : goal.loop-visit-preserved
loop-visit-preserved c =
    let visited = c.args.visited.now in
    let i = c.loop-visit.visit-index in
    subst (AreVisited c.args.table.now c.args.root.now c.args.entries.now (take (i + 1) visited)) (sym c.in_ok-push.ensures.items)
    (visited_more c.args.table.now c.args.entries.now c.args.root.now visited i (record { number = 0; cut = false })
    c.loop-visit.lines.items c.in_ok-line.line c.loop-visit-test.true c.loop-visit.invariant c.in_ok-line.ensures)

pub returns : goal.returns
returns c = λ nodes a.
    subst (λ z. EachLine c.args.table.now c.args.entries.now nodes z c.loop-visit.lines.items)
    (take_all c.loop-visit.visit-index c.args.visited.now c.loop-visit-test.false) (c.loop-visit.invariant nodes a)
