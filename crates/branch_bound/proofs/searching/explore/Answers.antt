use Rattle.std.proofs.Common.{◌∙◌, refl, ap, subst, arith}
use Rattle.branch_bound.specs.Ended.{IsEnded}
use Rattle.branch_bound.specs.Entries.{entry_at}
use Rattle.branch_bound.specs.Visits.{visits}
use Rattle.branch_bound.proofs.Ready.{ended_ordered, ended_weights, ended_few}
use Rattle.branch_bound.proofs.searching.explore.Goals as goal

pub visits_of-requires-clause-ordered : goal.visits_of-requires-clause-ordered
visits_of-requires-clause-ordered c =
    let s = c.run.new.state in
    ended_ordered c.args.table.now c.args.range.now c.in_ok-root.root c.args.nodes s.kept s.branchings s.entries c.in_ok-ending.ending c.in_ok-ending.ensures.ended

pub visits_of-requires-clause-weights : goal.visits_of-requires-clause-weights
visits_of-requires-clause-weights c =
    let s = c.run.new.state in
    ended_weights c.args.table.now c.args.range.now c.in_ok-root.root c.args.nodes s.kept s.branchings s.entries c.in_ok-ending.ending c.files-files.ensures.table c.in_ok-ending.ensures.ended

pub visits_of-requires-clause-few : goal.visits_of-requires-clause-few
visits_of-requires-clause-few c =
    let s = c.run.new.state in
    let long = ended_few c.args.table.now c.args.range.now c.in_ok-root.root c.args.nodes s.kept s.branchings s.entries c.in_ok-ending.ending c.in_ok-ending.ensures.ended in
    omega (arith, long, c.in_ok-ending.ensures.within refl, c.requires.budget)

pub returns : goal.returns
returns c =
    let s = c.run.new.state in
    record {
      root = c.in_ok-root.ensures.root;
      within = c.in_ok-ending.ensures.within refl;
      ended = subst (λ z. IsEnded c.args.table.now c.args.range.now z c.args.nodes s.kept s.branchings s.entries c.in_ok-ending.ending) c.in_ok-root.ensures.root c.in_ok-ending.ensures.ended;
      visited = λ tree o. c.in_ok-visited.ensures tree o ∙ ap (λ z. visits z (entry_at s.entries) tree) c.cut_at-cut.ensures;
      heading = c.in_ok-heading.ensures;
    }
