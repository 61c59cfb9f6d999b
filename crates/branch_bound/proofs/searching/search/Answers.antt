use Rattle.std.proofs.Common.{sym, subst}
use Rattle.bound_cert.specs.Documents.{IsDocument}
use Rattle.branch_bound.specs.Ended.{AreVisited}
use Rattle.branch_bound.specs.Outcomes.{IsSearched}
use Rattle.branch_bound.specs.Pinned.{pinned_node}
use Rattle.branch_bound.specs.Visits.{AreInside}
use Rattle.branch_bound.proofs.Assembled.{complete_assembled}
use Rattle.branch_bound.proofs.Ready.{complete_root, complete_inside, complete_writable}
use Rattle.branch_bound.proofs.searching.search.Goals as goal

pub lines_of-requires-clause-root : goal.lines_of-requires-clause-root
lines_of-requires-clause-root c = complete_root c.args.table.now c.args.range.now (pinned_node c.args.pins) c.args.nodes c.in_ok-found.found c.in_ok-found.ensures c.requires.pins

pub lines_of-requires-clause-inside : goal.lines_of-requires-clause-inside
lines_of-requires-clause-inside c =
    subst (AreInside c.in_ok-found.found.state.entries) (sym c.deref.ensures.value)
    (complete_inside c.args.table.now c.args.range.now (pinned_node c.args.pins) c.args.nodes c.in_ok-found.found c.in_ok-found.ensures)

pub lines_of-requires-clause-writable : goal.lines_of-requires-clause-writable
lines_of-requires-clause-writable c = complete_writable c.args.table.now c.args.range.now (pinned_node c.args.pins) c.args.nodes c.in_ok-found.found c.in_ok-found.ensures

pub invariant_of-result : goal.invariant_of-result
invariant_of-result c =
    let found = c.in_ok-found.found in
    record {
      lawful = ∣ subst (IsDocument found.heading) (sym c.new.ensures)
          (complete_assembled c.args.table.now c.files-files.ensures.table c.args.range.now (pinned_node c.args.pins) c.args.nodes found c.requires.range c.requires.pins c.in_ok-found.ensures
          c.in_ok-lines.lines.items (subst (λ z. AreVisited c.args.table.now found.root found.state.entries z c.in_ok-lines.lines.items) c.deref.ensures.value c.in_ok-lines.ensures)).1 ∣₁;
    }

pub returns : goal.returns
returns c =
    let found = c.in_ok-found.found in
    subst (IsSearched c.args.table.now c.args.range.now (pinned_node c.args.pins) c.args.nodes found.heading) (sym c.new.ensures)
    (complete_assembled c.args.table.now c.files-files.ensures.table c.args.range.now (pinned_node c.args.pins) c.args.nodes found c.requires.range c.requires.pins c.in_ok-found.ensures
    c.in_ok-lines.lines.items (subst (λ z. AreVisited c.args.table.now found.root found.state.entries z c.in_ok-lines.lines.items) c.deref.ensures.value c.in_ok-lines.ensures)).0
