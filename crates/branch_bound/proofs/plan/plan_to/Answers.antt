use Rattle.std.proofs.Common.{inl, inr, refl}
use Rattle.branch_bound.specs.Pinned.{pinned_node}
use Rattle.branch_bound.proofs.Ready.{complete_root, complete_inside, complete_writable}
use Rattle.branch_bound.proofs.Planned.{complete_lines, complete_few, complete_said, complete_width, complete_planned, complete_front, as_before}
use Rattle.branch_bound.proofs.plan.plan_to.Goals as goal

pub write_found-requires-clause-root : goal.write_found-requires-clause-root
write_found-requires-clause-root g c = complete_root c.args.table.now c.args.range.now (pinned_node c.args.pins) c.args.nodes c.in_ok-found.found c.in_ok-found.ensures c.requires.pins

pub write_found-requires-clause-inside : goal.write_found-requires-clause-inside
write_found-requires-clause-inside g c = complete_inside c.args.table.now c.args.range.now (pinned_node c.args.pins) c.args.nodes c.in_ok-found.found c.in_ok-found.ensures

pub write_found-requires-clause-writable : goal.write_found-requires-clause-writable
write_found-requires-clause-writable g c = complete_writable c.args.table.now c.args.range.now (pinned_node c.args.pins) c.args.nodes c.in_ok-found.found c.in_ok-found.ensures

pub write_found-requires-clause-few : goal.write_found-requires-clause-few
write_found-requires-clause-few g c = complete_few c.args.table.now c.args.range.now (pinned_node c.args.pins) c.args.nodes c.in_ok-found.found c.in_ok-found.ensures c.requires.budget

pub write_found-requires-clause-lines : goal.write_found-requires-clause-lines
write_found-requires-clause-lines g c = complete_lines c.args.table.now c.args.range.now (pinned_node c.args.pins) c.args.nodes c.in_ok-found.found c.in_ok-found.ensures

pub returns-in_err-found-clause-front : goal.returns-in_err-found-clause-front
returns-in_err-found-clause-front g c = λ told err.
    as_before c.args.table.now c.args.range.now (pinned_node c.args.pins) c.args.nodes (g.F.Shelf.map c.args.shelf.now c.args.name.now) (g.F.Shelf.map c.args.shelf.now c.args.name.now) refl

pub returns-in_err-heading_text-clause-front : goal.returns-in_err-heading_text-clause-front
returns-in_err-heading_text-clause-front g c = λ told err.
    as_before c.args.table.now c.args.range.now (pinned_node c.args.pins) c.args.nodes (g.F.Shelf.map c.args.shelf.now c.args.name.now) (g.F.Shelf.map c.args.shelf.now c.args.name.now) refl

pub returns-in_err-branchings-clause-front : goal.returns-in_err-branchings-clause-front
returns-in_err-branchings-clause-front g c = λ told err. elim (c.in_err-branchings.ensures.part told refl) [
  | inl same ↦ as_before c.args.table.now c.args.range.now (pinned_node c.args.pins) c.args.nodes (g.F.Shelf.map c.args.shelf.now c.args.name.now) (g.F.Shelf.map c.write_found.new.shelf c.args.name.now) same
  | inr part ↦ complete_front c.args.table.now c.args.range.now (pinned_node c.args.pins) c.args.nodes c.in_ok-found.found c.in_ok-found.ensures c.files-files.ensures.table c.requires.range c.requires.pins
      (g.F.Shelf.map c.args.shelf.now c.args.name.now) (g.F.Shelf.map c.write_found.new.shelf c.args.name.now) part
]

pub returns-clause-done : goal.returns-clause-done
returns-clause-done g c = λ told.
    complete_planned c.args.table.now c.args.range.now (pinned_node c.args.pins) c.args.nodes c.in_ok-found.found c.in_ok-found.ensures c.files-files.ensures.table c.requires.range c.requires.pins
    (g.F.Shelf.tells c.args.shelf.now) (g.F.Shelf.map c.write_found.new.shelf c.args.name.now) c.in_ok-branchings.branchings c.outcome_of.result told c.in_ok-branchings.ensures.whole
    c.outcome_of.ensures.answer c.outcome_of.ensures.plan c.outcome_of.ensures.bound c.outcome_of.ensures.branchings

pub returns-clause-said : goal.returns-clause-said
returns-clause-said g c =
    complete_said c.args.table.now c.args.range.now (pinned_node c.args.pins) c.args.nodes c.in_ok-found.found c.in_ok-found.ensures c.files-files.ensures.table c.requires.range c.requires.pins
    (g.F.Shelf.tells c.args.shelf.now) (g.F.Shelf.map c.write_found.new.shelf c.args.name.now) c.in_ok-branchings.branchings c.outcome_of.result c.in_ok-branchings.ensures.whole
    c.outcome_of.ensures.answer c.outcome_of.ensures.plan c.outcome_of.ensures.bound c.outcome_of.ensures.branchings

pub returns-clause-width : goal.returns-clause-width
returns-clause-width g c =
    complete_width c.args.table.now c.args.range.now (pinned_node c.args.pins) c.args.nodes c.in_ok-found.found c.in_ok-found.ensures c.outcome_of.result c.outcome_of.ensures.set
