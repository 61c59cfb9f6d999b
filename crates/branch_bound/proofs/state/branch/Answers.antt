use Rattle.std.proofs.Common.{◌≡◌, ◌+◌, ◌*◌, None, refl, sym, subst}
use Rattle.seed_model.specs.Nodes.{IsNode}
use Rattle.branch_bound.specs.Entries.{entry_at}
use Rattle.branch_bound.specs.SearchTrees.{is_at}
use Rattle.branch_bound.specs.States.{waits, times_in, IsBelow, IsNew, IsState}
use Rattle.branch_bound.proofs.Branching.{inside, may_differ, out_is_below, in_is_below, next_state}
use Rattle.branch_bound.proofs.state.branch.Goals as goal

pub branching_file-file-requires-clause-inside : goal.branching_file-file-requires-clause-inside
branching_file-file-requires-clause-inside c =
    inside c.args.table.now c.args.range.now c.args.root.now c.args.state.now.kept c.args.state.now.branchings c.args.state.now.entries c.args.first c.args.state.now.waiting c.requires.state c.requires.least

pub branching_file-file-requires-clause-differ : goal.branching_file-file-requires-clause-differ
branching_file-file-requires-clause-differ c =
    may_differ c.args.table.now c.args.range.now c.args.root.now c.args.state.now.kept c.args.state.now.branchings c.args.state.now.entries c.args.first c.args.state.now.waiting c.requires.state c.requires.least c.requires.goes_on

pub find-requires-clause-node : goal.find-requires-clause-node
find-requires-clause-node c =
    let below = out_is_below c.args.table.now c.args.range.now c.args.root.now c.args.state.now.kept c.args.state.now.branchings c.args.state.now.entries c.args.first c.args.state.now.waiting c.requires.state c.requires.least
    c.branching_file-file.result c.branching_file-file.ensures in
    subst (IsNode c.args.table.now.files) (sym (c.in_ok-without.ensures c.requires.state.nodes c.requires.state.are_nodes)) below.is_node

pub find-requires-2-clause-node : goal.find-requires-2-clause-node
find-requires-2-clause-node c =
    let below = in_is_below c.args.table.now c.args.range.now c.args.root.now c.args.state.now.kept c.args.state.now.branchings c.args.state.now.entries c.args.first c.args.state.now.waiting c.requires.state c.requires.least
    c.branching_file-file.result c.branching_file-file.ensures in
    subst (IsNode c.args.table.now.files) (sym (c.in_ok-with.ensures c.requires.state.nodes c.requires.state.are_nodes)) below.is_node

pub returns-clause-state : goal.returns-clause-state
returns-clause-state c =
    let table = c.args.table.now in
    let range = c.args.range.now in
    let root = c.args.root.now in
    let old = c.args.state.now in
    let s = c.requires.state in
    let file = c.branching_file-file.result in
    let differs = c.branching_file-file.ensures in
    let out_is = c.in_ok-without.ensures s.nodes s.are_nodes in
    let in_is = c.in_ok-with.ensures s.nodes s.are_nodes in
    let out_below = out_is_below table range root old.kept old.branchings old.entries c.args.first old.waiting s c.requires.least file differs in
    let in_below = in_is_below table range root old.kept old.branchings old.entries c.args.first old.waiting s c.requires.least file differs in
    let made = c.len-made.ensures in
    subst (λ z. IsState table range root c.find-2.new.kept (old.branchings + 1) z c.put_waiting-2.new.waiting) (sym c.in_ok-branch.ensures)
    (next_state table range root old.kept old.branchings old.entries c.args.first old.waiting s c.requires.least file differs
    c.find.new.kept c.find-2.new.kept c.in_ok-out.out c.in_ok-inn.inn c.put_waiting.new.waiting c.put_waiting-2.new.waiting
    (c.in_ok-out.ensures.better refl) (c.in_ok-inn.ensures.better refl)
    (subst (λ z. IsNew table range c.find.new.kept z c.in_ok-out.out) out_is c.in_ok-out.ensures.found)
    (subst (λ z. IsNew table range c.find-2.new.kept z c.in_ok-inn.inn) in_is c.in_ok-inn.ensures.found)
    (c.in_ok-inn.ensures.plan root refl (subst (IsBelow table.files root) (sym in_is) in_below) (c.in_ok-out.ensures.plan root refl (subst (IsBelow table.files root) (sym out_is) out_below) s.plan))
    (λ k. subst (λ z. times_in k c.put_waiting.new.waiting ≡ waits None c.in_ok-out.out * is_at k z + times_in k old.waiting) made (c.in_ok-put_waiting.ensures.times k))
    (λ k. subst (λ z. times_in k c.put_waiting-2.new.waiting ≡ waits None c.in_ok-inn.inn * is_at k (z + 1) + times_in k c.put_waiting.new.waiting) made (c.in_ok-put_waiting-2.ensures.times k))
    (λ xs h b f. c.in_ok-put_waiting.ensures.values xs h (subst (λ z. (entry_at xs z).file ≡ None) (sym made) b) (subst (λ z. (entry_at xs z).finding ≡ c.in_ok-out.out) (sym made) f))
    (λ xs h b f. c.in_ok-put_waiting-2.ensures.values xs h (subst (λ z. (entry_at xs (z + 1)).file ≡ None) (sym made) b) (subst (λ z. (entry_at xs (z + 1)).finding ≡ c.in_ok-inn.inn) (sym made) f)))
