use Rattle.std.proofs.Common.{◌∷◌, refl, arith}
use Rattle.branch_bound.proofs.Running.{state_permuted, first_of_all, none_better, goes_on, whole_small}
use Rattle.branch_bound.proofs.searching.run.Goals as goal

pub returns-then-is_reached-clause-ended : goal.returns-then-is_reached-clause-ended
returns-then-is_reached-clause-ended c =
    let s = c.branchings.state in
    let first = c.in-Some.first in
    let rest = c.take_first.new.self in
    let least = first_of_all first s.waiting (first ∷ rest) c.in-Some.ensures.taken c.in-Some.ensures.first in
    record {
      candidates = first ∷ rest;
      state = state_permuted c.args.table.now c.args.range.now c.args.root.now s.kept s.branchings s.entries s.waiting (first ∷ rest) c.in-Some.ensures.taken c.branchings.invariant.1;
      none_better = none_better s.kept first c.ceiling-whole.result (first ∷ rest) (c.if-is_reached.ensures.0 refl) c.ceiling-whole.ensures least;
    }

pub overflow_cast-result : goal.overflow_cast-result
overflow_cast-result c =
    let s = c.branchings.state in
    let first = c.in-Some.first in
    let rest = c.take_first.new.self in
    let least = first_of_all first s.waiting (first ∷ rest) c.in-Some.ensures.taken c.in-Some.ensures.first in
    let state = state_permuted c.args.table.now c.args.range.now c.args.root.now s.kept s.branchings s.entries s.waiting (first ∷ rest) c.in-Some.ensures.taken c.branchings.invariant.1 in
    omega (arith, whole_small c.args.table.now c.args.range.now c.args.root.now s.kept s.branchings s.entries first rest c.files-files.ensures.table state least c.ceiling-whole.result c.ceiling-whole.ensures)

pub returns-then-state-nodes-clause-ended : goal.returns-then-state-nodes-clause-ended
returns-then-state-nodes-clause-ended c =
    let s = c.branchings.state in
    let first = c.in-Some.first in
    let rest = c.take_first.new.self in
    record {
      first = first;
      rest = rest;
      state = state_permuted c.args.table.now c.args.range.now c.args.root.now s.kept s.branchings s.entries s.waiting (first ∷ rest) c.in-Some.ensures.taken c.branchings.invariant.1;
      least = first_of_all first s.waiting (first ∷ rest) c.in-Some.ensures.taken c.in-Some.ensures.first;
      ceiling = c.ceiling-whole.ensures;
      goes_on = goes_on s.kept first c.ceiling-whole.result (λ r. let e = c.if-is_reached.ensures.1 r in cc e) c.ceiling-whole.ensures;
      made = c.if-state-nodes.true;
    }

pub branch-alloc-requires-clause-state : goal.branch-alloc-requires-clause-state
branch-alloc-requires-clause-state c =
    let s = c.branchings.state in
    state_permuted c.args.table.now c.args.range.now c.args.root.now s.kept s.branchings s.entries s.waiting (c.in-Some.first ∷ c.take_first.new.self) c.in-Some.ensures.taken c.branchings.invariant.1

pub branch-alloc-requires-clause-least : goal.branch-alloc-requires-clause-least
branch-alloc-requires-clause-least c = first_of_all c.in-Some.first c.branchings.state.waiting (c.in-Some.first ∷ c.take_first.new.self) c.in-Some.ensures.taken c.in-Some.ensures.first

pub branch-alloc-requires-clause-goes_on : goal.branch-alloc-requires-clause-goes_on
branch-alloc-requires-clause-goes_on c =
    goes_on c.branchings.state.kept c.in-Some.first c.ceiling-whole.result (λ r. let e = c.if-is_reached.ensures.1 r in cc e) c.ceiling-whole.ensures
