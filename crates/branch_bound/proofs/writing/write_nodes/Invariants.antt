use Rattle.std.proofs.Common.{◌≡◌, true, take}
use Rattle.seed_io.specs.Shelf.{OthersStay}
use Rattle.branch_bound.specs.Streams.{AreAdded}
use Rattle.branch_bound.proofs.writing.write_nodes.Given as goal

abbrev pub invariant-loop-visit : goal.invariant-loop-visit
invariant-loop-visit g l =
    let shelf = g.F.Shelf in
    record {
      added : AreAdded l.table l.found (take l.visit-index l.found.visited.items) (shelf.tells l.fn.shelf) (shelf.map l.fn.shelf l.name) (shelf.map l.shelf l.name) l.branchings;
      others : shelf.tells l.fn.shelf ≡ true → OthersStay (shelf.map l.fn.shelf) (shelf.map l.shelf) l.name;
      tells : shelf.tells l.shelf ≡ shelf.tells l.fn.shelf;
      still : shelf.faults l.shelf ≡ shelf.faults l.fn.shelf;
    }
