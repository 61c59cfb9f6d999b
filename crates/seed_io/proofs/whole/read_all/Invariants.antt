use Rattle.std.proofs.Common.{◌≡◌, ◌≤◌, ℕ, List, true, length, take, Some}
use Rattle.seed_io.proofs.whole.read_all.Given as goal

abbrev pub invariant-loop-turn : goal.invariant-loop-turn
invariant-loop-turn g l =
    let shelf = g.F.Shelf in
    record {
      tells : shelf.tells l.shelf ≡ shelf.tells l.fn.shelf;
      same : shelf.map l.shelf ≡ shelf.map l.fn.shelf;
      kept : shelf.faults l.shelf ≡ shelf.faults l.fn.shelf;
      turns : l._turn ≤ length l.bytes.items;
      within : length l.bytes.items ≤ l.limit;
      front : shelf.tells l.fn.shelf ≡ true → (file : List ℕ) → shelf.map l.fn.shelf l.name ≡ Some file → (l.bytes.items ≡ take (length l.bytes.items) file) × (length l.bytes.items ≤ length file);
    }
