use Rattle.std.proofs.Common.{◌≡◌, ◌-◌, ◌<◌, ℕ, List, [], true, length, Some, IsSome}
use Rattle.seed_io.specs.Answered.{SamePlace}
use Rattle.seed_io.specs.Lines.{StandsIn}
use Rattle.seed_io.proofs.lines.Lines.read_line.Given as goal

abbrev pub invariant-reading : goal.invariant-reading
invariant-reading g l =
    let shelf = g.F.Shelf in
    record {
      place : SamePlace l.fn.self l.self;
      tells : shelf.tells l.shelf ≡ shelf.tells l.fn.shelf;
      same : shelf.map l.shelf ≡ shelf.map l.fn.shelf;
      kept : shelf.faults l.shelf ≡ shelf.faults l.fn.shelf;
      stands : shelf.tells l.fn.shelf ≡ true → (file : List ℕ) → shelf.map l.fn.shelf l.fn.self.name ≡ Some file → StandsIn file l.fn.self → StandsIn file l.self;
      there : shelf.tells l.fn.shelf ≡ true → l.fn.self.held ≡ [] → 0 < length l.self.held → IsSome (shelf.map l.fn.shelf l.fn.self.name);
    }

abbrev pub decreases-reading : goal.decreases-reading
decreases-reading g l = 16385 - length l.self.held
