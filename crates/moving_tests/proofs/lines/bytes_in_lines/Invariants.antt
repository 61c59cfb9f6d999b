use Rattle.std.proofs.Common.{◌≡◌, ◌+◌, ◌-◌, ◌≤◌, ℕ, List, true, Some, if◌then◌else◌}
use Rattle.moving_tests.specs.LineBytes.{bytes_of_lines}
use Rattle.seed_io.specs.Lines.{StandsIn, lines_left}
use Rattle.moving_tests.proofs.lines.bytes_in_lines.Given as goal

abbrev pub invariant-each : goal.invariant-each
invariant-each g l =
    let shelf = g.F.Shelf in
    record {
      name : l.lines.name ≡ l.fn.lines.name;
      limit : l.lines.limit ≡ l.fn.lines.limit;
      within : l.total ≤ l.lines.place;
      tells : shelf.tells l.shelf ≡ shelf.tells l.fn.shelf;
      map : shelf.map l.shelf ≡ shelf.map l.fn.shelf;
      stands : shelf.tells l.fn.shelf ≡ true → (file : List ℕ) → shelf.map l.fn.shelf l.fn.lines.name ≡ Some file → StandsIn file l.fn.lines → StandsIn file l.lines;
      sum : shelf.tells l.fn.shelf ≡ true → (file : List ℕ) → shelf.map l.fn.shelf l.fn.lines.name ≡ Some file → StandsIn file l.fn.lines → l.total + bytes_of_lines (lines_left file l.lines) ≡ bytes_of_lines (lines_left file l.fn.lines);
    }

abbrev pub decreases-each : goal.decreases-each
decreases-each g l = if l.lines.over then 0 else 1 + (l.lines.limit - l.lines.place)
