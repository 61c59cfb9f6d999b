use Rattle.std.proofs.Common.{◌≡◌, ◌+◌, ◌-◌, if◌then◌else◌}
use Rattle.cert_check.proofs.Working.{InWork}
use Rattle.cert_check.proofs.checking.check_text.Given as goal

abbrev pub invariant-judging : goal.invariant-judging
invariant-judging g l =
    let shelf = g.F.Shelf in
    record {
      work : InWork l.table (shelf.tells l.fn.shelf) (shelf.map l.fn.shelf) l.name l.judge l.lines;
      tells : shelf.tells l.shelf ≡ shelf.tells l.fn.shelf;
      map : shelf.map l.shelf ≡ shelf.map l.fn.shelf;
      still : shelf.faults l.shelf ≡ shelf.faults l.fn.shelf;
    }

abbrev pub decreases-judging : goal.decreases-judging
decreases-judging g l = if l.lines.over then 0 else 1 + (l.lines.limit - l.lines.place)
