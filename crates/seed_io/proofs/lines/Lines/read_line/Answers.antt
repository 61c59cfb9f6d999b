use Rattle.std.proofs.Common.{rules, ◌≡◌}
use Rattle.seed_io.proofs.Standing.{stands_same}
use Rattle.seed_io.proofs.lines.Lines.read_line.Goals as goal

-- in the arm of fill's error: the bytes held and the place stay
pub returns-in_err-fill-clause-stays : goal.returns-in_err-fill-clause-stays
returns-in_err-fill-clause-stays g c = λ tells file there stands e.
    let full : (c.fill.new.self.held ≡ c.reading.self.held) = search rules in
    stands_same file c.reading.self c.fill.new.self c.fill.ensures.place.place full (c.reading.invariant.stands tells file there stands)
