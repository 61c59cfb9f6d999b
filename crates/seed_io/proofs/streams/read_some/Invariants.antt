use Rattle.std.specs.Io.KnownBytes.{Keeps}
use Rattle.seed_io.proofs.streams.read_some.Given as goal

abbrev pub invariant-loop-turn : goal.invariant-loop-turn
invariant-loop-turn g l = Keeps (g.F.Read.remaining l.fn.from) (g.F.Read.remaining l.from)
