use Rattle.std.proofs.Common.{◌≤◌, length, take}
use Rattle.std.specs.Io.KnownBytes.{Appends}
use Rattle.seed_io.proofs.streams.write_front.Given as goal

abbrev pub invariant-loop-turn : goal.invariant-loop-turn
invariant-loop-turn g l = record {
  within : l.taken ≤ length l.bytes;
  front : Appends (g.W.Write.contents l.fn.to) (g.W.Write.contents l.to) (take l.taken l.bytes);
}
