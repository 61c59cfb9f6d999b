use Rattle.std.proofs.Common.{◌≡◌, drop}
use Rattle.flow_net.specs.Paths.{pushed}
use Rattle.flow_net.specs.Moves.{IsReady}
use Rattle.flow_net.proofs.amounts.move_along.Given as goal

-- the uses that are left lead to the same amounts, and are still ready
abbrev pub invariant-loop-each : goal.invariant-loop-each
invariant-loop-each l =
    record {
      total : pushed l.amount l.amounts (drop l.each-index l.path) ≡ pushed l.amount l.fn.amounts l.path;
      ready : IsReady l.amount l.amounts (drop l.each-index l.path);
    }
