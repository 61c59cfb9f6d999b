use Rattle.std.proofs.Common.{◌≡◌, map, take}
use Rattle.bound_cert.specs.Grammar.{entries_of}
use Rattle.bound_cert.specs.Documents.{give_entry}
use Rattle.bound_cert.proofs.node_reading.give_list.Given as goal

abbrev pub invariant-loop-line : goal.invariant-loop-line
invariant-loop-line l = map give_entry l.gives.items ≡ entries_of (take l.line-index l.lines)
