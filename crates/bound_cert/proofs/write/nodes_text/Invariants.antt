use Rattle.std.proofs.Common.{◌≡◌, ◌++◌, take}
use Rattle.std.specs.List.{flat_map}
use Rattle.bound_cert.specs.Grammar.{text_of}
use Rattle.bound_cert.specs.Documents.{node_entries}
use Rattle.bound_cert.proofs.write.nodes_text.Given as goal

abbrev pub invariant-loop-node : goal.invariant-loop-node
invariant-loop-node l = l.out.items ≡ l.initial.out.items ++ text_of (flat_map node_entries (take l.node-index l.nodes))
