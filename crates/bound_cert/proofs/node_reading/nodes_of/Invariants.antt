use Rattle.std.proofs.Common.{◌≡◌, ◌≤◌, ◌++◌, ◌-◌, length, drop}
use Rattle.std.specs.List.{flat_map}
use Rattle.bound_cert.specs.Grammar.{LeadsOnNodes, entries_of}
use Rattle.bound_cert.specs.Documents.{node_entries}
use Rattle.bound_cert.proofs.node_reading.nodes_of.Given as goal

abbrev pub invariant-loop-alloc : goal.invariant-loop-alloc
invariant-loop-alloc l = record {
  within : l.place ≤ length l.lines;
  nodes : entries_of l.lines ≡ flat_map node_entries l.nodes.items ++ entries_of (drop l.place l.lines);
  left : LeadsOnNodes (entries_of (drop l.place l.lines));
}

abbrev pub decreases-loop-alloc : goal.decreases-loop-alloc
decreases-loop-alloc l = length l.lines - l.place
