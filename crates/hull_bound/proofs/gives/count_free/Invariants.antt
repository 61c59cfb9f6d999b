use Rattle.std.proofs.Common.{◌≡◌, take}
use Rattle.std.specs.List.{count_by}
use Rattle.seed_model.specs.Nodes.{is_free}
use Rattle.hull_bound.proofs.gives.count_free.Given as goal

abbrev pub invariant-loop-file : goal.invariant-loop-file
invariant-loop-file l = record { count : l.count ≡ count_by (is_free l.node) (take l.file-index l.users) }
