use Rattle.std.proofs.Common.{◌≡◌, ℕ, ◌<◌, ◌≤◌, false, length}
use Rattle.seed_model.specs.Files.{holds}
use Rattle.flow_net.specs.Flows.{is_in}
use Rattle.hull_bound.specs.Slots.{set_of}
use Rattle.hull_bound.proofs.minima.set_of_side.Given as goal

abbrev pub invariant-loop-file : goal.invariant-loop-file
invariant-loop-file l = record {
  files : length l.set ≡ length l.node.inside;
  done : (f : ℕ) → f < l.file → holds l.set f ≡ set_of l.node (is_in l.side) f;
  open_ : (f : ℕ) → l.file ≤ f → holds l.set f ≡ false;
}
