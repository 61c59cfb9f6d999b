use Rattle.std.proofs.Common.{◌≡◌, ℕ, ◌<◌, ◌≤◌, false, length}
use Rattle.seed_model.specs.Files.{holds}
use Rattle.seed_model.specs.Nodes.{largest_member}
use Rattle.hull_bound.proofs.relaxation.largest_of.Given as goal

abbrev pub invariant-loop-file : goal.invariant-loop-file
invariant-loop-file l = record {
  files : length l.set ≡ length l.node.outside;
  done : (f : ℕ) → f < l.file → largest_member l.node f ≡ holds l.set f;
  open_ : (f : ℕ) → l.file ≤ f → holds l.set f ≡ false;
}
