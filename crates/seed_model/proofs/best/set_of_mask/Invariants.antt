use Rattle.std.proofs.Common.{◌≡◌, ◌<◌, ◌≤◌, ℕ, length, false}
use Rattle.seed_model.specs.Files.{holds}
use Rattle.seed_model.specs.Masks.{in_mask}
use Rattle.seed_model.proofs.best.set_of_mask.Given as goal

abbrev pub invariant-loop-file : goal.invariant-loop-file
invariant-loop-file l = record {
  files : length l.set ≡ l.files;
  done : (f : ℕ) → f < l.file → holds l.set f ≡ in_mask l.mask f;
  rest : (f : ℕ) → l.file ≤ f → holds l.set f ≡ false;
}
