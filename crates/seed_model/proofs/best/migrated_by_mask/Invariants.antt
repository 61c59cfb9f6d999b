use Rattle.std.proofs.Common.{◌≡◌, ◌<◌, ◌^◌, ℕ, length}
use Rattle.std.specs.Prelude.{slice_index}
use Rattle.seed_model.proofs.MaskSums.{fit_bytes}
use Rattle.seed_model.proofs.best.migrated_by_mask.Given as goal

abbrev pub invariant-loop-file : goal.invariant-loop-file
invariant-loop-file l = record {
  masks : length l.sums.items ≡ 2 ^ l.table.files;
  each : (k : ℕ) → k < 2 ^ l.table.files → slice_index l.sums.items k ≡ fit_bytes l.file k l.table.classes;
}
