use Rattle.std.proofs.Common.{◌≡◌, ◌<◌, ◌^◌, ℕ, length, take}
use Rattle.std.specs.Prelude.{slice_index, ◌==◌}
use Rattle.seed_model.specs.Sums.{bytes_where}
use Rattle.seed_model.specs.Masks.{mask_of}
use Rattle.seed_model.proofs.best.bytes_by_mask.Given as goal

abbrev pub invariant-loop-class : goal.invariant-loop-class
invariant-loop-class l = record {
  masks : length l.sums.items ≡ 2 ^ l.table.files;
  each : (k : ℕ) → k < 2 ^ l.table.files → slice_index l.sums.items k ≡ bytes_where (λ users. mask_of users == k) (take l.class-index l.class-items);
}
