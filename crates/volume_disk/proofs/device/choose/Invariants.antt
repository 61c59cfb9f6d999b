use Rattle.std.proofs.Common.{◌≡◌, ℕ, ◌<◌, ◌≤◌, false}
use Rattle.std.specs.Prelude.{slice_index, slice_index_or, if◌then◌else◌}
use Rattle.volume_disk.specs.Picks.{free_byte}
use Rattle.volume_disk.proofs.device.choose.Given as goal

abbrev pub invariant-loop-i : goal.invariant-loop-i
invariant-loop-i l = record {
  done : (k : ℕ) → k < l.i → slice_index l.newest k ≡ (if slice_index_or l.touched k false then free_byte l.pick (slice_index l.synced k) (slice_index l.fn.newest k) else slice_index l.synced k);
  rest : (k : ℕ) → l.i ≤ k → slice_index l.newest k ≡ slice_index l.fn.newest k;
}
