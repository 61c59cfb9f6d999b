use Rattle.std.proofs.Common.{◌≡◌, ℕ, true, take}
use Rattle.device_pieces.specs.Quiet.{Quiet}
use Rattle.site_forms.specs.Volumes.{Volume}
use Rattle.chunk_volume.specs.Standing.{VolumeStands}
use Rattle.seed_mover.specs.Putting.{AreKept, blocks_of}
use Rattle.seed_mover.proofs.putting.ready.compare_blocks.Given as goal

abbrev pub invariant-loop-block : goal.invariant-loop-block
invariant-loop-block g l = record {
  count : g.R.Rack.faults l.rack ≡ g.R.Rack.faults l.fn.rack;
  honest : g.R.Rack.honest l.rack ≡ g.R.Rack.honest l.fn.rack;
  quiet : g.R.Rack.honest l.fn.rack ≡ true → Quiet g.R.Rack.moment g.R.Rack.left_since l.fn.rack l.rack (g.R.Rack.disk l.fn.rack) (g.R.Rack.disk l.rack);
  kept : (place : ℕ) (a : Volume) → g.R.Rack.honest l.fn.rack ≡ true → VolumeStands place l.volume (g.R.Rack.disk l.fn.rack) a → AreKept a (take l.block (blocks_of l.bytes l.ends));
}
