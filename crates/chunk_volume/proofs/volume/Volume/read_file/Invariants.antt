use Rattle.std.proofs.Common.{◌≡◌, ℕ, true}
use Rattle.site_forms.specs.Volumes.{Volume}
use Rattle.device_pieces.specs.Quiet.{Quiet}
use Rattle.chunk_volume.specs.Standing.{VolumeStands}
use Rattle.chunk_volume.proofs.Files.{PiecesRead, PiecesFound}
use Rattle.chunk_volume.proofs.volume.Volume.read_file.Given as goal

abbrev pub invariant-chunks : goal.invariant-chunks
invariant-chunks g l = record {
  count : g.R.Rack.faults l.rack ≡ g.R.Rack.faults l.fn.rack;
  honest : g.R.Rack.honest l.rack ≡ g.R.Rack.honest l.fn.rack;
  quiet : g.R.Rack.honest l.fn.rack ≡ true → Quiet g.R.Rack.moment g.R.Rack.left_since l.fn.rack l.rack (g.R.Rack.disk l.fn.rack) (g.R.Rack.disk l.rack);
  read : PiecesRead l.list l.chunk-index l.bytes.items;
  found : (place : ℕ) (volume : Volume) → g.R.Rack.honest l.fn.rack ≡ true → VolumeStands place l.self (g.R.Rack.disk l.fn.rack) volume → PiecesFound volume l.list l.chunk-index l.bytes.items;
}
