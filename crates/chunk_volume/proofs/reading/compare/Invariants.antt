use Rattle.std.proofs.Common.{◌≡◌, ◌-◌, ◌≤◌, true, length, take, drop}
use Rattle.std.specs.Prelude.{◌↔◌}
use Rattle.sha2.specs.Hashers.{Holds256}
use Rattle.device_pieces.specs.Quiet.{Quiet}
use Rattle.chunk_volume.proofs.Compared.{AreSame}
use Rattle.chunk_volume.proofs.reading.compare.Given as goal

abbrev pub invariant-pieces : goal.invariant-pieces
invariant-pieces g l = record {
  within : l.done ≤ l.len;
  count : g.R.Rack.faults l.rack ≡ g.R.Rack.faults l.fn.rack;
  honest : g.R.Rack.honest l.rack ≡ g.R.Rack.honest l.fn.rack;
  quiet : g.R.Rack.honest l.fn.rack ≡ true → Quiet g.R.Rack.moment g.R.Rack.left_since l.fn.rack l.rack (g.R.Rack.disk l.fn.rack) (g.R.Rack.disk l.rack);
  long : l.is_same ≡ true → length l.others ≡ l.len;
  inside : g.R.Rack.honest l.fn.rack ≡ true → l.done ≤ length (drop l.extent.at (g.R.Rack.disk l.fn.rack l.log.device).image);
  hashed : g.R.Rack.honest l.fn.rack ≡ true → Holds256 l.hasher (take l.done (drop l.extent.at (g.R.Rack.disk l.fn.rack l.log.device).image));
  same : g.R.Rack.honest l.fn.rack ≡ true → (l.is_same ≡ true) ↔ AreSame l.others (drop l.extent.at (g.R.Rack.disk l.fn.rack l.log.device).image) l.len l.done;
}

abbrev pub decreases-pieces : goal.decreases-pieces
decreases-pieces g l = l.len - l.done
