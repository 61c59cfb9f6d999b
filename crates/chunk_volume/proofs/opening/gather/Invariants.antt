use Rattle.std.proofs.Common.{◌≡◌, ◌≤◌, ◌-◌, ℕ, List, true}
use Rattle.site_forms.specs.Logs.{parse}
use Rattle.site_forms.specs.Logs.Parsed.{Good}
use Rattle.device_pieces.specs.Pieces.{Shows}
use Rattle.device_pieces.specs.Quiet.{Quiet}
use Rattle.chunk_volume.specs.VolumeInside.{StandBefore}
use Rattle.chunk_volume.proofs.Gathering.{Gathered}
use Rattle.chunk_volume.proofs.opening.gather.Given as goal

abbrev pub invariant-records : goal.invariant-records
invariant-records g l = record {
  below : l.at ≤ l.log.end;
  count : g.R.Rack.faults l.rack ≡ g.R.Rack.faults l.fn.rack;
  honest : g.R.Rack.honest l.rack ≡ g.R.Rack.honest l.fn.rack;
  quiet : g.R.Rack.honest l.fn.rack ≡ true → Quiet g.R.Rack.moment g.R.Rack.left_since l.fn.rack l.rack (g.R.Rack.disk l.fn.rack) (g.R.Rack.disk l.rack);
  device : l.piece.device ≡ l.log.device;
  shows : g.R.Rack.honest l.fn.rack ≡ true → Shows (g.R.Rack.disk l.fn.rack l.log.device).image l.fn.piece → Shows (g.R.Rack.disk l.fn.rack l.log.device).image l.piece;
  within : StandBefore l.at l.index.places l.index.shape.chunks;
  gathered : (bodies : List (List ℕ)) → g.R.Rack.honest l.fn.rack ≡ true → Shows (g.R.Rack.disk l.fn.rack l.log.device).image l.fn.piece → parse (g.R.Rack.disk l.fn.rack l.log.device).image ≡ Good bodies l.log.end → Gathered (g.R.Rack.disk l.fn.rack l.log.device).image bodies l.at l.index;
}

abbrev pub decreases-records : goal.decreases-records
decreases-records g l = l.log.end - l.at
