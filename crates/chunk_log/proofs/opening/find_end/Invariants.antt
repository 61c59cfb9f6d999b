use Rattle.std.proofs.Common.{◌≡◌, ◌<◌, ◌≤◌, ◌-◌, ◌^◌, true, length}
use Rattle.device_pieces.specs.Pieces.{Shows}
use Rattle.device_pieces.specs.Quiet.{Quiet}
use Rattle.chunk_log.proofs.Reaching.{Reaches}
use Rattle.chunk_log.proofs.opening.find_end.Given as goal

abbrev pub invariant-gates : goal.invariant-gates
invariant-gates g l = record {
  below : l.at < 2 ^ 40;
  count : g.R.Rack.faults l.rack ≡ g.R.Rack.faults l.fn.rack;
  honest : g.R.Rack.honest l.rack ≡ g.R.Rack.honest l.fn.rack;
  device : l.piece.device ≡ l.fn.piece.device;
  quiet : g.R.Rack.honest l.fn.rack ≡ true → Quiet g.R.Rack.moment g.R.Rack.left_since l.fn.rack l.rack (g.R.Rack.disk l.fn.rack) (g.R.Rack.disk l.rack);
  shows : g.R.Rack.honest l.fn.rack ≡ true → Shows (g.R.Rack.disk l.fn.rack l.fn.piece.device).image l.fn.piece → Shows (g.R.Rack.disk l.fn.rack l.fn.piece.device).image l.piece;
  reaches : g.R.Rack.honest l.fn.rack ≡ true → Shows (g.R.Rack.disk l.fn.rack l.fn.piece.device).image l.fn.piece → l.size ≡ length (g.R.Rack.disk l.fn.rack l.fn.piece.device).image → 2 ≤ l.size
      → Reaches (g.R.Rack.disk l.fn.rack l.fn.piece.device).image l.at;
}

abbrev pub decreases-gates : goal.decreases-gates
decreases-gates g l = 2 ^ 40 - l.at
