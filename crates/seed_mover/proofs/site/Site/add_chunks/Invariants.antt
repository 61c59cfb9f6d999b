use Rattle.std.proofs.Common.{◌≡◌, List, drop, true, false}
use Rattle.site_core.specs.Events.{Append}
use Rattle.seed_mover.specs.Through.{RunsTo}
use Rattle.seed_mover.specs.Putting.{blocks_of}
use Rattle.seed_mover.proofs.PutPlans.{ChunksSoFar}
use Rattle.seed_mover.proofs.site.Site.add_chunks.Given as goal

abbrev pub invariant-loop-block : goal.invariant-loop-block
invariant-loop-block g l = record {
  count : g.R.Rack.faults l.rack ≡ g.R.Rack.faults l.fn.rack;
  honest : g.R.Rack.honest l.rack ≡ g.R.Rack.honest l.fn.rack;
  fresh : l.self.spent ≡ false;
  done : List Append;
  so_far : ChunksSoFar l.fn.self l.self (blocks_of l.bytes l.ends) (drop l.block (blocks_of l.bytes l.ends)) done;
  runs : g.R.Rack.honest l.fn.rack ≡ true → RunsTo g.R.Rack.disk g.R.Rack.moment g.R.Rack.left_since l.fn.rack l.rack l.fn.self l.self done;
}
