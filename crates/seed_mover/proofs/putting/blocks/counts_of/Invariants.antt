use Rattle.std.proofs.Common.{◌≤◌, take}
use Rattle.seed_mover.specs.Blocks.{CountsNew}
use Rattle.seed_mover.proofs.putting.blocks.counts_of.Given as goal

abbrev pub invariant-loop-place : goal.invariant-loop-place
invariant-loop-place l = record {
  counts : CountsNew l.holding.shape (take l.place l.names) l.counts;
  names : l.counts.names ≤ l.place;
  unused : l.counts.unused ≤ l.place;
  lacking : l.counts.lacking ≤ l.place;
}
