use Rattle.std.proofs.Common.{◌≡◌, length}
use Rattle.seed_model.specs.Keys.{sum_below}
use Rattle.cert_check.specs.Leaves.{share_lost}
use Rattle.cert_check.proofs.leaf_sums.lost.Given as goal

abbrev pub invariant-loop-file : goal.invariant-loop-file
invariant-loop-file l = record {
  sum : l.lost ≡ sum_below (share_lost l.node l.shares) l.file;
  end : l.file-end ≡ length l.shares;
}
