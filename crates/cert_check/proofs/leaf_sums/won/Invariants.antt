use Rattle.std.proofs.Common.{◌≡◌, length}
use Rattle.seed_model.specs.Keys.{sum_below}
use Rattle.cert_check.specs.Leaves.{share_won}
use Rattle.cert_check.proofs.leaf_sums.won.Given as goal

abbrev pub invariant-loop-file : goal.invariant-loop-file
invariant-loop-file l = record {
  sum : l.won ≡ sum_below (share_won l.node l.shares) l.file;
  end : l.file-end ≡ length l.shares;
}
