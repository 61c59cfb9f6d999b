use Rattle.std.proofs.Common.{◌≡◌, ℕ, ◌<◌}
use Rattle.cert_check.specs.Leaves.{share_at, no_share}
use Rattle.cert_check.proofs.leaf_sums.clear.Given as goal

abbrev pub invariant-loop-share : goal.invariant-loop-share
invariant-loop-share l = (file : ℕ) → file < l.share-index → share_at l.shares file ≡ no_share
