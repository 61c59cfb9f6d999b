use Rattle.volume_index.proofs.Orphans.{orphan_out, counts_shape, more_bytes, less_bytes}
use Rattle.volume_index.proofs.FirstLimits.{within_limits}
use Rattle.volume_index.proofs.laws.holding_laws.Goals as goal

pub returns : goal.returns
returns g = record { orphan = orphan_out; counts = counts_shape; limits = within_limits; more = more_bytes; less = less_bytes }
