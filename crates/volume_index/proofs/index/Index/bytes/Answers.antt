use Rattle.std.proofs.Common.{◌∙◌, ap}
use Rattle.volume_index.specs.HoldingValues.{held_bytes}
use Rattle.volume_index.specs.Indexes.{IndexValue}
use Rattle.volume_index.proofs.index.Index.bytes.Goals as goal

pub returns : goal.returns
returns c = c.self.invariant.bytes ∙ ap (λ (v : IndexValue). held_bytes v.shape) c.self.view_is
