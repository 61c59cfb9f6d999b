use Rattle.std.proofs.Common.{◌∙◌, ap}
use Rattle.site_forms.specs.Volumes.{pair_count}
use Rattle.volume_index.specs.Indexes.{IndexValue}
use Rattle.volume_index.proofs.index.Index.pair_count.Goals as goal

pub returns : goal.returns
returns c = c.self.invariant.pairs ∙ ap (λ (v : IndexValue). pair_count v.shape.files) c.self.view_is
