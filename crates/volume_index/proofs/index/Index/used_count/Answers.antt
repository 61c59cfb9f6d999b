use Rattle.std.proofs.Common.{◌∙◌, ap}
use Rattle.std.specs.FinMap as map
use Rattle.site_forms.specs.Volumes.{used}
use Rattle.volume_index.specs.Indexes.{IndexValue}
use Rattle.volume_index.proofs.index.Index.used_count.Goals as goal

pub returns : goal.returns
returns c = c.self.invariant.used ∙ ap (λ (v : IndexValue). map.len (used v.shape.files)) c.self.view_is
