use Rattle.site_core.proofs.Cursors.{cursor_stays}
use Rattle.site_core.proofs.Folding.{folded_kept, shapes_step}
use Rattle.site_core.proofs.Lasting.{few_remain, leaves_one}
use Rattle.site_core.proofs.Turning.{may_keep}
use Rattle.site_core.proofs.laws.memory_laws.Goals as goal

pub returns : goal.returns
returns g = record { keeps = may_keep; next = leaves_one; few = λ t kept. few_remain t.a t.b t.phase kept; cursor = cursor_stays; step = shapes_step; kept = folded_kept }
