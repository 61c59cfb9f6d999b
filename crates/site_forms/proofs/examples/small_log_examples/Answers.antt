use Rattle.std.proofs.Common.{refl}
use Rattle.site_forms.proofs.examples.small_log_examples.Goals as goal

pub returns : goal.returns
returns g = record { size = refl; whole = refl; chunk = refl; file = refl; cut_short = refl; torn_gate = refl; closed_gate = refl; other_bytes = refl }
