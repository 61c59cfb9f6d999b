use Rattle.site_forms.specs.Volumes.{empty_volume, volume_step}
use Rattle.site_forms.specs.Phases.{phase_step}
use Rattle.site_forms.specs.declared.phase.Phase.TheVariants.{Idle}
use Rattle.site_forms.proofs.Folds.{fold_more, blank_site}
use Rattle.site_forms.proofs.laws.fold_laws.Goals as goal

pub returns : goal.returns
returns g = record { volume = fold_more volume_step empty_volume; phase = fold_more phase_step Idle; blank = blank_site }
