use Rattle.site_forms.proofs.Small.{small_site}
use Rattle.site_forms.proofs.examples.small_site_example.Goals as goal

pub returns : goal.returns
returns g = small_site
