use Rattle.site_forms.proofs.States.{state_parts, same_state, state_folded}
use Rattle.site_forms.proofs.laws.state_laws.Goals as goal

pub returns : goal.returns
returns g = record { parts = state_parts; same_state = same_state; folded = state_folded }
