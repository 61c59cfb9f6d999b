use Rattle.site_forms.proofs.Halves.{half_number-half_record, closed_none, first_wins, second_wins, without_half_more}
use Rattle.site_forms.proofs.laws.half_laws.Goals as goal

pub returns : goal.returns
returns g = record { kept = half_number-half_record; closed = closed_none; first_stays = first_wins; second_stays = second_wins; joins = without_half_more }
