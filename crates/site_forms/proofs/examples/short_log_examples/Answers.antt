use Rattle.std.proofs.Common.{refl, ap, true, [], ◌∷◌, Some, None, Bool}
use Rattle.std.specs.Prelude.{◌&&◌, if◌then◌else◌}
use Rattle.std.specs.Option.{option_and_then}
use Rattle.site_forms.specs.declared.phase.Phase.{Phase}
use Rattle.site_forms.specs.declared.phase.Phase.TheVariants.{Moving}
use Rattle.site_forms.proofs.Small.{n_name, unfit}
use Rattle.site_forms.proofs.examples.short_log_examples.Goals as goal

pub returns : goal.returns
returns g = record {
  blank = refl;
  no_length = refl;
  no_kind = refl;
  unfolded = refl;
  moved_alone = refl;
  begin_none = refl;
  begin_one = ap (λ (b : Bool). option_and_then (λ (next : Phase). Some next) (if (b && true) && true then Some (Moving ((0x6e ∷ []) ∷ [])) else None)) n_name;
  unfit = unfit;
}
