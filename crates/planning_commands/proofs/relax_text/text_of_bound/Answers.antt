use Rattle.std.proofs.Common.{append_assoc}
use Rattle.planning_commands.specs.Relax.{mix_line, slope_line, value_line}
use Rattle.planning_commands.proofs.relax_text.text_of_bound.Goals as goal

pub returns : goal.returns
returns c =
    let value = c.value_of-over.result in
    let multipliers = c.args.multipliers.now in
    record {
      over = value.0;
      under = value.1;
      value = c.value_of-over.ensures;
      prints = rw (c.in_ok-add_mix.ensures, c.in_ok-add_numbers.ensures, c.in_ok-add_value.ensures, c.new-text.ensures.items)
          (append_assoc (value_line value.0 value.1) (slope_line multipliers.p multipliers.q) (mix_line c.args.mix.now));
    }
