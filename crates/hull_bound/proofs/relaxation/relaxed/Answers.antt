use Rattle.hull_bound.proofs.Relaxing.{relaxation_of}
use Rattle.hull_bound.proofs.relaxation.relaxed.Goals as goal

pub returns : goal.returns
returns c =
    relaxation_of c.args.table.now c.args.range.now c.args.node.now c.args.found c.in_ok-multipliers.multipliers c.mix_of-mix.result
    c.files-files.ensures.table c.requires.range c.requires.aimed c.in_ok-multipliers.ensures
    c.mix_of-mix.ensures.first c.mix_of-mix.ensures.second c.mix_of-mix.ensures.alpha c.mix_of-mix.ensures.beta c.mix_of-mix.ensures.alpha_fits c.mix_of-mix.ensures.beta_fits
