use Rattle.std.proofs.Common.{◌<◌, ◌∙◌, arith}
use Rattle.seed_model.specs.Files.{holds}
use Rattle.seed_model.specs.Sums.{migrated_of}
use Rattle.hull_bound.specs.Corners.{aim_of}
use Rattle.hull_bound.proofs.Seeking.{touched_rise, migrated_rise, is_steep, is_flat, lower_next, upper_next}
use Rattle.hull_bound.proofs.search.take_turn.Goals as goal

pub slope_between-slope-requires-clause-touched : goal.slope_between-slope-requires-clause-touched
slope_between-slope-requires-clause-touched g c =
    touched_rise c.args.table.now c.args.node.now c.args.short (aim_of c.args.range.now c.args.short) c.args.stretch c.files-files.ensures.table c.requires.between

pub slope_between-slope-requires-clause-migrated : goal.slope_between-slope-requires-clause-migrated
slope_between-slope-requires-clause-migrated g c =
    migrated_rise c.args.table.now c.args.node.now c.args.short (aim_of c.args.range.now c.args.short) c.args.stretch c.files-files.ensures.table c.requires.between

pub returns-then-last-aim : goal.returns-then-last-aim
returns-then-last-aim g c =
    let aim = aim_of c.args.range.now c.args.short in
    let slope = c.slope_between-slope in
    let short_of : migrated_of (holds c.in_ok-minima.minima.greatest) c.args.table.now < aim = omega (arith, c.if-last-aim.true, c.migrated-last.ensures.sum, c.aim_at-aim.ensures) in
    lower_next c.args.table.now c.args.node.now c.args.short aim c.args.stretch c.files-files.ensures.table c.requires.between slope.result.p slope.result.q slope.ensures.lowest
    c.in_ok-minima.minima c.in_ok-minima.ensures c.corner_of-lower.result c.corner_of-lower.ensures.corner (c.corner_of-lower.ensures.same ∙ c.into_greatest.ensures) short_of

pub returns-then-aim-first : goal.returns-then-aim-first
returns-then-aim-first g c =
    let aim = aim_of c.args.range.now c.args.short in
    let slope = c.slope_between-slope in
    let past : aim < migrated_of (holds c.in_ok-minima.minima.least) c.args.table.now = omega (arith, c.if-aim-first.true, c.migrated-first.ensures.sum, c.aim_at-aim.ensures) in
    upper_next c.args.table.now c.args.node.now c.args.short aim c.args.stretch c.files-files.ensures.table c.requires.between slope.result.p slope.result.q slope.ensures.lowest
    c.in_ok-minima.minima c.in_ok-minima.ensures c.corner_of-upper.result c.corner_of-upper.ensures.corner (c.corner_of-upper.ensures.same ∙ c.into_least.ensures) past

pub returns : goal.returns
returns g c =
    let aim = aim_of c.args.range.now c.args.short in
    let slope = c.slope_between-slope in
    record {
      aims = c.aim_at-aim.ensures;
      solved = c.in_ok-minima.ensures;
      below = omega (arith, c.if-aim-first.false, c.migrated-first.ensures.sum, c.aim_at-aim.ensures);
      above = omega (arith, c.if-last-aim.false, c.migrated-last.ensures.sum, c.aim_at-aim.ensures);
      lowest = slope.ensures.lowest.lowest;
      p_fits = slope.ensures.p;
      steep = is_steep c.args.table.now c.args.node.now c.args.short aim c.args.stretch c.files-files.ensures.table c.requires.between slope.result.p slope.result.q slope.ensures.lowest;
      flat = is_flat c.args.table.now c.args.node.now c.args.short aim c.args.stretch c.files-files.ensures.table c.requires.between slope.result.p slope.result.q slope.ensures.lowest;
    }
