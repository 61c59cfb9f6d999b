use Rattle.std.proofs.Common.{◌≡◌, ◌<◌, ◌≤◌, ◌∙◌, max, refl, arith}
use Rattle.seed_model.specs.Files.{holds}
use Rattle.seed_model.specs.Sums.{migrated_of}
use Rattle.hull_bound.proofs.Seeking.{begins_short, begins_past, meets}
use Rattle.hull_bound.proofs.relaxation.aimed.Goals as goal

pub seek-requires-clause-between : goal.seek-requires-clause-between
seek-requires-clause-between g c =
    let table = c.args.table.now in
    let minima = c.in_ok-minima.minima in
    let short_of : migrated_of (holds minima.greatest) table < c.args.range.now.low = omega (arith, c.if-last-range.true, c.migrated-last.ensures.sum) in
    begins_short table c.args.range.now c.args.node.now c.files-files.ensures.table c.requires.node minima c.in_ok-minima.ensures c.args.smallest c.args.largest
    c.requires.smallest c.requires.largest c.requires.is_smallest c.requires.is_largest c.corner_of-lower.result c.corner_of-lower.ensures.corner
    (c.corner_of-lower.ensures.same ∙ c.into_greatest.ensures) short_of c.requires.high_enough

pub seek-requires-then-range-first-clause-between : goal.seek-requires-then-range-first-clause-between
seek-requires-then-range-first-clause-between g c =
    let table = c.args.table.now in
    let minima = c.in_ok-minima.minima in
    let past : c.args.range.now.high < migrated_of (holds minima.least) table = omega (arith, c.if-range-first.true, c.migrated-first.ensures.sum) in
    begins_past table c.args.range.now c.args.node.now c.files-files.ensures.table c.requires.node minima c.in_ok-minima.ensures c.args.smallest c.args.largest
    c.requires.smallest c.requires.largest c.requires.is_smallest c.requires.is_largest c.corner_of-upper.result c.corner_of-upper.ensures.corner
    (c.corner_of-upper.ensures.same ∙ c.into_least.ensures) past c.requires.low_enough

pub returns : goal.returns
returns g c =
    let table = c.args.table.now in
    let minima = c.in_ok-minima.minima in
    let aim : c.max-aim.result ≡ max c.args.range.now.low (migrated_of (holds minima.least) table) = omega (arith, c.max-aim.ensures, c.migrated-first.ensures.sum) in
    let few : migrated_of (holds minima.least) table ≤ c.args.range.now.high = omega (arith, c.if-range-first.false, c.migrated-first.ensures.sum) in
    let enough : c.args.range.now.low ≤ migrated_of (holds minima.greatest) table = omega (arith, c.if-last-range.false, c.migrated-last.ensures.sum) in
    meets table c.args.range.now c.args.node.now c.files-files.ensures.table c.requires.node minima c.in_ok-minima.ensures c.args.smallest c.args.largest
    c.requires.smallest c.requires.largest c.requires.is_smallest c.requires.is_largest _ refl refl refl aim few enough
