use Rattle.std.proofs.Common.{◌∙◌, arith, sym}
use Rattle.greedy_seed.proofs.Tallies.{tally_less, tally_more}
use Rattle.greedy_seed.proofs.tally.Tally.sums_flipped.Goals as goal

pub overflow_sub-migrated : goal.overflow_sub-migrated
overflow_sub-migrated c =
    let less = tally_less c.args.table.now c.args.self.now c.args.file c.index-gain.result.now c.index-reach.result.now c.requires.tally c.requires.file
    (sym c.contains.ensures ∙ c.if-contains.true) c.index-gain.ensures c.index-reach.ensures in
    less.gain_fits

pub overflow_add-left : goal.overflow_add-left
overflow_add-left c =
    let less = tally_less c.args.table.now c.args.self.now c.args.file c.index-gain.result.now c.index-reach.result.now c.requires.tally c.requires.file
    (sym c.contains.ensures ∙ c.if-contains.true) c.index-gain.ensures c.index-reach.ensures in
    omega (arith, less.small)

pub overflow_sub-replicated : goal.overflow_sub-replicated
overflow_sub-replicated c =
    let less = tally_less c.args.table.now c.args.self.now c.args.file c.index-gain.result.now c.index-reach.result.now c.requires.tally c.requires.file
    (sym c.contains.ensures ∙ c.if-contains.true) c.index-gain.ensures c.index-reach.ensures in
    less.reach_fits

pub overflow_add-migrated : goal.overflow_add-migrated
overflow_add-migrated c =
    let more = tally_more c.args.table.now c.args.self.now c.args.file c.index-gain.result.now c.index-reach.result.now c.requires.tally c.requires.file
    (sym c.contains.ensures ∙ c.if-contains.false) c.index-gain.ensures c.index-reach.ensures in
    omega (arith, more.small)

pub overflow_add-touched : goal.overflow_add-touched
overflow_add-touched c =
    let more = tally_more c.args.table.now c.args.self.now c.args.file c.index-gain.result.now c.index-reach.result.now c.requires.tally c.requires.file
    (sym c.contains.ensures ∙ c.if-contains.false) c.index-gain.ensures c.index-reach.ensures in
    omega (arith, more.reach_small)

pub overflow_sub-replicated-else-contains : goal.overflow_sub-replicated-else-contains
overflow_sub-replicated-else-contains c =
    let more = tally_more c.args.table.now c.args.self.now c.args.file c.index-gain.result.now c.index-reach.result.now c.requires.tally c.requires.file
    (sym c.contains.ensures ∙ c.if-contains.false) c.index-gain.ensures c.index-reach.ensures in
    more.gain_fits

pub returns-then-contains : goal.returns-then-contains
returns-then-contains c =
    let less = tally_less c.args.table.now c.args.self.now c.args.file c.index-gain.result.now c.index-reach.result.now c.requires.tally c.requires.file
    (sym c.contains.ensures ∙ c.if-contains.true) c.index-gain.ensures c.index-reach.ensures in
    record { migrated = less.migrated; replicated = less.replicated }

pub returns-else-contains : goal.returns-else-contains
returns-else-contains c =
    let more = tally_more c.args.table.now c.args.self.now c.args.file c.index-gain.result.now c.index-reach.result.now c.requires.tally c.requires.file
    (sym c.contains.ensures ∙ c.if-contains.false) c.index-gain.ensures c.index-reach.ensures in
    record { migrated = more.migrated; replicated = more.replicated }
