use Rattle.std.proofs.Common.{◌∙◌}
use Rattle.greedy_seed.proofs.Members.{found_choice}
use Rattle.greedy_seed.proofs.Steps.{begun_too_high, found, stuck}
use Rattle.greedy_seed.proofs.seeding.greedy.Goals as goal

pub returns-then-tally-range-clause-tried : goal.returns-then-tally-range-clause-tried
returns-then-tally-range-clause-tried c =
    let begun = c.in_ok-tally.tally in
    begun_too_high c.args.table.now c.args.range.now c.args.pins.now c.none_after.result begun.set begun.sums.migrated c.none_after.ensures (c.in_ok-tally.ensures.set ∙ c.in_ok-set.ensures.same)
    c.in_ok-tally.ensures.tally.sums.migrated c.if-tally-range.true

pub returns-then-tally-range-2-clause-tried : goal.returns-then-tally-range-2-clause-tried
returns-then-tally-range-2-clause-tried c =
    let begun = c.in_ok-tally.tally in
    let after = c.add_files-turns.new.tally in
    let done = c.add_files-turns.ensures in
    stuck c.args.table.now c.args.range.now c.args.pins.now c.none_after-then-tally-range-2.result begun.set after.set begun.sums.migrated after.sums.migrated c.add_files-turns.result
    c.none_after-then-tally-range-2.ensures (c.in_ok-tally.ensures.set ∙ c.in_ok-set.ensures.same) c.in_ok-tally.ensures.tally.sums.migrated c.if-tally-range.false done.turns
    done.tally.sums.migrated c.if-tally-range-2.true done.ended

pub returns-clause-tried : goal.returns-clause-tried
returns-clause-tried c =
    let begun = c.in_ok-tally.tally in
    let after = c.add_files-turns.new.tally in
    let done = c.add_files-turns.ensures in
    let last = c.flip_files-rounds.ensures in
    found c.args.table.now c.args.range.now c.args.pins.now begun.set after.set c.flip_files-rounds.new.tally.set begun.sums.migrated after.sums.migrated c.add_files-turns.result
    c.flip_files-rounds.result (c.in_ok-tally.ensures.set ∙ c.in_ok-set.ensures.same) c.in_ok-tally.ensures.tally.sums.migrated c.if-tally-range.false done.turns
    done.tally.sums.migrated c.if-tally-range-2.false last.rounds last.few last.ended

pub returns-clause-admitted : goal.returns-clause-admitted
returns-clause-admitted c =
    found_choice c.args.table.now c.args.range.now c.args.pins.now c.flip_files-rounds.new.tally.set c.add_files-turns.result c.flip_files-rounds.result c.requires.pins
    (returns-clause-tried c)
