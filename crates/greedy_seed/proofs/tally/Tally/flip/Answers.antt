use Rattle.std.proofs.Common.{◌∙◌, refl, sym}
use Rattle.greedy_seed.proofs.Flags.{flips_in, flips_out}
use Rattle.greedy_seed.proofs.Tallies.{tally_flipped, uses_of_file}
use Rattle.greedy_seed.proofs.tally.Tally.flip.Goals as goal

pub move_file-requires-clause-classes : goal.move_file-requires-clause-classes
move_file-requires-clause-classes c = uses_of_file c.args.table.now c.args.self.now.uses c.args.file c.list.result.now c.requires.tally.uses c.requires.file c.list.ensures

pub returns-then-contains-clause-tally : goal.returns-then-contains-clause-tally
returns-then-contains-clause-tally c =
    let old = c.args.self.now in
    let inside = sym c.contains.ensures ∙ c.if-contains.true in
    tally_flipped c.args.table.now old (record { set = c.remove.new.self; sums = c.sums_flipped-self.result; uses = old.uses; shares = c.move_file.new.self }) c.args.file c.requires.tally
    (c.remove.ensures ∙ sym (flips_out old.set c.args.file inside)) c.sums_flipped-self.ensures refl c.move_file.ensures

pub returns-else-contains-clause-tally : goal.returns-else-contains-clause-tally
returns-else-contains-clause-tally c =
    let old = c.args.self.now in
    let out = sym c.contains.ensures ∙ c.if-contains.false in
    tally_flipped c.args.table.now old (record { set = c.insert.new.self; sums = c.sums_flipped-self.result; uses = old.uses; shares = c.move_file.new.self }) c.args.file c.requires.tally
    (c.insert.ensures ∙ sym (flips_in old.set c.args.file out)) c.sums_flipped-self.ensures refl c.move_file.ensures
