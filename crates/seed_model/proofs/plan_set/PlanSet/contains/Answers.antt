use Rattle.std.proofs.Common.{arith}
use Rattle.seed_model.proofs.BitSets.{bit_read, word_of}
use Rattle.seed_model.proofs.plan_set.PlanSet.contains.Goals as goal

pub index-word-requires : goal.index-word-requires
index-word-requires c = omega (arith, (word_of c.args.self.now c.self.inside.files c.self.inside.words.items c.args.file c.self.view_is c.self.invariant c.requires).1)

pub returns : goal.returns
returns c = bit_read c.args.self.now c.self.inside.files c.self.inside.words.items c.args.file c.index-word.result.now c.self.view_is c.self.invariant c.requires c.index-word.ensures
