use Rattle.std.proofs.Common.{sym}
use Rattle.seed_model.proofs.BitSets.{length-set_of}
use Rattle.seed_model.proofs.plan_set.PlanSet.files.Goals as goal

pub returns : goal.returns
returns c = sym (length-set_of c.args.self.now c.self.inside.files c.self.inside.words.items c.self.view_is)
