use Rattle.std.proofs.Common.{◌≡◌, ◌∙◌, ◌<◌, ap, arith, get_or, length}
use Rattle.std.proofs.lemmas.Grind.{common_steps}
use Rattle.seed_model.specs.Files.{holds}
use Rattle.seed_model.proofs.ClassSums.{split_by_first}
use Rattle.seed_model.proofs.table.Users.split_by.Goals as goal

pub returns : goal.returns
returns c =
    let listed : 0 < length c.self.inside.list.items = grind (arith, common_steps, c.if-is_empty.ensures, c.self.inside.list.ok) in
    let some : 0 < length c.args.self.now = omega (arith, listed, ap length c.self.view_is) in
    let first : c.index.result.now ≡ get_or c.args.self.now 0 c.index.result.now = c.index.ensures ∙ ap (λ t. get_or t 0 c.index.result.now) c.self.view_is in
    c.differs_from.ensures ∙ split_by_first (holds c.args.set.now) c.args.self.now c.index.result.now c.contains.result some first c.contains.ensures
