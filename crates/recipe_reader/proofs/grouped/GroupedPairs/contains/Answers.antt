use Rattle.std.proofs.Common.{◌∙◌, sym}
use Rattle.recipe_reader.proofs.Grouping.{known_late, known_none}
use Rattle.recipe_reader.proofs.grouped.GroupedPairs.contains.Goals as goal

pub returns-in-Some : goal.returns-in-Some
returns-in-Some c =
    let a = c.self.inside in
    let noted = rw c.deref.ensures.value at (sym c.latest_in.ensures ∙ c.in-Some.is) in
    rw (← c.self.view_is) (known_late a.pairs.items a.latest.items a.last c.args.file c.args.chunk c.in-Some.late c.self.invariant (rw (← c.self.view_is) at c.requires) noted)

pub returns-in-None : goal.returns-in-None
returns-in-None c =
    let a = c.self.inside in
    let none = rw c.deref.ensures.value at (sym c.latest_in.ensures ∙ c.in-None.is) in
    rw (← c.self.view_is) (known_none a.pairs.items a.latest.items a.last c.args.file c.args.chunk c.self.invariant none)
