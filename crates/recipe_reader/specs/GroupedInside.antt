use Rattle.std.specs.Prelude.{List, ℕ}
use Rattle.recipe_reader.specs.Grouped.{IsGrouped}
use Rattle.recipe_reader.specs.declared.grouped.GroupedPairs.TheInside.{Inside}

abbrev pub pairs_of : Inside → List (ℕ × ℕ)
pairs_of a = a.pairs.items

abbrev pub KeepsGroups : Inside → Type 0
KeepsGroups a = IsGrouped a.pairs.items a.latest.items a.last
