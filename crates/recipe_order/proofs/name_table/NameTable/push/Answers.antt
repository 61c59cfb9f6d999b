use Rattle.std.specs.Prelude.{Vec}
use Rattle.std.proofs.Common.{ℕ, Global}
use Rattle.list_facts.proofs.Numbering.{put_last_view}
use Rattle.recipe_reader.specs.Recipes.{is_named}
use Rattle.recipe_order.proofs.name_table.NameTable.push.Goals as goal

pub returns : goal.returns
returns c =
    let own = c.in-Ok.ensures.items_if_clones_equal (λ x y e. e) in
    rw (← own, ← c.self.view_is) (put_last_view (λ (v : Vec ℕ Global). v.items) (is_named c.in-Ok.owned.items) c.self.inside.names.keys c.insert.new.self.keys c.in-Ok.owned (rw (own, c.self.view_is) c.requires) c.in-Ok-insert.ensures.keys)
