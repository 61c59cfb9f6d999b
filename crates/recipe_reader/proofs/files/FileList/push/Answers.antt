use Rattle.recipe_reader.specs.Recipes.{is_named}
use Rattle.std.specs.String.{string_bytes}
use Rattle.list_facts.proofs.Numbering.{put_last_view}
use Rattle.recipe_reader.proofs.files.FileList.push.Goals as goal

pub returns-clause-ok : goal.returns-clause-ok
returns-clause-ok c =
    let own = c.in-Ok.ensures.ok in
    rw (← own, ← c.self.view_is) (put_last_view string_bytes (is_named (string_bytes c.in-Ok.owned)) c.self.inside.names.keys c.insert.new.self.keys c.in-Ok.owned (rw (own, c.self.view_is) c.requires) c.in-Ok-insert.ensures.keys)
