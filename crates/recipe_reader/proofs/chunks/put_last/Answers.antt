use Rattle.recipe_reader.specs.Recipes.{NamedChunk, is_chunk}
use Rattle.list_facts.proofs.Numbering.{put_last}
use Rattle.recipe_reader.proofs.chunks.put_last.Goals as goal

pub returns-clause-ok : goal.returns-clause-ok
returns-clause-ok g c =
    let chunk : NamedChunk = record { name = c.args.name.now; size = c.args.size } in
    put_last (is_chunk c.args.name.now) c.args.chunks.now.keys c.insert.new.self.keys chunk c.requires.new (rw c.new.ensures at c.in_ok-insert.ensures.keys)
