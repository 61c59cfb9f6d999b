use Rattle.std.proofs.Common.{Some, None}
use Rattle.recipe_reader.specs.Recipes.{is_chunk}
use Rattle.recipe_reader.proofs.ChunkLemmas.{chunk_found}
use Rattle.list_facts.proofs.Numbering.{number_of}
use Rattle.recipe_reader.proofs.chunks.find_in.Goals as goal

pub returns-in-Some-clause-number : goal.returns-in-Some-clause-number
returns-in-Some-clause-number g c =
    number_of (is_chunk c.args.name.now) c.args.chunks.now.keys (Some c.in-Some.number) (rw c.new.ensures at c.in-Some.ensures.index)

pub returns-in-Some-clause-size : goal.returns-in-Some-clause-size
returns-in-Some-clause-size g c =
    let number = number_of (is_chunk c.args.name.now) c.args.chunks.now.keys (Some c.in-Some.number) (rw c.new.ensures at c.in-Some.ensures.index) in
    rw c.size.ensures.size (chunk_found c.args.name.now c.args.chunks.now.keys c.in-Some.number c.in-Some.chunk.now number c.in-Some.ensures.stored)

pub returns-in-None-clause-number : goal.returns-in-None-clause-number
returns-in-None-clause-number g c = number_of (is_chunk c.args.name.now) c.args.chunks.now.keys None (rw c.new.ensures at c.in-None.ensures.index)
