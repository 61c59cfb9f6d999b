use Rattle.std.proofs.Common.{arith, length, sym}
use Rattle.recipe_reader.specs.RecipeInside.{view_of}
use Rattle.recipe_reader.specs.Recipes.{NamedChunk}
use Rattle.recipe_reader.proofs.Keeping.{bytes_push, chunk_keeps, new_pair}
use Rattle.recipe_reader.proofs.OnePairMore.{with_pair-new, full_of_pairs}
use Rattle.recipe_reader.proofs.recipe.Recipe.add_chunk.Goals as goal

pub returns-then-len-clause-fault : goal.returns-then-len-clause-fault
returns-then-len-clause-fault c =
    let chunk : NamedChunk = record { name = c.args.name.now; size = c.args.size } in
    let r = view_of c.self.inside in
    let total = c.self.invariant.total in
    let bound = c.self.invariant.recipe.limits.bytes in
    let new = rw (← c.self.view_is) at c.requires.new in
    rw (← c.self.view_is) (full_of_pairs r c.args.file chunk c.self.invariant.recipe new (omega (arith, c.len-number.ensures)) (omega (arith, total, bound)) (omega (arith, c.len.ensures)))

pub push-requires-2 : goal.push-requires-2
push-requires-2 c =
    let r = view_of c.self.inside in
    rw c.len-number.ensures (new_pair c.args.file (length r.files) (length r.chunks) r.pairs c.self.invariant.recipe.pairs)

pub invariant_of-self-2 : goal.invariant_of-self-2
invariant_of-self-2 c =
    let chunk : NamedChunk = record { name = c.args.name.now; size = c.args.size } in
    let r = view_of c.self.inside in
    let total = c.self.invariant.total in
    let bound = c.self.invariant.recipe.limits.bytes in
    let new = rw (← c.self.view_is) at c.requires.new in
    let there = rw (← c.self.view_is) at c.requires.file in
    rw (c.in-Ok.ensures.ok, c.in-Ok-push.ensures.ok, c.len-number.ensures) record {
      recipe = chunk_keeps r c.args.file chunk c.self.invariant.recipe there (record { name = c.requires.name; small = c.requires.size }) new
          (omega (arith, c.len-number.ensures)) (omega (arith, total, bound)) (omega (arith, c.len.ensures));
      total = omega (arith, total, bytes_push r.chunks chunk);
    }

pub returns-clause-ok : goal.returns-clause-ok
returns-clause-ok c =
    let chunk : NamedChunk = record { name = c.args.name.now; size = c.args.size } in
    let r = view_of c.self.inside in
    let new = rw (← c.self.view_is) at c.requires.new in
    rw (c.in-Ok.ensures.ok, c.in-Ok-push.ensures.ok, c.len-number.ensures, ← c.self.view_is) (sym (with_pair-new r c.args.file chunk c.self.invariant.recipe new))

pub returns-clause-recipe : goal.returns-clause-recipe
returns-clause-recipe c = (invariant_of-self-2 c).recipe
