use Rattle.std.proofs.Common.{[], List, ℕ, arith, subst, sym}
use Rattle.recipe_order.specs.Matching.{AreNumbers, chunk_names}
use Rattle.recipe_order.proofs.Matched.{names_length}
use Rattle.recipe_order.proofs.NameLists.{numbers_all, numbers_more, numbers_none}
use Rattle.recipe_order.proofs.name_table.chunk_numbers.Goals as goal

pub loop-chunk-init : goal.loop-chunk-init
loop-chunk-init c = let P : List ℕ → Type 0 = λ t. AreNumbers (chunk_names c.args.whole.now) [] t in subst P (sym c.new-numbers.ensures.items) (numbers_none (chunk_names c.args.whole.now))

pub loop-chunk-preserved : goal.loop-chunk-preserved
loop-chunk-preserved c =
    numbers_more (chunk_names c.args.whole.now) (chunk_names c.args.part.now) c.in_ok-table.table c.loop-chunk.numbers.items c.push.new.self.items c.loop-chunk.chunk c.in-Some.number c.chunk_name.result.now c.loop-chunk.invariant
    (omega (arith, c.loop-chunk-test.true, c.chunks-chunk-end.ensures.chunks, names_length c.args.part.now)) c.chunk_name.ensures.name c.in_ok-table.ensures c.in-Some.ensures c.in_ok-push.ensures.items

pub returns : goal.returns
returns c = record { found = numbers_all (chunk_names c.args.whole.now) (chunk_names c.args.part.now) c.loop-chunk.numbers.items c.loop-chunk.chunk c.loop-chunk.invariant (omega (arith, c.loop-chunk-test.false, c.chunks-chunk-end.ensures.chunks, names_length c.args.part.now)); none = tt }
