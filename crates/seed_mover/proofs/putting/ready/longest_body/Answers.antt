use Rattle.std.proofs.Common.{◌≡◌, ⊎_elim, ◌+◌, ◌<◌, ◌≤◌, List, ℕ, [], length, get_or, ap, subst, arith}
use Rattle.std.specs.Prelude.{All}
use Rattle.std.proofs.lemmas.List.{take_all}
use Rattle.std.proofs.lemmas.List.Elements.{All-more}
use Rattle.seed_mover.specs.Putting.{blocks_of}
use Rattle.seed_mover.proofs.BlockLists.{count_blocks}
use Rattle.seed_mover.proofs.PutReady.{greater}
use Rattle.seed_mover.proofs.putting.ready.longest_body.Goals as goal

pub loop-block-preserved : goal.loop-block-preserved
loop-block-preserved c =
    let blocks = blocks_of c.args.bytes.now c.args.ends.now in
    let k = c.loop-block.block in
    let longest = c.max-longest.result in
    let inside : k < length blocks = omega (arith, c.loop-block-test.true, count_blocks 0 c.args.bytes.now c.args.ends.now) in
    let inv = c.loop-block.invariant in
    let own : length (get_or blocks k []) ≡ length c.block_at.result.now = ap (λ (l : List ℕ). length l) c.block_at.ensures.bytes in
    let more = greater c.loop-block.longest (33 + length c.block_at.result.now) longest c.max-longest.ensures in
    record {
      all = All-more (λ (block : List ℕ). 33 + length block ≤ longest) blocks k [] inside (λ j d less. omega (arith, inv.all j d less, more.0)) (omega (arith, own, more.1));
      least = omega (arith, inv.least, more.0);
      most = ⊎_elim (λ is. omega (arith, inv.most, is)) (λ is. omega (arith, is, c.block_at.ensures.chunk.most)) more.2;
    }

pub returns-clause-all : goal.returns-clause-all
returns-clause-all c =
    let blocks = blocks_of c.args.bytes.now c.args.ends.now in
    subst (All (λ (block : List ℕ). 33 + length block ≤ c.loop-block.longest)) (take_all c.loop-block.block blocks (omega (arith, c.loop-block-test.false, count_blocks 0 c.args.bytes.now c.args.ends.now))) c.loop-block.invariant.all
