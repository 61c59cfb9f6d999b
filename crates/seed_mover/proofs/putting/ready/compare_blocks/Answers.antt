use Rattle.std.proofs.Common.{◌≡◌, ◌<◌, ℕ, List, [], length, get_or, refl, ◌∙◌, ap, subst, arith}
use Rattle.std.specs.Prelude.{Ok, Err, nat_lt}
use Rattle.device_pieces.proofs.Quiets.{quiet_begins, quiet_then}
use Rattle.site_forms.specs.Volumes.{empty_volume}
use Rattle.chunk_volume.proofs.Writing.{stands_quiet}
use Rattle.seed_mover.specs.PutParts.{Compares}
use Rattle.seed_mover.specs.Putting.{blocks_of}
use Rattle.seed_mover.proofs.BlockLists.{count_blocks}
use Rattle.seed_mover.proofs.PutCompared.{compares_refused, finds_refused, kept_all, kept_more, kept_none}
use Rattle.seed_mover.proofs.PutSteps.{as_found, first_inside, name_told, place_less, place_told}
use Rattle.seed_mover.proofs.putting.ready.compare_blocks.Goals as goal

pub loop-block-init : goal.loop-block-init
loop-block-init g c =
    let rack = g.R.Rack in
    record {
      count = refl;
      honest = refl;
      quiet = λ honest. quiet_begins rack.moment rack.left_since c.args.rack.now (rack.disk c.args.rack.now) (λ x left. g.met.R.Rack.only_now _ x honest left);
      kept = λ place a honest stands. kept_none a (blocks_of c.args.bytes.now c.args.ends.now);
    }

pub loop-block-preserved : goal.loop-block-preserved
loop-block-preserved g c =
    let rack = g.R.Rack in
    let inv = c.loop-block.invariant in
    let k = c.loop-block.block in
    let blocks = blocks_of c.args.bytes.now c.args.ends.now in
    let names = c.args.names.now in
    let firsts = c.args.firsts.now in
    let inside : k < length blocks = omega (arith, c.loop-block-test.true, count_blocks 0 c.args.bytes.now c.args.ends.now) in
    let d = rack.disk c.args.rack.now in
    let m = rack.disk c.loop-block.rack in
    record {
      count = c.in_default.ensures.cause.kept (λ is. cc) ∙ inv.count;
      honest = c.in_default.ensures.honest ∙ inv.honest;
      quiet = λ honest. quiet_then rack.moment rack.left_since c.args.rack.now c.loop-block.rack c.compare_block.new.rack _ _ _ (λ t x le crash. g.met.R.Rack.counts_now _ t x (inv.honest ∙ honest) le crash) (inv.quiet honest) (c.in_default.ensures.quiet (inv.honest ∙ honest));
      kept = λ place a honest stands.
          kept_more a blocks k inside (inv.kept place a honest stands)
          (as_found a blocks k (get_or firsts k 0) (get_or names k []) c.block_at-own.result.now c.block_at-kept.result.now (nat_lt (get_or firsts k 0) k) (Ok tt)
          (name_told blocks names k inside c.requires.names) c.block_at-own.ensures.bytes (place_told blocks names k inside c.requires.names firsts c.requires.firsts) c.block_at-kept.ensures.bytes
          (ap (λ (n : ℕ). nat_lt n k) (place_told blocks names k inside c.requires.names firsts c.requires.firsts))
          (c.in_default.ensures.finds place a (inv.honest ∙ honest) (stands_quiet place c.args.volume.now a d m (inv.quiet honest).same stands)));
    }

pub bounds-firsts-block : goal.bounds-firsts-block
bounds-firsts-block g c =
    let blocks = blocks_of c.args.bytes.now c.args.ends.now in
    first_inside blocks c.args.names.now c.loop-block.block (omega (arith, c.loop-block-test.true, count_blocks 0 c.args.bytes.now c.args.ends.now)) c.requires.names c.args.firsts.now c.requires.firsts

pub block_at-kept-requires-clause-there : goal.block_at-kept-requires-clause-there
block_at-kept-requires-clause-there g c =
    let blocks = blocks_of c.args.bytes.now c.args.ends.now in
    let inside : c.loop-block.block < length blocks = omega (arith, c.loop-block-test.true, count_blocks 0 c.args.bytes.now c.args.ends.now) in
    omega (arith, place_less blocks c.args.names.now c.loop-block.block inside c.requires.names c.args.firsts.now c.requires.firsts, count_blocks 0 c.args.bytes.now c.args.ends.now)

pub returns-in-Err-clause-compares : goal.returns-in-Err-clause-compares
returns-in-Err-clause-compares g c =
    let v = c.args.volume.now in
    let k = c.loop-block.block in
    let blocks = blocks_of c.args.bytes.now c.args.ends.now in
    let inside : k < length blocks = omega (arith, c.loop-block-test.true, count_blocks 0 c.args.bytes.now c.args.ends.now) in
    compares_refused empty_volume blocks k inside v c.in-Err.error
    (subst (λ (n : List ℕ). Compares v (λ chunk. chunk ≡ n) (Err c.in-Err.error)) (name_told blocks c.args.names.now k inside c.requires.names) c.in-Err.ensures.compares)

pub returns-in-Err-clause-finds : goal.returns-in-Err-clause-finds
returns-in-Err-clause-finds g c = λ place a honest stands.
    let rack = g.R.Rack in
    let inv = c.loop-block.invariant in
    let k = c.loop-block.block in
    let blocks = blocks_of c.args.bytes.now c.args.ends.now in
    let names = c.args.names.now in
    let firsts = c.args.firsts.now in
    let inside : k < length blocks = omega (arith, c.loop-block-test.true, count_blocks 0 c.args.bytes.now c.args.ends.now) in
    finds_refused a blocks k inside c.in-Err.error (inv.kept place a honest stands)
    (as_found a blocks k (get_or firsts k 0) (get_or names k []) c.block_at-own.result.now c.block_at-kept.result.now (nat_lt (get_or firsts k 0) k) (Err c.in-Err.error)
    (name_told blocks names k inside c.requires.names) c.block_at-own.ensures.bytes (place_told blocks names k inside c.requires.names firsts c.requires.firsts) c.block_at-kept.ensures.bytes
    (ap (λ (n : ℕ). nat_lt n k) (place_told blocks names k inside c.requires.names firsts c.requires.firsts))
    (c.in-Err.ensures.finds place a (inv.honest ∙ honest) (stands_quiet place c.args.volume.now a (rack.disk c.args.rack.now) (rack.disk c.loop-block.rack) (inv.quiet honest).same stands)))

pub returns-clause-finds : goal.returns-clause-finds
returns-clause-finds g c = λ place a honest stands.
    kept_all a (blocks_of c.args.bytes.now c.args.ends.now) c.loop-block.block (omega (arith, c.loop-block-test.false, count_blocks 0 c.args.bytes.now c.args.ends.now)) (c.loop-block.invariant.kept place a honest stands)
