use Rattle.std.proofs.Common.{◌≡◌, ◌<◌, List, ℕ, [], true, drop, length, refl, sym, ◌∙◌, subst, arith}
use Rattle.site_core.specs.Events.{Append}
use Rattle.seed_mover.specs.Through.{RunsTo}
use Rattle.seed_mover.specs.Putting.{blocks_of}
use Rattle.seed_mover.proofs.BlockLists.{count_blocks, names_many}
use Rattle.seed_mover.proofs.PutPlans.{ChunksSoFar, chunks_added, chunks_all, chunks_none}
use Rattle.seed_mover.proofs.PutSteps.{chunks_step, chunks_stopped, none_left, still_fresh}
use Rattle.seed_mover.proofs.Through.{begins_to}
use Rattle.seed_mover.proofs.site.Site.add_chunks.Goals as goal

pub loop-block-init : goal.loop-block-init
loop-block-init g c = record {
  count = refl;
  honest = refl;
  fresh = c.requires.fresh;
  done = [];
  so_far = chunks_none c.args.self.now (blocks_of c.args.bytes.now c.args.ends.now) c.requires.idle c.requires.fit c.requires.room;
  runs = λ honest. begins_to g.R.Rack.disk g.R.Rack.moment g.R.Rack.left_since c.args.rack.now c.args.self.now (λ y left. g.met.R.Rack.only_now _ y honest left);
}

pub loop-block-preserved : goal.loop-block-preserved
loop-block-preserved g c =
    let rack = g.R.Rack in
    let inv = c.loop-block.invariant in
    let k = c.loop-block.block in
    let blocks = blocks_of c.args.bytes.now c.args.ends.now in
    let inside : k < length blocks = omega (arith, c.loop-block-test.true, count_blocks 0 c.args.bytes.now c.args.ends.now) in
    let its = c.block_at.result.now in
    let e = c.in_default.ensures in
    let honest = rack.honest c.args.rack.now ≡ true in
    let step =
    chunks_step rack.moment rack.left_since rack.disk honest c.args.rack.now c.loop-block.rack c.add_chunk.new.rack c.args.self.now c.loop-block.self c.add_chunk.new.self blocks k inside inv.done inv.so_far inv.runs its c.block_at.ensures.bytes c.block_at.ensures.chunk
    (record { held = e.held; appends = e.appends; appended = λ lacking still. e.appended lacking (inv.honest ∙ still) }) in
    record {
      count = e.cause.kept (λ is. cc) ∙ inv.count;
      honest = e.honest ∙ inv.honest;
      fresh = still_fresh rack.moment rack.left_since rack.disk honest c.loop-block.rack c.add_chunk.new.rack c.loop-block.self c.add_chunk.new.self its inv.fresh (record { held = e.held; appends = e.appends; appended = λ lacking still. e.appended lacking (inv.honest ∙ still) });
      done = step.done;
      so_far = step.so_far;
      runs = step.runs;
    }

pub offset_bounds-names-block : goal.offset_bounds-names-block
offset_bounds-names-block g c = omega (arith, c.loop-block-test.true, c.requires.few)

pub bounds-names-block : goal.bounds-names-block
bounds-names-block g c = omega (arith, c.loop-block-test.true, names_many c.args.bytes.now c.args.ends.now c.args.names.now c.requires.names)

pub returns-in-Err-clause-added : goal.returns-in-Err-clause-added
returns-in-Err-clause-added g c = λ honest.
    let rack = g.R.Rack in
    let inv = c.loop-block.invariant in
    let k = c.loop-block.block in
    let blocks = blocks_of c.args.bytes.now c.args.ends.now in
    let inside : k < length blocks = omega (arith, c.loop-block-test.true, count_blocks 0 c.args.bytes.now c.args.ends.now) in
    let e = c.in-Err.ensures in
    (chunks_stopped rack.moment rack.left_since rack.disk (rack.honest c.args.rack.now ≡ true) c.args.rack.now c.loop-block.rack c.add_chunk.new.rack c.args.self.now c.loop-block.self c.add_chunk.new.self blocks k inside inv.done inv.so_far inv.runs c.block_at.result.now c.block_at.ensures.bytes
    c.block_at.ensures.chunk c.in-Err.error (record { held = e.held; appends = e.appends; appended = λ lacking still. e.appended lacking (inv.honest ∙ still) })).1 honest

pub returns-clause-adds : goal.returns-clause-adds
returns-clause-adds g c =
    let inv = c.loop-block.invariant in
    let blocks = blocks_of c.args.bytes.now c.args.ends.now in
    let all : drop c.loop-block.block blocks ≡ [] = none_left c.loop-block.block blocks (omega (arith, c.loop-block-test.false, count_blocks 0 c.args.bytes.now c.args.ends.now)) in
    chunks_added c.args.self.now c.loop-block.self blocks inv.done (subst (λ (l : List (List ℕ)). ChunksSoFar c.args.self.now c.loop-block.self blocks l inv.done) all inv.so_far)

pub returns-clause-added : goal.returns-clause-added
returns-clause-added g c = λ honest.
    let rack = g.R.Rack in
    let old = c.args.rack.now in
    let new = c.loop-block.rack in
    let v = c.args.self.now in
    let u = c.loop-block.self in
    let inv = c.loop-block.invariant in
    let blocks = blocks_of c.args.bytes.now c.args.ends.now in
    let all : drop c.loop-block.block blocks ≡ [] = none_left c.loop-block.block blocks (omega (arith, c.loop-block-test.false, count_blocks 0 c.args.bytes.now c.args.ends.now)) in
    subst (λ (p : List Append). RunsTo rack.disk rack.moment rack.left_since old new v u p) (sym (chunks_all v u blocks inv.done (subst (λ (l : List (List ℕ)). ChunksSoFar v u blocks l inv.done) all inv.so_far))) (inv.runs honest)
