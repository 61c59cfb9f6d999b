use Rattle.std.proofs.Common.{◌≡◌, ◌∙◌, ◌++◌, ℕ, List, length, sym, ap, arith}
use Rattle.std.proofs.lemmas.Result.{on_ok_weaker}
use Rattle.volume_disk.specs.Medium.{Medium}
use Rattle.volume_disk.specs.Disk.{Images, Crash}
use Rattle.volume_disk.proofs.Moments.{begins, goes_on}
use Rattle.chunk_log.specs.HalfWriting.{shut_blocks}
use Rattle.chunk_log.specs.Shutting.{SameOrShut}
use Rattle.chunk_log.proofs.Shutting.{shut_writes, shut_leads, no_change}
use Rattle.chunk_log.proofs.HalfBlocks.{written_end, first_block, next_block}
use Rattle.chunk_log.proofs.half_writer.put_block.Goals as goal

pub returns-then-end-eq0-clause-puts : goal.returns-then-end-eq0-clause-puts
returns-then-end-eq0-clause-puts g c = λ honest.
    let rack = g.R.Rack in
    let device = c.args.device in
    let d = rack.disk c.args.rack.now in
    let e = rack.disk c.write.new.self in
    let bytes = c.first_block.result.now in
    let P = λ (x : Images). (b : Images) × Crash d b × SameOrShut device b x in
    let writes = c.write.ensures.disk honest in
    record {
      others = writes.others;
      more = λ bodies image ends.
          let block = first_block bodies c.args.frame.now.body (omega (arith, ends, c.if-end-eq0.true)) in
          let place : 1 ≡ length (d device).image = omega (arith, block.0, ap length image) in
          on_ok_weaker c.write.result (λ done. ap (λ (m : Medium). m.image) done ∙ written_end (d device).image 1 bytes place ∙ ap (λ (l : List ℕ). l ++ bytes) image ∙ ap (λ (l : List ℕ). shut_blocks bodies ++ l) c.first_block.ensures ∙ sym block.1) writes.ok;
      shut = λ shut. shut_writes device 1 bytes d e c.write.result (omega arith) writes shut;
      moments = λ shut.
          goes_on rack.moment rack.left_since _ _ _ P _ (begins rack.moment rack.left_since c.args.rack.now P (λ x left. (x, g.met.R.Rack.only_now _ x honest left, no_change device x))) (c.write.ensures.time honest)
          (λ x crash. shut_leads device d e x c.requires.device (g.met.R.Rack.reads_alike _ device honest) writes.others (shut_writes device 1 bytes d e c.write.result (omega arith) writes shut) crash);
    }

pub returns-clause-puts : goal.returns-clause-puts
returns-clause-puts g c = λ honest.
    let rack = g.R.Rack in
    let device = c.args.device in
    let d = rack.disk c.args.rack.now in
    let e = rack.disk c.write-2.new.self in
    let bytes = c.block.result.now in
    let P = λ (x : Images). (b : Images) × Crash d b × SameOrShut device b x in
    let writes = c.write-2.ensures.disk honest in
    record {
      others = writes.others;
      more = λ bodies image ends.
          let block = next_block bodies c.args.frame.now.body (omega (arith, ends, c.if-end-eq0.false)) in
          let place : c.args.end ≡ length (d device).image = omega (arith, ends, block.0, ap length image) in
          on_ok_weaker c.write-2.result (λ done. ap (λ (m : Medium). m.image) done ∙ written_end (d device).image c.args.end bytes place ∙ ap (λ (l : List ℕ). l ++ bytes) image ∙ ap (λ (l : List ℕ). shut_blocks bodies ++ l) c.block.ensures ∙ sym block.1) writes.ok;
      shut = λ shut. shut_writes device c.args.end bytes d e c.write-2.result (omega (arith, c.if-end-eq0.false)) writes shut;
      moments = λ shut.
          goes_on rack.moment rack.left_since _ _ _ P _ (begins rack.moment rack.left_since c.args.rack.now P (λ x left. (x, g.met.R.Rack.only_now _ x honest left, no_change device x))) (c.write-2.ensures.time honest)
          (λ x crash. shut_leads device d e x c.requires.device (g.met.R.Rack.reads_alike _ device honest) writes.others (shut_writes device c.args.end bytes d e c.write-2.result (omega (arith, c.if-end-eq0.false)) writes shut) crash);
    }
