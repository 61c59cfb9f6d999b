use Rattle.std.proofs.Common.{rules, ◌∙◌, ◌≤◌, ◌<◌, ◌^◌, ◌∷◌, [], Ok, inl, inr, sym, ap, subst, arith}
use Rattle.volume_disk.specs.declared.rack.RackError.{RackError}
use Rattle.chunk_log.specs.LogValues.{LogValue}
use Rattle.chunk_log.specs.PuttingDown.{PutDown}
use Rattle.chunk_log.specs.Standing.{LogStands}
use Rattle.chunk_log.proofs.HalfBlocks.{half_written, same_first, same_ending, ends_shut, same_or_new, new_log}
use Rattle.chunk_log.proofs.half_writer.HalfWriter.finish.Goals as goal

pub returns-in_err-put_down-clause-finishes : goal.returns-in_err-put_down-clause-finishes
returns-in_err-put_down-clause-finishes g c = λ honest.
    let rack = g.R.Rack in
    let d = rack.disk c.args.rack.now in
    let m = rack.disk c.put_down.new.rack in
    let writer = c.args.self in
    let first = subst (λ (v : LogValue). PutDown rack.moment rack.left_since c.args.rack.now c.put_down.new.rack d m v.device v.end (0 ∷ []) c.put_down.result) c.self.view_is (c.put_down.ensures.put_down honest) in
    let is_device : writer.device ≤ 5 = omega (arith, c.self.invariant.device, ap (λ (v : LogValue). v.device) c.self.view_is) in
    record {
      others = first.others;
      image = λ bodies writing. search rules;
      stands = λ place number records live log beside stands writing stronger. search rules;
      moments = λ place number records live log beside stands writing stronger.
          same_first rack.moment rack.left_since writer is_device c.requires place number records live log beside c.args.rack.now c.put_down.new.rack d m c.put_down.result first stands writing;
      until = λ place number records live log beside stands writing.
          inl (search rules, same_ending rack.moment rack.left_since writer is_device c.requires place number records live log beside c.args.rack.now c.put_down.new.rack d m c.put_down.result first stands writing);
    }

pub returns-in_err-put_down-2-clause-finishes : goal.returns-in_err-put_down-2-clause-finishes
returns-in_err-put_down-2-clause-finishes g c = λ honest.
    let rack = g.R.Rack in
    let d = rack.disk c.args.rack.now in
    let m = rack.disk c.put_down.new.rack in
    let e = rack.disk c.put_down-2.new.rack in
    let writer = c.args.self in
    let honest_1 = c.put_down.ensures.honest ∙ honest in
    let first = subst (λ (v : LogValue). PutDown rack.moment rack.left_since c.args.rack.now c.put_down.new.rack d m {E = RackError} v.device v.end (0 ∷ []) (Ok tt)) c.self.view_is (c.in_ok-put_down.ensures.put_down honest) in
    let second = subst (λ (v : LogValue). PutDown rack.moment rack.left_since c.put_down.new.rack c.put_down-2.new.rack m e v.device 0 (1 ∷ []) c.put_down-2.result) c.self.view_is (c.put_down-2.ensures.put_down honest_1) in
    let is_device : writer.device ≤ 5 = omega (arith, c.self.invariant.device, ap (λ (v : LogValue). v.device) c.self.view_is) in
    let below : writer.end < 2 ^ 40 = omega (arith, c.self.invariant.below, ap (λ (v : LogValue). v.end) c.self.view_is) in
    record {
      others = λ k out. second.others k out ∙ first.others k out;
      image = λ bodies writing. search rules;
      stands = λ place number records live log beside stands writing stronger. search rules;
      moments = λ place number records live log beside stands writing stronger.
          same_or_new rack.moment rack.left_since writer is_device c.requires place number records live log beside c.args.rack.now c.put_down.new.rack c.put_down-2.new.rack d m e first stands writing stronger below c.put_down-2.result second
          (λ t x le crash. g.met.R.Rack.counts_now _ t x honest_1 le crash);
      until = λ place number records live log beside stands writing. inr (
        c.put_down.new.rack,
        ends_shut rack.moment rack.left_since writer is_device c.requires place number records live log beside c.args.rack.now c.put_down.new.rack d m first writing,
        same_ending rack.moment rack.left_since writer is_device c.requires place number records live log beside c.args.rack.now c.put_down.new.rack d m (Ok tt) first stands writing,
      );
    }

pub returns-clause-finishes : goal.returns-clause-finishes
returns-clause-finishes g c = λ honest.
    let rack = g.R.Rack in
    let d = rack.disk c.args.rack.now in
    let m = rack.disk c.put_down.new.rack in
    let e = rack.disk c.put_down-2.new.rack in
    let writer = c.args.self in
    let honest_1 = c.put_down.ensures.honest ∙ honest in
    let first = subst (λ (v : LogValue). PutDown rack.moment rack.left_since c.args.rack.now c.put_down.new.rack d m {E = RackError} v.device v.end (0 ∷ []) (Ok tt)) c.self.view_is (c.in_ok-put_down.ensures.put_down honest) in
    let second = subst (λ (v : LogValue). PutDown rack.moment rack.left_since c.put_down.new.rack c.put_down-2.new.rack m e {E = RackError} v.device 0 (1 ∷ []) (Ok tt)) c.self.view_is (c.in_ok-put_down-2.ensures.put_down honest_1) in
    let is_device : writer.device ≤ 5 = omega (arith, c.self.invariant.device, ap (λ (v : LogValue). v.device) c.self.view_is) in
    let below : writer.end < 2 ^ 40 = omega (arith, c.self.invariant.below, ap (λ (v : LogValue). v.end) c.self.view_is) in
    record {
      others = λ k out. second.others k out ∙ first.others k out;
      image = λ bodies writing. half_written writer bodies (d writer.device) (m writer.device) (e writer.device) c.requires writing first.lasts second.lasts;
      stands = λ place number records live log beside stands writing stronger.
          subst (λ (l : LogValue). LogStands place live l e) (sym (c.at.ensures ∙ c.self.view_is))
          (new_log rack.moment rack.left_since writer is_device c.requires place number records live log beside c.args.rack.now c.put_down.new.rack c.put_down-2.new.rack d m e first stands writing stronger below second);
      moments = λ place number records live log beside stands writing stronger.
          same_or_new rack.moment rack.left_since writer is_device c.requires place number records live log beside c.args.rack.now c.put_down.new.rack c.put_down-2.new.rack d m e first stands writing stronger below (Ok tt) second
          (λ t x le crash. g.met.R.Rack.counts_now _ t x honest_1 le crash);
      until = λ place number records live log beside stands writing. inr (
        c.put_down.new.rack,
        ends_shut rack.moment rack.left_since writer is_device c.requires place number records live log beside c.args.rack.now c.put_down.new.rack d m first writing,
        same_ending rack.moment rack.left_since writer is_device c.requires place number records live log beside c.args.rack.now c.put_down.new.rack d m (Ok tt) first stands writing,
      );
    }
