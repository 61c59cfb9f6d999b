use Rattle.std.proofs.Common.{rules, ◌≡◌, ◌≢◌, ◌∙◌, ◌≤◌, [], ◌∷◌, length, take, sym, ap, subst, arith}
use Rattle.std.specs.Prelude.{slice_index}
use Rattle.std.proofs.lemmas.Result.{on_ok_weaker}
use Rattle.volume_disk.specs.Medium.{Medium, written}
use Rattle.volume_disk.specs.Disk.{Images, Crash}
use Rattle.volume_disk.specs.Left.{OneWriteAt}
use Rattle.volume_disk.proofs.Moments.{begins, leads_on}
use Rattle.volume_disk.proofs.Leads.{goes_on_same}
use Rattle.chunk_log.specs.Shutting.{IsShut, SameOrShut}
use Rattle.chunk_log.proofs.Shutting.{read_gate, gate_closed, gate_stays, guarded_open, guarded_shut, gate_shuts, gate_written, shut_at_rest, still_shut, no_change}
use Rattle.chunk_log.proofs.retiring.shut_gate.Goals as goal

pub returns-in_err-read-clause-shuts : goal.returns-in_err-read-clause-shuts
returns-in_err-read-clause-shuts g c = λ honest.
    let rack = g.R.Rack in
    let device = c.args.device in
    let d = rack.disk c.args.rack.now in
    let P = λ (x : Images). (b : Images) × Crash d b × SameOrShut device b x in
    let start = begins rack.moment rack.left_since c.args.rack.now P (λ x left. (x, g.met.R.Rack.only_now _ x honest left, no_change device x)) in
    let one = goes_on_same rack.moment rack.left_since _ _ _ P _ _ (λ t x le crash. g.met.R.Rack.counts_now _ t x honest le crash) start (c.read.ensures.time honest) (c.read.ensures.same honest) in
    record { others = λ k out. c.read.ensures.same honest k; shut = search rules; front = λ long. search rules; moments = λ guarded long. one }

pub returns-then-gate-eq1-clause-shuts : goal.returns-then-gate-eq1-clause-shuts
returns-then-gate-eq1-clause-shuts g c = λ honest.
    let rack = g.R.Rack in
    let device = c.args.device in
    let d = rack.disk c.args.rack.now in
    let mid = rack.disk c.read.new.self in
    let image = (d device).image in
    let P = λ (x : Images). (b : Images) × Crash d b × SameOrShut device b x in
    let start = begins rack.moment rack.left_since c.args.rack.now P (λ x left. (x, g.met.R.Rack.only_now _ x honest left, no_change device x)) in
    let one = goes_on_same rack.moment rack.left_since _ _ _ P _ _ (λ t x le crash. g.met.R.Rack.counts_now _ t x honest le crash) start (c.read.ensures.time honest) (c.read.ensures.same honest) in
    let honest_1 = c.read.ensures.honest ∙ honest in
    let same = c.read.ensures.same honest device in
    let gate : 2 ≤ length image → slice_index image 0 ≡ 1 = λ long. sym (read_gate image c.read.new.into c.in_ok-read.field-0 (c.in_ok-read.ensures.bytes honest) (omega arith) (omega (arith, long))) ∙ c.if-gate-eq1.true in
    let put = c.put_down.ensures.put_down honest_1 in
    record {
      others = λ k out. put.others k out ∙ c.read.ensures.same honest k;
      shut = λ guarded long.
          let rest = same ∙ guarded_open (d device) (g.met.R.Rack.reads_alike _ device honest) guarded (gate long) in
          let new_image = gate_written image (omega (arith, long)) in
          on_ok_weaker c.put_down.result (λ done. subst IsShut (sym done) (shut_at_rest (written image 0 (0 ∷ [])) new_image.0 new_image.1)) (put.rest image rest);
      front = λ long. on_ok_weaker c.put_down.result (λ done. ap (λ (m : Medium). take 1 m.image) done ∙ ap (λ (m : Medium). take 1 (written m.image 0 (0 ∷ []))) same ∙ gate_closed image (gate long)) put.lasts;
      moments = λ guarded long.
          let rest = same ∙ guarded_open (d device) (g.met.R.Rack.reads_alike _ device honest) guarded (gate long) in
          leads_on rack.moment rack.left_since _ _ _ (Crash d) (Crash mid) (SameOrShut device) (OneWriteAt device 0 (0 ∷ [])) (λ t x le crash. g.met.R.Rack.counts_now _ t x honest_1 le crash) one (put.moments image rest (omega arith))
          (λ b z x crash was write. still_shut device b z x was (gate_shuts device image mid z x c.requires rest (omega (arith, long)) (gate long) crash write));
    }

pub returns-clause-shuts : goal.returns-clause-shuts
returns-clause-shuts g c = λ honest.
    let rack = g.R.Rack in
    let device = c.args.device in
    let d = rack.disk c.args.rack.now in
    let image = (d device).image in
    let P = λ (x : Images). (b : Images) × Crash d b × SameOrShut device b x in
    let start = begins rack.moment rack.left_since c.args.rack.now P (λ x left. (x, g.met.R.Rack.only_now _ x honest left, no_change device x)) in
    let one = goes_on_same rack.moment rack.left_since _ _ _ P _ _ (λ t x le crash. g.met.R.Rack.counts_now _ t x honest le crash) start (c.read.ensures.time honest) (c.read.ensures.same honest) in
    record {
      others = λ k out. c.read.ensures.same honest k;
      shut = λ guarded long.
          let closed : slice_index image 0 ≢ 1 = λ is_open. c.if-gate-eq1.false (read_gate image c.read.new.into c.in_ok-read.field-0 (c.in_ok-read.ensures.bytes honest) (omega arith) (omega (arith, long)) ∙ is_open) in
          subst IsShut (sym (c.read.ensures.same honest device)) (guarded_shut (d device) guarded (omega (arith, long)) closed);
      front = λ long.
          let closed : slice_index image 0 ≢ 1 = λ is_open. c.if-gate-eq1.false (read_gate image c.read.new.into c.in_ok-read.field-0 (c.in_ok-read.ensures.bytes honest) (omega arith) (omega (arith, long)) ∙ is_open) in
          ap (λ (m : Medium). take 1 m.image) (c.read.ensures.same honest device) ∙ gate_stays image (omega (arith, long)) closed;
      moments = λ guarded long. one;
    }
