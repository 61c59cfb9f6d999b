use Rattle.std.proofs.Common.{rules, ◌∙◌, ◌≤◌, length, sym, ap, subst, arith}
use Rattle.std.proofs.lemmas.Result.{on_ok_weaker}
use Rattle.volume_disk.specs.Medium.{Medium, at_rest}
use Rattle.volume_disk.specs.Disk.{Images, Crash}
use Rattle.volume_disk.proofs.Moments.{begins, leads_on}
use Rattle.volume_disk.proofs.Leads.{goes_on_same}
use Rattle.chunk_log.specs.Shutting.{IsGuarded, IsBlankAtRest, SameOrShut, closed_front}
use Rattle.chunk_log.proofs.Shutting.{guarded_blank, rest_short, still_shut, no_change}
use Rattle.chunk_log.proofs.retiring.empty_device.Goals as goal

pub returns-in_err-size-clause-empties : goal.returns-in_err-size-clause-empties
returns-in_err-size-clause-empties g c = λ honest.
    let rack = g.R.Rack in
    let device = c.args.device in
    let d = rack.disk c.args.rack.now in
    let P = λ (x : Images). (b : Images) × Crash d b × SameOrShut device b x in
    let start = begins rack.moment rack.left_since c.args.rack.now P (λ x left. (x, g.met.R.Rack.only_now _ x honest left, no_change device x)) in
    let one = goes_on_same rack.moment rack.left_since _ _ _ P _ _ (λ t x le crash. g.met.R.Rack.counts_now _ t x honest le crash) start (c.size.ensures.time honest) (c.size.ensures.same honest) in
    record { others = λ k out. c.size.ensures.same honest k; left = λ short. c.size.ensures.same honest; image = λ long. search rules; blank = search rules; moments = λ guarded. one }

pub returns-then-size-le1-clause-empties : goal.returns-then-size-le1-clause-empties
returns-then-size-le1-clause-empties g c = λ honest.
    let rack = g.R.Rack in
    let device = c.args.device in
    let d = rack.disk c.args.rack.now in
    let P = λ (x : Images). (b : Images) × Crash d b × SameOrShut device b x in
    let start = begins rack.moment rack.left_since c.args.rack.now P (λ x left. (x, g.met.R.Rack.only_now _ x honest left, no_change device x)) in
    let one = goes_on_same rack.moment rack.left_since _ _ _ P _ _ (λ t x le crash. g.met.R.Rack.counts_now _ t x honest le crash) start (c.size.ensures.time honest) (c.size.ensures.same honest) in
    let short : length (d device).image ≤ 1 = omega (arith, c.in_ok-size.ensures.value honest, c.if-size-le1.true) in
    record {
      others = λ k out. c.size.ensures.same honest k;
      left = λ short. c.size.ensures.same honest;
      image = λ long. absurd (omega (arith, long, short));
      blank = λ guarded. subst IsBlankAtRest (sym (c.size.ensures.same honest device)) (guarded_blank (d device) guarded short);
      moments = λ guarded. one;
    }

pub returns-in_err-shut_gate-clause-empties : goal.returns-in_err-shut_gate-clause-empties
returns-in_err-shut_gate-clause-empties g c = λ honest.
    let rack = g.R.Rack in
    let device = c.args.device in
    let d = rack.disk c.args.rack.now in
    let mid = rack.disk c.size.new.self in
    let P = λ (x : Images). (b : Images) × Crash d b × SameOrShut device b x in
    let start = begins rack.moment rack.left_since c.args.rack.now P (λ x left. (x, g.met.R.Rack.only_now _ x honest left, no_change device x)) in
    let one = goes_on_same rack.moment rack.left_since _ _ _ P _ _ (λ t x le crash. g.met.R.Rack.counts_now _ t x honest le crash) start (c.size.ensures.time honest) (c.size.ensures.same honest) in
    let honest_1 = c.size.ensures.honest ∙ honest in
    let same = c.size.ensures.same honest device in
    let shuts = c.shut_gate.ensures.shuts honest_1 in
    let long : 2 ≤ length (mid device).image = omega (arith, c.in_ok-size.ensures.value honest, c.if-size-le1.false, ap (λ (m : Medium). length m.image) same) in
    record {
      others = λ k out. shuts.others k out ∙ c.size.ensures.same honest k;
      left = λ short. absurd (omega (arith, short, c.in_ok-size.ensures.value honest, c.if-size-le1.false));
      image = λ long. search rules;
      blank = search rules;
      moments = λ guarded.
          leads_on rack.moment rack.left_since _ _ _ (Crash d) (Crash mid) (SameOrShut device) (SameOrShut device) (λ t x le crash. g.met.R.Rack.counts_now _ t x honest_1 le crash) one
          (shuts.moments (subst IsGuarded (sym same) guarded) long) (λ b z x crash was next. still_shut device b z x was next);
    }

pub returns-clause-empties : goal.returns-clause-empties
returns-clause-empties g c = λ honest.
    let rack = g.R.Rack in
    let device = c.args.device in
    let d = rack.disk c.args.rack.now in
    let mid = rack.disk c.size.new.self in
    let shut = rack.disk c.shut_gate.new.rack in
    let P = λ (x : Images). (b : Images) × Crash d b × SameOrShut device b x in
    let start = begins rack.moment rack.left_since c.args.rack.now P (λ x left. (x, g.met.R.Rack.only_now _ x honest left, no_change device x)) in
    let one = goes_on_same rack.moment rack.left_since _ _ _ P _ _ (λ t x le crash. g.met.R.Rack.counts_now _ t x honest le crash) start (c.size.ensures.time honest) (c.size.ensures.same honest) in
    let honest_1 = c.size.ensures.honest ∙ honest in
    let same = c.size.ensures.same honest device in
    let shuts = c.in_ok-shut_gate.ensures.shuts honest_1 in
    let long : 2 ≤ length (mid device).image = omega (arith, c.in_ok-size.ensures.value honest, c.if-size-le1.false, ap (λ (m : Medium). length m.image) same) in
    let honest_2 = c.shut_gate.ensures.honest ∙ honest_1 in
    let cuts = c.cut_to_gate.ensures.cuts honest_2 in
    record {
      others = λ k out. cuts.others k out ∙ shuts.others k out ∙ c.size.ensures.same honest k;
      left = λ short. absurd (omega (arith, short, c.in_ok-size.ensures.value honest, c.if-size-le1.false));
      image = λ _. on_ok_weaker c.cut_to_gate.result (λ done. done ∙ ap at_rest (shuts.front long ∙ ap (λ (m : Medium). closed_front m.image) same)) cuts.rest;
      blank = λ guarded. on_ok_weaker c.cut_to_gate.result (λ done. rest_short _ (shut device).image done) cuts.rest;
      moments = λ guarded.
          leads_on rack.moment rack.left_since _ _ _ (Crash d) (Crash shut) (SameOrShut device) (SameOrShut device) (λ t x le crash. g.met.R.Rack.counts_now _ t x honest_2 le crash)
          (leads_on rack.moment rack.left_since _ _ _ (Crash d) (Crash mid) (SameOrShut device) (SameOrShut device) (λ t x le crash. g.met.R.Rack.counts_now _ t x honest_1 le crash) one
          (shuts.moments (subst IsGuarded (sym same) guarded) long) (λ b z x crash was next. still_shut device b z x was next))
          (cuts.moments (shuts.shut (subst IsGuarded (sym same) guarded) long)) (λ b z x crash was next. still_shut device b z x was next);
    }
