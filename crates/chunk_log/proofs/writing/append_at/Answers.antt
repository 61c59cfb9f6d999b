use Rattle.std.proofs.Common.{rules, ◌∙◌, ℕ, List, [], ◌∷◌, ◌+◌, ap, arith, inl, inr}
use Rattle.std.proofs.lemmas.Result.{on_ok_weaker}
use Rattle.volume_disk.specs.Disk.{Images, Crash}
use Rattle.volume_disk.specs.Left.{OneWriteAt}
use Rattle.volume_disk.specs.Medium.{at_rest, written}
use Rattle.volume_disk.proofs.Moments.{weaker, leads_on}
use Rattle.chunk_log.specs.Bodies.{OneBodyMoreAt, SameBodiesAt}
use Rattle.chunk_log.proofs.Bodies.{frame_keeps, frame_leads, gate_leads, framed_behind, framed_log, appended}
use Rattle.chunk_log.proofs.writing.append_at.Goals as goal

pub returns-in_err-put_down-clause-appended : goal.returns-in_err-put_down-clause-appended
returns-in_err-put_down-clause-appended g c = λ honest.
    let rack = g.R.Rack in
    let old = rack.disk c.args.rack.now in
    let body = c.args.frame.now.body in
    let frame = c.behind_gate.result.now in
    record {
      others = (c.put_down.ensures.put_down honest).others;
      image = λ image rest. search rules;
      kept = λ image bodies room rest log. search rules;
      moments = λ image bodies room rest log.
          weaker rack.moment rack.left_since _ _ (λ x. (b : Images) × Crash old b × OneWriteAt c.args.device (c.args.gate + 1) frame b x) (λ x. (b : Images) × Crash old b × OneBodyMoreAt c.args.device bodies body c.args.gate b x)
          ((c.put_down.ensures.put_down honest).moments image rest (omega (arith, log.gate)))
          (λ x was. (was.0, was.1, frame_leads c.args.device c.args.gate image frame body bodies old was.0 x c.requires.device rest log was.1 was.2));
      until = λ image bodies rest log. inl (
        search rules,
        weaker rack.moment rack.left_since _ _ (λ x. (b : Images) × Crash old b × OneWriteAt c.args.device (c.args.gate + 1) frame b x) (λ x. (b : Images) × Crash old b × SameBodiesAt c.args.device bodies c.args.gate b x)
            ((c.put_down.ensures.put_down honest).moments image rest (omega (arith, log.gate)))
            (λ x was. (was.0, was.1, frame_keeps c.args.device c.args.gate image frame bodies old was.0 x c.requires.device rest log was.1 was.2)),
      );
    }

pub returns-clause-appended : goal.returns-clause-appended
returns-clause-appended g c = λ honest.
    let rack = g.R.Rack in
    let old = rack.disk c.args.rack.now in
    let mid = rack.disk c.put_down.new.rack in
    let body = c.args.frame.now.body in
    let frame = c.behind_gate.result.now in
    let honest_1 = c.put_down.ensures.honest ∙ honest in
    record {
      others = λ k out. (c.put_down-2.ensures.put_down honest_1).others k out ∙ (c.put_down.ensures.put_down honest).others k out;
      image = λ image rest.
          on_ok_weaker c.put_down-2.result (λ done. done ∙ ap (λ (l : List ℕ). at_rest (written (written image (c.args.gate + 1) l) c.args.gate (1 ∷ []))) c.behind_gate.ensures.bytes)
          ((c.put_down-2.ensures.put_down honest_1).rest (written image (c.args.gate + 1) frame) ((c.in_ok-put_down.ensures.put_down honest).rest image rest));
      kept = λ image bodies room rest log.
          let ready = framed_log image frame bodies c.args.gate log in
          let ready_image = written image (c.args.gate + 1) frame in
          let rest_1 = (c.in_ok-put_down.ensures.put_down honest).rest image rest in
          on_ok_weaker c.put_down-2.result (λ done. record {
            image = written ready_image c.args.gate (1 ∷ []);
            rest = done;
            log = appended ready_image body _ bodies c.args.gate ready (framed_behind image frame body c.args.gate log.gate c.behind_gate.ensures.bytes) c.requires.set c.behind_gate.ensures.most room;
          }) ((c.put_down-2.ensures.put_down honest_1).rest ready_image rest_1);
      moments = λ image bodies room rest log.
          let ready = framed_log image frame bodies c.args.gate log in
          let rest_1 = (c.in_ok-put_down.ensures.put_down honest).rest image rest in
          let ready_image = written image (c.args.gate + 1) frame in
          let behind = framed_behind image frame body c.args.gate log.gate c.behind_gate.ensures.bytes in
          leads_on rack.moment rack.left_since _ _ _ (Crash old) (Crash mid) (OneBodyMoreAt c.args.device bodies body c.args.gate) (OneWriteAt c.args.device c.args.gate (1 ∷ []))
          (λ t x le crash. g.met.R.Rack.counts_now _ t x honest_1 le crash)
          (weaker rack.moment rack.left_since _ _ (λ x. (b : Images) × Crash old b × OneWriteAt c.args.device (c.args.gate + 1) frame b x) (λ x. (b : Images) × Crash old b × OneBodyMoreAt c.args.device bodies body c.args.gate b x)
          ((c.put_down.ensures.put_down honest).moments image rest (omega (arith, log.gate)))
          (λ x was. (was.0, was.1, frame_leads c.args.device c.args.gate image frame body bodies old was.0 x c.requires.device rest log was.1 was.2)))
          ((c.put_down-2.ensures.put_down honest_1).moments ready_image rest_1 (omega (arith, ready.gate)))
          (λ b z x crash was one. gate_leads c.args.device c.args.gate ready_image body _ bodies mid b z x c.requires.device rest_1 ready behind c.requires.set c.behind_gate.ensures.most room crash was one);
      until = λ image bodies rest log. inr (
        c.put_down.new.rack,
        record {
          others = (c.put_down.ensures.put_down honest).others;
          image = λ i at. (c.in_ok-put_down.ensures.put_down honest).rest i at ∙ ap (λ (l : List ℕ). at_rest (written i (c.args.gate + 1) l)) c.behind_gate.ensures.bytes;
        },
        weaker rack.moment rack.left_since _ _ (λ x. (b : Images) × Crash old b × OneWriteAt c.args.device (c.args.gate + 1) frame b x) (λ x. (b : Images) × Crash old b × SameBodiesAt c.args.device bodies c.args.gate b x)
            ((c.put_down.ensures.put_down honest).moments image rest (omega (arith, log.gate)))
            (λ x was. (was.0, was.1, frame_keeps c.args.device c.args.gate image frame bodies old was.0 x c.requires.device rest log was.1 was.2)),
      );
    }
