use Rattle.std.proofs.Common.{rules, ◌∙◌, length, ap, sym, arith}
use Rattle.volume_disk.specs.Medium.{Medium, at_rest}
use Rattle.chunk_log.specs.LogValues.{LogValue}
use Rattle.chunk_log.specs.Shutting.{closed_front}
use Rattle.chunk_log.proofs.NewRecords.{beside_old, beside_apart, passes_new}
use Rattle.chunk_log.proofs.switching.switch_halves.Goals as goal

pub returns-in_err-log-clause-switches : goal.returns-in_err-log-clause-switches
returns-in_err-log-clause-switches g c = λ honest.
    let finishes = c.finish.ensures.finishes honest in
    record {
      others = λ other away out. finishes.others other away;
      image = λ bodies beside writing. search rules;
      stands = λ place number records live log beside is stands writing stronger. search rules;
      retired = λ beside long. search rules;
      blank = λ place number records live log beside is stands writing stronger. search rules;
      moments = λ place number records live log beside is stands writing stronger. finishes.moments place number records live log beside stands writing stronger;
    }

pub returns-in_err-retire-clause-switches : goal.returns-in_err-retire-clause-switches
returns-in_err-retire-clause-switches g c = λ honest.
    let rack = g.R.Rack in
    let honest_1 = c.finish.ensures.honest ∙ honest in
    let finishes = c.in_ok-log.ensures.finishes honest in
    let retired = c.retire.ensures.retired honest_1 in
    let device = ap (λ (v : LogValue). v.device) c.in_ok-log.ensures.log in
    record {
      others = λ other away out. retired.others other out ∙ finishes.others other away;
      image = λ bodies beside writing. search rules;
      stands = λ place number records live log beside is stands writing stronger. search rules;
      retired = λ beside long. search rules;
      blank = λ place number records live log beside is stands writing stronger. search rules;
      moments = λ place number records live log beside is stands writing stronger.
          passes_new rack.moment rack.left_since place live c.args.rack.now c.finish.new.rack c.retire.new.rack (rack.disk c.args.rack.now) (rack.disk c.finish.new.rack) (λ t x le crash. g.met.R.Rack.counts_now _ t x honest_1 le crash) stands.is_place
          (finishes.moments place number records live log beside stands writing stronger)
          (retired.moments place live c.in_ok-log.log (beside_old c.args.writer.device c.args.old log.device c.in_ok-log.log.device beside is device) (finishes.stands place number records live log beside stands writing stronger));
    }

pub returns-clause-switches : goal.returns-clause-switches
returns-clause-switches g c = λ honest.
    let rack = g.R.Rack in
    let honest_1 = c.finish.ensures.honest ∙ honest in
    let finishes = c.in_ok-log.ensures.finishes honest in
    let retired = c.in_ok-retire.ensures.retired honest_1 in
    let device = ap (λ (v : LogValue). v.device) c.in_ok-log.ensures.log in
    record {
      others = λ other away out. retired.others other out ∙ finishes.others other away;
      image = λ bodies beside writing. retired.others c.args.writer.device (beside_apart c.args.writer.device c.args.old beside) ∙ finishes.image bodies writing;
      stands = λ place number records live log beside is stands writing stronger.
          retired.kept place live c.in_ok-log.log (beside_old c.args.writer.device c.args.old log.device c.in_ok-log.log.device beside is device) (finishes.stands place number records live log beside stands writing stronger);
      retired = λ beside long.
          let same = finishes.others c.args.old (λ is. beside_apart c.args.writer.device c.args.old beside (sym is)) in
          retired.image (omega (arith, long, ap (λ (m : Medium). length m.image) same)) ∙ ap (λ (m : Medium). at_rest (closed_front m.image)) same;
      blank = λ place number records live log beside is stands writing stronger.
          retired.blank place live c.in_ok-log.log (beside_old c.args.writer.device c.args.old log.device c.in_ok-log.log.device beside is device) (finishes.stands place number records live log beside stands writing stronger);
      moments = λ place number records live log beside is stands writing stronger.
          passes_new rack.moment rack.left_since place live c.args.rack.now c.finish.new.rack c.retire.new.rack (rack.disk c.args.rack.now) (rack.disk c.finish.new.rack) (λ t x le crash. g.met.R.Rack.counts_now _ t x honest_1 le crash) stands.is_place
          (finishes.moments place number records live log beside stands writing stronger)
          (retired.moments place live c.in_ok-log.log (beside_old c.args.writer.device c.args.old log.device c.in_ok-log.log.device beside is device) (finishes.stands place number records live log beside stands writing stronger));
    }
