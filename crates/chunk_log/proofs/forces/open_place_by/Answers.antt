use Rattle.std.proofs.Common.{◌∙◌, ◌+◌, refl}
use Rattle.volume_disk.specs.Disk.{Images, Crash}
use Rattle.volume_disk.proofs.Moments.{weaker, leads_on}
use Rattle.site_forms.specs.Halves.{SameRecords}
use Rattle.chunk_log.proofs.PlaceHalves.{refused_handed, handed_answer, opened_place, opened_answer, not_the_half}
use Rattle.chunk_log.proofs.HalfLogs.{half_opened, half_handed}
use Rattle.chunk_log.proofs.Resting.{rests_opened, rests_handed}
use Rattle.chunk_log.proofs.forces.open_place_by.Goals as goal

pub returns-in_err-half-clause-opened : goal.returns-in_err-half-clause-opened
returns-in_err-half-clause-opened g c = λ honest.
    let rack = g.R.Rack in
    let d = rack.disk c.args.rack.now in
    let found = c.in_err-half.ensures.found honest in
    record {
      others = found.others;
      log = refused_handed d (rack.disk c.in_force.new.rack) c.args.place c.in_err-half.field-0.0 c.from_residual.result c.from_residual.ensures.1 c.in_err-half.ensures.named found.is;
      rest = rests_handed c.args.place (rack.disk c.in_force.new.rack) c.from_residual.result c.in_err-half.field-0.0 c.from_residual.ensures.1;
      moments = weaker rack.moment rack.left_since _ _ (Crash d) (λ x. (b : Images) × Crash d b × SameRecords b x) found.moments (λ x crash. (x, crash, λ place is_place. refl));
    }

pub returns-clause-opened : goal.returns-clause-opened
returns-clause-opened g c = λ honest.
    let rack = g.R.Rack in
    let place = c.args.place in
    let d = rack.disk c.args.rack.now in
    let m = rack.disk c.in_force.new.rack in
    let honest_1 = c.in_force.ensures.honest ∙ honest in
    let found = c.in_ok-half.ensures.found honest in
    let opened = c.open_by.ensures.opened honest_1 in
    record {
      others = λ other out away. opened.others other (not_the_half found.is.half place c.in_ok-half.half.0 other found.is.here out away) ∙ found.others other out away;
      log = opened_place found.is.half place c.in_ok-half.half.0 c.args.limit d m (rack.disk c.open_by.new.rack) c.open_by.result c.requires.place found.is.here found.is.is found.first found.second opened.others c.open_by.ensures.answers opened.opens;
      rest = rests_opened found.is.half place c.in_ok-half.half.0 m (rack.disk c.open_by.new.rack) (d place).image (d (place + 3)).image c.open_by.result found.is.here found.first found.second opened.others opened.opens;
      moments = leads_on rack.moment rack.left_since _ _ _ (Crash d) (Crash m) SameRecords SameRecords (λ t x le crash. g.met.R.Rack.counts_now _ t x honest_1 le crash)
          (weaker rack.moment rack.left_since _ _ (Crash d) (λ x. (b : Images) × Crash d b × SameRecords b x) found.moments (λ x crash. (x, crash, λ k is_k. refl)))
          opened.moments (λ b z x crash was one k is_k. one k is_k ∙ was k is_k);
    }

pub returns-in_err-half-clause-answers : goal.returns-in_err-half-clause-answers
returns-in_err-half-clause-answers g c = handed_answer c.args.place c.args.limit c.in_err-half.field-0.0 c.from_residual.result c.from_residual.ensures.1 c.in_err-half.ensures.named

pub returns-clause-answers : goal.returns-clause-answers
returns-clause-answers g c = opened_answer c.args.place c.args.limit c.in_ok-half.half.0 c.open_by.result c.in_ok-half.ensures.named c.open_by.ensures.answers

pub returns-in_err-half-clause-half : goal.returns-in_err-half-clause-half
returns-in_err-half-clause-half g c = λ honest.
    let rack = g.R.Rack in
    half_handed (rack.disk c.args.rack.now) (rack.disk c.in_force.new.rack) c.args.place c.in_err-half.field-0.0 c.from_residual.result c.from_residual.ensures.1 c.in_err-half.ensures.named (c.in_err-half.ensures.found honest).is

pub returns-clause-half : goal.returns-clause-half
returns-clause-half g c = λ honest.
    let rack = g.R.Rack in
    let place = c.args.place in
    let d = rack.disk c.args.rack.now in
    let m = rack.disk c.in_force.new.rack in
    let found = c.in_ok-half.ensures.found honest in
    let opened = c.open_by.ensures.opened (c.in_force.ensures.honest ∙ honest) in
    half_opened place c.in_ok-half.half.0 c.args.limit d m (rack.disk c.open_by.new.rack) c.requires.place found.is.half c.open_by.result found.is.here found.is.is found.first found.second opened.others c.open_by.ensures.answers opened.opens
