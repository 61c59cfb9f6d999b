use Rattle.std.proofs.Common.{◌≡◌, Result, refl, ◌∙◌}
use Rattle.fault_count.specs.Counts.{HandsOn}
use Rattle.volume_disk.specs.Disk.{Images, Crash}
use Rattle.volume_disk.proofs.Moments.{begins}
use Rattle.site_forms.specs.Halves.{SameRecords}
use Rattle.device_pieces.proofs.Quiets.{goes_on_quiet}
use Rattle.chunk_log.proofs.Resting.{rests_same}
use Rattle.chunk_volume.specs.declared.errors.VolError.{VolError}
use Rattle.chunk_volume.specs.declared.errors.VolError.TheVariants.{RackFault, Memory}
use Rattle.chunk_volume.specs.declared.volume.Volume.TheInside.{Inside}
use Rattle.chunk_volume.specs.OpeningVolumes.{IsPlaceVolume}
use Rattle.chunk_volume.specs.VolumeInside.{view_of}
use Rattle.chunk_volume.specs.VolumeValues.{VolumeValue}
use Rattle.chunk_volume.proofs.Adding.{handed}
use Rattle.chunk_volume.proofs.Causes.{no_fault, no_fault_ok}
use Rattle.chunk_volume.proofs.HalfLogs.{opened_volume, opened_refused, rests_handed}
use Rattle.chunk_volume.proofs.volume.Volume.open.Goals as goal

pub returns-in_err-piece-clause-opened : goal.returns-in_err-piece-clause-opened
returns-in_err-piece-clause-opened g c = λ honest.
    let rack = g.R.Rack in
    let d = rack.disk c.args.rack.now in
    record {
      others = λ other out away. refl;
      volume = handed c.from_residual.result Memory (λ (x : Result VolumeValue VolError). IsPlaceVolume d d c.args.place x) c.from_residual.ensures.1 (tt);
      rest = rests_handed c.args.place d c.from_residual.result Memory c.from_residual.ensures.1;
      moments = begins rack.moment rack.left_since c.args.rack.now (λ x. (b : Images) × Crash d b × SameRecords b x) (λ x left. (x, g.met.R.Rack.only_now _ x honest left, λ place is_place. refl));
    }

pub returns-in_err-index-clause-opened : goal.returns-in_err-index-clause-opened
returns-in_err-index-clause-opened g c = λ honest.
    let rack = g.R.Rack in
    let d = rack.disk c.args.rack.now in
    let e = rack.disk c.open_place_by.new.rack in
    let f = rack.disk c.gather.new.rack in
    let opened = c.in_ok-log.ensures.opened honest in
    let half = c.in_ok-log.ensures.half honest in
    let honest_1 = c.in_ok-log.ensures.honest ∙ honest in
    let quiet = c.in_err-index.ensures.quiet honest_1 in
    let error = c.in_err-index.field-0.0 in
    record {
      others = λ other out away. quiet.same other ∙ opened.others other out away;
      volume = handed c.from_residual-in_err-index.result error (λ (x : Result VolumeValue VolError). IsPlaceVolume d f c.args.place x) c.from_residual-in_err-index.ensures.1 (opened_refused d e f c.args.place c.in_ok-log.log error half c.in_err-index.ensures.answers (c.in_err-index.ensures.folds honest_1 (c.in_ok-log.ensures.shows honest) half.bodies half.now));
      rest = rests_handed c.args.place f c.from_residual-in_err-index.result error c.from_residual-in_err-index.ensures.1;
      moments = goes_on_quiet rack.moment rack.left_since c.args.rack.now c.open_place_by.new.rack c.gather.new.rack (λ x. (b : Images) × Crash d b × SameRecords b x) e f (λ t x le crash. g.met.R.Rack.counts_now _ t x honest_1 le crash) opened.moments quiet;
    }

pub returns-in_err-holding-clause-opened : goal.returns-in_err-holding-clause-opened
returns-in_err-holding-clause-opened g c = λ honest.
    let rack = g.R.Rack in
    let d = rack.disk c.args.rack.now in
    let e = rack.disk c.open_place_by.new.rack in
    let f = rack.disk c.gather.new.rack in
    let opened = c.in_ok-log.ensures.opened honest in
    let half = c.in_ok-log.ensures.half honest in
    let honest_1 = c.in_ok-log.ensures.honest ∙ honest in
    let quiet = c.in_ok-index.ensures.quiet honest_1 in
    record {
      others = λ other out away. quiet.same other ∙ opened.others other out away;
      volume = handed c.from_residual-in_err-holding.result Memory (λ (x : Result VolumeValue VolError). IsPlaceVolume d f c.args.place x) c.from_residual-in_err-holding.ensures.1 (tt);
      rest = rests_handed c.args.place f c.from_residual-in_err-holding.result Memory c.from_residual-in_err-holding.ensures.1;
      moments = goes_on_quiet rack.moment rack.left_since c.args.rack.now c.open_place_by.new.rack c.gather.new.rack (λ x. (b : Images) × Crash d b × SameRecords b x) e f (λ t x le crash. g.met.R.Rack.counts_now _ t x honest_1 le crash) opened.moments quiet;
    }

pub returns-in_err-frame-clause-opened : goal.returns-in_err-frame-clause-opened
returns-in_err-frame-clause-opened g c = λ honest.
    let rack = g.R.Rack in
    let d = rack.disk c.args.rack.now in
    let e = rack.disk c.open_place_by.new.rack in
    let f = rack.disk c.gather.new.rack in
    let opened = c.in_ok-log.ensures.opened honest in
    let half = c.in_ok-log.ensures.half honest in
    let honest_1 = c.in_ok-log.ensures.honest ∙ honest in
    let quiet = c.in_ok-index.ensures.quiet honest_1 in
    record {
      others = λ other out away. quiet.same other ∙ opened.others other out away;
      volume = handed c.from_residual-in_err-frame.result Memory (λ (x : Result VolumeValue VolError). IsPlaceVolume d f c.args.place x) c.from_residual-in_err-frame.ensures.1 (tt);
      rest = rests_handed c.args.place f c.from_residual-in_err-frame.result Memory c.from_residual-in_err-frame.ensures.1;
      moments = goes_on_quiet rack.moment rack.left_since c.args.rack.now c.open_place_by.new.rack c.gather.new.rack (λ x. (b : Images) × Crash d b × SameRecords b x) e f (λ t x le crash. g.met.R.Rack.counts_now _ t x honest_1 le crash) opened.moments quiet;
    }

pub returns-in_err-frame-clause-cause : goal.returns-in_err-frame-clause-cause
returns-in_err-frame-clause-cause g c =
    let faults = g.R.Rack.faults in
    let same : faults c.gather.new.rack ≡ faults c.args.rack.now = c.in_ok-index.ensures.cause.kept (λ is. cc) ∙ c.in_ok-log.ensures.cause.kept (λ is. cc) in
    handed c.from_residual-in_err-frame.result Memory (λ (x : Result VolumeValue VolError). HandsOn RackFault (faults c.args.rack.now) (faults c.gather.new.rack) x) c.from_residual-in_err-frame.ensures.1
    (no_fault VolumeValue VolError RackFault Memory (faults c.args.rack.now) (faults c.gather.new.rack) (λ is. cc) same)

pub returns-clause-cause : goal.returns-clause-cause
returns-clause-cause g c =
    let faults = g.R.Rack.faults in
    let same : faults c.gather.new.rack ≡ faults c.args.rack.now = c.in_ok-index.ensures.cause.kept (λ is. cc) ∙ c.in_ok-log.ensures.cause.kept (λ is. cc) in
    no_fault_ok VolumeValue VolError RackFault _ (faults c.args.rack.now) (faults c.gather.new.rack) same

pub returns-clause-opened : goal.returns-clause-opened
returns-clause-opened g c = λ honest.
    let rack = g.R.Rack in
    let d = rack.disk c.args.rack.now in
    let e = rack.disk c.open_place_by.new.rack in
    let f = rack.disk c.gather.new.rack in
    let opened = c.in_ok-log.ensures.opened honest in
    let half = c.in_ok-log.ensures.half honest in
    let honest_1 = c.in_ok-log.ensures.honest ∙ honest in
    let quiet = c.in_ok-index.ensures.quiet honest_1 in
    let inside : Inside = record { alloc = c.args.alloc; log = c.of-2.result; holding = c.in_ok-holding.holding; frame = c.in_ok-frame.frame } in
    record {
      others = λ other out away. quiet.same other ∙ opened.others other out away;
      volume = opened_volume d e f c.args.place c.in_ok-log.log (view_of inside) c.in_ok-index.index half quiet.same c.of-2.ensures c.in_ok-holding.ensures.shape c.in_ok-holding.ensures.places (c.in_ok-index.ensures.folds honest_1 (c.in_ok-log.ensures.shows honest) half.bodies half.now);
      rest = rests_same c.args.place e f quiet.same opened.rest;
      moments = goes_on_quiet rack.moment rack.left_since c.args.rack.now c.open_place_by.new.rack c.gather.new.rack (λ x. (b : Images) × Crash d b × SameRecords b x) e f (λ t x le crash. g.met.R.Rack.counts_now _ t x honest_1 le crash) opened.moments quiet;
    }
