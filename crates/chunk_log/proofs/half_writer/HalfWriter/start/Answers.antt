use Rattle.std.proofs.Common.{rules, ◌≡◌, ◌∙◌, ◌∷◌, [], refl, ap, arith, false}
use Rattle.volume_disk.specs.Medium.{at_rest}
use Rattle.volume_disk.specs.Disk.{Images, Crash}
use Rattle.volume_disk.specs.Left.{OneWriteAt}
use Rattle.volume_disk.proofs.Moments.{weaker, leads_on}
use Rattle.site_forms.specs.Halves.{SameRecords}
use Rattle.chunk_log.specs.Shutting.{SameOrShut}
use Rattle.chunk_log.proofs.Shutting.{still_shut}
use Rattle.chunk_log.proofs.Beside.{guarded_beside, records_stay, log_stays, shut_dormant}
use Rattle.chunk_log.proofs.HalfBlocks.{written_blank, blank_shuts, begun_writing}
use Rattle.chunk_log.proofs.half_writer.HalfWriter.start.Goals as goal

pub returns-in_err-empty_device-clause-begins : goal.returns-in_err-empty_device-clause-begins
returns-in_err-empty_device-clause-begins g c = λ honest.
    let rack = g.R.Rack in
    let device = c.args.device in
    let d = rack.disk c.args.rack.now in
    let empties = c.empty_device.ensures.empties honest in
    record {
      others = empties.others;
      kept = λ place records log beside stands. search rules;
      begun = λ place records log beside stands. search rules;
      moments = λ place records log beside stands.
          weaker rack.moment rack.left_since _ _ (λ x. (b : Images) × Crash d b × SameOrShut device b x) (λ x. (b : Images) × Crash d b × SameRecords b x) (empties.moments (guarded_beside place device records log d c.requires.device beside stands))
          (λ x was. (was.0, was.1, records_stay place device records log d was.0 x c.requires.device beside stands was.1 was.2));
    }

pub returns-in_err-put_down-clause-begins : goal.returns-in_err-put_down-clause-begins
returns-in_err-put_down-clause-begins g c = λ honest.
    let rack = g.R.Rack in
    let device = c.args.device in
    let d = rack.disk c.args.rack.now in
    let mid = rack.disk c.empty_device.new.rack in
    let empties = c.in_ok-empty_device.ensures.empties honest in
    let honest_1 = c.empty_device.ensures.honest ∙ honest in
    let put = c.put_down.ensures.put_down honest_1 in
    record {
      others = λ k out. put.others k out ∙ empties.others k out;
      kept = λ place records log beside stands. search rules;
      begun = λ place records log beside stands. search rules;
      moments = λ place records log beside stands.
          let guarded = guarded_beside place device records log d c.requires.device beside stands in
          let blank = empties.blank guarded in
          weaker rack.moment rack.left_since _ _ (λ x. (b : Images) × Crash d b × SameOrShut device b x) (λ x. (b : Images) × Crash d b × SameRecords b x)
          (leads_on rack.moment rack.left_since _ _ _ (Crash d) (Crash mid) (SameOrShut device) (OneWriteAt device 0 (0 ∷ [])) (λ t x le crash. g.met.R.Rack.counts_now _ t x honest_1 le crash) (empties.moments guarded) (put.moments (mid device).image blank.rest (omega arith))
          (λ b z x crash was one. still_shut device b z x was (blank_shuts device (mid device).image mid z x c.requires.device blank.rest blank.short crash one)))
          (λ x was. (was.0, was.1, records_stay place device records log d was.0 x c.requires.device beside stands was.1 was.2));
    }

pub returns-clause-begins : goal.returns-clause-begins
returns-clause-begins g c = λ honest.
    let rack = g.R.Rack in
    let device = c.args.device in
    let d = rack.disk c.args.rack.now in
    let mid = rack.disk c.empty_device.new.rack in
    let e = rack.disk c.put_down.new.rack in
    let empties = c.in_ok-empty_device.ensures.empties honest in
    let honest_1 = c.empty_device.ensures.honest ∙ honest in
    let put = c.in_ok-put_down.ensures.put_down honest_1 in
    record {
      others = λ k out. put.others k out ∙ empties.others k out;
      kept = λ place records log beside stands.
          let blank = empties.blank (guarded_beside place device records log d c.requires.device beside stands) in
          let rest : e device ≡ at_rest (0 ∷ []) = put.rest (mid device).image blank.rest ∙ ap at_rest (written_blank (mid device).image blank.short) in
          let writing = begun_writing (record { device = device; limit = c.args.limit; end = 0; spent = false }) (e device) rest refl refl in
          log_stays place device records log d e c.requires.device beside (λ k out. put.others k out ∙ empties.others k out) (λ image. shut_dormant (e device) image writing.shut writing.guarded) stands;
      begun = λ place records log beside stands.
          let blank = empties.blank (guarded_beside place device records log d c.requires.device beside stands) in
          begun_writing _ (e device) (put.rest (mid device).image blank.rest ∙ ap at_rest (written_blank (mid device).image blank.short)) refl refl;
      moments = λ place records log beside stands.
          let guarded = guarded_beside place device records log d c.requires.device beside stands in
          let blank = empties.blank guarded in
          weaker rack.moment rack.left_since _ _ (λ x. (b : Images) × Crash d b × SameOrShut device b x) (λ x. (b : Images) × Crash d b × SameRecords b x)
          (leads_on rack.moment rack.left_since _ _ _ (Crash d) (Crash mid) (SameOrShut device) (OneWriteAt device 0 (0 ∷ [])) (λ t x le crash. g.met.R.Rack.counts_now _ t x honest_1 le crash) (empties.moments guarded) (put.moments (mid device).image blank.rest (omega arith))
          (λ b z x crash was one. still_shut device b z x was (blank_shuts device (mid device).image mid z x c.requires.device blank.rest blank.short crash one)))
          (λ x was. (was.0, was.1, records_stay place device records log d was.0 x c.requires.device beside stands was.1 was.2));
    }
