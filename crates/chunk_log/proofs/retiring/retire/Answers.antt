use Rattle.std.proofs.lemmas.Result.{on_ok_weaker}
use Rattle.volume_disk.specs.Disk.{Images, Crash}
use Rattle.volume_disk.proofs.Moments.{weaker}
use Rattle.site_forms.specs.Halves.{SameRecords}
use Rattle.chunk_log.specs.Shutting.{SameOrShut}
use Rattle.chunk_log.proofs.Beside.{guarded_beside, records_stay, log_stays, blank_dormant}
use Rattle.chunk_log.proofs.retiring.retire.Goals as goal

pub returns-clause-retired : goal.returns-clause-retired
returns-clause-retired g c = λ honest.
    let rack = g.R.Rack in
    let device = c.args.device in
    let d = rack.disk c.args.rack.now in
    let e = rack.disk c.empty_device.new.rack in
    let empties = c.empty_device.ensures.empties honest in
    record {
      others = empties.others;
      left = empties.left;
      image = empties.image;
      kept = λ place records log beside stands.
          on_ok_weaker c.empty_device.result (λ blank. log_stays place device records log d e c.requires beside empties.others (λ image. blank_dormant (e device) image blank) stands)
          (empties.blank (guarded_beside place device records log d c.requires beside stands));
      blank = λ place records log beside stands. empties.blank (guarded_beside place device records log d c.requires beside stands);
      moments = λ place records log beside stands.
          weaker rack.moment rack.left_since _ _ (λ x. (b : Images) × Crash d b × SameOrShut device b x) (λ x. (b : Images) × Crash d b × SameRecords b x)
          (empties.moments (guarded_beside place device records log d c.requires beside stands))
          (λ x was. (was.0, was.1, records_stay place device records log d was.0 x c.requires beside stands was.1 was.2));
    }
