use Rattle.std.proofs.Common.{rules, ◌∙◌, ap}
use Rattle.volume_disk.specs.Medium.{flushed}
use Rattle.chunk_log.specs.Shutting.{SameOrShut}
use Rattle.chunk_log.proofs.Shutting.{shut_writes, shut_leads, no_change}
use Rattle.std.proofs.lemmas.Result.{on_ok_weaker}
use Rattle.volume_disk.specs.Disk.{Images, Crash}
use Rattle.volume_disk.specs.Left.{OneWriteAt}
use Rattle.volume_disk.proofs.Moments.{begins, goes_on}
use Rattle.volume_disk.proofs.Rest.{rest_after}
use Rattle.volume_disk.proofs.Leads.{write_leads, no_write, goes_on_synced}
use Rattle.chunk_log.proofs.writing.put_down.Goals as goal

pub returns-in_err-write-clause-put_down : goal.returns-in_err-write-clause-put_down
returns-in_err-write-clause-put_down g c = λ honest.
    let rack = g.R.Rack in
    let P = λ (x : Images). (b : Images) × Crash (rack.disk c.args.rack.now) b × OneWriteAt c.args.device c.args.at c.args.bytes.now b x in
    let Q = λ (x : Images). (b : Images) × Crash (rack.disk c.args.rack.now) b × SameOrShut c.args.device b x in
    record {
      others = (c.write.ensures.disk honest).others;
      rest = λ image rest. search rules;
      moments = λ image rest inside.
          goes_on rack.moment rack.left_since _ _ _ P _ (begins rack.moment rack.left_since c.args.rack.now P (λ x left. (x, g.met.R.Rack.only_now _ x honest left, no_write c.args.device c.args.at c.args.bytes.now x)))
          (c.write.ensures.time honest) (λ x crash. write_leads c.args.device c.args.at c.args.bytes.now image _ _ c.write.result x c.requires.device inside rest (c.write.ensures.disk honest) crash);
      lasts = search rules;
      behind = λ far shut.
          goes_on rack.moment rack.left_since _ _ _ Q _ (begins rack.moment rack.left_since c.args.rack.now Q (λ x left. (x, g.met.R.Rack.only_now _ x honest left, no_change c.args.device x))) (c.write.ensures.time honest)
          (λ x crash. shut_leads c.args.device _ _ x c.requires.device (g.met.R.Rack.reads_alike _ c.args.device honest) (c.write.ensures.disk honest).others (shut_writes c.args.device c.args.at c.args.bytes.now _ _ c.write.result far (c.write.ensures.disk honest) shut) crash);
    }

pub returns-clause-put_down : goal.returns-clause-put_down
returns-clause-put_down g c = λ honest.
    let rack = g.R.Rack in
    let P = λ (x : Images). (b : Images) × Crash (rack.disk c.args.rack.now) b × OneWriteAt c.args.device c.args.at c.args.bytes.now b x in
    let Q = λ (x : Images). (b : Images) × Crash (rack.disk c.args.rack.now) b × SameOrShut c.args.device b x in
    let honest_1 = c.write.ensures.honest ∙ honest in
    record {
      others = λ k out. (c.sync.ensures.disk honest_1).others k out ∙ (c.write.ensures.disk honest).others k out;
      rest = λ image rest. on_ok_weaker c.sync.result (λ done. rest_after c.args.at c.args.bytes.now image _ _ _ rest (c.in_ok-write.ensures.disk honest).ok done) (c.sync.ensures.disk honest_1).ok;
      moments = λ image rest inside.
          goes_on_synced rack.moment rack.left_since _ _ _ P _ _ c.args.device c.sync.result (λ t x le crash. g.met.R.Rack.counts_now _ t x honest_1 le crash)
          (goes_on rack.moment rack.left_since _ _ _ P _ (begins rack.moment rack.left_since c.args.rack.now P (λ x left. (x, g.met.R.Rack.only_now _ x honest left, no_write c.args.device c.args.at c.args.bytes.now x)))
          (c.write.ensures.time honest) (λ x crash. write_leads c.args.device c.args.at c.args.bytes.now image _ _ c.write.result x c.requires.device inside rest (c.write.ensures.disk honest) crash))
          (c.sync.ensures.time honest_1) (g.met.R.Rack.reads_alike _ c.args.device honest_1) (c.sync.ensures.disk honest_1);
      lasts = on_ok_weaker c.sync.result (λ done. done ∙ ap flushed (c.in_ok-write.ensures.disk honest).ok) (c.sync.ensures.disk honest_1).ok;
      behind = λ far shut.
          goes_on_synced rack.moment rack.left_since _ _ _ Q _ _ c.args.device c.sync.result (λ t x le crash. g.met.R.Rack.counts_now _ t x honest_1 le crash)
          (goes_on rack.moment rack.left_since _ _ _ Q _ (begins rack.moment rack.left_since c.args.rack.now Q (λ x left. (x, g.met.R.Rack.only_now _ x honest left, no_change c.args.device x))) (c.write.ensures.time honest)
          (λ x crash. shut_leads c.args.device _ _ x c.requires.device (g.met.R.Rack.reads_alike _ c.args.device honest) (c.write.ensures.disk honest).others (shut_writes c.args.device c.args.at c.args.bytes.now _ _ c.write.result far (c.write.ensures.disk honest) shut) crash))
          (c.sync.ensures.time honest_1) (g.met.R.Rack.reads_alike _ c.args.device honest_1) (c.sync.ensures.disk honest_1);
    }
