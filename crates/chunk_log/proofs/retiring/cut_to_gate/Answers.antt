use Rattle.std.proofs.Common.{rules, ◌∙◌, ap, arith}
use Rattle.std.proofs.lemmas.Result.{on_ok_weaker}
use Rattle.volume_disk.specs.Medium.{flushed}
use Rattle.volume_disk.specs.Disk.{Images, Crash}
use Rattle.volume_disk.proofs.Moments.{begins, goes_on}
use Rattle.volume_disk.proofs.Leads.{goes_on_synced}
use Rattle.chunk_log.specs.Shutting.{SameOrShut}
use Rattle.chunk_log.proofs.Shutting.{shut_cuts, shut_leads, no_change}
use Rattle.chunk_log.proofs.retiring.cut_to_gate.Goals as goal

pub returns-in_err-cut-clause-cuts : goal.returns-in_err-cut-clause-cuts
returns-in_err-cut-clause-cuts g c = λ honest.
    let rack = g.R.Rack in
    let device = c.args.device in
    let d = rack.disk c.args.rack.now in
    let P = λ (x : Images). (b : Images) × Crash d b × SameOrShut device b x in
    let cuts = c.cut.ensures.disk honest in
    record {
      others = cuts.others;
      rest = search rules;
      moments = λ shut.
          goes_on rack.moment rack.left_since _ _ _ P _ (begins rack.moment rack.left_since c.args.rack.now P (λ x left. (x, g.met.R.Rack.only_now _ x honest left, no_change device x))) (c.cut.ensures.time honest)
          (λ x crash. shut_leads device d _ x c.requires (g.met.R.Rack.reads_alike _ device honest) cuts.others (shut_cuts device 1 d _ c.cut.result (omega arith) cuts shut) crash);
    }

pub returns-clause-cuts : goal.returns-clause-cuts
returns-clause-cuts g c = λ honest.
    let rack = g.R.Rack in
    let device = c.args.device in
    let d = rack.disk c.args.rack.now in
    let P = λ (x : Images). (b : Images) × Crash d b × SameOrShut device b x in
    let cuts = c.cut.ensures.disk honest in
    let honest_1 = c.cut.ensures.honest ∙ honest in
    let syncs = c.sync.ensures.disk honest_1 in
    record {
      others = λ k out. syncs.others k out ∙ cuts.others k out;
      rest = on_ok_weaker c.sync.result (λ done. done ∙ ap flushed (c.in_ok-cut.ensures.disk honest).ok) syncs.ok;
      moments = λ shut.
          goes_on_synced rack.moment rack.left_since _ _ _ P _ _ device c.sync.result (λ t x le crash. g.met.R.Rack.counts_now _ t x honest_1 le crash)
          (goes_on rack.moment rack.left_since _ _ _ P _ (begins rack.moment rack.left_since c.args.rack.now P (λ x left. (x, g.met.R.Rack.only_now _ x honest left, no_change device x))) (c.cut.ensures.time honest)
          (λ x crash. shut_leads device d _ x c.requires (g.met.R.Rack.reads_alike _ device honest) cuts.others (shut_cuts device 1 d _ c.cut.result (omega arith) cuts shut) crash))
          (c.sync.ensures.time honest_1) (g.met.R.Rack.reads_alike _ device honest_1) syncs;
    }
