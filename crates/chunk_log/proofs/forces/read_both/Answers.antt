use Rattle.std.proofs.Common.{rules, ◌∙◌, ◌+◌, ap}
use Rattle.std.proofs.lemmas.Result.{IfOk-weaker}
use Rattle.volume_disk.specs.Medium.{Medium}
use Rattle.volume_disk.specs.Disk.{Crash}
use Rattle.site_forms.specs.Halves.{generation}
use Rattle.chunk_log.specs.PlaceHalves.{ReadsBoth}
use Rattle.chunk_log.proofs.PlaceHalves.{on_ok_always}
use Rattle.device_pieces.proofs.Quiets.{goes_on_quiet}
use Rattle.chunk_log.proofs.forces.read_both.Goals as goal

pub returns-in_err-sync_both-clause-settled : goal.returns-in_err-sync_both-clause-settled
returns-in_err-sync_both-clause-settled g c = λ honest.
    let s = c.sync_both.ensures.synced honest in
    record { others = s.others; first = search rules; second = search rules; numbers = search rules; moments = s.moments }

pub returns-clause-settled : goal.returns-clause-settled
returns-clause-settled g c = λ honest.
    let rack = g.R.Rack in
    let place = c.args.first in
    let d = rack.disk c.args.rack.now in
    let m = rack.disk c.sync_both.new.rack in
    let honest_1 = c.sync_both.ensures.honest ∙ honest in
    let s = c.in_ok-sync_both.ensures.synced honest in
    let quiet = c.read_generations.ensures.quiet honest_1 in
    record {
      others = λ other out away. quiet.same other ∙ s.others other out away;
      first = on_ok_always c.read_generations.result (quiet.same place ∙ s.first);
      second = on_ok_always c.read_generations.result (quiet.same (place + 3) ∙ s.second);
      numbers = IfOk-weaker c.read_generations.result (ReadsBoth m place) (ReadsBoth d place)
          (λ both was. (was.0 ∙ ap (λ (k : Medium). generation k.image) s.first, was.1 ∙ ap (λ (k : Medium). generation k.image) s.second)) (c.read_generations.ensures.numbers honest_1);
      moments = goes_on_quiet rack.moment rack.left_since _ _ _ (Crash d) _ _ (λ t x le crash. g.met.R.Rack.counts_now _ t x honest_1 le crash) s.moments quiet;
    }
