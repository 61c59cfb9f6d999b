use Rattle.std.proofs.Common.{rules, ◌≡◌, ℕ, ◌+◌, sym, ◌∙◌, ap, arith}
use Rattle.std.proofs.lemmas.Result.{on_ok_weaker}
use Rattle.volume_disk.specs.Medium.{flushed}
use Rattle.volume_disk.specs.Disk.{Crash}
use Rattle.volume_disk.proofs.Moments.{begins}
use Rattle.volume_disk.proofs.Leads.{goes_on_synced}
use Rattle.chunk_log.proofs.forces.sync_both.Goals as goal

apart : (place : ℕ) → place ≡ place + 3 → ⊥
apart place same = absurd (omega (arith, same))

pub returns-in_err-sync-clause-synced : goal.returns-in_err-sync-clause-synced
returns-in_err-sync-clause-synced g c = λ honest.
    let rack = g.R.Rack in
    let place = c.args.first in
    let d = rack.disk c.args.rack.now in
    let start = begins rack.moment rack.left_since c.args.rack.now (Crash d) (λ x left. g.met.R.Rack.only_now _ x honest left) in
    let one = goes_on_synced rack.moment rack.left_since _ _ _ (Crash d) _ _ place c.sync.result (λ t x le crash. g.met.R.Rack.counts_now _ t x honest le crash) start (c.sync.ensures.time honest) (g.met.R.Rack.reads_alike _ place honest) (c.sync.ensures.disk honest) in
    let same = (c.sync.ensures.disk honest).others in
    record { others = λ other out away. same other out; first = search rules; second = search rules; moments = one }

pub returns-clause-synced : goal.returns-clause-synced
returns-clause-synced g c = λ honest.
    let rack = g.R.Rack in
    let place = c.args.first in
    let d = rack.disk c.args.rack.now in
    let start = begins rack.moment rack.left_since c.args.rack.now (Crash d) (λ x left. g.met.R.Rack.only_now _ x honest left) in
    let one = goes_on_synced rack.moment rack.left_since _ _ _ (Crash d) _ _ place c.sync.result (λ t x le crash. g.met.R.Rack.counts_now _ t x honest le crash) start (c.sync.ensures.time honest) (g.met.R.Rack.reads_alike _ place honest) (c.sync.ensures.disk honest) in
    let same_1 = (c.sync.ensures.disk honest).others in
    let honest_1 = c.sync.ensures.honest ∙ honest in
    let two = goes_on_synced rack.moment rack.left_since _ _ _ (Crash d) _ _ (place + 3) c.sync-2.result (λ t x le crash. g.met.R.Rack.counts_now _ t x honest_1 le crash) one (c.sync-2.ensures.time honest_1) (g.met.R.Rack.reads_alike _ (place + 3) honest_1) (c.sync-2.ensures.disk honest_1) in
    let syncs = c.sync-2.ensures.disk honest_1 in
    record {
      others = λ other out away. syncs.others other away ∙ same_1 other out;
      first = on_ok_weaker c.sync-2.result (λ done. syncs.others place (apart place) ∙ (c.in_ok-sync.ensures.disk honest).ok) syncs.ok;
      second = on_ok_weaker c.sync-2.result (λ done. done ∙ ap flushed (same_1 (place + 3) (λ same. apart place (sym same)))) syncs.ok;
      moments = two;
    }
