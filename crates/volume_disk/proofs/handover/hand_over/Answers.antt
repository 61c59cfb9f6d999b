use Rattle.std.proofs.Common.{◌≡◌, ◌⊎◌, inl, inr, sym, ◌∙◌, ap, [], List, ℕ, ◌++◌, arith}
use Rattle.std.proofs.lemmas.List.{append-nil, drop_all}
use Rattle.std.proofs.lemmas.Result.{on_ok_weaker}
use Rattle.volume_disk.specs.Disk.{Images}
use Rattle.volume_disk.specs.Medium.{Medium, at_rest, wrote, written, flushed, trimmed}
use Rattle.volume_disk.proofs.Moments.{begins, goes_on}
use Rattle.volume_disk.proofs.Rest.{crash_at_rest}
use Rattle.volume_disk.proofs.handover.hand_over.Goals as goal

-- the bytes stand whole on one of two devices
abbrev IsKept : ℕ → ℕ → List ℕ → Images → Type 0
IsKept source target bytes c = (c source ≡ bytes) ⊎ (c target ≡ bytes)

-- bytes that are written to an empty device are all that it holds
written_alone : (bytes : List ℕ) → written [] 0 bytes ≡ bytes
written_alone bytes = ap (λ (l : List ℕ). bytes ++ l) (drop_all _ [] (omega arith)) ∙ append-nil bytes

-- a device that was empty, after a write and a sync
then_flushed : (bytes : List ℕ) (empty full flushed_full : Medium) → empty ≡ at_rest [] → full ≡ wrote 0 bytes empty → flushed_full ≡ flushed full → flushed_full ≡ at_rest bytes
then_flushed bytes empty full flushed_full was wrote_it flushed_it =
    flushed_it ∙ ap flushed wrote_it ∙ ap (λ (m : Medium). flushed (wrote 0 bytes m)) was ∙ ap at_rest (written_alone bytes)

pub returns-in_err-write-clause-any_moment : goal.returns-in_err-write-clause-any_moment
returns-in_err-write-clause-any_moment g c = λ honest full empty.
    let rack = g.R.Rack in
    let P = IsKept c.args.from c.args.to c.args.bytes.now in
    let start = begins rack.moment rack.left_since c.args.rack.now P (λ x left. inl (crash_at_rest c.args.from c.args.bytes.now _ x c.requires.from full (g.met.R.Rack.only_now _ x honest left))) in
    goes_on rack.moment rack.left_since _ _ _ P _ start (c.write.ensures.time honest) (λ x crash. inl (crash_at_rest c.args.from c.args.bytes.now _ x c.requires.from ((c.write.ensures.disk honest).others _ c.requires.apart ∙ full) crash))

pub returns-in_err-sync-clause-any_moment : goal.returns-in_err-sync-clause-any_moment
returns-in_err-sync-clause-any_moment g c = λ honest full empty.
    let rack = g.R.Rack in
    let P = IsKept c.args.from c.args.to c.args.bytes.now in
    let still = (c.write.ensures.disk honest).others _ c.requires.apart ∙ full in
    let honest_now = c.write.ensures.honest ∙ honest in
    let start = begins rack.moment rack.left_since c.args.rack.now P (λ x left. inl (crash_at_rest c.args.from c.args.bytes.now _ x c.requires.from full (g.met.R.Rack.only_now _ x honest left))) in
    let wrote_it = goes_on rack.moment rack.left_since _ _ _ P _ start (c.write.ensures.time honest) (λ x crash. inl (crash_at_rest c.args.from c.args.bytes.now _ x c.requires.from still crash)) in
    goes_on rack.moment rack.left_since _ _ _ P _ wrote_it (c.sync.ensures.time honest_now) (λ x crash. inl (crash_at_rest c.args.from c.args.bytes.now _ x c.requires.from ((c.sync.ensures.disk honest_now).others _ c.requires.apart ∙ still) crash))

pub returns-clause-any_moment : goal.returns-clause-any_moment
returns-clause-any_moment g c = λ honest full empty.
    let rack = g.R.Rack in
    let P = IsKept c.args.from c.args.to c.args.bytes.now in
    let still = (c.write.ensures.disk honest).others _ c.requires.apart ∙ full in
    let honest_now = c.write.ensures.honest ∙ honest in
    let honest_then = c.sync.ensures.honest ∙ honest_now in
    let lasts = then_flushed c.args.bytes.now _ _ _ empty (c.in_ok-write.ensures.disk honest).ok (c.in_ok-sync.ensures.disk honest_now).ok in
    let start = begins rack.moment rack.left_since c.args.rack.now P (λ x left. inl (crash_at_rest c.args.from c.args.bytes.now _ x c.requires.from full (g.met.R.Rack.only_now _ x honest left))) in
    let wrote_it = goes_on rack.moment rack.left_since _ _ _ P _ start (c.write.ensures.time honest) (λ x crash. inl (crash_at_rest c.args.from c.args.bytes.now _ x c.requires.from still crash)) in
    let synced_it = goes_on rack.moment rack.left_since _ _ _ P _ wrote_it (c.sync.ensures.time honest_now) (λ x crash. inl (crash_at_rest c.args.from c.args.bytes.now _ x c.requires.from ((c.sync.ensures.disk honest_now).others _ c.requires.apart ∙ still) crash)) in
    goes_on rack.moment rack.left_since _ _ _ P _ synced_it (c.cut.ensures.time honest_then) (λ x crash. inr (crash_at_rest c.args.to c.args.bytes.now _ x c.requires.to ((c.cut.ensures.disk honest_then).others _ (λ e. c.requires.apart (sym e)) ∙ lasts) crash))

pub returns-clause-moved : goal.returns-clause-moved
returns-clause-moved g c = λ honest empty.
    let honest_now = c.write.ensures.honest ∙ honest in
    let honest_then = c.sync.ensures.honest ∙ honest_now in
    let cuts = c.cut.ensures.disk honest_then in
    let lasts = then_flushed c.args.bytes.now _ _ _ empty (c.in_ok-write.ensures.disk honest).ok (c.in_ok-sync.ensures.disk honest_now).ok in
    let same = (c.sync.ensures.disk honest_now).others _ c.requires.apart ∙ (c.write.ensures.disk honest).others _ c.requires.apart in
    on_ok_weaker c.cut.result (λ done. (cuts.others _ (λ e. c.requires.apart (sym e)) ∙ lasts, done ∙ ap (trimmed 0) same)) cuts.ok
