use Rattle.std.proofs.Common.{◌∙◌, ap, arith}
use Rattle.std.specs.Prelude.{Err}
use Rattle.volume_index.specs.HoldingValues.{held_bytes}
use Rattle.chunk_volume.specs.VolumeValues.{VolumeValue}
use Rattle.seed_mover.specs.DropParts.{drops_on}
use Rattle.seed_mover.specs.Errors.{refuses}
use Rattle.seed_mover.proofs.DropAllowed.{drop_allowed}
use Rattle.seed_mover.proofs.DropRuns.{freed_by, held_refused, not_refused}
use Rattle.seed_mover.proofs.Stepping.{runs_of_failed, runs_of_front}
use Rattle.seed_mover.proofs.site.Site.drop_held.Goals as goal

pub drop_records-requires-clause-fresh : goal.drop_records-requires-clause-fresh
drop_records-requires-clause-fresh g c = c.requires.fresh

pub drop_records-requires-clause-idle : goal.drop_records-requires-clause-idle
drop_records-requires-clause-idle g c = c.requires.idle

pub drop_records-requires-clause-holder : goal.drop_records-requires-clause-holder
drop_records-requires-clause-holder g c = c.requires.holder

pub drop_records-requires-clause-file_room : goal.drop_records-requires-clause-file_room
drop_records-requires-clause-file_room g c = c.requires.file_room

pub drop_records-requires-clause-chunk_room : goal.drop_records-requires-clause-chunk_room
drop_records-requires-clause-chunk_room g c = c.requires.chunk_room

pub overflow_sub-result : goal.overflow_sub-result
overflow_sub-result g c =
    let freed = freed_by c.args.side c.args.self.now c.drop_records.new.self c.args.name.now c.in-Ok.ensures.runs.1 in
    let before = c.bytes-before.ensures ∙ ap (λ (x : VolumeValue). held_bytes x.shape) c.volume.ensures in
    let now = c.bytes.ensures ∙ ap (λ (x : VolumeValue). held_bytes x.shape) c.volume-in-Ok.ensures in
    omega (arith, freed.0, before, now)

pub returns-in-Ok-clause-drops : goal.returns-in-Ok-clause-drops
returns-in-Ok-clause-drops g c =
    let v = c.args.self.now in
    let w = c.drop_records.new.self in
    let after = c.in-Ok.ensures.runs.1 in
    let freed = freed_by c.args.side v w c.args.name.now after in
    let before = c.bytes-before.ensures ∙ ap (λ (x : VolumeValue). held_bytes x.shape) c.volume.ensures in
    let now = c.bytes.ensures ∙ ap (λ (x : VolumeValue). held_bytes x.shape) c.volume-in-Ok.ensures in
    (after, omega (arith, freed.0, freed.1, before, now))

pub returns-in-Ok-clause-runs : goal.returns-in-Ok-clause-runs
returns-in-Ok-clause-runs g c = λ s honest stands is.
    let rack = g.R.Rack in
    runs_of_front rack.disk rack.moment rack.left_since refuses c.args.rack.now c.drop_records.new.rack c.args.self.now c.drop_records.new.self s (drops_on c.args.side c.args.self.now c.args.name.now) tt _ (c.in-Ok.ensures.dropped s honest stands is)

pub returns-in-Err-clause-drops : goal.returns-in-Err-clause-drops
returns-in-Err-clause-drops g c = held_refused c.args.side c.args.self.now c.drop_records.new.self c.args.name.now c.in-Err.error c.requires.fit c.in-Err.ensures.runs

pub returns-in-Err-clause-runs : goal.returns-in-Err-clause-runs
returns-in-Err-clause-runs g c = λ s honest stands is.
    let rack = g.R.Rack in
    let old = c.args.rack.now in
    let v = c.args.self.now in
    let w = c.drop_records.new.self in
    let name = c.args.name.now in
    let side = c.args.side in
    let error = c.in-Err.error in
    runs_of_failed rack.disk rack.moment rack.left_since refuses old c.drop_records.new.rack v w s (drops_on side v name) error (λ refused. not_refused side v w name (Err error) (held_refused side v w name error c.requires.fit c.in-Err.ensures.runs) refused)
    (drop_allowed side v name (rack.disk old) s c.requires.idle c.requires.holder stands is) (c.in-Err.ensures.dropped s honest stands is)
