use Rattle.std.proofs.Common.{ℕ, List, [], ◌∷◌, ◌++◌, length, rules, refl, sym, ◌∙◌, ap, subst, arith}
use Rattle.std.specs.Prelude.{Err, Ok, slice_get}
use Rattle.fault_count.specs.Counts.{HandsOn}
use Rattle.site_forms.specs.VolumeRecords.{IsChunkName}
use Rattle.site_forms.specs.VolumeRecords.VolumeRecord.{DropChunkRecord}
use Rattle.chunk_volume.specs.VolumeValues.{VolumeValue}
use Rattle.volume_index.specs.HoldingValues.{orphans}
use Rattle.site_core.specs.Events.{Append}
use Rattle.site_core.specs.Plans.{IsFrontOf, after_plan}
use Rattle.site_runs.specs.Runs.{SoFar}
use Rattle.site_runs.proofs.Fronts.{front_none}
use Rattle.site_runs.proofs.RunEnds.{front_done}
use Rattle.site_runs.proofs.Runs.{run_begins}
use Rattle.seed_mover.specs.declared.errors.SiteError.TheVariants.{RackFault}
use Rattle.seed_mover.specs.Entries.{append_to}
use Rattle.seed_mover.specs.Errors.{refuses}
use Rattle.seed_mover.specs.Unused.{unused_of}
use Rattle.seed_mover.proofs.Refusals.{decides}
use Rattle.seed_mover.proofs.Stepping.{step_err, step_ok}
use Rattle.seed_mover.proofs.UnusedDropped.{all_dropped, here, left_behind, may_drop, may_drop_state, rest_left, so_far_all, so_far_more, so_far_none, stops}
use Rattle.seed_mover.proofs.site.Site.drop_unused.Goals as goal

pub chunks-init : goal.chunks-init
chunks-init g c = record {
  count = refl;
  honest = refl;
  fresh = c.requires.fresh;
  done = [];
  so_far = so_far_none c.args.side c.args.self.now c.requires.idle;
  runs = λ s honest stands is. run_begins g.R.Rack.disk g.R.Rack.moment g.R.Rack.left_since (IsFrontOf []) s c.args.rack.now c.args.self.now (front_none []) (λ y left. g.met.R.Rack.only_now _ y honest left) stands;
}

pub record-requires-clause-fresh : goal.record-requires-clause-fresh
record-requires-clause-fresh g c = c.chunks.invariant.fresh

pub record-requires-clause-may : goal.record-requires-clause-may
record-requires-clause-may g c =
    let is = c.in-Some.ensures ∙ ap (λ (x : VolumeValue). slice_get (orphans x.shape) 0) c.volume.ensures in
    let named : IsChunkName c.in-Some.chunk = search rules in
    may_drop c.args.side c.chunks.self c.in-Some.chunk c.chunks.invariant.so_far.idle named is

pub chunks-preserved : goal.chunks-preserved
chunks-preserved g c =
    let rack = g.R.Rack in
    let old = c.args.rack.now in
    let mid = c.chunks.rack in
    let new = c.record.new.rack in
    let v = c.args.self.now in
    let u = c.chunks.self in
    let w = c.record.new.self in
    let side = c.args.side in
    let chunk = c.in-Some.chunk in
    let inv = c.chunks.invariant in
    let is = c.in-Some.ensures ∙ ap (λ (x : VolumeValue). slice_get (orphans x.shape) 0) c.volume.ensures in
    let named : IsChunkName chunk = search rules in
    record {
      count = c.in-Ok.ensures.cause.kept (λ same. cc) ∙ inv.count;
      honest = c.in-Ok.ensures.honest ∙ inv.honest;
      fresh = c.in-Ok.ensures.appends.1.spent ∙ inv.fresh;
      done = inv.done ++ append_to side (DropChunkRecord chunk) ∷ [];
      so_far = so_far_more side v u w inv.done chunk inv.so_far is c.in-Ok.ensures.appends;
      runs = λ s honest stands site.
          let so_far = inv.runs s honest stands site in
          step_ok rack.disk rack.moment rack.left_since refuses old mid new v u w s inv.done (append_to side (DropChunkRecord chunk)) so_far (Ok tt) site (may_drop_state side u chunk (rack.disk mid) (after_plan s inv.done) inv.so_far.idle named is so_far.stands)
          (c.in-Ok.ensures.adds (inv.honest ∙ honest));
    }

pub chunks-smaller : goal.chunks-smaller
chunks-smaller g c =
    let is = c.in-Some.ensures ∙ ap (λ (x : VolumeValue). slice_get (orphans x.shape) 0) c.volume.ensures in
    omega (arith, ap length (left_behind c.args.side c.chunks.self c.record.new.self c.in-Some.chunk is c.in-Ok.ensures.appends.1).0)

pub returns-in-Err-clause-cause : goal.returns-in-Err-clause-cause
returns-in-Err-clause-cause g c = subst (λ (n : ℕ). HandsOn {T = Unit {0}} RackFault n (g.R.Rack.faults c.record.new.rack) (Err c.in-Err.error)) c.chunks.invariant.count c.in-Err.ensures.cause

pub returns-in-Err-clause-honest : goal.returns-in-Err-clause-honest
returns-in-Err-clause-honest g c = c.in-Err.ensures.honest ∙ c.chunks.invariant.honest

pub returns-in-Err-clause-drops : goal.returns-in-Err-clause-drops
returns-in-Err-clause-drops g c =
    let inv = c.chunks.invariant in
    let is = c.in-Some.ensures ∙ ap (λ (x : VolumeValue). slice_get (orphans x.shape) 0) c.volume.ensures in
    stops c.args.side c.args.self.now c.chunks.self c.record.new.self inv.done c.in-Some.chunk inv.so_far is c.in-Err.error c.requires.room c.in-Err.ensures.appends

pub returns-in-Err-clause-dropped : goal.returns-in-Err-clause-dropped
returns-in-Err-clause-dropped g c = λ s honest stands site.
    let rack = g.R.Rack in
    let old = c.args.rack.now in
    let mid = c.chunks.rack in
    let new = c.record.new.rack in
    let side = c.args.side in
    let v = c.args.self.now in
    let u = c.chunks.self in
    let chunk = c.in-Some.chunk in
    let inv = c.chunks.invariant in
    let is = c.in-Some.ensures ∙ ap (λ (x : VolumeValue). slice_get (orphans x.shape) 0) c.volume.ensures in
    let named : IsChunkName chunk = search rules in
    let so_far = inv.runs s honest stands site in
    let left = rest_left side v u c.record.new.self inv.done chunk inv.so_far is in
    step_err rack.disk rack.moment rack.left_since refuses old mid new v u c.record.new.self s (unused_of side v) inv.done left.0 (append_to side (DropChunkRecord chunk)) so_far c.in-Err.error site
    (may_drop_state side u chunk (rack.disk mid) (after_plan s inv.done) inv.so_far.idle named is so_far.stands) (c.in-Err.ensures.adds (inv.honest ∙ honest)) (here side v u c.record.new.self inv.done chunk inv.so_far is) (decides c.in-Err.error)

pub returns-clause-drops : goal.returns-clause-drops
returns-clause-drops g c =
    let inv = c.chunks.invariant in
    let none = c.in_default.ensures ∙ ap (λ (x : VolumeValue). slice_get (orphans x.shape) 0) c.volume.ensures in
    all_dropped c.args.side c.args.self.now c.chunks.self inv.done inv.so_far none

pub returns-clause-dropped : goal.returns-clause-dropped
returns-clause-dropped g c = λ s honest stands site.
    let rack = g.R.Rack in
    let old = c.args.rack.now in
    let new = c.chunks.rack in
    let v = c.args.self.now in
    let u = c.chunks.self in
    let inv = c.chunks.invariant in
    let none = c.in_default.ensures ∙ ap (λ (x : VolumeValue). slice_get (orphans x.shape) 0) c.volume.ensures in
    let all = so_far_all c.args.side v u inv.done inv.so_far none in
    front_done rack.disk rack.moment rack.left_since refuses old new v u s (unused_of c.args.side v) tt
    (subst (λ (p : List Append). SoFar rack.disk rack.moment rack.left_since (IsFrontOf p) s old new u p) (sym all) (inv.runs s honest stands site))
