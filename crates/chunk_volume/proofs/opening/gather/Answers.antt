use Rattle.std.proofs.Common.{◌≡◌, ◌<◌, ◌≤◌, ◌+◌, ℕ, List, [], Bool, Result, Err, length, get_or, refl, sym, ◌∙◌, ap, subst, arith}
use Rattle.volume_disk.specs.Medium.{Medium}
use Rattle.site_forms.specs.Logs.{parse}
use Rattle.fault_count.specs.Counts.{HandsOn}
use Rattle.chunk_log.specs.Walking.{IsStep, place_behind}
use Rattle.device_pieces.specs.Pieces.{Shows}
use Rattle.device_pieces.proofs.Quiets.{quiet_begins, quiet_then}
use Rattle.chunk_volume.specs.declared.errors.VolError.{VolError}
use Rattle.chunk_volume.specs.declared.errors.VolError.TheVariants.{RackFault}
use Rattle.chunk_volume.specs.Errors.{of_log}
use Rattle.chunk_volume.specs.Folding.{Folds, FoldsNext, Indexes}
use Rattle.chunk_volume.specs.Pieces.{bytes_at}
use Rattle.chunk_volume.specs.VolumeInside.{StandBefore}
use Rattle.chunk_volume.proofs.Adding.{handed}
use Rattle.chunk_volume.proofs.Causes.{hands_over}
use Rattle.chunk_volume.proofs.Gathering.{Gathered, gathered_begins, gathered_inside, gathered_more, gathered_stops, gathered_ends, met, walk_refused, next_refused, nothing_before}
use Rattle.volume_index.specs.Indexes.{IndexValue}
use Rattle.chunk_volume.proofs.opening.gather.Goals as goal

pub records-init : goal.records-init
records-init g c =
    let rack = g.R.Rack in
    record {
      below = omega arith;
      count = refl;
      honest = refl;
      quiet = λ honest. quiet_begins rack.moment rack.left_since c.args.rack.now (rack.disk c.args.rack.now) (λ x left. g.met.R.Rack.only_now _ x honest left);
      device = c.requires;
      shows = λ honest shows. shows;
      within = nothing_before 0 c.new-index.result.places c.new-index.result.shape.chunks c.new-index.ensures.places;
      gathered = λ bodies honest shows good. gathered_begins (rack.disk c.args.rack.now c.args.log.now.device).image bodies c.new-index.result c.new-index.ensures.shape;
    }

pub returns-in_err-place-clause-folds : goal.returns-in_err-place-clause-folds
returns-in_err-place-clause-folds g c = λ honest shows bodies good.
    let rack = g.R.Rack in
    let inv = c.records.invariant in
    let device = c.args.log.now.device in
    let image = (rack.disk c.args.rack.now device).image in
    let end = c.args.log.now.end in
    let at = c.records.at in
    let before : at < end = omega (arith, c.records-test.true, c.end.ensures.gate) in
    let good_here = ap (λ (m : Medium). parse m.image) ((inv.quiet honest).same device) ∙ good in
    let was : (rack.disk c.records.rack device).image ≡ image = ap (λ (m : Medium). m.image) ((inv.quiet honest).same device) in
    let shown_here = subst (λ (l : List ℕ). Shows l c.records.piece) (sym was) (inv.shows honest shows) in
    let so_far = inv.gathered bodies honest shows good in
    let inside = gathered_inside image bodies at end c.records.index good so_far before in
    let error = c.in_err-place.field-0.0 in
    handed c.from_residual.result (of_log error) (λ (x : Result IndexValue VolError). Folds image end bodies x) c.from_residual.ensures.1
    (walk_refused image end bodies (place_behind at (length (get_or bodies so_far.number []))) error (c.in_err-place.ensures.bodies bodies so_far.number (inv.honest ∙ honest) shown_here good_here inside so_far.gate))

pub returns-in_err-fold_next-clause-cause : goal.returns-in_err-fold_next-clause-cause
returns-in_err-fold_next-clause-cause g c =
    let faults = g.R.Rack.faults in
    let error = c.in_err-fold_next.field-0.0 in
    let same : faults c.walk_by.new.rack ≡ faults c.args.rack.now = c.in_ok-place.ensures.cause.kept (λ is. cc) ∙ c.records.invariant.count in
    handed c.from_residual-in_err-fold_next.result error (λ (x : Result IndexValue VolError). HandsOn RackFault (faults c.args.rack.now) (faults c.fold_next.new.rack) x) c.from_residual-in_err-fold_next.ensures.1
    (subst (λ (n : ℕ). HandsOn {T = IndexValue} RackFault n (faults c.fold_next.new.rack) (Err error)) same (hands_over Bool IndexValue VolError RackFault error (faults c.walk_by.new.rack) (faults c.fold_next.new.rack) c.in_err-fold_next.ensures.cause))

pub returns-in_err-fold_next-clause-quiet : goal.returns-in_err-fold_next-clause-quiet
returns-in_err-fold_next-clause-quiet g c = λ honest.
    let rack = g.R.Rack in
    let inv = c.records.invariant in
    let device = c.args.log.now.device in
    let image = (rack.disk c.args.rack.now device).image in
    let end = c.args.log.now.end in
    let at = c.records.at in
    let before : at < end = omega (arith, c.records-test.true, c.end.ensures.gate) in
    let honest_2 = c.in_ok-place.ensures.honest ∙ inv.honest ∙ honest in
    let one = quiet_then rack.moment rack.left_since c.args.rack.now c.records.rack c.walk_by.new.rack _ _ _ (λ t x le crash. g.met.R.Rack.counts_now _ t x (inv.honest ∙ honest) le crash) (inv.quiet honest) (c.in_ok-place.ensures.quiet (inv.honest ∙ honest)) in
    let here : (rack.disk c.walk_by.new.rack device).image ≡ image = ap (λ (m : Medium). m.image) (one.same device) in
    quiet_then rack.moment rack.left_since c.args.rack.now c.walk_by.new.rack c.fold_next.new.rack _ _ _ (λ t x le crash. g.met.R.Rack.counts_now _ t x honest_2 le crash) one (c.in_err-fold_next.ensures.quiet honest_2)

pub returns-in_err-fold_next-clause-folds : goal.returns-in_err-fold_next-clause-folds
returns-in_err-fold_next-clause-folds g c = λ honest shows bodies good.
    let rack = g.R.Rack in
    let inv = c.records.invariant in
    let device = c.args.log.now.device in
    let image = (rack.disk c.args.rack.now device).image in
    let end = c.args.log.now.end in
    let at = c.records.at in
    let before : at < end = omega (arith, c.records-test.true, c.end.ensures.gate) in
    let good_here = ap (λ (m : Medium). parse m.image) ((inv.quiet honest).same device) ∙ good in
    let was : (rack.disk c.records.rack device).image ≡ image = ap (λ (m : Medium). m.image) ((inv.quiet honest).same device) in
    let shown_here = subst (λ (l : List ℕ). Shows l c.records.piece) (sym was) (inv.shows honest shows) in
    let honest_2 = c.in_ok-place.ensures.honest ∙ inv.honest ∙ honest in
    let one = quiet_then rack.moment rack.left_since c.args.rack.now c.records.rack c.walk_by.new.rack _ _ _ (λ t x le crash. g.met.R.Rack.counts_now _ t x (inv.honest ∙ honest) le crash) (inv.quiet honest) (c.in_ok-place.ensures.quiet (inv.honest ∙ honest)) in
    let here : (rack.disk c.walk_by.new.rack device).image ≡ image = ap (λ (m : Medium). m.image) (one.same device) in
    let shown_next = subst (λ (l : List ℕ). Shows l c.walk_by.new.piece) (was ∙ sym here) (c.in_ok-place.ensures.shows (inv.honest ∙ honest) shown_here) in
    let has = met image bodies at end c.records.index c.in-Some.place c.in_ok-place.field-0 good (inv.gathered bodies honest shows good) before c.in-Some.is (λ i inside is. c.in_ok-place.ensures.bodies bodies i (inv.honest ∙ honest) shown_here good_here inside is) in
    let whole : c.in-Some.place.at + c.in-Some.place.len ≤ length (rack.disk c.walk_by.new.rack device).image = subst (λ (l : List ℕ). c.in-Some.place.at + c.in-Some.place.len ≤ length l) (sym here) has.whole in
    let error = c.in_err-fold_next.field-0.0 in
    handed c.from_residual-in_err-fold_next.result error (λ (x : Result IndexValue VolError). Folds image end bodies x) c.from_residual-in_err-fold_next.ensures.1 (next_refused image end bodies error (c.in_err-fold_next.ensures.undamaged honest_2 shown_next whole))

pub returns-then-not-branch-clause-quiet : goal.returns-then-not-branch-clause-quiet
returns-then-not-branch-clause-quiet g c = λ honest.
    let rack = g.R.Rack in
    let inv = c.records.invariant in
    let device = c.args.log.now.device in
    let image = (rack.disk c.args.rack.now device).image in
    let end = c.args.log.now.end in
    let at = c.records.at in
    let before : at < end = omega (arith, c.records-test.true, c.end.ensures.gate) in
    let honest_2 = c.in_ok-place.ensures.honest ∙ inv.honest ∙ honest in
    let one = quiet_then rack.moment rack.left_since c.args.rack.now c.records.rack c.walk_by.new.rack _ _ _ (λ t x le crash. g.met.R.Rack.counts_now _ t x (inv.honest ∙ honest) le crash) (inv.quiet honest) (c.in_ok-place.ensures.quiet (inv.honest ∙ honest)) in
    let here : (rack.disk c.walk_by.new.rack device).image ≡ image = ap (λ (m : Medium). m.image) (one.same device) in
    quiet_then rack.moment rack.left_since c.args.rack.now c.walk_by.new.rack c.fold_next.new.rack _ _ _ (λ t x le crash. g.met.R.Rack.counts_now _ t x honest_2 le crash) one (c.in_ok-fold_next.ensures.quiet honest_2)

pub returns-then-not-branch-clause-folds : goal.returns-then-not-branch-clause-folds
returns-then-not-branch-clause-folds g c = λ honest shows bodies good.
    let rack = g.R.Rack in
    let inv = c.records.invariant in
    let device = c.args.log.now.device in
    let image = (rack.disk c.args.rack.now device).image in
    let end = c.args.log.now.end in
    let at = c.records.at in
    let before : at < end = omega (arith, c.records-test.true, c.end.ensures.gate) in
    let good_here = ap (λ (m : Medium). parse m.image) ((inv.quiet honest).same device) ∙ good in
    let was : (rack.disk c.records.rack device).image ≡ image = ap (λ (m : Medium). m.image) ((inv.quiet honest).same device) in
    let shown_here = subst (λ (l : List ℕ). Shows l c.records.piece) (sym was) (inv.shows honest shows) in
    let honest_2 = c.in_ok-place.ensures.honest ∙ inv.honest ∙ honest in
    let one = quiet_then rack.moment rack.left_since c.args.rack.now c.records.rack c.walk_by.new.rack _ _ _ (λ t x le crash. g.met.R.Rack.counts_now _ t x (inv.honest ∙ honest) le crash) (inv.quiet honest) (c.in_ok-place.ensures.quiet (inv.honest ∙ honest)) in
    let here : (rack.disk c.walk_by.new.rack device).image ≡ image = ap (λ (m : Medium). m.image) (one.same device) in
    let shown_next = subst (λ (l : List ℕ). Shows l c.walk_by.new.piece) (was ∙ sym here) (c.in_ok-place.ensures.shows (inv.honest ∙ honest) shown_here) in
    let has = met image bodies at end c.records.index c.in-Some.place c.in_ok-place.field-0 good (inv.gathered bodies honest shows good) before c.in-Some.is (λ i inside is. c.in_ok-place.ensures.bodies bodies i (inv.honest ∙ honest) shown_here good_here inside is) in
    let whole : c.in-Some.place.at + c.in-Some.place.len ≤ length (rack.disk c.walk_by.new.rack device).image = subst (λ (l : List ℕ). c.in-Some.place.at + c.in-Some.place.len ≤ length l) (sym here) has.whole in
    let next = get_or bodies has.so_far.number [] in
    let folds : FoldsNext at c.records.index c.fold_next.new.index next c.in_ok-fold_next.field-0 = subst (λ (l : List ℕ). FoldsNext at c.records.index c.fold_next.new.index l c.in_ok-fold_next.field-0) (ap (λ (l : List ℕ). bytes_at l c.in-Some.place.at c.in-Some.place.len) here ∙ has.same) (c.in_ok-fold_next.ensures.folds at honest_2 shown_next has.placed whole) in
    gathered_stops image bodies at c.records.index has.so_far has.inside c.fold_next.new.index (subst (FoldsNext at c.records.index c.fold_next.new.index next) c.if-not-branch.true folds)

pub records-preserved : goal.records-preserved
records-preserved g c =
    let rack = g.R.Rack in
    let inv = c.records.invariant in
    let device = c.args.log.now.device in
    let image = (rack.disk c.args.rack.now device).image in
    let end = c.args.log.now.end in
    let at = c.records.at in
    let place = c.in-Some.place in
    let before : at < end = omega (arith, c.records-test.true, c.end.ensures.gate) in
    let walked = rw c.in-Some.is at c.in_ok-place.ensures.walks in
    let step : IsStep c.args.log.now at place = walked.1 in
    record {
      below = step.inside;
      count = c.in_ok-fold_next.ensures.cause.kept (λ is. cc) ∙ c.in_ok-place.ensures.cause.kept (λ is. cc) ∙ inv.count;
      honest = c.in_ok-fold_next.ensures.honest ∙ c.in_ok-place.ensures.honest ∙ inv.honest;
      quiet = λ honest.
          let honest_2 = c.in_ok-place.ensures.honest ∙ inv.honest ∙ honest in
          let one = quiet_then rack.moment rack.left_since c.args.rack.now c.records.rack c.walk_by.new.rack _ _ _ (λ t x le crash. g.met.R.Rack.counts_now _ t x (inv.honest ∙ honest) le crash) (inv.quiet honest) (c.in_ok-place.ensures.quiet (inv.honest ∙ honest)) in
          let here : (rack.disk c.walk_by.new.rack device).image ≡ image = ap (λ (m : Medium). m.image) (one.same device) in
          quiet_then rack.moment rack.left_since c.args.rack.now c.walk_by.new.rack c.fold_next.new.rack _ _ _ (λ t x le crash. g.met.R.Rack.counts_now _ t x honest_2 le crash) one (c.in_ok-fold_next.ensures.quiet honest_2);
      device = c.in_ok-fold_next.ensures.device;
      shows = λ honest shows.
          let honest_2 = c.in_ok-place.ensures.honest ∙ inv.honest ∙ honest in
          let one = quiet_then rack.moment rack.left_since c.args.rack.now c.records.rack c.walk_by.new.rack _ _ _ (λ t x le crash. g.met.R.Rack.counts_now _ t x (inv.honest ∙ honest) le crash) (inv.quiet honest) (c.in_ok-place.ensures.quiet (inv.honest ∙ honest)) in
          let was : (rack.disk c.records.rack device).image ≡ image = ap (λ (m : Medium). m.image) ((inv.quiet honest).same device) in
          let here : (rack.disk c.walk_by.new.rack device).image ≡ image = ap (λ (m : Medium). m.image) (one.same device) in
          let shown_here = subst (λ (l : List ℕ). Shows l c.records.piece) (sym was) (inv.shows honest shows) in
          let shown_next = subst (λ (l : List ℕ). Shows l c.walk_by.new.piece) (was ∙ sym here) (c.in_ok-place.ensures.shows (inv.honest ∙ honest) shown_here) in
          subst (λ (l : List ℕ). Shows l c.fold_next.new.piece) here (c.in_ok-fold_next.ensures.shows honest_2 shown_next);
      within = subst (λ (n : ℕ). StandBefore n c.fold_next.new.index.places c.fold_next.new.index.shape.chunks) (sym step.next) (c.in_ok-fold_next.ensures.within at step.begins inv.within c.if-not-branch.false);
      gathered = λ bodies honest shows good.
          let good_here = ap (λ (m : Medium). parse m.image) ((inv.quiet honest).same device) ∙ good in
          let was : (rack.disk c.records.rack device).image ≡ image = ap (λ (m : Medium). m.image) ((inv.quiet honest).same device) in
          let shown_here = subst (λ (l : List ℕ). Shows l c.records.piece) (sym was) (inv.shows honest shows) in
          let honest_2 = c.in_ok-place.ensures.honest ∙ inv.honest ∙ honest in
          let one = quiet_then rack.moment rack.left_since c.args.rack.now c.records.rack c.walk_by.new.rack _ _ _ (λ t x le crash. g.met.R.Rack.counts_now _ t x (inv.honest ∙ honest) le crash) (inv.quiet honest) (c.in_ok-place.ensures.quiet (inv.honest ∙ honest)) in
          let here : (rack.disk c.walk_by.new.rack device).image ≡ image = ap (λ (m : Medium). m.image) (one.same device) in
          let shown_next = subst (λ (l : List ℕ). Shows l c.walk_by.new.piece) (was ∙ sym here) (c.in_ok-place.ensures.shows (inv.honest ∙ honest) shown_here) in
          let has = met image bodies at end c.records.index c.in-Some.place c.in_ok-place.field-0 good (inv.gathered bodies honest shows good) before c.in-Some.is (λ i inside is. c.in_ok-place.ensures.bodies bodies i (inv.honest ∙ honest) shown_here good_here inside is) in
          let whole : c.in-Some.place.at + c.in-Some.place.len ≤ length (rack.disk c.walk_by.new.rack device).image = subst (λ (l : List ℕ). c.in-Some.place.at + c.in-Some.place.len ≤ length l) (sym here) has.whole in
          let next = get_or bodies has.so_far.number [] in
          let folds : FoldsNext at c.records.index c.fold_next.new.index next c.in_ok-fold_next.field-0 = subst (λ (l : List ℕ). FoldsNext at c.records.index c.fold_next.new.index l c.in_ok-fold_next.field-0) (ap (λ (l : List ℕ). bytes_at l c.in-Some.place.at c.in-Some.place.len) here ∙ has.same) (c.in_ok-fold_next.ensures.folds at honest_2 shown_next has.placed whole) in
          let more = gathered_more image bodies at c.records.index has.so_far has.inside c.fold_next.new.index has.there (subst (FoldsNext at c.records.index c.fold_next.new.index next) c.if-not-branch.false folds) in
          let gate : at + 5 + length next ≡ place.next = omega (arith, step.next, has.placed, has.long) in
          subst (λ (n : ℕ). Gathered image bodies n c.fold_next.new.index) gate more;
    }

pub returns-clause-folds : goal.returns-clause-folds
returns-clause-folds g c = λ honest shows bodies good.
    let inv = c.records.invariant in
    let image = (g.R.Rack.disk c.args.rack.now c.args.log.now.device).image in
    let end = c.args.log.now.end in
    let past : end ≤ c.records.at = omega (arith, c.records-test.false, c.end.ensures.gate) in
    let all = gathered_ends image bodies c.records.at end c.records.index good (inv.gathered bodies honest shows good) past in
    let gate : c.records.at ≡ end = omega (arith, past, inv.below) in
    (all.0, all.1, subst (λ (n : ℕ). Indexes image n c.records.index all.0) gate all.2)
