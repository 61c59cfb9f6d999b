use Rattle.std.proofs.Common.{◌≡◌, ◌<◌, ◌≤◌, Some, None, length, sym, ◌∙◌, arith}
use Rattle.std.specs.Prelude.{slice_get}
use Rattle.std.specs.List.{position}
use Rattle.std.specs.FinMap as map
use Rattle.site_core.specs.Steps.{first_step, chunks_to_copy}
use Rattle.volume_index.specs.HoldingValues.{orphans}
use Rattle.site_core.proofs.Searching.{position_is, no_position, lacked_is, none_lacked}
use Rattle.site_core.proofs.next.next_step.Goals as goal

pub returns-then-cursor-len-clause-step : goal.returns-then-cursor-len-clause-step
returns-then-cursor-len-clause-step c =
    let s = c.args.source.now.shape in
    let t = c.args.target.now.shape in
    let names = c.args.names.now in
    let place = c.first_lacked-cursor.result in
    let copy : slice_get (chunks_to_copy s t names) 0 ≡ None = sym c.first_to_copy-spot.ensures.chunk ∙ c.in_default.is in
    let inside : place < length names = omega (arith, c.if-cursor-len.true, c.len.ensures.count) in
    let add = lacked_is t names place inside c.first_lacked-cursor.ensures.held (c.first_lacked-cursor.ensures.lacks inside) in
    sym (λ i. first_step (copy i) (add i) (position (map.contains_key s.files) names) (slice_get (orphans s) 0))

pub returns-then-cursor-len-2-clause-step : goal.returns-then-cursor-len-2-clause-step
returns-then-cursor-len-2-clause-step c =
    let s = c.args.source.now.shape in
    let t = c.args.target.now.shape in
    let names = c.args.names.now in
    let place = c.first_held-cursor.result in
    let copy : slice_get (chunks_to_copy s t names) 0 ≡ None = sym c.first_to_copy-spot.ensures.chunk ∙ c.in_default.is in
    let past : length names ≤ c.first_lacked-cursor.result = omega (arith, c.if-cursor-len.false, c.len.ensures.count) in
    let add = none_lacked t names c.first_lacked-cursor.result past c.first_lacked-cursor.ensures.held in
    let inside : place < length names = omega (arith, c.if-cursor-len-2.true, c.len-2.ensures.count) in
    let drop = position_is (map.contains_key s.files) names place inside (c.first_held-cursor.ensures.holds inside) c.first_held-cursor.ensures.lacked in
    sym (λ i. first_step (copy i) (add i) (drop i) (slice_get (orphans s) 0))

pub returns-in-Some-first_orphan-clause-step : goal.returns-in-Some-first_orphan-clause-step
returns-in-Some-first_orphan-clause-step c =
    let s = c.args.source.now.shape in
    let t = c.args.target.now.shape in
    let names = c.args.names.now in
    let copy : slice_get (chunks_to_copy s t names) 0 ≡ None = sym c.first_to_copy-spot.ensures.chunk ∙ c.in_default.is in
    let past : length names ≤ c.first_lacked-cursor.result = omega (arith, c.if-cursor-len.false, c.len.ensures.count) in
    let add = none_lacked t names c.first_lacked-cursor.result past c.first_lacked-cursor.ensures.held in
    let gone : length names ≤ c.first_held-cursor.result = omega (arith, c.if-cursor-len-2.false, c.len-2.ensures.count) in
    let drop = no_position (map.contains_key s.files) names (λ k inside. c.first_held-cursor.ensures.lacked k (omega (arith, inside, gone))) in
    let orphan : slice_get (orphans s) 0 ≡ Some c.in-Some-first_orphan.chunk = sym c.first_orphan.ensures ∙ c.in-Some-first_orphan.is in
    sym (λ i. first_step (copy i) (add i) (drop i) (orphan i))

pub returns-in-None-clause-step : goal.returns-in-None-clause-step
returns-in-None-clause-step c =
    let s = c.args.source.now.shape in
    let t = c.args.target.now.shape in
    let names = c.args.names.now in
    let copy : slice_get (chunks_to_copy s t names) 0 ≡ None = sym c.first_to_copy-spot.ensures.chunk ∙ c.in_default.is in
    let past : length names ≤ c.first_lacked-cursor.result = omega (arith, c.if-cursor-len.false, c.len.ensures.count) in
    let add = none_lacked t names c.first_lacked-cursor.result past c.first_lacked-cursor.ensures.held in
    let gone : length names ≤ c.first_held-cursor.result = omega (arith, c.if-cursor-len-2.false, c.len-2.ensures.count) in
    let drop = no_position (map.contains_key s.files) names (λ k inside. c.first_held-cursor.ensures.lacked k (omega (arith, inside, gone))) in
    let orphan : slice_get (orphans s) 0 ≡ None = sym c.first_orphan.ensures ∙ c.in-None.is in
    sym (λ i. first_step (copy i) (add i) (drop i) (orphan i))
