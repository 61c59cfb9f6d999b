use Rattle.std.proofs.Common.{◌≡◌, ◌-◌, ℕ, List, ◌∙◌, ap, subst, arith}
use Rattle.std.specs.Prelude.{Ok, Err}
use Rattle.std.specs.String.{string_bytes}
use Rattle.chunk_volume.specs.VolumeValues.{VolumeValue}
use Rattle.volume_index.specs.HoldingValues.{held_bytes}
use Rattle.seed_mover.specs.PutParts.{AddsAll}
use Rattle.seed_mover.specs.Putting.{blocks_of, put_plan}
use Rattle.site_runs.specs.SiteValues.{shapes_in}
use Rattle.seed_mover.specs.Through.{RunsThrough}
use Rattle.seed_mover.proofs.PutAnswers.{more_bytes, put_done, put_stopped, put_unready, put_wanting, puts_done}
use Rattle.seed_mover.proofs.site.Site.put_blocks.Goals as goal

pub returns-in-Err-clause-put : goal.returns-in-Err-clause-put
returns-in-Err-clause-put g c = λ s honest stands is.
    let rack = g.R.Rack in
    let old = c.args.rack.now in
    let new = c.ready_to_put.new.rack in
    put_unready rack.disk rack.moment rack.left_since old new c.args.self.now c.ready_to_put.new.self c.args.name.now c.args.bytes.now c.args.ends.now c.in-Err.error s stands is c.in-Err.ensures.readies (c.in-Err.ensures.ready honest)

pub returns-in_default-from_str-clause-put : goal.returns-in_default-from_str-clause-put
returns-in_default-from_str-clause-put g c = λ s honest stands is.
    let rack = g.R.Rack in
    let old = c.args.rack.now in
    let new = c.ready_to_put.new.rack in
    let e = c.in_default.ensures in
    put_wanting rack.disk rack.moment rack.left_since old new new c.args.self.now c.ready_to_put.new.self c.ready_to_put.new.self c.args.name.now c.args.bytes.now c.args.ends.now e.readies (e.ready honest) s stands is

pub overflow_sub-result : goal.overflow_sub-result
overflow_sub-result g c =
    let v = c.args.self.now in
    let u = c.ready_to_put.new.self in
    let w = c.add_all.new.self in
    let name = c.args.name.now in
    let blocks = blocks_of c.args.bytes.now c.args.ends.now in
    let ready = c.in_default.ensures in
    let file_is : string_bytes c.in-Ok.file ≡ name = c.in-Ok.ensures.ok in
    let adds = subst (λ (n : List ℕ). AddsAll u w (put_plan (shapes_in u) n blocks) (Ok tt)) file_is c.in-Ok-add_all.ensures.adds in
    let before : c.bytes-before.result ≡ held_bytes u.a.shape = c.bytes-before.ensures ∙ ap (λ (x : VolumeValue). held_bytes x.shape) c.a.ensures in
    let after : c.bytes.result ≡ held_bytes w.a.shape = c.bytes.ensures ∙ ap (λ (x : VolumeValue). held_bytes x.shape) c.a-in-Ok-add_all.ensures in
    let more = more_bytes v u w name blocks ready.readies adds in
    omega (arith, before, after, more)

pub returns-in-Ok-add_all-clause-puts : goal.returns-in-Ok-add_all-clause-puts
returns-in-Ok-add_all-clause-puts g c =
    let v = c.args.self.now in
    let u = c.ready_to_put.new.self in
    let w = c.add_all.new.self in
    let name = c.args.name.now in
    let blocks = blocks_of c.args.bytes.now c.args.ends.now in
    let ready = c.in_default.ensures in
    let file_is : string_bytes c.in-Ok.file ≡ name = c.in-Ok.ensures.ok in
    let adds = subst (λ (n : List ℕ). AddsAll u w (put_plan (shapes_in u) n blocks) (Ok tt)) file_is c.in-Ok-add_all.ensures.adds in
    let before : c.bytes-before.result ≡ held_bytes u.a.shape = c.bytes-before.ensures ∙ ap (λ (x : VolumeValue). held_bytes x.shape) c.a.ensures in
    let after : c.bytes.result ≡ held_bytes w.a.shape = c.bytes.ensures ∙ ap (λ (x : VolumeValue). held_bytes x.shape) c.a-in-Ok-add_all.ensures in
    let more = more_bytes v u w name blocks ready.readies adds in
    puts_done v u w name blocks ready.readies (c.bytes.result - c.bytes-before.result) c.requires.may adds (omega (arith, before, after, more))

pub returns-in-Ok-add_all-clause-put : goal.returns-in-Ok-add_all-clause-put
returns-in-Ok-add_all-clause-put g c = λ s honest stands is.
    let v = c.args.self.now in
    let u = c.ready_to_put.new.self in
    let w = c.add_all.new.self in
    let name = c.args.name.now in
    let blocks = blocks_of c.args.bytes.now c.args.ends.now in
    let ready = c.in_default.ensures in
    let file_is : string_bytes c.in-Ok.file ≡ name = c.in-Ok.ensures.ok in
    let adds = subst (λ (n : List ℕ). AddsAll u w (put_plan (shapes_in u) n blocks) (Ok tt)) file_is c.in-Ok-add_all.ensures.adds in
    let rack = g.R.Rack in
    let old = c.args.rack.now in
    let mid = c.ready_to_put.new.rack in
    let new = c.add_all.new.rack in
    let still = ready.honest ∙ honest in
    put_done rack.disk rack.moment rack.left_since old mid new v u w name c.args.bytes.now c.args.ends.now ready.readies (ready.ready honest) s stands is c.requires.may c.requires.lawful c.requires.ends c.requires.few (c.bytes.result - c.bytes-before.result) adds
    (subst (λ (n : List ℕ). RunsThrough rack.disk rack.moment rack.left_since mid new u w {T = Unit {0}} (put_plan (shapes_in u) n blocks) (Ok tt)) file_is (c.in-Ok-add_all.ensures.added still))

pub returns-in-Err-add_all-clause-put : goal.returns-in-Err-add_all-clause-put
returns-in-Err-add_all-clause-put g c = λ s honest stands is.
    let v = c.args.self.now in
    let u = c.ready_to_put.new.self in
    let w = c.add_all.new.self in
    let name = c.args.name.now in
    let blocks = blocks_of c.args.bytes.now c.args.ends.now in
    let ready = c.in_default.ensures in
    let file_is : string_bytes c.in-Ok.file ≡ name = c.in-Ok.ensures.ok in
    let rack = g.R.Rack in
    let old = c.args.rack.now in
    let mid = c.ready_to_put.new.rack in
    let new = c.add_all.new.rack in
    let still = ready.honest ∙ honest in
    let error = c.in-Err-add_all.error in
    put_stopped rack.disk rack.moment rack.left_since old mid new v u w name c.args.bytes.now c.args.ends.now ready.readies (ready.ready honest) s stands is c.requires.may c.requires.lawful c.requires.ends c.requires.few error
    (subst (λ (n : List ℕ). AddsAll u w (put_plan (shapes_in u) n blocks) (Err error)) file_is c.in-Err-add_all.ensures.adds)
    (subst (λ (n : List ℕ). RunsThrough rack.disk rack.moment rack.left_since mid new u w {T = Unit {0}} (put_plan (shapes_in u) n blocks) (Err error)) file_is (c.in-Err-add_all.ensures.added still))
