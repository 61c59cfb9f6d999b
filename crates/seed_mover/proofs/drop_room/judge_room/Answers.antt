use Rattle.std.proofs.Common.{◌≡◌, ℕ, ◌+◌, ◌-◌, ◌/◌, Some, ◌∙◌, ap, length, slice_get, subst, arith}
use Rattle.std.specs.FinMap as map
use Rattle.std.proofs.lemmas.Option.{slice_get_within}
use Rattle.site_forms.specs.Volumes.{Shape, without_file}
use Rattle.volume_index.specs.HoldingValues.{orphans}
use Rattle.volume_index.proofs.Ranks.{count_keys}
use Rattle.chunk_volume.specs.VolumeValues.{VolumeValue}
use Rattle.seed_mover.proofs.DropRoom.{all_fit, chunk_full, name_short}
use Rattle.seed_mover.proofs.drop_room.judge_room.Goals as goal

pub freed_by-requires : goal.freed_by-requires
freed_by-requires c =
    let files = c.args.volume.now.shape.files in
    let name = c.args.name.now in
    let place = c.in-Some.place in
    let is : slice_get (map.keys files) place ≡ Some name = subst (λ (s : Shape). slice_get (map.keys s.files) place ≡ Some name) c.holding-holding.ensures.shape c.in-Some.ensures in
    omega (arith, slice_get_within (map.keys files) place name is, count_keys files)

pub returns-then-most-freed_by-clause-room : goal.returns-then-most-freed_by-clause-room
returns-then-most-freed_by-clause-room c =
    let v = c.args.volume.now in
    let name = c.args.name.now in
    let place = c.in-Some.place in
    let is : slice_get (map.keys v.shape.files) place ≡ Some name = subst (λ (s : Shape). slice_get (map.keys s.files) place ≡ Some name) c.holding-holding.ensures.shape c.in-Some.ensures in
    let count : c.freed_by.result ≡ length (orphans (without_file v.shape name)) = c.freed_by.ensures.count name is in
    let most : ℕ = (c.limit-2.result - (c.end.result + 5 + c.from.result) - 1) / 38 in
    let device = c.device-then-most-freed_by in
    chunk_full v name most device.result _ c.holding-holding.ensures.keeps (omega (arith, count, c.if-most-freed_by.true)) (device.ensures.device ∙ ap (λ (x : VolumeValue). x.log.device) c.freed_by.ensures.same)
    (omega (arith, c.end.ensures.gate, c.from.ensures)) (omega (arith, c.limit.ensures.limit, c.limit-2.ensures.limit, c.if-limit-behind.false))
    (omega (arith, c.limit.ensures.limit, c.limit-2.ensures.limit, c.if-limit-behind.false))

pub returns-clause-room : goal.returns-clause-room
returns-clause-room c =
    let v = c.args.volume.now in
    let name = c.args.name.now in
    let place = c.in-Some.place in
    let is : slice_get (map.keys v.shape.files) place ≡ Some name = subst (λ (s : Shape). slice_get (map.keys s.files) place ≡ Some name) c.holding-holding.ensures.shape c.in-Some.ensures in
    let count : c.freed_by.result ≡ length (orphans (without_file v.shape name)) = c.freed_by.ensures.count name is in
    let most : ℕ = (c.limit-2.result - (c.end.result + 5 + c.from.result) - 1) / 38 in (
      all_fit v name most c.holding-holding.ensures.keeps (omega (arith, count, c.if-most-freed_by.false))
          (omega (arith, c.end.ensures.gate, c.from.ensures, c.limit.ensures.limit, c.limit-2.ensures.limit, c.if-limit-behind.false)),
      name_short v.shape name c.holding-holding.ensures.keeps c.requires,
    )
