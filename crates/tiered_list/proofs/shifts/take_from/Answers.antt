use Rattle.std.proofs.Common.{◌≡◌, ◌<◌, ◌∙◌, ◌+◌, ◌/◌, ◌%◌, ◌++◌, ℕ, List, [], ap, arith, length, get_or, set}
use Rattle.std.specs.List.{concat, remove}
use Rattle.std.specs.Option.{option_to_list}
use Rattle.std.proofs.lemmas.List.{get_or_default}
use Rattle.tiered_list.specs.Inside.{AreParts, width}
use Rattle.tiered_list.proofs.Parts.{joined, tiers_of}
use Rattle.tiered_list.proofs.Reading.{block_inside}
use Rattle.tiered_list.proofs.Taking.{HasShifted, take_parts, take_read, take_some}
use Rattle.tiered_list.proofs.shifts.take_from.Goals as goal
use Rattle.tiered_list.proofs.shifts.take_from.Goals.{After-take_out}

pub take_out-requires : goal.take_out-requires
take_out-requires c =
    let e = c.shift_behind-next.ensures in
    let now = c.shift_behind-next.new.blocks in
    let q = c.args.place / width in
    let has : HasShifted c.args.blocks.now now (q + 1) (option_to_list c.shift_behind-next.result) = record { before = e.before; behind = e.behind; given = e.first } in
    let lt : q < length now = omega (arith, block_inside c.args.blocks.now c.args.place c.requires.tiers c.requires.place, c.shift_behind-next.auto.blocks) in
    omega (
      arith,
      take_some c.args.blocks.now now c.args.place (option_to_list c.shift_behind-next.result) c.requires.tiers has c.requires.place,
      ap length (get_or_default now q c.index-blocks-first.result [] lt),
    )

-- the parts after the call
parts : (c : After-take_out) → AreParts (set c.shift_behind-next.new.blocks (c.args.place / width) c.take_out.new.self) (remove (concat c.args.blocks.now) c.args.place)
parts c =
    let e = c.shift_behind-next.ensures in
    let now = c.shift_behind-next.new.blocks in
    let q = c.args.place / width in
    let next = option_to_list c.shift_behind-next.result in
    let has : HasShifted c.args.blocks.now now (q + 1) next = record { before = e.before; behind = e.behind; given = e.first } in
    let lt : q < length now = omega (arith, block_inside c.args.blocks.now c.args.place c.requires.tiers c.requires.place, c.shift_behind-next.auto.blocks) in
    take_parts c.args.blocks.now now c.args.place next c.take_out.new.self c.requires.tiers has (omega (arith, c.shift_behind-next.auto.blocks)) c.requires.place
    (c.take_out.ensures.block ∙ ap (λ (b : List ℕ). remove b (c.args.place % width) ++ next) (get_or_default now q c.index-blocks-first.result [] lt))

pub returns-clause-tiers : goal.returns-clause-tiers
returns-clause-tiers c = tiers_of (set c.shift_behind-next.new.blocks (c.args.place / width) c.take_out.new.self) (remove (concat c.args.blocks.now) c.args.place) (parts c)

pub returns-clause-items : goal.returns-clause-items
returns-clause-items c = joined (set c.shift_behind-next.new.blocks (c.args.place / width) c.take_out.new.self) (remove (concat c.args.blocks.now) c.args.place) (parts c)

pub returns-clause-number : goal.returns-clause-number
returns-clause-number c =
    let e = c.shift_behind-next.ensures in
    let now = c.shift_behind-next.new.blocks in
    let q = c.args.place / width in
    let next = option_to_list c.shift_behind-next.result in
    let has : HasShifted c.args.blocks.now now (q + 1) next = record { before = e.before; behind = e.behind; given = e.first } in
    let lt : q < length now = omega (arith, block_inside c.args.blocks.now c.args.place c.requires.tiers c.requires.place, c.shift_behind-next.auto.blocks) in
    take_read c.args.blocks.now now c.args.place next c.take_out.result c.requires.tiers has c.requires.place
    (c.take_out.ensures.out ∙ ap (λ (b : List ℕ). get_or b (c.args.place % width) 0) (get_or_default now q c.index-blocks-first.result [] lt))
