use Rattle.std.proofs.Common.{◌≡◌, ◌<◌, ◌∙◌, ◌∷◌, ℕ, List, [], ap, arith, length, get_or, set, take, drop}
use Rattle.std.specs.List.{concat, insert}
use Rattle.std.proofs.lemmas.List.{get_or_default}
use Rattle.tiered_list.specs.Inside.{AreParts, width}
use Rattle.tiered_list.proofs.Parts.{joined, tiers_of}
use Rattle.tiered_list.proofs.Putting.{put_start, put_fits, put_last, put_next, put_end}
use Rattle.tiered_list.proofs.shifts.put_in.Goals as goal

pub loop-index-init : goal.loop-index-init
loop-index-init c = put_start c.args.blocks.now c.args.place c.args.number c.requires.tiers c.requires.place

pub put-requires-clause-place : goal.put-requires-clause-place
put-requires-clause-place c =
    let l = c.loop-index in
    let lt : l.index < length l.blocks = omega (arith, c.loop-index-test.true, l.auto.blocks) in
    omega (
      arith,
      put_fits c.args.blocks.now l.blocks c.args.place c.args.number l.index l.at l.carried c.requires.tiers l.invariant (omega (arith, lt, l.auto.blocks)),
      ap length (get_or_default l.blocks l.index c.index-blocks-index.result [] lt),
    )

pub returns-in-None-clause-items : goal.returns-in-None-clause-items
returns-in-None-clause-items c =
    let l = c.loop-index in
    let lt : l.index < length l.blocks = omega (arith, c.loop-index-test.true, l.auto.blocks) in
    let read = get_or_default l.blocks l.index c.index-blocks-index.result [] lt in
    joined (set l.blocks l.index c.put.new.self) (insert (concat c.args.blocks.now) c.args.place c.args.number)
    (put_last c.args.blocks.now l.blocks c.args.place c.args.number l.index l.at l.carried c.put.new.self c.requires.tiers l.invariant (omega (arith, lt, l.auto.blocks)) (omega (arith, l.auto.blocks)) c.requires.place c.requires.room
    (c.in-None.ensures.block ∙ ap (λ (b : List ℕ). take width (insert b l.at l.carried)) read) (c.in-None.ensures.out ∙ ap (λ (b : List ℕ). drop width (insert b l.at l.carried)) read))

pub returns-in-None-clause-tiers : goal.returns-in-None-clause-tiers
returns-in-None-clause-tiers c =
    let l = c.loop-index in
    let lt : l.index < length l.blocks = omega (arith, c.loop-index-test.true, l.auto.blocks) in
    let read = get_or_default l.blocks l.index c.index-blocks-index.result [] lt in
    tiers_of (set l.blocks l.index c.put.new.self) (insert (concat c.args.blocks.now) c.args.place c.args.number)
    (put_last c.args.blocks.now l.blocks c.args.place c.args.number l.index l.at l.carried c.put.new.self c.requires.tiers l.invariant (omega (arith, lt, l.auto.blocks)) (omega (arith, l.auto.blocks)) c.requires.place c.requires.room
    (c.in-None.ensures.block ∙ ap (λ (b : List ℕ). take width (insert b l.at l.carried)) read) (c.in-None.ensures.out ∙ ap (λ (b : List ℕ). drop width (insert b l.at l.carried)) read))

pub loop-index-preserved : goal.loop-index-preserved
loop-index-preserved c =
    let l = c.loop-index in
    let lt : l.index < length l.blocks = omega (arith, c.loop-index-test.true, l.auto.blocks) in
    let read = get_or_default l.blocks l.index c.index-blocks-index.result [] lt in
    put_next c.args.blocks.now l.blocks c.args.place c.args.number l.index l.at l.carried c.put.new.self c.in-Some.last c.requires.tiers l.invariant (omega (arith, lt, l.auto.blocks)) (omega (arith, l.auto.blocks))
    (c.in-Some.ensures.block ∙ ap (λ (b : List ℕ). take width (insert b l.at l.carried)) read) (c.in-Some.ensures.out ∙ ap (λ (b : List ℕ). drop width (insert b l.at l.carried)) read)
