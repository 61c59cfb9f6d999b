use Rattle.std.proofs.Common.{◌≡◌, ◌<◌, ◌∙◌, ◌/◌, ◌%◌, ℕ, List, [], ap, arith, length, get_or, set}
use Rattle.std.specs.List.{concat}
use Rattle.std.proofs.lemmas.List.{length-set}
use Rattle.tiered_list.specs.Inside.{AreParts, AreTiers, width}
use Rattle.tiered_list.specs.Tiers.{TieredValue}
use Rattle.tiered_list.proofs.Parts.{joined, tiers_of}
use Rattle.tiered_list.proofs.Reading.{block_default, block_long}
use Rattle.tiered_list.proofs.Setting.{set_parts}
use Rattle.tiered_list.proofs.list.TieredList.set.Goals as goal

-- the parts once a block that was read has a number set
parts : (bs : List (List ℕ)) (place y : ℕ) (old new : List ℕ) → AreTiers bs → place < length (concat bs) → old ≡ get_or bs (place / width) old → new ≡ set old (place % width) y
    → AreParts (set bs (place / width) new) (set (concat bs) place y)
parts bs place y old new tiers within read made = set_parts bs place y new tiers within (made ∙ ap (λ (l : List ℕ). set l (place % width) y) (block_default bs place old tiers within read))

pub set-requires : goal.set-requires
set-requires c =
    let bs = c.self.inside.blocks.items in
    let within : c.args.place < length (concat bs) = omega (arith, c.requires, ap (λ (v : TieredValue). length v.items) c.self.view_is) in
    block_long bs c.args.place c.index_mut.result.now c.self.invariant.tiers within c.index_mut.ensures.value

pub invariant_of-self : goal.invariant_of-self
invariant_of-self c =
    let bs = c.self.inside.blocks.items in
    let within : c.args.place < length (concat bs) = omega (arith, c.requires, ap (λ (v : TieredValue). length v.items) c.self.view_is) in
    let new = set bs (c.args.place / width) c.set.new.self in
    let zs = set (concat bs) c.args.place c.args.number in
    let are = parts bs c.args.place c.args.number c.index_mut.result.now c.set.new.self c.self.invariant.tiers within c.index_mut.ensures.value c.set.ensures in
    record {
      counted = ap length (joined new zs are) ∙ (length-set (concat bs) c.args.place c.args.number ∙ c.self.invariant.counted);
      few = omega (arith, c.self.invariant.few, length-set bs (c.args.place / width) c.set.new.self);
      tiers = tiers_of new zs are;
    }

pub returns-clause-items : goal.returns-clause-items
returns-clause-items c =
    let bs = c.self.inside.blocks.items in
    let within : c.args.place < length (concat bs) = omega (arith, c.requires, ap (λ (v : TieredValue). length v.items) c.self.view_is) in
    let are = parts bs c.args.place c.args.number c.index_mut.result.now c.set.new.self c.self.invariant.tiers within c.index_mut.ensures.value c.set.ensures in
    joined (set bs (c.args.place / width) c.set.new.self) (set (concat bs) c.args.place c.args.number) are ∙ ap (λ (v : TieredValue). set v.items c.args.place c.args.number) c.self.view_is

pub returns-clause-room : goal.returns-clause-room
returns-clause-room c =
    let bs = c.self.inside.blocks.items in
    let within : c.args.place < length (concat bs) = omega (arith, c.requires, ap (λ (v : TieredValue). length v.items) c.self.view_is) in
    let are = parts bs c.args.place c.args.number c.index_mut.result.now c.set.new.self c.self.invariant.tiers within c.index_mut.ensures.value c.set.ensures in
    omega (
      arith,
      length-set bs (c.args.place / width) c.set.new.self,
      length-set (concat bs) c.args.place c.args.number,
      ap length (joined (set bs (c.args.place / width) c.set.new.self) (set (concat bs) c.args.place c.args.number) are),
      ap (λ (v : TieredValue). v.room) c.self.view_is,
    )
