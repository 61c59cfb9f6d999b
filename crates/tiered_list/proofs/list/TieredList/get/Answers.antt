use Rattle.std.proofs.Common.{◌<◌, ◌∙◌, ap, arith, length, get_or}
use Rattle.std.specs.List.{concat}
use Rattle.tiered_list.specs.Tiers.{TieredValue}
use Rattle.tiered_list.proofs.Reading.{block_long, number_read}
use Rattle.tiered_list.proofs.list.TieredList.get.Goals as goal

pub get-requires : goal.get-requires
get-requires c =
    let bs = c.self.inside.blocks.items in
    let within : c.args.place < length (concat bs) = omega (arith, c.requires, ap (λ (v : TieredValue). length v.items) c.self.view_is) in
    block_long bs c.args.place c.index.result.now c.self.invariant.tiers within c.index.ensures

pub returns : goal.returns
returns c =
    let bs = c.self.inside.blocks.items in
    let within : c.args.place < length (concat bs) = omega (arith, c.requires, ap (λ (v : TieredValue). length v.items) c.self.view_is) in
    c.get.ensures ∙ (number_read bs c.args.place c.index.result.now c.self.invariant.tiers within c.index.ensures ∙ ap (λ (v : TieredValue). get_or v.items c.args.place 0) c.self.view_is)
