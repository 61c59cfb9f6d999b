use Rattle.std.proofs.Common.{ℕ, List, arith, sym, ◌∙◌, ap}
use Rattle.std.proofs.lemmas.List.{with_items_is}
use Rattle.volume_disk.specs.Medium.{overwritten}
use Rattle.volume_disk.proofs.Edits.{written_lengthened}
use Rattle.volume_disk.proofs.device.overwrite.Goals as goal

pub returns-clause-items : goal.returns-clause-items
returns-clause-items c =
    with_items_is c.lengthen.new.image c.put.new.image (omega (arith, c.put.auto.image, c.deref_mut.ensures.len, c.lengthen.new.image.ok.0))
    ∙ c.put.ensures
    ∙ ap (λ (l : List ℕ). overwritten l c.args.at c.args.bytes.now) (c.deref_mut.ensures.value ∙ c.lengthen.ensures.items)
    ∙ sym (written_lengthened c.args.image.now.items c.args.at c.args.bytes.now)
