use Rattle.std.specs.Prelude.{All}
use Rattle.std.proofs.Common.{◌∙◌, ◌<◌, ap, length, List, ℕ, subst, sym}
use Rattle.recipe_order.specs.Sorted.{in_order}
use Rattle.recipe_order.proofs.InOrder.{is_sorted}
use Rattle.recipe_order.proofs.Steps.{order_below}
use Rattle.recipe_order.proofs.sorting.sorted.Goals as goal

pub copy_in_order-requires : goal.copy_in_order-requires
copy_in_order-requires c =
    let Below : List ℕ → Type 0 = λ t. All (λ file. file < length c.args.recipe.now.files) t in
    subst Below (sym c.deref.ensures.value) (order_below c.args.recipe.now c.in_ok-order.order.items c.in_ok-order.ensures)

pub returns : goal.returns
returns c =
    is_sorted c.args.recipe.now c.in_ok-copy.copy c.in_ok-order.order.items c.files-files.ensures.recipe c.in_ok-order.ensures
    (c.in_ok-copy.ensures.copied ∙ ap (in_order c.args.recipe.now) c.deref.ensures.value) c.in_ok-copy.ensures.part
