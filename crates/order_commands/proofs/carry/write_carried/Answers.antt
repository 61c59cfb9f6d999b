use Rattle.std.proofs.Common.{refl, inl}
use Rattle.std.proofs.lemmas.Result.{IfOk-weaker}
use Rattle.order_commands.proofs.CarryLemmas.{has_carried, left_carried, pins_node}
use Rattle.order_commands.proofs.carry.write_carried.Goals as goal

pub search_pinned-requires-clause-pins : goal.search_pinned-requires-clause-pins
search_pinned-requires-clause-pins g c = pins_node c.pins_laws.ensures _ _ _ _ c.in-Ok.ensures

pub returns-in-Ok-clause-report : goal.returns-in-Ok-clause-report
returns-in-Ok-clause-report g c =
    IfOk-weaker c.search_pinned.result _ _
    (λ report has. has_carried c.pins_laws.ensures c.order_laws.ensures.carried_range _ _ _ _ _ c.files-files.ensures.recipe c.files-others.ensures.recipe c.requires.within c.in-Ok.ensures _ _ _ _ has)
    c.search_pinned.ensures.report

pub returns-in-Ok-clause-left : goal.returns-in-Ok-clause-left
returns-in-Ok-clause-left g c = λ tells.
    left_carried c.pins_laws.ensures c.order_laws.ensures.carried_range _ _ _ _ _ c.files-files.ensures.recipe c.files-others.ensures.recipe c.requires.within c.in-Ok.ensures _ _ (c.search_pinned.ensures.left tells)

pub returns-in-Err-clause-left : goal.returns-in-Err-clause-left
returns-in-Err-clause-left g c = λ tells. inl refl
