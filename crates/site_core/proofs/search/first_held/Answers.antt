use Rattle.std.proofs.Common.{sym, ◌∙◌, []}
use Rattle.std.proofs.Common.{◌≡◌, ℕ, false, get_or}
use Rattle.std.specs.FinMap as map
use Rattle.site_core.proofs.Searching.{holds_at, lacks_at, more_before}
use Rattle.site_core.proofs.search.first_held.Goals as goal

pub returns-then-is_some-clause-holds : goal.returns-then-is_some-clause-holds
returns-then-is_some-clause-holds c = λ _. holds_at c.args.source.now.shape.files c.args.names.now c.loop-place.place c.get.result.now c.find.result c.get.ensures.name c.find.ensures (sym c.is_some.ensures ∙ c.if-is_some.true)

pub loop-place-preserved : goal.loop-place-preserved
loop-place-preserved c = more_before (λ (i : ℕ). map.contains_key c.args.source.now.shape.files (get_or c.args.names.now i []) ≡ false) c.loop-place.place c.loop-place.invariant
    (lacks_at c.args.source.now.shape.files c.args.names.now c.loop-place.place c.get.result.now c.find.result c.get.ensures.name c.find.ensures (sym c.is_some.ensures ∙ c.if-is_some.false))
