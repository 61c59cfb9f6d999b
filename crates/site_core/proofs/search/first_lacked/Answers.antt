use Rattle.std.proofs.Common.{◌≡◌, ℕ, true, get_or, ap, ◌∙◌, []}
use Rattle.std.specs.Prelude.{is_some, not}
use Rattle.std.specs.FinMap as map
use Rattle.site_core.proofs.Searching.{holds_at, more_before}
use Rattle.site_core.proofs.search.first_lacked.Goals as goal

pub loop-place-preserved : goal.loop-place-preserved
loop-place-preserved c =
    let held : is_some c.find.result ≡ true = c.is_none.ensures ∙ ap not c.if-is_none.false in
    more_before (λ (i : ℕ). map.contains_key c.args.target.now.shape.files (get_or c.args.names.now i []) ≡ true) c.loop-place.place c.loop-place.invariant
    (holds_at c.args.target.now.shape.files c.args.names.now c.loop-place.place c.get.result.now c.find.result c.get.ensures.name c.find.ensures held)
