use Rattle.std.proofs.Common.{◌≡◌, true, sym, subst}
use Rattle.std.specs.Prelude.{◌↔◌, IfOk}
use Rattle.site_forms.specs.Sites.{Fits}
use Rattle.site_forms.specs.declared.phase.Phase.{Phase}
use Rattle.site_core.proofs.fit.fits.Goals as goal

pub returns-in-Moving : goal.returns-in-Moving
returns-in-Moving c = subst (λ (p : Phase). IfOk c.fits_moving.result (λ is. (is ≡ true) ↔ Fits c.args.state.now.a.now.shape c.args.state.now.b.now.shape p)) (sym c.in-Moving.is) c.fits_moving.ensures

pub returns-in-Moved : goal.returns-in-Moved
returns-in-Moved c = subst (λ (p : Phase). IfOk c.fits_moved.result (λ is. (is ≡ true) ↔ Fits c.args.state.now.a.now.shape c.args.state.now.b.now.shape p)) (sym c.in-Moved.is) c.fits_moved.ensures

pub returns-in-Undoing : goal.returns-in-Undoing
returns-in-Undoing c = subst (λ (p : Phase). IfOk c.is_underway.result (λ is. (is ≡ true) ↔ Fits c.args.state.now.a.now.shape c.args.state.now.b.now.shape p)) (sym c.in-Undoing.is) c.is_underway.ensures
