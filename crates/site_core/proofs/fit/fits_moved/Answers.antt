use Rattle.std.proofs.Common.{sym, ◌∙◌}
use Rattle.std.proofs.lemmas.Bool.{true≢false}
use Rattle.site_core.proofs.Fitting.{is_not}
use Rattle.site_core.proofs.Turning.{moved_underway}
use Rattle.site_core.proofs.fit.fits_moved.Goals as goal

pub returns-then-not-branch : goal.returns-then-not-branch
returns-then-not-branch c = is_not (λ fit. true≢false (sym (c.in_ok-is_underway.ensures.1 (moved_underway c.args.a.now.shape c.args.b.now.shape c.args.names.now fit)) ∙ c.if-not-branch.true))
