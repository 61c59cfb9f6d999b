use Rattle.std.proofs.Common.{◌≡◌, false, sym, ◌∙◌, ap}
use Rattle.site_runs.specs.SiteValues.{SiteValue}
use Rattle.seed_mover.proofs.BeginReady.{judged_refused}
use Rattle.seed_mover.proofs.site.Site.ready_to_begin.Goals as goal

pub returns-in-Err : goal.returns-in-Err
returns-in-Err c =
    let v = c.args.self.now in
    let fresh : v.spent ≡ false = sym (ap (λ (x : SiteValue). x.spent) c.self.view_is) ∙ c.if-self.false in
    judged_refused v c.args.names.now c.in-Err.error fresh c.in-Err.ensures
