use Rattle.std.proofs.Common.{◌≡◌, refl, sym, ◌∙◌, ap, subst}
use Rattle.std.proofs.lemmas.Bool.{true≢false}
use Rattle.site_forms.specs.Sites.{HoldsAllNames}
use Rattle.site_forms.specs.Volumes.{Shape}
use Rattle.seed_mover.specs.Beginning.{LacksName}
use Rattle.site_runs.specs.SiteValues.{SiteValue}
use Rattle.seed_mover.proofs.BeginRuns.{lacks_some}
use Rattle.seed_mover.proofs.site.Site.reserve_begin.Goals as goal

pub returns-then-not-holds_names : goal.returns-then-not-holds_names
returns-then-not-holds_names c =
    let v = c.args.self.now in
    let names = c.args.names.now in
    let shape : c.holding.result.now.shape ≡ v.a.shape = c.holding.ensures.shape ∙ ap (λ (x : SiteValue). x.a.shape) c.self.view_is in
    let lacks : LacksName v.a.shape names =
    lacks_some v.a.shape names (λ held. true≢false (sym (c.holds_names.ensures.1 (subst (λ (s : Shape). HoldsAllNames s names) (sym shape) held)) ∙ c.if-not-holds_names.true)) in
    (c.requires.fresh, c.requires.may.0, c.requires.may.1, lacks, refl)
