use Rattle.std.proofs.Common.{◌≡◌, Bool, true, sym, ◌∙◌, ap, subst}
use Rattle.std.specs.Prelude.{if◌then◌else◌}
use Rattle.std.specs.FinMap as map
use Rattle.site_forms.specs.Volumes.{Shape}
use Rattle.volume_index.proofs.IndexReads.{held_by_place}
use Rattle.seed_mover.specs.Getting.{holder}
use Rattle.site_runs.specs.SiteValues.{SiteValue}
use Rattle.seed_mover.proofs.site.Site.holder.Goals as goal

pub returns-then-is_some : goal.returns-then-is_some
returns-then-is_some c =
    let a = c.self.inside.a in
    let b = c.self.inside.b in
    let name = c.args.name.now in
    let found : map.contains_key c.holding.result.now.shape.files name ≡ true = held_by_place c.holding.result.now.shape.files name c.find.result c.find.ensures (sym c.is_some.ensures ∙ c.if-is_some.true) in
    let held : map.contains_key a.shape.files name ≡ true = ap (λ (x : Shape). map.contains_key x.files name) (sym c.holding.ensures.shape) ∙ found in
    subst (λ (x : SiteValue). a ≡ holder x name) c.self.view_is (ap (λ (is : Bool). if is then a else b) (sym held))
