use Rattle.std.proofs.Common.{◌≡◌, ◌<◌, sym, ◌∙◌, ap, subst, arith}
use Rattle.std.specs.Prelude.{Ok, Err}
use Rattle.std.specs.FinMap as map
use Rattle.site_forms.specs.Volumes.{Shape}
use Rattle.seed_mover.specs.declared.errors.SiteError.TheVariants.{TargetNotEmpty}
use Rattle.seed_mover.specs.Beginning.{JudgesBegin}
use Rattle.site_runs.specs.SiteValues.{SiteValue}
use Rattle.seed_mover.proofs.BeginReady.{no_file, some_file}
use Rattle.seed_mover.proofs.site.Site.may_begin.Goals as goal

pub returns-then-file_count-gt0 : goal.returns-then-file_count-gt0
returns-then-file_count-gt0 c =
    let shape = c.self.inside.b.shape in
    let count : c.file_count.result ≡ map.len shape.files = c.file_count.ensures.count ∙ ap (λ (x : Shape). map.len x.files) c.holding.ensures.shape in
    let some : 0 < map.len shape.files = omega (arith, count, c.if-file_count-gt0.true) in
    subst (λ (x : SiteValue). JudgesBegin x (Err TargetNotEmpty)) c.self.view_is (sym c.phase.ensures ∙ c.in-Idle.is, some_file shape some)

pub returns : goal.returns
returns c =
    let shape = c.self.inside.b.shape in
    let count : c.file_count.result ≡ map.len shape.files = c.file_count.ensures.count ∙ ap (λ (x : Shape). map.len x.files) c.holding.ensures.shape in
    let none : map.len shape.files ≡ 0 = omega (arith, count, c.if-file_count-gt0.false) in
    subst (λ (x : SiteValue). JudgesBegin x (Ok tt)) c.self.view_is (sym c.phase.ensures ∙ c.in-Idle.is, no_file shape none)
