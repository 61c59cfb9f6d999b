use Rattle.std.proofs.Common.{sym, subst}
use Rattle.std.specs.Prelude.{Result}
use Rattle.seed_mover.specs.declared.errors.SiteError.{SiteError}
use Rattle.seed_mover.specs.PutParts.{FindsQuietly}
use Rattle.seed_mover.specs.Putting.{blocks_of}
use Rattle.site_runs.specs.SiteValues.{SiteStands, SiteValue}
use Rattle.seed_mover.proofs.site.Site.ready_to_put.Goals as goal

pub returns-clause-ready : goal.returns-clause-ready
returns-clause-ready g c = λ honest.
    let rack = g.R.Rack in
    let old = c.args.rack.now in
    let new = c.ready_volume-done.new.rack in
    let d = rack.disk old in
    let v = c.args.self.now in
    let blocks = blocks_of c.args.bytes.now c.args.ends.now in
    subst (λ (r : Result (Unit {0}) SiteError). FindsQuietly rack.moment rack.left_since old new d (rack.disk new) v blocks r) (sym c.note_ready.ensures.same)
    (record {
      quiet = c.ready_volume-done.ensures.quiet honest;
      finds = λ s stands. c.ready_volume-done.ensures.finds 0 s.a honest (subst (λ (x : SiteValue). SiteStands x d s) (sym c.self.view_is) stands).a;
    })
