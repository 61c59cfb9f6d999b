use Rattle.std.proofs.Common.{◌≡◌, false, sym, ◌∙◌, ap, subst}
use Rattle.site_core.specs.Events.{MayAppendTo}
use Rattle.site_core.specs.Events.Append.{ToB}
use Rattle.site_runs.specs.Runs.{AddsTo}
use Rattle.seed_mover.specs.Appending.{AppendsOne}
use Rattle.seed_mover.specs.Errors.{refuses}
use Rattle.seed_mover.specs.Entries.{record_of}
use Rattle.seed_mover.specs.SiteInside.{view_of}
use Rattle.site_runs.specs.SiteValues.{SiteValue, shapes_in}
use Rattle.seed_mover.proofs.AppendingB.{appends_b, appended_b, inside_keeps_b, with_b}
use Rattle.seed_mover.proofs.Folded.{may_folds_b, may_spelled}
use Rattle.seed_mover.proofs.Noted.{volume_cause}
use Rattle.seed_mover.proofs.site.Site.record_b.Goals as goal

pub add_entry-done-requires-clause-fresh : goal.add_entry-done-requires-clause-fresh
add_entry-done-requires-clause-fresh g c = (c.self.invariant.fresh (ap (λ (x : SiteValue). x.spent) c.self.view_is ∙ c.requires.fresh)).b

pub add_entry-done-requires-clause-folds : goal.add_entry-done-requires-clause-folds
add_entry-done-requires-clause-folds g c =
    may_folds_b (shapes_in (view_of c.self.inside)) (record_of c.args.entry) c.self.invariant.kept (subst (λ (x : SiteValue). MayAppendTo (shapes_in x) (ToB (record_of c.args.entry))) (sym c.self.view_is) c.requires.may)

pub add_entry-done-requires-clause-spelled : goal.add_entry-done-requires-clause-spelled
add_entry-done-requires-clause-spelled g c =
    may_spelled (shapes_in (view_of c.self.inside)) (ToB (record_of c.args.entry)) c.self.invariant.kept (subst (λ (x : SiteValue). MayAppendTo (shapes_in x) (ToB (record_of c.args.entry))) (sym c.self.view_is) c.requires.may)

pub invariant_of-self : goal.invariant_of-self
invariant_of-self g c =
    inside_keeps_b c.self.inside c.add_entry-done.new.volume c.note_volume.new.spent (record_of c.args.entry) (ap (λ (x : SiteValue). x.spent) c.self.view_is ∙ c.requires.fresh) c.self.invariant
    (subst (λ (x : SiteValue). MayAppendTo (shapes_in x) (ToB (record_of c.args.entry))) (sym c.self.view_is) c.requires.may) c.add_entry-done.result c.note_volume.result c.add_entry-done.ensures.volume c.note_volume.ensures

pub returns-clause-cause : goal.returns-clause-cause
returns-clause-cause g c = volume_cause (g.R.Rack.faults c.args.rack.now) (g.R.Rack.faults c.add_entry-done.new.rack) c.note_volume.new.spent c.add_entry-done.result c.note_volume.result c.add_entry-done.ensures.cause c.note_volume.ensures

pub returns-clause-appends : goal.returns-clause-appends
returns-clause-appends g c =
    let v = view_of c.self.inside in
    let w = with_b v c.add_entry-done.new.volume c.note_volume.new.spent in
    let fresh : v.spent ≡ false = ap (λ (x : SiteValue). x.spent) c.self.view_is ∙ c.requires.fresh in
    subst (λ (x : SiteValue). AppendsOne x w (ToB (record_of c.args.entry)) c.note_volume.result) c.self.view_is
    (appends_b v c.add_entry-done.new.volume c.note_volume.new.spent (record_of c.args.entry) fresh c.add_entry-done.result c.note_volume.result c.add_entry-done.ensures.volume c.note_volume.ensures)

pub returns-clause-adds : goal.returns-clause-adds
returns-clause-adds g c = λ honest.
    let rack = g.R.Rack in
    let old = c.args.rack.now in
    let new = c.add_entry-done.new.rack in
    let v = view_of c.self.inside in
    let w = with_b v c.add_entry-done.new.volume c.note_volume.new.spent in
    let fresh : v.spent ≡ false = ap (λ (x : SiteValue). x.spent) c.self.view_is ∙ c.requires.fresh in
    subst (λ (x : SiteValue). AddsTo rack.disk rack.moment rack.left_since refuses old new x w (ToB (record_of c.args.entry)) c.note_volume.result) c.self.view_is
    (appended_b v c.add_entry-done.new.volume c.note_volume.new.spent (record_of c.args.entry) fresh rack.disk rack.moment rack.left_since old new
    (may_spelled (shapes_in v) (ToB (record_of c.args.entry)) c.self.invariant.kept (subst (λ (x : SiteValue). MayAppendTo (shapes_in x) (ToB (record_of c.args.entry))) (sym c.self.view_is) c.requires.may)) c.add_entry-done.result c.note_volume.result c.add_entry-done.ensures.volume c.note_volume.ensures (c.add_entry-done.ensures.added honest))
