use Rattle.std.proofs.Common.{refl, sym, ◌∙◌, ap, subst}
use Rattle.std.proofs.lemmas.Bool.{true≢false}
use Rattle.site_forms.specs.JournalRecords.JournalRecord.{AcceptedRecord}
use Rattle.site_runs.specs.SiteValues.{SiteValue}
use Rattle.seed_mover.specs.declared.errors.SiteError.TheVariants.{NotMoved, Spent}
use Rattle.seed_mover.specs.Moving.{IsMoved, mark_plan}
use Rattle.seed_mover.proofs.Marked.{accept_runs, may_accept, not_moved, nothing_runs}
use Rattle.seed_mover.proofs.Noted.{cause_none}
use Rattle.seed_mover.proofs.site.Site.accept.Goals as goal

pub mark-requires-clause-may : goal.mark-requires-clause-may
mark-requires-clause-may g c = may_accept c.args.self.now (subst IsMoved (sym c.in-Moved.is ∙ c.phase.ensures ∙ ap (λ (x : SiteValue). x.journal.phase) c.self.view_is) tt)

pub returns-in-Moved-clause-runs : goal.returns-in-Moved-clause-runs
returns-in-Moved-clause-runs g c = λ s honest stands is.
    let rack = g.R.Rack in
    let old = c.args.rack.now in
    accept_runs rack.disk rack.moment rack.left_since old c.args.self.now s (λ y left. g.met.R.Rack.only_now _ y honest left) stands c.mark.new.rack c.mark.new.self is c.mark.result
    (subst IsMoved (sym c.in-Moved.is ∙ c.phase.ensures ∙ ap (λ (x : SiteValue). x.journal.phase) c.self.view_is) tt) (c.mark.ensures.adds honest)

pub returns-then-self-clause-runs : goal.returns-then-self-clause-runs
returns-then-self-clause-runs g c = λ s honest stands is. nothing_runs g.R.Rack.disk g.R.Rack.moment g.R.Rack.left_since c.args.rack.now c.args.self.now s (λ y left. g.met.R.Rack.only_now _ y honest left) stands (mark_plan AcceptedRecord) Spent

pub returns-in_default : goal.returns-in_default
returns-in_default g c =
    let rack = g.R.Rack in
    let old = c.args.rack.now in
    let v = c.args.self.now in
    record {
      cause = cause_none (rack.faults old) NotMoved (λ is. cc);
      honest = refl;
      accepts = record {
        spent = λ is. absurd (true≢false (sym is ∙ sym (ap (λ (x : SiteValue). x.spent) c.self.view_is) ∙ c.if-self.false));
        other = λ fresh other. (refl, refl);
        moved = λ fresh moved. absurd (not_moved c.phase.result.now c.in_default.not-Moved (subst IsMoved (sym (c.phase.ensures ∙ ap (λ (x : SiteValue). x.journal.phase) c.self.view_is)) moved));
      };
      runs = λ s honest stands is. nothing_runs rack.disk rack.moment rack.left_since old v s (λ y left. g.met.R.Rack.only_now _ y honest left) stands (mark_plan AcceptedRecord) NotMoved;
    }
