use Rattle.std.proofs.Common.{◌≡◌, false, sym, ◌∙◌, ap, subst}
use Rattle.site_core.specs.Events.{MayAppendTo}
use Rattle.site_core.specs.Events.Append.{ToJournal}
use Rattle.site_runs.specs.Runs.{AddsTo}
use Rattle.seed_mover.specs.Appending.{AppendsOne}
use Rattle.seed_mover.specs.Errors.{refuses}
use Rattle.seed_mover.specs.Entries.{record_of_mark}
use Rattle.seed_mover.specs.SiteInside.{view_of}
use Rattle.site_runs.specs.SiteValues.{SiteValue, shapes_in}
use Rattle.seed_mover.proofs.AppendingJ.{appends_journal, appended_journal, inside_keeps_journal, with_journal}
use Rattle.seed_mover.proofs.Folded.{may_folds_journal}
use Rattle.seed_mover.proofs.Noted.{journal_cause, no_memory}
use Rattle.seed_mover.proofs.site.Site.mark.Goals as goal

pub add_mark-done-requires-clause-fresh : goal.add_mark-done-requires-clause-fresh
add_mark-done-requires-clause-fresh g c = (c.self.invariant.fresh (ap (λ (x : SiteValue). x.spent) c.self.view_is ∙ c.requires.fresh)).journal

pub add_mark-done-requires-clause-folds : goal.add_mark-done-requires-clause-folds
add_mark-done-requires-clause-folds g c =
    may_folds_journal (shapes_in (view_of c.self.inside)) (record_of_mark c.args.mark) c.self.invariant.kept (subst (λ (x : SiteValue). MayAppendTo (shapes_in x) (ToJournal (record_of_mark c.args.mark))) (sym c.self.view_is) c.requires.may)

pub invariant_of-self : goal.invariant_of-self
invariant_of-self g c =
    inside_keeps_journal c.self.inside c.add_mark-done.new.journal c.start-self-inside.result c.note_journal.new.spent (record_of_mark c.args.mark) (ap (λ (x : SiteValue). x.spent) c.self.view_is ∙ c.requires.fresh) c.self.invariant
    (subst (λ (x : SiteValue). MayAppendTo (shapes_in x) (ToJournal (record_of_mark c.args.mark))) (sym c.self.view_is) c.requires.may) c.start-self-inside.ensures c.add_mark-done.result c.note_journal.result c.add_mark-done.ensures.journal c.note_journal.ensures

pub returns-clause-cause : goal.returns-clause-cause
returns-clause-cause g c = journal_cause (g.R.Rack.faults c.args.rack.now) (g.R.Rack.faults c.add_mark-done.new.rack) c.note_journal.new.spent c.add_mark-done.result c.note_journal.result c.add_mark-done.ensures.cause c.note_journal.ensures

pub returns-clause-memory : goal.returns-clause-memory
returns-clause-memory g c = no_memory c.note_journal.new.spent c.add_mark-done.result c.note_journal.result c.add_mark-done.ensures.memory c.note_journal.ensures

pub returns-clause-appends : goal.returns-clause-appends
returns-clause-appends g c =
    let v = view_of c.self.inside in
    let w = with_journal v c.add_mark-done.new.journal c.note_journal.new.spent in
    let fresh : v.spent ≡ false = ap (λ (x : SiteValue). x.spent) c.self.view_is ∙ c.requires.fresh in
    subst (λ (x : SiteValue). AppendsOne x w (ToJournal (record_of_mark c.args.mark)) c.note_journal.result) c.self.view_is
    (appends_journal v c.add_mark-done.new.journal c.note_journal.new.spent (record_of_mark c.args.mark) fresh (c.self.invariant.fresh fresh).journal c.add_mark-done.result c.note_journal.result c.add_mark-done.ensures.journal c.note_journal.ensures)

pub returns-clause-adds : goal.returns-clause-adds
returns-clause-adds g c = λ honest.
    let rack = g.R.Rack in
    let old = c.args.rack.now in
    let new = c.add_mark-done.new.rack in
    let v = view_of c.self.inside in
    let w = with_journal v c.add_mark-done.new.journal c.note_journal.new.spent in
    let fresh : v.spent ≡ false = ap (λ (x : SiteValue). x.spent) c.self.view_is ∙ c.requires.fresh in
    subst (λ (x : SiteValue). AddsTo rack.disk rack.moment rack.left_since refuses old new x w (ToJournal (record_of_mark c.args.mark)) c.note_journal.result) c.self.view_is
    (appended_journal v c.add_mark-done.new.journal c.note_journal.new.spent (record_of_mark c.args.mark) fresh (c.self.invariant.fresh fresh).journal rack.disk rack.moment rack.left_since old new c.add_mark-done.result c.note_journal.result c.add_mark-done.ensures.journal c.note_journal.ensures (c.add_mark-done.ensures.added honest))
