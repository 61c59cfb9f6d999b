use Rattle.std.proofs.Common.{◌≡◌, false, sym, ◌∙◌, ap, subst}
use Rattle.site_forms.specs.JournalRecords.JournalRecord.{BeginRecord}
use Rattle.site_core.specs.Events.{MayAppendTo}
use Rattle.site_core.specs.Events.Append.{ToJournal}
use Rattle.site_runs.specs.Runs.{AddsTo}
use Rattle.seed_mover.specs.Appending.{AppendsOne}
use Rattle.seed_mover.specs.Errors.{refuses}
use Rattle.seed_mover.specs.SiteInside.{view_of}
use Rattle.site_runs.specs.SiteValues.{SiteValue, shapes_in}
use Rattle.seed_mover.proofs.AppendingJ.{appends_journal, appended_journal, inside_keeps_journal, with_journal}
use Rattle.seed_mover.proofs.Noted.{journal_cause}
use Rattle.seed_mover.proofs.site.Site.mark_begin.Goals as goal

pub invariant_of-self : goal.invariant_of-self
invariant_of-self g c =
    inside_keeps_journal c.self.inside c.begin-done.new.self c.start-self-inside.result c.note_journal.new.spent (BeginRecord c.args.names) (ap (λ (x : SiteValue). x.spent) c.self.view_is ∙ c.requires.fresh) c.self.invariant
    (subst (λ (x : SiteValue). MayAppendTo (shapes_in x) (ToJournal (BeginRecord c.args.names))) (sym c.self.view_is) c.requires.may) c.start-self-inside.ensures c.begin-done.result c.note_journal.result c.begin-done.ensures.journal c.note_journal.ensures

pub returns-clause-cause : goal.returns-clause-cause
returns-clause-cause g c = journal_cause (g.R.Rack.faults c.args.rack.now) (g.R.Rack.faults c.begin-done.new.rack) c.note_journal.new.spent c.begin-done.result c.note_journal.result c.begin-done.ensures.cause c.note_journal.ensures

pub returns-clause-appends : goal.returns-clause-appends
returns-clause-appends g c =
    let v = view_of c.self.inside in
    let w = with_journal v c.begin-done.new.self c.note_journal.new.spent in
    let fresh : v.spent ≡ false = ap (λ (x : SiteValue). x.spent) c.self.view_is ∙ c.requires.fresh in
    subst (λ (x : SiteValue). AppendsOne x w (ToJournal (BeginRecord c.args.names)) c.note_journal.result) c.self.view_is
    (appends_journal v c.begin-done.new.self c.note_journal.new.spent (BeginRecord c.args.names) fresh (c.self.invariant.fresh fresh).journal c.begin-done.result c.note_journal.result c.begin-done.ensures.journal c.note_journal.ensures)

pub returns-clause-adds : goal.returns-clause-adds
returns-clause-adds g c = λ honest.
    let rack = g.R.Rack in
    let old = c.args.rack.now in
    let new = c.begin-done.new.rack in
    let v = view_of c.self.inside in
    let w = with_journal v c.begin-done.new.self c.note_journal.new.spent in
    let fresh : v.spent ≡ false = ap (λ (x : SiteValue). x.spent) c.self.view_is ∙ c.requires.fresh in
    subst (λ (x : SiteValue). AddsTo rack.disk rack.moment rack.left_since refuses old new x w (ToJournal (BeginRecord c.args.names)) c.note_journal.result) c.self.view_is
    (appended_journal v c.begin-done.new.self c.note_journal.new.spent (BeginRecord c.args.names) fresh (c.self.invariant.fresh fresh).journal rack.disk rack.moment rack.left_since old new c.begin-done.result c.note_journal.result c.begin-done.ensures.journal c.note_journal.ensures (c.begin-done.ensures.added honest))
