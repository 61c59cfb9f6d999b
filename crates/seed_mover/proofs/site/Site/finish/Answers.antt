use Rattle.std.proofs.Common.{[], refl, sym, subst}
use Rattle.site_forms.specs.JournalRecords.JournalRecord.{MovedRecord, UndoneRecord}
use Rattle.device_pieces.proofs.Quiets.{quiet_begins}
use Rattle.site_core.specs.declared.action.Action.TheVariants.{Moved, Undone}
use Rattle.site_core.specs.Events.Append.{ToJournal}
use Rattle.seed_mover.specs.declared.entries.Side.{Side}
use Rattle.seed_mover.specs.Acting.{Carries, CarriesOn, IsNext, end_at}
use Rattle.seed_mover.proofs.Acted.{acts_append, carried_append}
use Rattle.seed_mover.proofs.Copying.{append_state, next_by}
use Rattle.seed_mover.proofs.site.Site.finish.Goals as goal

pub returns-in-A-clause-carries : goal.returns-in-A-clause-carries
returns-in-A-clause-carries g c =
    let v = c.args.self.now in
    let next = subst (λ (s : Side). IsNext v (end_at s)) c.in-A.is c.requires.next in
    subst (λ (s : Side). Carries v c.mark.new.self (end_at s) c.mark.result) (sym c.in-A.is)
    (acts_append v c.mark.new.self (ToJournal UndoneRecord) Undone c.mark.result c.requires.fresh (next_by v (ToJournal UndoneRecord) Undone [] next tt refl) refl c.mark.ensures.appends)

pub returns-in-A-clause-carried : goal.returns-in-A-clause-carried
returns-in-A-clause-carried g c = λ s honest stands is.
    let rack = g.R.Rack in
    let old = c.args.rack.now in
    let v = c.args.self.now in
    let next = subst (λ (x : Side). IsNext v (end_at x)) c.in-A.is c.requires.next in
    subst (λ (x : Side). CarriesOn rack.disk rack.moment rack.left_since old c.mark.new.rack v c.mark.new.self s (end_at x) c.mark.result) (sym c.in-A.is)
    (carried_append rack.disk rack.moment rack.left_since old old c.mark.new.rack v c.mark.new.self s (ToJournal UndoneRecord) is (λ y left. g.met.R.Rack.only_now _ y honest left)
    (quiet_begins rack.moment rack.left_since old (rack.disk old) (λ y left. g.met.R.Rack.only_now _ y honest left)) stands Undone c.mark.result next
    (append_state v (rack.disk old) s (ToJournal UndoneRecord) Undone [] stands refl refl) c.mark.ensures.appends (c.mark.ensures.adds honest))

pub returns-in-B-clause-carries : goal.returns-in-B-clause-carries
returns-in-B-clause-carries g c =
    let v = c.args.self.now in
    let next = subst (λ (s : Side). IsNext v (end_at s)) c.in-B.is c.requires.next in
    subst (λ (s : Side). Carries v c.mark-in-B.new.self (end_at s) c.mark-in-B.result) (sym c.in-B.is)
    (acts_append v c.mark-in-B.new.self (ToJournal MovedRecord) Moved c.mark-in-B.result c.requires.fresh (next_by v (ToJournal MovedRecord) Moved [] next tt refl) refl c.mark-in-B.ensures.appends)

pub returns-in-B-clause-carried : goal.returns-in-B-clause-carried
returns-in-B-clause-carried g c = λ s honest stands is.
    let rack = g.R.Rack in
    let old = c.args.rack.now in
    let v = c.args.self.now in
    let next = subst (λ (x : Side). IsNext v (end_at x)) c.in-B.is c.requires.next in
    subst (λ (x : Side). CarriesOn rack.disk rack.moment rack.left_since old c.mark-in-B.new.rack v c.mark-in-B.new.self s (end_at x) c.mark-in-B.result) (sym c.in-B.is)
    (carried_append rack.disk rack.moment rack.left_since old old c.mark-in-B.new.rack v c.mark-in-B.new.self s (ToJournal MovedRecord) is (λ y left. g.met.R.Rack.only_now _ y honest left)
    (quiet_begins rack.moment rack.left_since old (rack.disk old) (λ y left. g.met.R.Rack.only_now _ y honest left)) stands Moved c.mark-in-B.result next
    (append_state v (rack.disk old) s (ToJournal MovedRecord) Moved [] stands refl refl) c.mark-in-B.ensures.appends (c.mark-in-B.ensures.adds honest))
