use Rattle.site_forms.specs.JournalRecords.JournalRecord.{UndoBeginRecord}
use Rattle.seed_mover.specs.declared.errors.SiteError.TheVariants.{Spent}
use Rattle.seed_mover.specs.Moving.{mark_plan}
use Rattle.seed_mover.proofs.Marked.{may_undo, nothing_runs, undo_runs}
use Rattle.seed_mover.proofs.site.Site.record_undo.Goals as goal

pub mark-requires-clause-may : goal.mark-requires-clause-may
mark-requires-clause-may g c = may_undo c.args.self.now c.requires

pub returns-then-self-clause-runs : goal.returns-then-self-clause-runs
returns-then-self-clause-runs g c = λ s honest stands is. nothing_runs g.R.Rack.disk g.R.Rack.moment g.R.Rack.left_since c.args.rack.now c.args.self.now s (λ y left. g.met.R.Rack.only_now _ y honest left) stands (mark_plan UndoBeginRecord) Spent

pub returns-clause-runs : goal.returns-clause-runs
returns-clause-runs g c = λ s honest stands is.
    let rack = g.R.Rack in
    undo_runs rack.disk rack.moment rack.left_since c.args.rack.now c.args.self.now s (λ y left. g.met.R.Rack.only_now _ y honest left) stands c.mark.new.rack c.mark.new.self is c.mark.result c.requires (c.mark.ensures.adds honest)
