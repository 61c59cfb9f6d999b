use Rattle.std.proofs.Common.{sym, ◌∙◌, subst}
use Rattle.seed_mover.specs.declared.errors.SiteError.TheVariants.{NothingOpen, Spent}
use Rattle.seed_mover.proofs.Marked.{nothing_runs}
use Rattle.undo_move.specs.Undoing.{IsUndoing, undo_plan}
use Rattle.undo_move.proofs.Begun.{again_runs}
use Rattle.undo_move.proofs.undoing.begin_undo.Goals as goal

pub returns-then-is_spent-clause-runs : goal.returns-then-is_spent-clause-runs
returns-then-is_spent-clause-runs g c = λ s honest stands is. nothing_runs g.R.Rack.disk g.R.Rack.moment g.R.Rack.left_since c.args.rack.now c.args.site.now s (λ y left. g.met.R.Rack.only_now _ y honest left) stands (undo_plan s) Spent

pub returns-in-Idle-clause-runs : goal.returns-in-Idle-clause-runs
returns-in-Idle-clause-runs g c = λ s honest stands is. nothing_runs g.R.Rack.disk g.R.Rack.moment g.R.Rack.left_since c.args.rack.now c.args.site.now s (λ y left. g.met.R.Rack.only_now _ y honest left) stands (undo_plan s) NothingOpen

pub returns-in-Undoing-clause-runs : goal.returns-in-Undoing-clause-runs
returns-in-Undoing-clause-runs g c = λ s honest stands is.
    again_runs g.R.Rack.disk g.R.Rack.moment g.R.Rack.left_since c.args.rack.now c.args.site.now s (λ y left. g.met.R.Rack.only_now _ y honest left) stands (subst IsUndoing (sym c.in-Undoing.is ∙ c.phase.ensures) tt)
