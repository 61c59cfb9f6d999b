use Rattle.std.proofs.Common.{refl, sym, ◌∙◌, subst}
use Rattle.std.proofs.lemmas.Bool.{true≢false}
use Rattle.seed_mover.specs.declared.errors.SiteError.TheVariants.{NothingOpen, Spent}
use Rattle.seed_mover.proofs.Acted.{acted_nothing}
use Rattle.seed_mover.proofs.Noted.{cause_none}
use Rattle.undo_move.specs.Undoing.{IsUndoing}
use Rattle.undo_move.proofs.Begun.{not_undoing}
use Rattle.undo_move.proofs.undoing.undo_step.Goals as goal

pub returns-then-is_spent-clause-runs : goal.returns-then-is_spent-clause-runs
returns-then-is_spent-clause-runs g c = λ s honest stands is. acted_nothing g.R.Rack.disk g.R.Rack.moment g.R.Rack.left_since c.args.rack.now c.args.site.now s Spent (λ y left. g.met.R.Rack.only_now _ y honest left) stands refl tt

pub returns-in_default : goal.returns-in_default
returns-in_default g c =
    let rack = g.R.Rack in
    let old = c.args.rack.now in
    record {
      cause = cause_none (rack.faults old) NothingOpen (λ is. cc);
      honest = refl;
      steps = record {
        spent = λ is. absurd (true≢false (sym is ∙ sym c.is_spent.ensures ∙ c.if-is_spent.false));
        other = λ fresh other. (refl, refl);
        undoing = λ fresh undoing. absurd (not_undoing c.phase.result.now c.in_default.not-Undoing (subst IsUndoing (sym c.phase.ensures) undoing));
      };
      runs = λ s honest stands is. acted_nothing rack.disk rack.moment rack.left_since old c.args.site.now s NothingOpen (λ y left. g.met.R.Rack.only_now _ y honest left) stands refl tt;
    }
