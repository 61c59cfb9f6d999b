use Rattle.std.proofs.Common.{◌≡◌, ◌↔◌, true, IfOk, sym, ◌∙◌, ap, subst}
use Rattle.site_forms.specs.declared.phase.Phase.{Phase}
use Rattle.site_forms.specs.Names.{is_name_list}
use Rattle.site_forms.specs.Phases.{names_of}
use Rattle.site_forms.specs.Sites.{Fits}
use Rattle.site_core.specs.Events.{Shapes}
use Rattle.seed_mover.proofs.Judging.{fits_named}
use Rattle.seed_mover.proofs.opening.Parts.fit.Goals as goal

pub returns-in-Ok-true-clause-fits : goal.returns-in-Ok-true-clause-fits
returns-in-Ok-true-clause-fits c =
    let parts = c.args.self.now in
    let lawful : is_name_list (names_of parts.journal.phase) ≡ true = ap (λ (p : Phase). is_name_list (names_of p)) (sym c.phase.ensures) ∙ sym c.in-Ok-true.ensures ∙ c.in-Ok-true.field-0-test in
    let read : Shapes = record { a = c.holding-a.result.now.shape; b = c.holding-b.result.now.shape; phase = c.phase-in-Ok-true.result.now } in
    let own : Shapes = record { a = parts.volumes.a.shape; b = parts.volumes.b.shape; phase = parts.journal.phase } in
    let same : read ≡ own = λ i. record { a = c.holding-a.ensures.shape i; b = c.holding-b.ensures.shape i; phase = c.phase-in-Ok-true.ensures i } in
    fits_named parts c.fits_volumes.result lawful (subst (λ (t : Shapes). IfOk c.fits_volumes.result (λ is. (is ≡ true) ↔ Fits t.a t.b t.phase)) same c.fits_volumes.ensures)
