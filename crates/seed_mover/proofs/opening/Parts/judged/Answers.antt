use Rattle.std.proofs.Common.{sym, ◌∙◌}
use Rattle.std.proofs.lemmas.Bool.{true≢false}
use Rattle.seed_mover.proofs.opening.Parts.judged.Goals as goal

pub invariant_of-result : goal.invariant_of-result
invariant_of-result c =
    let parts = c.args.self in
    let kept = c.fit.ensures.kept in
    let fits = c.in-Ok-true.ensures.fits.0 c.in-Ok-true.field-0-test in
    record {
      kept = record { a = kept.0; b = kept.1; names = fits.0; fits = fits.1 };
      cursor = c.start.ensures parts.volumes.a.shape parts.volumes.b.shape parts.journal.phase;
      fresh = λ unspent. record { a = c.requires.a; b = c.requires.b; journal = c.requires.journal };
    }

pub returns-in-Ok-false : goal.returns-in-Ok-false
returns-in-Ok-false c = (λ fits. true≢false (sym (c.in-Ok-false.ensures.fits.1 fits) ∙ c.in-Ok-false.field-0-test), c.device.ensures.device, c.last_gate.ensures)
