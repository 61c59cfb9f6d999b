use Rattle.std.proofs.Common.{sym, ap, ◌∙◌}
use Rattle.bound_cert.specs.Words.{rest_words}
use Rattle.bound_cert.proofs.LineTexts.{some_words}
use Rattle.bound_cert.proofs.words.at_end.Goals as goal

pub returns-in-Some : goal.returns-in-Some
returns-in-Some c = (λ h. cc, λ e. absurd (some_words c.in-Some.field-0.now (sym (ap rest_words c.in-Some.is) ∙ e)))
