use Rattle.std.proofs.Common.{sym, ap, ◌∙◌}
use Rattle.bound_cert.specs.Words.{words}
use Rattle.bound_cert.proofs.LineTexts.{none_still, some_still, words_of_line, text_of_words}
use Rattle.bound_cert.proofs.line_reading.read_line.Goals as goal

pub returns-clause-found : goal.returns-clause-found
returns-clause-found c = some_still c.line_of.result (λ l h. (h.0, text_of_words _ _ _ _ c.in_ok-word.ensures.some h.1)) c.line_of.ensures.found

pub returns-clause-none : goal.returns-clause-none
returns-clause-none c = none_still c.line_of.result (λ n l h e. n l h (sym c.in_ok-word.ensures.some ∙ (ap words e ∙ words_of_line l h))) c.line_of.ensures.none
