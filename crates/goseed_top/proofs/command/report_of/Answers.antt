use Rattle.std.proofs.Common.{inl}
use Rattle.std.proofs.lemmas.Result.{IfOk-weaker}
use Rattle.goseed_words.specs.declared.order.WordError.TheVariants.{Usage, BadWord}
use Rattle.goseed_top.proofs.RunLemmas.{means_order, ends_error, asked_or_none, off_site}
use Rattle.command_texts.proofs.HaltLemmas.{through_halt}
use Rattle.goseed_top.proofs.command.report_of.Goals as goal

pub returns-in-Ok-clause-report : goal.returns-in-Ok-clause-report
returns-in-Ok-clause-report g c =
    IfOk-weaker c.report_of_order.result _ _ (λ report ends. means_order _ _ _ c.in-Ok.order _ _ c.in-Ok.ensures.meaning ends) c.report_of_order.ensures.report

pub returns-in-Ok-clause-same : goal.returns-in-Ok-clause-same
returns-in-Ok-clause-same g c = λ none. c.report_of_order.ensures.same _ c.in-Ok.ensures.meaning none

pub returns-in-Ok-clause-untouched : goal.returns-in-Ok-clause-untouched
returns-in-Ok-clause-untouched g c = λ none. absurd (asked_or_none c.word_laws.ensures _ c.in-Ok.order c.in-Ok.ensures.meaning none)

pub returns-in-Ok-clause-site_untouched : goal.returns-in-Ok-clause-site_untouched
returns-in-Ok-clause-site_untouched g c = λ none. absurd (asked_or_none c.word_laws.ensures _ c.in-Ok.order c.in-Ok.ensures.meaning none)

pub returns-in-Ok-clause-off_site : goal.returns-in-Ok-clause-off_site
returns-in-Ok-clause-off_site g c = λ none. c.report_of_order.ensures.off_site (off_site _ c.in-Ok.order c.in-Ok.ensures.meaning none)

pub returns-in-Err-Usage-clause-report : goal.returns-in-Err-Usage-clause-report
returns-in-Err-Usage-clause-report g c =
    through_halt _ _ c.refused.result c.or_halt.result c.or_halt.ensures.ok c.refused.ensures
    (λ report refuses. inl (ends_error _ _ _ _ _ Usage _ _ (rw c.in-Err-Usage.field-0-is at c.in-Err-Usage.ensures.meaning) refuses))

pub returns-in-Err-BadWord-clause-report : goal.returns-in-Err-BadWord-clause-report
returns-in-Err-BadWord-clause-report g c =
    through_halt _ _ c.refused-in-Err-BadWord.result c.or_halt-in-Err-BadWord.result c.or_halt-in-Err-BadWord.ensures.ok c.refused-in-Err-BadWord.ensures
    (λ report refuses. inl (ends_error _ _ _ _ _ (BadWord c.in-Err-BadWord.place) _ _ (rw c.in-Err-BadWord.field-0-is at c.in-Err-BadWord.ensures.meaning) refuses))
