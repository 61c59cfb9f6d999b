use Rattle.std.proofs.Common.{◌≡◌, rules, codes}
use Rattle.bound_cert.specs.Words.{rest_words}
use Rattle.bound_cert.proofs.LineTexts.{none_still, none_two, only_plan, only_pins}
use Rattle.bound_cert.proofs.line_reading.rare_line_of.Goals as goal

pub returns-then-eq-clause-none : goal.returns-then-eq-clause-none
returns-then-eq-clause-none c =
    let k : c.args.word.now ≡ codes "plan" = search rules in
    none_two c.plan_of.result (λ none n. only_plan c.args.word.now (rest_words c.args.rest) k none n) c.plan_of.ensures.no_plan c.plan_of.ensures.none

pub returns-then-eq-3-clause-none : goal.returns-then-eq-3-clause-none
returns-then-eq-3-clause-none c =
    let k : c.args.word.now ≡ codes "pins" = search rules in
    none_still c.pins_of.result (λ n. only_pins c.args.word.now (rest_words c.args.rest) k n) c.pins_of.ensures.none
