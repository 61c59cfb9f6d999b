use Rattle.std.proofs.Common.{◌≡◌, rules, codes}
use Rattle.bound_cert.specs.Words.{rest_words}
use Rattle.bound_cert.proofs.LineTexts.{none_still, only_branch}
use Rattle.bound_cert.proofs.line_reading.line_of.Goals as goal

pub returns-then-eq-3-clause-none : goal.returns-then-eq-3-clause-none
returns-then-eq-3-clause-none c =
    let k : c.args.word.now ≡ codes "branch" = search rules in
    none_still c.branch_of.result (λ n. only_branch c.args.word.now (rest_words c.args.rest) k n) c.branch_of.ensures.none
