use Rattle.std.proofs.Common.{◌≡◌, ◌≢◌, option_map, ap, ◌∙◌, sym, refl, arith}
use Rattle.std.specs.Prelude.{is_none}
use Rattle.seed_io.specs.Answered.{line_text}
use Rattle.seed_io.specs.Lines.{listed}
use Rattle.cert_check.specs.declared.judged.Judged.TheVariants.{More}
use Rattle.cert_check.specs.Judging.{JudgeValue}
use Rattle.cert_check.proofs.Judges.{still_judge, stands_still, takes_on}
use Rattle.cert_check.proofs.judge.Judge.take.Goals as goal

pub returns-in_default : goal.returns-in_default
returns-in_default c =
    let answer : c.self.inside.judged ≡ c.args.self.now.judged = ap (λ (j : JudgeValue). j.judged) c.self.view_is in
    let over : c.args.self.now.judged ≢ More = λ e. c.in_default.not-More (answer ∙ e) in
    let judge = c.args.self.now in
    let given = option_map line_text c.args.line in
    record {
      answer = answer;
      table = refl;
      lines = omega arith;
      over = λ _. refl;
      taken = λ before s. stands_still judge.judged judge.table judge.kept judge.lines before (listed given) (is_none given) over s;
    }

pub invariant_of-self : goal.invariant_of-self
invariant_of-self c =
    let old = c.self.inside in
    still_judge old.table.now old.lines old.kept c.take_next-self-inside.new.kept (option_map line_text c.args.line) c.take_next-self-inside.result (c.self.invariant.goes c.in-More.is) c.take_next-self-inside.ensures

pub returns-clause-taken : goal.returns-clause-taken
returns-clause-taken c =
    let old = c.self.inside in
    λ before s. takes_on c.args.self.now old.table.now old.lines old.judged old.kept c.take_next-self-inside.new.kept (option_map line_text c.args.line) c.take_next-self-inside.result before (sym c.self.view_is) c.in-More.is c.take_next-self-inside.ensures s
