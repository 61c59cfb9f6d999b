use Rattle.std.proofs.Common.{◌≡◌, ◌≢◌, sym, subst, ◌∙◌}
use Rattle.seed_io.specs.Answered.{line_text}
use Rattle.cert_check.specs.declared.judged.Checked.{Checked}
use Rattle.cert_check.specs.declared.judged.Judged.TheVariants.{More}
use Rattle.cert_check.specs.Checking.{IsVerdict}
use Rattle.cert_check.proofs.Texts.{begins, goes_on, shorter, verdict_line, verdict_end}
use Rattle.cert_check.proofs.documents.check_lines.Goals as goal

pub judging-init : goal.judging-init
judging-init c =
    let e = c.in_ok-judge.ensures in
    begins c.args.table.now c.args.text.now c.in_ok-judge.judge e.table e.goes e.none e.stands

pub returns-in_default-take : goal.returns-in_default-take
returns-in_default-take c =
    let w = c.judging.invariant in
    let e = c.take.ensures in
    let over : c.take.new.self.judged ≢ More = λ m. c.in_default-take.not-More (e.answer ∙ m) in
    subst (λ (k : Checked). IsVerdict c.args.table.now c.args.text.now k.verdict) (sym c.into_checked.ensures)
    (verdict_line c.args.table.now c.args.text.now c.judging.judge c.take.new.self c.judging.rest.now c.in-Some.behind.now (line_text c.in-Some.line) w c.certificate_laws.ensures.told c.in-Some.ensures.some e.table (e.taken w.before w.stands) over)

pub judging-smaller : goal.judging-smaller
judging-smaller c =
    let w = c.judging.invariant in
    let e = c.take.ensures in
    let more : c.take.new.self.judged ≡ More = sym e.answer ∙ c.in-More.is in
    shorter c.args.table.now c.args.text.now c.judging.judge c.take.new.self c.judging.rest.now c.in-Some.behind.now (line_text c.in-Some.line) w c.in-Some.ensures.some (e.taken w.before w.stands) more

pub judging-preserved : goal.judging-preserved
judging-preserved c =
    let w = c.judging.invariant in
    let e = c.take.ensures in
    let more : c.take.new.self.judged ≡ More = sym e.answer ∙ c.in-More.is in
    goes_on c.args.table.now c.args.text.now c.judging.judge c.take.new.self c.judging.rest.now c.in-Some.behind.now (line_text c.in-Some.line) w c.in-Some.ensures.some e.table e.lines (e.taken w.before w.stands) more

pub returns : goal.returns
returns c =
    let w = c.judging.invariant in
    let e = c.take-2.ensures in
    subst (λ (k : Checked). IsVerdict c.args.table.now c.args.text.now k.verdict) (sym c.into_checked-2.ensures)
    (verdict_end c.args.table.now c.args.text.now c.judging.judge c.take-2.new.self c.judging.rest.now w c.certificate_laws.ensures.told c.in_default.ensures.none e.table (e.taken w.before w.stands))
