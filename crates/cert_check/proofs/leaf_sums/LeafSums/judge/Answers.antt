use Rattle.std.proofs.Common.{◌≡◌, true, false, length, sym, ◌∙◌, ap, subst}
use Rattle.std.specs.Prelude.{Some, None}
use Rattle.cert_check.specs.Leaves.{JudgesLeaf, SumsReach, multipliers_of}
use Rattle.cert_check.proofs.Leafing.{Judged, keeps_all, breaks_reaching}
use Rattle.cert_check.proofs.leaf_sums.LeafSums.judge.Goals as goal

pub returns-in-Some-clause-judged : goal.returns-in-Some-clause-judged
returns-in-Some-clause-judged c = λ gives s.
    let j : Judged c.args.table.now gives c.args.self.now c.advance.new.self = record {
      sums = c.advance.ensures.sums gives s;
      p = c.advance.ensures.rest.0;
      q = c.advance.ensures.rest.1;
      class = c.advance.ensures.class ∙ c.classes.ensures;
      files = ap (λ v. length v.items) c.advance.ensures.rest.3 ∙ c.requires.files;
    } in
    subst (λ b. JudgesLeaf c.args.table.now c.args.range.now b c.args.node.now (multipliers_of c.args.self.now gives) None) (sym c.in-Some.is)
    (keeps_all c.args.table.now c.args.range.now c.args.node.now c.in-Some.bound gives c.args.self.now c.advance.new.self j c.if-not-self.false c.if-not-self-2.false (c.reaches.ensures.0 c.if-reaches.true))

pub returns-in_default-clause-judged : goal.returns-in_default-clause-judged
returns-in_default-clause-judged c = λ gives s.
    let j : Judged c.args.table.now gives c.args.self.now c.advance.new.self = record {
      sums = c.advance.ensures.sums gives s;
      p = c.advance.ensures.rest.0;
      q = c.advance.ensures.rest.1;
      class = c.advance.ensures.class ∙ c.classes.ensures;
      files = ap (λ v. length v.items) c.advance.ensures.rest.3 ∙ c.requires.files;
    } in
    let short : ¬ SumsReach c.args.range.now c.args.node.now c.in-Some.bound c.advance.new.self = λ r. let e : true ≡ false = sym (c.reaches.ensures.1 r) ∙ c.if-reaches.false in cc in
    subst (λ b. JudgesLeaf c.args.table.now c.args.range.now b c.args.node.now (multipliers_of c.args.self.now gives) (Some 12)) (sym c.in-Some.is)
    (breaks_reaching c.args.table.now c.args.range.now c.args.node.now c.in-Some.bound gives c.args.self.now c.advance.new.self j c.if-not-self.false c.if-not-self-2.false short)
