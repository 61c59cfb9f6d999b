-- Only the files of the table matter to a minimum.
use Rattle.std.proofs.Common.{ℕ, ◌*◌, Bool, sym, ◌∙◌, ap, arith}
use Rattle.seed_model.specs.declared.node.Node.{Node}
use Rattle.seed_model.specs.Tables.{TableValue, IsTable}
use Rattle.seed_model.specs.Nodes.{IsMember}
use Rattle.seed_model.specs.SumLaws.{AgreesBelow}
use Rattle.seed_model.proofs.ClassSums.{files_alone}
use Rattle.hull_bound.specs.Minima.{IsMinimum, AreMinima}

pub member_agrees : (n : ℕ) (node : Node) (one other : ℕ → Bool) → AgreesBelow n one other → IsMember n node one → IsMember n node other
member_agrees n node one other agrees member = record {
  has = λ f h i. sym (agrees f h) ∙ member.has f h i;
  lacks = λ f h o. sym (agrees f h) ∙ member.lacks f h o;
}

pub minimum_agrees : (table : TableValue) (p q : ℕ) (node : Node) (one other : ℕ → Bool) → IsTable table → AgreesBelow table.files one other
    → IsMinimum table p q node one → IsMinimum table p q node other
minimum_agrees table p q node one other lawful agrees minimum =
    let sums = files_alone table one other lawful agrees in
    let m = ap (λ (x : ℕ). p * x) sums.0 in
    let a = ap (λ (x : ℕ). q * x) sums.1 in
    record {
      member = member_agrees table.files node one other agrees minimum.member;
      least = λ set member. omega (arith, minimum.least set member, m, a);
    }

pub minima_agree : (table : TableValue) (p q : ℕ) (node : Node) (low high first last : ℕ → Bool) → IsTable table → AgreesBelow table.files low first → AgreesBelow table.files high last
    → AreMinima table p q node low high → AreMinima table p q node first last
minima_agree table p q node low high first last lawful same_low same_high minima = record {
  first_is = minimum_agrees table p q node low first lawful same_low minima.first_is;
  last_is = minimum_agrees table p q node high last lawful same_high minima.last_is;
  smallest = λ set minimum f h at. minima.smallest set minimum f h (same_low f h ∙ at);
  largest = λ set minimum f h at. sym (same_high f h) ∙ minima.largest set minimum f h at;
}
