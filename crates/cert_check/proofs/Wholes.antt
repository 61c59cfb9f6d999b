-- The rules on a whole leaf among the others.
use Rattle.std.proofs.Common.{◌≡◌, ℕ, ◌<◌, Option, Some, None, sym, subst, arith, inl, inr}
use Rattle.std.specs.Prelude.{IfSome, IsSomeAnd}
use Rattle.seed_model.specs.Tables.{TableValue}
use Rattle.bound_cert.specs.declared.multipliers.Multipliers.{Multipliers}
use Rattle.bound_cert.specs.Lines.{Entry}
use Rattle.bound_cert.specs.Multipliers.{AreCharged, AreRewarded, ReachesBound}
use Rattle.bound_cert.specs.Judgements.{Told, Rule, Width, Answering, Sums, InReach, Difference, Mixing, Closing, Using, Charging, Rewarding, Reaching, Apart, Pinning, Keeps, number_of, node_of, leaf_of}
use Rattle.cert_rules.specs.Judged.{Judges}
use Rattle.cert_check.specs.Leaves.{JudgesLeaf}

-- the rules on a line by itself
pub record KeepsOthers (table : TableValue) (told : Told) (e : Entry) : Type 0 where
  pub width : Keeps table told e Width
  pub answering : Keeps table told e Answering
  pub sums : Keeps table told e Sums
  pub in_reach : Keeps table told e InReach
  pub difference : Keeps table told e Difference
  pub mixing : Keeps table told e Mixing
  pub closing : Keeps table told e Closing
  pub using : Keeps table told e Using
  pub apart : Keeps table told e Apart
  pub pinning : Keeps table told e Pinning

pub keeps_each : (table : TableValue) (told : Told) (e : Entry) → KeepsOthers table told e → Keeps table told e Charging → Keeps table told e Rewarding → Keeps table told e Reaching → (rule : Rule) → Keeps table told e rule
keeps_each table told e o c r b Width = o.width
keeps_each table told e o c r b Answering = o.answering
keeps_each table told e o c r b Sums = o.sums
keeps_each table told e o c r b InReach = o.in_reach
keeps_each table told e o c r b Difference = o.difference
keeps_each table told e o c r b Mixing = o.mixing
keeps_each table told e o c r b Closing = o.closing
keeps_each table told e o c r b Using = o.using
keeps_each table told e o c r b Charging = c
keeps_each table told e o c r b Rewarding = r
keeps_each table told e o c r b Reaching = b
keeps_each table told e o c r b Apart = o.apart
keeps_each table told e o c r b Pinning = o.pinning

before : (table : TableValue) (told : Told) (e : Entry) (n : ℕ) → n < 13 → KeepsOthers table told e → (10 < n → Keeps table told e Charging) → (11 < n → Keeps table told e Rewarding) → (12 < n → Keeps table told e Reaching)
    → (other : Rule) → number_of other < n → Keeps table told e other
before table told e n few o c r b Width lt = o.width
before table told e n few o c r b Answering lt = o.answering
before table told e n few o c r b Sums lt = o.sums
before table told e n few o c r b InReach lt = o.in_reach
before table told e n few o c r b Difference lt = o.difference
before table told e n few o c r b Mixing lt = o.mixing
before table told e n few o c r b Closing lt = o.closing
before table told e n few o c r b Using lt = o.using
before table told e n few o c r b Charging lt = c lt
before table told e n few o c r b Rewarding lt = r lt
before table told e n few o c r b Reaching lt = b lt
before table told e n few o c r b Apart lt = absurd (omega (arith, lt, few))
before table told e n few o c r b Pinning lt = absurd (omega (arith, lt, few))

-- a whole leaf is judged as its multipliers are
pub leaf_judged : (table : TableValue) (told : Told) (e : Entry) (m : Multipliers) (rule : Option ℕ) → leaf_of told e ≡ Some m → KeepsOthers table told e
    → JudgesLeaf table told.range told.bound (node_of table.files told) m rule → Judges table told e rule
leaf_judged table told e m None is o j =
    keeps_each table told e o
    (subst (λ (w : Option Multipliers). IfSome w (λ x. AreCharged table x.q x.gives)) (sym is) j.0)
    (subst (λ (w : Option Multipliers). IfSome w (λ x. AreRewarded table x.p x.gives)) (sym is) j.1)
    (subst (λ (w : Option Multipliers). IfSome w (λ x. IsSomeAnd told.bound (λ z. ReachesBound table told.range (node_of table.files told) z x))) (sym is) j.2)
leaf_judged table told e m (Some number) is o j = elim j [
  | inl x ↦ (
    Charging,
    sym x.0,
    record {
      breaks = λ k. x.1 (subst (λ (w : Option Multipliers). IfSome w (λ y. AreCharged table y.q y.gives)) is k);
      before = before table told e 10 (omega arith) o (λ lt. absurd (omega (arith, lt))) (λ lt. absurd (omega (arith, lt))) (λ lt. absurd (omega (arith, lt)));
    },
  )
  | inr y ↦ elim y [
    | inl x ↦ (
      Rewarding,
      sym x.0,
      record {
        breaks = λ k. x.2 (subst (λ (w : Option Multipliers). IfSome w (λ y. AreRewarded table y.p y.gives)) is k);
        before = before table told e 11 (omega arith) o
            (λ lt. subst (λ (w : Option Multipliers). IfSome w (λ y. AreCharged table y.q y.gives)) (sym is) x.1)
            (λ lt. absurd (omega (arith, lt))) (λ lt. absurd (omega (arith, lt)));
      },
    )
    | inr x ↦ (
      Reaching,
      sym x.0,
      record {
        breaks = λ k. x.3 (subst (λ (w : Option Multipliers). IfSome w (λ y. IsSomeAnd told.bound (λ z. ReachesBound table told.range (node_of table.files told) z y))) is k);
        before = before table told e 12 (omega arith) o
            (λ lt. subst (λ (w : Option Multipliers). IfSome w (λ y. AreCharged table y.q y.gives)) (sym is) x.1)
            (λ lt. subst (λ (w : Option Multipliers). IfSome w (λ y. AreRewarded table y.p y.gives)) (sym is) x.2)
            (λ lt. absurd (omega (arith, lt)));
      },
    )
  ]
]
