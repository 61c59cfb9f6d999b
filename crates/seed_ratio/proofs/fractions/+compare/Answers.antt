use Rattle.std.proofs.Common.{◌*◌, ◌/◌, ◌%◌, ◌≡◌, ◌∙◌, ap, sym, ◌⊎◌, inl, inr}
use Rattle.std.specs.Ordering.{nat_cmp}
use Rattle.seed_ratio.proofs.Ratios.{nat_cmp-left, nat_cmp-whole, nat_cmp-none}
use Rattle.std.proofs.Math.Nat.{mul_comm}
use Rattle.seed_ratio.proofs.fractions.+compare.Goals as goal

pub returns-then-whole-other_whole : goal.returns-then-whole-other_whole
returns-then-whole-other_whole t c = c.cmp.ensures ∙ nat_cmp-whole c.args.a c.args.b c.args.c c.args.d c.requires.divisor c.requires.other_divisor c.if-whole-other_whole.true

pub returns-then-left-eq0 : goal.returns-then-left-eq0
returns-then-left-eq0 t c =
    let whole : c.args.a / c.args.b ≡ c.args.c / c.args.d = c.if-whole-other_whole.false in
    let none : (c.args.a % c.args.b ≡ 0) ⊎ (c.args.c % c.args.d ≡ 0) = elim c.then-left-eq0.either [ inl h ↦ inl h | inr h ↦ inr h.1 ] in
    c.cmp-then-left-eq0.ensures ∙ nat_cmp-none (c.args.a % c.args.b) c.args.b (c.args.c % c.args.d) c.args.d c.requires.divisor c.requires.other_divisor none
    ∙ sym (nat_cmp-left c.args.a c.args.b c.args.c c.args.d whole)

pub returns : goal.returns
returns t c =
    let whole : c.args.a / c.args.b ≡ c.args.c / c.args.d = c.if-whole-other_whole.false in
    c.compare.ensures ∙ (ap (λ n. nat_cmp n (c.args.b * (c.args.c % c.args.d))) (mul_comm c.args.d (c.args.a % c.args.b))
    ∙ ap (λ n. nat_cmp (c.args.a % c.args.b * c.args.d) n) (mul_comm c.args.b (c.args.c % c.args.d)))
    ∙ sym (nat_cmp-left c.args.a c.args.b c.args.c c.args.d whole)
