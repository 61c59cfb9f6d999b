use Rattle.std.proofs.Common.{List, Bor, ℕ, ◌+◌, sym, ◌∙◌, subst, arith}
use Rattle.site_forms.proofs.Distinct.{AreSeen, seen_begins, seen_before, seen_more, seen_all}
use Rattle.site_forms.proofs.names.Names.are_distinct.Goals as goal

pub loop-place-init : goal.loop-place-init
loop-place-init c = subst (λ (keys : List (Bor (List ℕ))). AreSeen keys c.args.self.now 0) (sym c.new-seen.ensures.empty) (seen_begins c.args.self.now)

pub returns-then-not-branch : goal.returns-then-not-branch
returns-then-not-branch c = sym (seen_before c.loop-place.seen.keys c.args.self.now c.loop-place.place c.get-name.result c.get-name.ensures.name c.loop-place.invariant (sym c.in_ok-insert.ensures.added ∙ c.if-not-branch.true))

pub loop-place-preserved : goal.loop-place-preserved
loop-place-preserved c =
    subst (λ (keys : List (Bor (List ℕ))). AreSeen keys c.args.self.now (c.loop-place.place + 1)) (sym c.in_ok-insert.ensures.keys)
    (seen_more c.loop-place.seen.keys c.args.self.now c.loop-place.place c.get-name.result c.get-name.ensures.name c.loop-place.invariant (sym c.in_ok-insert.ensures.added ∙ c.if-not-branch.false))

pub returns : goal.returns
returns c = sym (seen_all c.loop-place.seen.keys c.args.self.now c.loop-place.place (omega (arith, c.loop-place-test.false, c.len-place-end.ensures.count)) c.loop-place.invariant)
