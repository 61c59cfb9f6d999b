use Rattle.std.proofs.Common.{◌≡◌, ℕ, ◌+◌, true, false, cond, Option, Some, None, [], ◌∷◌, ◌++◌, refl, sym, ◌∙◌, ap, subst, arith, eqb, is_some}
use Rattle.std.proofs.lemmas.Bool.{ne_eqb}
use Rattle.branch_bound.specs.declared.entry.Entry.{Entry}
use Rattle.branch_bound.specs.Cuts.{is_cut}
use Rattle.branch_bound.specs.Entries.{entry_at}
use Rattle.branch_bound.specs.Visits.{skipped}
use Rattle.branch_bound.proofs.Visited.{Walks, walk_begins, not_past, number_below, walk_short, written, turn, walk_ends}
use Rattle.branch_bound.proofs.visits.visits_of.Goals as goal
use Rattle.branch_bound.proofs.visits.visits_of.Goals.{then-skip-eq0+in_ok-push, else-skip-eq0}

none_is : (file : Option ℕ) → file ≡ None → is_some file ≡ false
none_is file e = ap is_some e

some_is : (file : Option ℕ) → (file ≡ None → ⊥) → is_some file ≡ true
some_is None n = absurd (n refl)
some_is (Some f) n = refl

pub nodes-init : goal.nodes-init
nodes-init c = λ tree o.
    subst (λ z. Walks c.args.entries.now c.args.bytes tree (Some 0) 0 0 z) (sym c.new-order.ensures.items) (walk_begins c.args.entries.now c.args.bytes tree o)

pub unreachable-requires : goal.unreachable-requires
unreachable-requires c =
    let es = c.args.entries.now in
    let tree = c.requires.ordered.tree in
    let w = c.nodes.invariant tree c.requires.ordered.ordered in
    not_past es c.args.bytes tree w.trees c.nodes._turn (sym c.in_default.is ∙ w.begins) w.left (omega (arith, c.nodes-test.true, c.len-turn-end.ensures))

pub get-entry-requires : goal.get-entry-requires
get-entry-requires c =
    let es = c.args.entries.now in
    let tree = c.requires.ordered.tree in
    let w = c.nodes.invariant tree c.requires.ordered.ordered in
    number_below es c.args.bytes tree c.in-Some.number w.trees (sym c.in-Some.is ∙ w.begins) w.below

pub left_out-skip-requires : goal.left_out-skip-requires
left_out-skip-requires c =
    let es = c.args.entries.now in
    let tree = c.requires.ordered.tree in
    let w = c.nodes.invariant tree c.requires.ordered.ordered in
    omega (arith, walk_short es c.args.bytes tree c.nodes.at c.nodes.skip c.nodes._turn c.nodes.order.items w, c.requires.few)

pub nodes-preserved : goal.nodes-preserved
nodes-preserved c = λ tree o.
    let es = c.args.entries.now in
    let bytes = c.args.bytes in
    let number = c.in-Some.number in
    let entry = c.get-entry.result.now in
    let is : entry ≡ entry_at es number = c.get-entry.ensures in
    let w = subst (λ z. Walks es bytes tree z c.nodes.skip c.nodes._turn c.nodes.order.items) c.in-Some.is (c.nodes.invariant tree o) in
    let cut : c.reaches-cut.result ≡ is_cut bytes (entry_at es number).finding = c.reaches-cut.ensures ∙ ap (λ (e : Entry). is_cut bytes e.finding) is in
    let has : c.is_some.result ≡ is_some (entry_at es number).file = c.is_some.ensures ∙ ap (λ (e : Entry). is_some e.file) is in
    let next = turn es bytes tree number c.nodes.skip c.nodes._turn c.nodes.order.items c.reaches-cut.result c.is_some.result cut
    (λ n. has ∙ none_is (entry_at es number).file n) (λ n. has ∙ some_is (entry_at es number).file n) w in
    let order_is : c.if-skip-eq0.order.items ≡ written es bytes tree c.nodes.skip c.nodes.order.items (record { number = number; cut = c.reaches-cut.result }) =
    elim c.if-skip-eq0.branch [
      | then-skip-eq0+in_ok-push v ↦
          let zero_is : eqb c.nodes.skip 0 ≡ true = ap (λ z. eqb z 0) v.if-skip-eq0.true in
          ap (λ x. x.items) v.order-is ∙ v.in_ok-push.ensures.items
          ∙ ap (λ z. cond z (c.nodes.order.items ++ (record { number = number; cut = c.reaches-cut.result } ∷ [])) c.nodes.order.items) (sym zero_is)
      | else-skip-eq0 v ↦
          let more : eqb c.nodes.skip 0 ≡ false = ne_eqb c.nodes.skip 0 v.if-skip-eq0.false in
          ap (λ x. x.items) v.order-is ∙ ap (λ z. cond z (c.nodes.order.items ++ (record { number = number; cut = c.reaches-cut.result } ∷ [])) c.nodes.order.items) (sym more)
    ] in
    subst (λ z. Walks es bytes tree c.get-entry.result.now.next c.left_out-skip.result (c.nodes._turn + 1) z) (sym order_is)
    (subst (λ z. Walks es bytes tree c.get-entry.result.now.next z (c.nodes._turn + 1) (written es bytes tree c.nodes.skip c.nodes.order.items (record { number = number; cut = c.reaches-cut.result }))) (sym c.left_out-skip.ensures)
    (subst (λ z. Walks es bytes tree z (skipped c.nodes.skip c.reaches-cut.result c.is_some.result) (c.nodes._turn + 1) (written es bytes tree c.nodes.skip c.nodes.order.items (record { number = number; cut = c.reaches-cut.result })))
    (sym (ap (λ (e : Entry). e.next) is)) next))

pub returns : goal.returns
returns c = λ tree o.
    walk_ends c.args.entries.now c.args.bytes tree c.nodes.at c.nodes.skip c.nodes._turn c.nodes.order.items (omega (arith, c.nodes-test.false, c.len-turn-end.ensures)) (c.nodes.invariant tree o)
