use Rattle.std.proofs.Common.{◌≡◌, ◌∙◌, ◌<◌, ◌+◌, ◌++◌, ◌∷◌, [], ℕ, Bool, false, List, if◌then◌else◌, length, take, drop, get_or, refl, sym, ap, subst, arith}
use Rattle.std.proofs.lemmas.List.{length-take-le}
use Rattle.branch_bound.specs.declared.visits.Visit.{Visit}
use Rattle.branch_bound.specs.Streams.{AreAdded, IsPartAdded}
use Rattle.branch_bound.proofs.Streaming.{none_added, added_then, part_then, part_more, one_more, cut_behind, read_visit, few_added}
use Rattle.branch_bound.proofs.writing.write_nodes.Goals as goal
use Rattle.branch_bound.proofs.writing.write_nodes.Goals.{then-branch, else-branch}

pub loop-visit-init : goal.loop-visit-init
loop-visit-init g c = record {
  added = none_added c.args.table.now c.args.found.now (g.F.Shelf.tells c.args.shelf.now) (g.F.Shelf.map c.args.shelf.now c.args.name.now);
  others = λ told other apart. refl;
  tells = refl;
  still = refl;
}

pub returns-in_err-write_node-clause-part : goal.returns-in_err-write_node-clause-part
returns-in_err-write_node-clause-part g c = λ told err.
    let inv = c.loop-visit.invariant in
    let visited = c.args.found.now.visited.items in
    let i = c.loop-visit.visit-index in
    let v = get_or c.deref-visit-items.result.now i (record { number = 0; cut = false }) in
    let same : c.deref-visit-items.result.now ≡ visited = c.deref-visit-items.ensures.value in
    let within : i < length visited = omega (arith, c.loop-visit-test.true, ap (λ (z : List Visit). length z) same) in
    let is = read_visit c.deref-visit-items.result.now visited i (record { number = 0; cut = false }) same within in
    let old = g.F.Shelf.map c.args.shelf.now c.args.name.now in
    let now = g.F.Shelf.map c.write_node.new.shelf c.args.name.now in
    subst (λ z. IsPartAdded c.args.table.now c.args.found.now z old now) (sym (cut_behind visited i v within is))
    (part_more c.args.table.now c.args.found.now (take i visited ++ v ∷ []) (drop (i + 1) visited) old now
    (part_then c.args.table.now c.args.found.now (take i visited) (v ∷ []) (g.F.Shelf.tells c.args.shelf.now) old (g.F.Shelf.map c.loop-visit.shelf c.args.name.now) now c.loop-visit.branchings told inv.added
    (c.in_err-write_node.ensures.part (inv.tells ∙ told) refl)))

pub overflow_add-branchings : goal.overflow_add-branchings
overflow_add-branchings g c =
    let inv = c.loop-visit.invariant in
    let visited = c.args.found.now.visited.items in
    let i = c.loop-visit.visit-index in
    let n = few_added c.args.table.now c.args.found.now (take i visited) (g.F.Shelf.tells c.args.shelf.now) (g.F.Shelf.map c.args.shelf.now c.args.name.now) (g.F.Shelf.map c.loop-visit.shelf c.args.name.now)
    c.loop-visit.branchings c.requires.writable inv.added in
    let within : i < length visited = omega (arith, c.loop-visit-test.true, ap (λ (z : List Visit). length z) c.deref-visit-items.ensures.value) in
    omega (arith, n, within, length-take-le i visited (omega (arith, within)), c.requires.few)

pub loop-visit-preserved : goal.loop-visit-preserved
loop-visit-preserved g c =
    let inv = c.loop-visit.invariant in
    let visited = c.args.found.now.visited.items in
    let i = c.loop-visit.visit-index in
    let v = get_or c.deref-visit-items.result.now i (record { number = 0; cut = false }) in
    let same : c.deref-visit-items.result.now ≡ visited = c.deref-visit-items.ensures.value in
    let within : i < length visited = omega (arith, c.loop-visit-test.true, ap (λ (z : List Visit). length z) same) in
    let is = read_visit c.deref-visit-items.result.now visited i (record { number = 0; cut = false }) same within in
    let tells = g.F.Shelf.tells c.args.shelf.now in
    let old = g.F.Shelf.map c.args.shelf.now c.args.name.now in
    let now = g.F.Shelf.map c.write_node.new.shelf c.args.name.now in
    let one : ℕ = if c.in_ok-write_node.field-0 then 1 else 0 in
    let count : c.if-branch.branchings ≡ c.loop-visit.branchings + one = elim c.if-branch.branch [
      | then-branch w ↦ let some : one ≡ 1 = ap (λ (z : Bool). if z then 1 else 0) w.if-branch.true in omega (arith, some, w.branchings-is)
      | else-branch w ↦ let none : one ≡ 0 = ap (λ (z : Bool). if z then 1 else 0) w.if-branch.false in omega (arith, none, w.branchings-is)
    ] in
    record {
      added = subst (λ z. AreAdded c.args.table.now c.args.found.now (take (i + 1) visited) tells old now z) (sym count)
          (subst (λ z. AreAdded c.args.table.now c.args.found.now z tells old now (c.loop-visit.branchings + one)) (sym (one_more visited i v within is))
          (added_then c.args.table.now c.args.found.now (take i visited) (v ∷ []) tells (g.F.Shelf.tells c.loop-visit.shelf) old (g.F.Shelf.map c.loop-visit.shelf c.args.name.now) now c.loop-visit.branchings one inv.tells inv.added
          c.in_ok-write_node.ensures.added));
      others = λ told other apart. c.in_ok-write_node.ensures.others (inv.tells ∙ told) other apart ∙ inv.others told other apart;
      tells = c.in_ok-write_node.ensures.tells ∙ inv.tells;
      still = c.in_ok-write_node.ensures.cause.kept (λ e. cc) ∙ inv.still;
    }
