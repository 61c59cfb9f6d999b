use Rattle.std.proofs.Common.{◌≡◌, Bool, List, sym, ◌∙◌, ap, subst, arith}
use Rattle.seed_model.specs.declared.node.Node.{Node}
use Rattle.branch_bound.specs.declared.entry.Entry.{Entry}
use Rattle.branch_bound.proofs.Climbs.{Climbs, climb_begins, climb_steps, climb_ends, step_fits}
use Rattle.branch_bound.proofs.entries.Entries.node.Goals as goal

pub loop-origin-init : goal.loop-origin-init
loop-origin-init c =
    let root = c.args.root.now in
    let inside : c.in_ok-copy.field-0 ≡ root.inside = c.in_ok-copy.ensures.same in
    let outside : c.in_ok-copy-2.field-0 ≡ root.outside = c.in_ok-copy-2.ensures.same in
    subst (λ z. Climbs root c.args.self.now c.args.number c.args.number z) (sym (ap (λ z. node_with z c.in_ok-copy-2.field-0) inside ∙ ap (λ z. node_with root.inside z) outside))
    (climb_begins root c.args.self.now c.args.number c.requires.inside c.requires.root)
  where
    node_with : List Bool → List Bool → Node
    node_with x y = record { inside = x; outside = y }

pub loop-origin-preserved : goal.loop-origin-preserved
loop-origin-preserved c =
    let is = ap (λ (e : Entry). e.origin) (sym c.get.ensures) ∙ c.in-Some.is in
    subst (λ z. Climbs c.args.root.now c.args.self.now c.args.number c.in-Some.origin.parent z) (sym c.put.ensures)
    (climb_steps c.args.root.now c.args.self.now c.args.number c.loop-origin.at c.loop-origin.node c.in-Some.origin c.requires.origins is c.loop-origin.invariant)

pub loop-origin-smaller : goal.loop-origin-smaller
loop-origin-smaller c =
    let is = ap (λ (e : Entry). e.origin) (sym c.get.ensures) ∙ c.in-Some.is in
    (step_fits c.args.root.now c.args.self.now c.args.number c.loop-origin.at c.loop-origin.node c.in-Some.origin c.requires.origins is c.loop-origin.invariant).0

pub put-requires : goal.put-requires
put-requires c =
    let is = ap (λ (e : Entry). e.origin) (sym c.get.ensures) ∙ c.in-Some.is in
    let i = c.loop-origin.invariant in
    let fits = step_fits c.args.root.now c.args.self.now c.args.number c.loop-origin.at c.loop-origin.node c.in-Some.origin c.requires.origins is i in
    record { inside = omega (arith, fits.1, i.inside); outside = omega (arith, fits.1, i.outside) }

pub returns-clause-node : goal.returns-clause-node
returns-clause-node c =
    let is = ap (λ (e : Entry). e.origin) (sym c.get.ensures) ∙ c.in_default.is in
    climb_ends c.args.root.now c.args.self.now c.args.number c.loop-origin.at c.loop-origin.node is c.loop-origin.invariant
