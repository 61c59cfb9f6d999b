use Rattle.std.proofs.Common.{◌≡◌, ◌∙◌, ap, sym, subst, Bool, List, length, arith}
use Rattle.std.specs.Vec.{with_items}
use Rattle.std.proofs.lemmas.List.{with_items_is}
use Rattle.flow_net.specs.Cuts.{AreSides}
use Rattle.flow_net.proofs.Values.{tight_greatest}
use Rattle.flow_net.proofs.cuts.max_flow.Given.{Over}
use Rattle.flow_net.proofs.cuts.max_flow.Goals as goal
use Rattle.flow_net.proofs.cuts.max_flow.Goals.{After-solve}

pub returns-clause-most : goal.returns-clause-most
returns-clause-most g c =
    let sides = c.solve.ensures.sides in
    tight_greatest c.args.net.now c.args.source c.args.sink c.solve.new.run.filling.amounts _ c.in_ok-prepared.ensures.lawful c.requires.source c.solve.ensures.flow sides.least_cut.0 sides.least_tight

pub solve-requires : goal.solve-requires
solve-requires g c =
    let is = c.in_ok-prepared.ensures in
    record {
      net = is.lawful;
      lawful = record { links = is.adjacency; source = c.requires.source; sink = c.requires.sink; apart = c.requires.apart };
      places = is.places;
      none = is.none;
      empty = is.empty;
      least = ap (λ (l : List Bool). length l) c.deref_mut.ensures.value ∙ is.least;
      greatest = ap (λ (l : List Bool). length l) c.deref_mut-2.ensures.value ∙ is.greatest;
    }

least_is : (g : Over) (c : After-solve g) → (with_items c.in_ok-prepared.prepared.least c.solve.new.least).items ≡ c.solve.new.least
least_is g c = with_items_is c.in_ok-prepared.prepared.least c.solve.new.least (c.solve.auto.least ∙ c.deref_mut.ensures.len)

greatest_is : (g : Over) (c : After-solve g) → (with_items c.in_ok-prepared.prepared.greatest c.solve.new.greatest).items ≡ c.solve.new.greatest
greatest_is g c = with_items_is c.in_ok-prepared.prepared.greatest c.solve.new.greatest (c.solve.auto.greatest ∙ c.deref_mut-2.ensures.len)

pub returns-clause-sides : goal.returns-clause-sides
returns-clause-sides g c =
    let a = (goal.at.returns-clause-sides g c).After-solve in
    subst (λ (l : List Bool). AreSides c.args.net.now c.args.source c.args.sink c.solve.new.run.filling.amounts l (with_items c.in_ok-prepared.prepared.greatest c.solve.new.greatest).items) (sym (least_is g a))
    (subst (λ (l : List Bool). AreSides c.args.net.now c.args.source c.args.sink c.solve.new.run.filling.amounts c.solve.new.least l) (sym (greatest_is g a))
    c.solve.ensures.sides)

pub returns-clause-least_nodes : goal.returns-clause-least_nodes
returns-clause-least_nodes g c =
    let a = (goal.at.returns-clause-least_nodes g c).After-solve in
    ap (λ (l : List Bool). length l) (least_is g a) ∙ (c.solve.auto.least ∙ (ap (λ (l : List Bool). length l) c.deref_mut.ensures.value ∙ c.in_ok-prepared.ensures.least))

pub returns-clause-greatest_nodes : goal.returns-clause-greatest_nodes
returns-clause-greatest_nodes g c =
    let a = (goal.at.returns-clause-greatest_nodes g c).After-solve in
    ap (λ (l : List Bool). length l) (greatest_is g a) ∙ (c.solve.auto.greatest ∙ (ap (λ (l : List Bool). length l) c.deref_mut-2.ensures.value ∙ c.in_ok-prepared.ensures.greatest))

pub returns-clause-bound : goal.returns-clause-bound
returns-clause-bound g c = λ k rooms. omega (arith, c.solve.ensures.upto k rooms, c.solve.ensures.steps)

pub returns-in_err-prepared-clause-bound : goal.returns-in_err-prepared-clause-bound
returns-in_err-prepared-clause-bound g c = λ k rooms. omega arith
