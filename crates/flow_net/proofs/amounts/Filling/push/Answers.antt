use Rattle.std.proofs.Common.{◌≡◌, ℕ, ◌+◌, List, ◌∙◌, ap, sym, subst}
use Rattle.std.specs.Vec.{with_items}
use Rattle.std.proofs.lemmas.List.{with_items_is}
use Rattle.flow_net.specs.Paths.{IsPushed, pushed}
use Rattle.flow_net.specs.Moves.{IsReady}
use Rattle.flow_net.proofs.Ready.{ready_from_leads}
use Rattle.flow_net.proofs.Pushing.{pushed_per_pipe}
use Rattle.flow_net.proofs.amounts.Filling.push.Goals as goal

pub move_along-requires : goal.move_along-requires
move_along-requires g c =
    let same : c.args.self.now.amounts ≡ c.deref_mut.result.now =
    ap (λ v. v.amounts) (sym c.self.view_is) ∙ sym c.deref_mut.ensures.value in
    subst (λ xs. IsReady c.args.amount xs c.args.path.now) same
    (ready_from_leads c.args.net.now c.args.self.now.amounts c.args.amount c.args.path.now c.pipes-pipes.ensures.lawful
    c.requires.of_net c.requires.some c.requires.path c.requires.left)

pub returns : goal.returns
returns g c =
    let was : c.deref_mut.result.now ≡ c.args.self.now.amounts =
    c.deref_mut.ensures.value ∙ ap (λ v. v.amounts) c.self.view_is in
    let now : (with_items c.self.inside.amounts c.move_along.new.amounts).items ≡ c.move_along.new.amounts =
    with_items_is c.self.inside.amounts c.move_along.new.amounts (c.move_along.auto.amounts ∙ c.deref_mut.ensures.len) in
    let ready : IsReady c.args.amount c.deref_mut.result.now c.args.path.now =
    subst (λ (xs : List ℕ). IsReady c.args.amount xs c.args.path.now) (sym was)
    (ready_from_leads c.args.net.now c.args.self.now.amounts c.args.amount c.args.path.now c.pipes-pipes.ensures.lawful
    c.requires.of_net c.requires.some c.requires.path c.requires.left) in
    let moved_is : pushed c.args.amount c.deref_mut.result.now c.args.path.now ≡ c.move_along.new.amounts = sym {b = pushed c.args.amount c.deref_mut.result.now c.args.path.now} c.move_along.ensures in
    let moved : IsPushed c.args.amount c.args.path.now c.deref_mut.result.now c.move_along.new.amounts =
    subst (λ (xs : List ℕ). IsPushed c.args.amount c.args.path.now c.deref_mut.result.now xs) moved_is
    (pushed_per_pipe c.args.amount c.deref_mut.result.now c.args.path.now ready) in
    let now_is : c.move_along.new.amounts ≡ (with_items c.self.inside.amounts c.move_along.new.amounts).items = sym {b = c.move_along.new.amounts} now in
    let is : IsPushed c.args.amount c.args.path.now c.args.self.now.amounts (with_items c.self.inside.amounts c.move_along.new.amounts).items =
    subst (λ (xs : List ℕ). IsPushed c.args.amount c.args.path.now xs (with_items c.self.inside.amounts c.move_along.new.amounts).items) was
    (subst (λ (ys : List ℕ). IsPushed c.args.amount c.args.path.now c.deref_mut.result.now ys) now_is moved) in
    record {
      each = is.each;
      forward = is.forward;
      back = is.back;
      others = is.others;
      pushes = ap (λ v. v.pushes + 1) c.self.view_is;
      step = c.tick.ensures;
    }
