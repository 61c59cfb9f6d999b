use Rattle.std.proofs.Common.{◌≡◌, ℕ, ◌^◌, ◌≤◌, ◌<◌, List, sym, subst, length, lit<}
use Rattle.flow_net.specs.declared.pipes.Pipe.{Pipe}
use Rattle.flow_net.specs.Paths.{HaveLeft}
use Rattle.flow_net.specs.Trails.{use_at}
use Rattle.flow_net.specs.Paths.{pushed}
use Rattle.flow_net.proofs.Ready.{ready_from_leads}
use Rattle.flow_net.proofs.Pushing.{pushed_only}
use Rattle.flow_net.proofs.Carrying.{path_known, pushed_carried, pushed_augments}
use Rattle.flow_net.proofs.phases.push_path.Given.{Over}
use Rattle.flow_net.proofs.phases.push_path.Goals as goal
use Rattle.flow_net.proofs.phases.push_path.Goals.{After-least_left-amount}

pub least_left-amount-requires-clause-known : goal.least_left-amount-requires-clause-known
least_left-amount-requires-clause-known g c =
    subst (λ (ps : List Pipe). (k : ℕ) → k < length c.args.path.now → (use_at c.args.path.now k).pipe < length ps) (sym c.pipes.ensures.value)
    (λ k h. path_known c.args.net.now.pipes c.requires.path.from c.requires.path.to c.args.path.now k c.requires.path.leads h)

most :
    (g : Over) (c : After-least_left-amount g) (w : ℕ) → w < 2 ^ 128 → HaveLeft c.args.net.now.pipes c.args.filling.now.amounts w c.args.path.now →
    w ≤ c.least_left-amount.result
most g c w h left =
    c.least_left-amount.ensures.most w h
    (subst (λ (ps : List Pipe). HaveLeft ps c.args.filling.now.amounts w c.args.path.now) (sym c.pipes.ensures.value) left)

left_is : (g : Over) (c : After-least_left-amount g) → HaveLeft c.args.net.now.pipes c.args.filling.now.amounts c.least_left-amount.result c.args.path.now
left_is g c =
    subst (λ (ps : List Pipe). HaveLeft ps c.args.filling.now.amounts c.least_left-amount.result c.args.path.now) c.pipes.ensures.value c.least_left-amount.ensures.left

pub push-requires : goal.push-requires
push-requires g c =
    let a = (goal.at.push-requires g c).After-least_left-amount in
    record {
      of_net = c.requires.of_net;
      few = c.requires.few;
      path = c.requires.path;
      some = most g a 1 (lit< tt) c.requires.left;
      left = left_is g a;
    }

pub returns : goal.returns
returns g c =
    let a = (goal.at.returns g c).After-least_left-amount in
    let some = most g a 1 (lit< tt) c.requires.left in
    let amounts : c.push.new.self.amounts ≡ pushed c.least_left-amount.result c.args.filling.now.amounts c.args.path.now =
    pushed_only c.least_left-amount.result c.args.path.now c.args.filling.now.amounts c.push.new.self.amounts
    (ready_from_leads c.args.net.now c.args.filling.now.amounts c.least_left-amount.result c.args.path.now c.pipes.ensures.lawful c.requires.of_net some c.requires.path (left_is g a))
    (record { each = c.push.ensures.each; forward = c.push.ensures.forward; back = c.push.ensures.back; others = c.push.ensures.others }) in
    record {
      carried =
          λ v w path carried.
          pushed_carried c.args.net.now c.args.filling.now c.push.new.self v w c.least_left-amount.result c.args.path.now c.pipes.ensures.lawful carried some
          c.requires.path path (left_is g a) amounts;
      augments =
          λ v w power small path carried left.
          pushed_augments c.args.net.now c.args.filling.now c.push.new.self v w c.least_left-amount.result c.args.path.now c.pipes.ensures.lawful carried some
          c.requires.path path (left_is g a) amounts power (most g a power small left) c.push.ensures.pushes;
      one = c.push.ensures.pushes;
      step = c.push.ensures.step;
    }
