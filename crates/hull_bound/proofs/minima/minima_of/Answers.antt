use Rattle.std.proofs.Common.{Bool, List, sym, ◌∙◌, ap, arith}
use Rattle.seed_model.specs.Files.{holds}
use Rattle.flow_net.specs.Flows.{is_in}
use Rattle.hull_bound.specs.Slots.{set_of}
use Rattle.hull_bound.proofs.Agree.{minima_agree}
use Rattle.hull_bound.proofs.Solved.{solved_net}
use Rattle.hull_bound.proofs.minima.minima_of.Goals as goal

pub returns : goal.returns
returns g c =
    let table = c.args.table.now in
    let node = c.args.node.now in
    let p = c.args.slope.p in
    let q = c.args.slope.q in
    let cut = c.in_ok-cut.cut in
    let lawful = c.files-files.ensures.table in
    let solves =
    solved_net c.in_ok-net.net table p q node cut.flow.amounts cut.least.items cut.greatest.items
    c.in_ok-net.ensures lawful c.requires.node c.requires.some c.requires.p c.requires.q c.pipe_count-pipes.ensures.lawful c.in_ok-cut.ensures.flow c.in_ok-cut.ensures.sides in
    record {
      least_files = omega (arith, c.in_ok-least.ensures.files, c.requires.node.inside);
      greatest_files = omega (arith, c.in_ok-greatest.ensures.files, c.requires.node.inside);
      are_minima =
          minima_agree table p q node (set_of node (is_in cut.least.items)) (set_of node (is_in cut.greatest.items)) (holds c.in_ok-least.least) (holds c.in_ok-greatest.greatest) lawful
          (λ f h. sym (c.in_ok-least.ensures.set f (omega (arith, h, c.requires.node.inside)) ∙ ap (λ (side : List Bool). set_of node (is_in side) f) c.deref.ensures.value))
          (λ f h. sym (c.in_ok-greatest.ensures.set f (omega (arith, h, c.requires.node.inside)) ∙ ap (λ (side : List Bool). set_of node (is_in side) f) c.deref-2.ensures.value))
          solves.minima;
      pipes = solves.pipes;
      count = omega (arith, c.in_ok-cut.ensures.flow.each, c.pipe_count-pipes.ensures.count);
      few = omega (arith, c.pipe_count-pipes.ensures.lawful.few_pipes, c.pipe_count-pipes.ensures.count);
      small = solves.small;
      gives = solves.gives;
    }
