use Rattle.std.proofs.Common.{refl, ◌≡◌, ◌≢◌, ℕ, ◌^◌, ◌<◌, ◌∙◌, ap, sym, subst, true, false, List, length, arith}
use Rattle.flow_net.specs.declared.pipes.Use.{Use}
use Rattle.flow_net.specs.Levels.{IsSearched}
use Rattle.flow_net.proofs.Trailing.{ways_begin, only_start, levelled_lifted}
use Rattle.flow_net.proofs.Carrying.{augments_none, augments_on, trail_leads, have_left_less}
use Rattle.flow_net.proofs.phases.phase.Given.{Over}
use Rattle.flow_net.proofs.phases.phase.Goals as goal
use Rattle.flow_net.proofs.phases.phase.Goals.{After-rewind, After-find_path}

-- the search, seen on the levels that the loop reads
searched :
    (g : Over) (c : After-rewind g) →
    IsSearched c.args.problem.now.net.now.pipes c.args.run.now.filling.amounts c.args.power false c.args.problem.now.source c.args.problem.now.sink c.deref_mut-levels.result.now true
searched g c =
    subst (λ (levels : List ℕ). IsSearched c.args.problem.now.net.now.pipes c.args.run.now.filling.amounts c.args.power false c.args.problem.now.source c.args.problem.now.sink levels true)
    (sym c.deref_mut-levels.ensures.value) c.requires.levels

levels_len : (g : Over) (c : After-rewind g) → length c.deref_mut-levels.result.now ≡ c.args.problem.now.net.now.nodes
levels_len g c = ap (λ (levels : List ℕ). length levels) c.deref_mut-levels.ensures.value ∙ c.requires.run.places.levels

pub paths-init : goal.paths-init
paths-init g c =
    let a = (goal.at.paths-init g c).After-rewind in
    let is = searched g a in
    record {
      carried = c.requires.run.carried;
      augments = augments_none c.args.problem.now.net.now.pipes c.args.problem.now.source c.args.problem.now.sink c.args.power c.args.run.now.filling;
      upto = let r = c.requires.left in omega (arith, r);
      steps = refl;
      levelled =
          record {
            each = levels_len g a;
            begin = is.begin;
            only = λ v h z. only_start c.args.problem.now.net.now.pipes c.args.run.now.filling.amounts c.args.power c.deref_mut-levels.result.now c.args.problem.now.source c.args.problem.now.sink true is v z;
          };
      bounded = λ v h. omega (arith, c.rewind.ensures v);
      low =
          λ _.
          let low = is.low c.args.problem.now.sink (is.goal_reached refl) in
          let path = ap (λ (us : List Use). length us) c.deref_mut-path.ensures.value in
          omega (arith, low, levels_len g a, path, c.requires.run.places.path);
      some = λ _. omega arith;
      ways =
          λ _.
          ways_begin c.args.problem.now.net.now c.args.problem.now.adjacency.now c.args.run.now.filling.amounts c.args.power c.deref_mut-levels.result.now c.args.problem.now.source c.args.problem.now.sink c.rewind.new.next true
          c.requires.run.lawful.links is c.rewind.ensures;
    }

pub push_path-requires-clause-path : goal.push_path-requires-clause-path
push_path-requires-clause-path g c =
    trail_leads c.args.problem.now.net.now.pipes c.paths.filling.amounts c.args.power c.find_path.new.levels c.args.problem.now.source c.args.problem.now.sink c.find_path.new.path c.requires.run.lawful.apart
    (c.find_path.ensures.trail c.if-find_path.true)

pub push_path-requires-clause-left : goal.push_path-requires-clause-left
push_path-requires-clause-left g c =
    have_left_less c.args.problem.now.net.now.pipes c.paths.filling.amounts c.args.power 1 c.find_path.new.path c.requires.power (c.find_path.ensures.trail c.if-find_path.true).left

pub paths-preserved-then-find_path : goal.paths-preserved-then-find_path
paths-preserved-then-find_path g c =
    let trail = c.find_path.ensures.trail c.if-find_path.true in
    let inv = c.paths.invariant in
    let small : c.args.power < 2 ^ 128 = let r = c.ranges.power in omega (arith, r) in
    let more : c.push_path.new.filling.pushes ≢ c.args.run.now.filling.pushes = λ same. absurd (omega (arith, same, c.push_path.ensures.one, inv.augments.rises)) in
    record {
      carried = c.push_path.ensures.carried c.args.problem.now.source c.args.problem.now.sink trail.leads inv.carried;
      augments =
          augments_on c.args.problem.now.net.now.pipes c.args.problem.now.source c.args.problem.now.sink c.args.power c.args.run.now.filling c.paths.filling c.push_path.new.filling inv.augments
          (c.push_path.ensures.augments c.args.problem.now.source c.args.problem.now.sink c.args.power small trail.leads inv.carried trail.left);
      upto = let t = c.paths-test.true in omega (arith, t, c.pushes.ensures, c.push_path.ensures.one);
      steps = omega (arith, inv.steps, c.push_path.ensures.one, c.push_path.ensures.step);
      levelled = c.find_path.ensures.levels;
      bounded = c.find_path.ensures.bounded;
      low = λ same. absurd (more same);
      some = λ same. absurd (more same);
      ways = λ same. absurd (more same);
    }

-- before the first push a path is found
first : (g : Over) (c : After-find_path g) → c.find_path.result ≡ false → c.paths.filling.pushes ≢ c.args.run.now.filling.pushes
first g c missed same = let found = c.find_path.ensures.ways (c.paths.invariant.ways same) in absurd (cc (found, missed))

pub paths-preserved-then-work-gt0-2 : goal.paths-preserved-then-work-gt0-2
paths-preserved-then-work-gt0-2 g c =
    let a = (goal.at.paths-preserved-then-work-gt0-2 g c).After-find_path in
    let inv = c.paths.invariant in
    let more = first g a c.if-find_path.false in
    record {
      carried = inv.carried;
      augments = inv.augments;
      upto = inv.upto;
      steps = inv.steps;
      levelled =
          levelled_lifted c.args.problem.now.net.now.nodes c.args.problem.now.source c.args.problem.now.sink c.find_path.new.levels c.lift.new.levels
          (λ e. c.requires.run.lawful.apart (sym e)) c.lift.auto.levels c.lift.ensures.lifted c.find_path.ensures.levels;
      bounded = c.lift.ensures.bounded;
      low = λ same. absurd (more same);
      some = λ same. absurd (more same);
      ways = λ same. absurd (more same);
    }

pub paths-preserved : goal.paths-preserved
paths-preserved g c =
    let a = (goal.at.paths-preserved g c).After-find_path in
    let inv = c.paths.invariant in
    let more = first g a c.if-find_path.false in
    record {
      carried = inv.carried;
      augments = inv.augments;
      upto = inv.upto;
      steps = inv.steps;
      levelled = c.find_path.ensures.levels;
      bounded = c.find_path.ensures.bounded;
      low = λ same. absurd (more same);
      some = λ same. absurd (more same);
      ways = λ same. absurd (more same);
    }
