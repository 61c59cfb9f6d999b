use Rattle.std.proofs.Common.{◌≡◌, ◌≢◌, ℕ, ◌<◌, ◌∙◌, refl, ap, sym, subst, List, length, get_or, drop, arith}
use Rattle.std.proofs.lemmas.List.{get_or_default}
use Rattle.flow_net.specs.declared.pipes.Pipe.{Pipe}
use Rattle.flow_net.specs.Paths.{end_of}
use Rattle.flow_net.specs.Levels.{unreached, level_of}
use Rattle.flow_net.specs.Trails.{IsTrail, IsWalk, HaveWays}
use Rattle.flow_net.proofs.Ready.{no_use}
use Rattle.flow_net.proofs.Trailing.{at_first, walk_begins, walk_goes_on, walk_lifted, levelled_lifted}
use Rattle.flow_net.proofs.trails.find_path.Goals as goal
use Rattle.flow_net.proofs.trails.find_path.Goals.{After-descend-node}

pub loop-work-init : goal.loop-work-init
loop-work-init c =
    record {
      levels = c.requires.levels;
      bounded = c.requires.bounded;
      walk =
          walk_begins c.args.problem.now.net.now c.args.sought.now.filling.now.amounts c.args.sought.now.power c.args.levels.now c.args.problem.now.sink c.args.path.now
          c.requires.lawful.sink c.requires.depth;
      less = omega arith;
      ways = λ before. (c.requires.work, before);
    }

level_is : (c : After-descend-node) → get_or c.loop-work.levels c.descend-node.result 0 ≡ level_of c.loop-work.levels c.descend-node.result
level_is c =
    get_or_default c.loop-work.levels c.descend-node.result 0 unreached
    (let k = c.descend-node.ensures.walk.known in omega (arith, k, c.loop-work.invariant.levels.each))

goes_on : (c : After-descend-node) → c.descend-node.result ≢ c.args.problem.now.sink → level_of c.loop-work.levels c.descend-node.result < length c.descend-node.new.path
goes_on c differ =
    walk_goes_on c.args.problem.now.net.now c.args.sought.now.filling.now.amounts c.args.sought.now.power c.loop-work.levels c.args.problem.now.sink c.descend-node.new.path c.descend-node.result
    c.descend-node.ensures.walk differ

pub end_node-behind-requires : goal.end_node-behind-requires
end_node-behind-requires c =
    let a = (goal.at.end_node-behind-requires c).After-descend-node in
    let first = at_first c.args.problem.now.net.now c.args.sought.now.filling.now.amounts c.args.sought.now.power c.loop-work.levels c.args.problem.now.sink c.descend-node.new.path c.descend-node.result
    c.descend-node.ensures.walk (goes_on a c.if-node-problem-2.false) in
    subst (λ (ps : List Pipe). (get_or c.descend-node.new.path (get_or c.loop-work.levels c.descend-node.result 0) no_use).pipe < length ps) (sym c.pipes-pipes.ensures.value)
    (subst (λ (n : ℕ). (get_or c.descend-node.new.path n no_use).pipe < length c.args.problem.now.net.now.pipes) (sym (level_is a)) first.known)

-- where each node has a way, the walk comes to the source
no_end :
    (c : After-descend-node) → c.descend-node.result ≢ c.args.problem.now.source →
    HaveWays c.args.problem.now.net.now.pipes c.args.sought.now.filling.now.amounts c.args.sought.now.power c.args.levels.now c.args.problem.now.adjacency.now c.args.problem.now.net.now.nodes c.args.problem.now.source c.args.next.now →
    ⊥
no_end c differ before = differ (c.descend-node.ensures.ways (c.loop-work.invariant.ways before).1).0

pub loop-work-preserved : goal.loop-work-preserved
loop-work-preserved c =
    let a = (goal.at.loop-work-preserved c).After-descend-node in
    let net = c.args.problem.now.net.now in
    let xs = c.args.sought.now.filling.now.amounts in
    let node = c.descend-node.result in
    let behind : c.end_node-behind.result ≡ end_of net.pipes (get_or c.descend-node.new.path (level_of c.loop-work.levels node) no_use) =
    c.end_node-behind.ensures ∙
    (ap (λ (ps : List Pipe). end_of ps (get_or c.descend-node.new.path (get_or c.loop-work.levels node 0) no_use)) c.pipes-pipes.ensures.value ∙
    ap (λ (n : ℕ). end_of net.pipes (get_or c.descend-node.new.path n no_use)) (level_is a)) in
    record {
      levels =
          levelled_lifted net.nodes c.args.problem.now.source node c.loop-work.levels c.lift.new.levels c.if-node-problem.false c.lift.auto.levels c.lift.ensures.lifted
          c.loop-work.invariant.levels;
      bounded = c.lift.ensures.bounded;
      walk =
          subst (λ (v : ℕ). IsWalk net xs c.args.sought.now.power c.lift.new.levels c.args.problem.now.sink c.descend-node.new.path v) (sym behind)
          (walk_lifted net xs c.args.sought.now.power c.loop-work.levels c.lift.new.levels c.args.problem.now.sink c.descend-node.new.path node
          c.pipes-pipes.ensures.lawful c.lift.ensures.lifted c.descend-node.ensures.walk (goes_on a c.if-node-problem-2.false));
      less = let l = c.loop-work.invariant.less in omega (arith, l, c.lift.ensures.work);
      ways = λ before. absurd (no_end a c.if-node-problem.false before);
    }

pub returns-then-node-problem : goal.returns-then-node-problem
returns-then-node-problem c =
    let net = c.args.problem.now.net.now in
    let xs = c.args.sought.now.filling.now.amounts in
    let levels = c.loop-work.levels in
    let path = c.descend-node.new.path in
    let at_source : IsTrail net.pipes xs c.args.sought.now.power levels c.args.problem.now.source c.args.problem.now.sink (drop (level_of levels c.args.problem.now.source) path) =
    subst (λ (v : ℕ). IsTrail net.pipes xs c.args.sought.now.power levels v c.args.problem.now.sink (drop (level_of levels v) path)) c.if-node-problem.true
    c.descend-node.ensures.walk.trail in
    record {
      levels = c.loop-work.invariant.levels;
      bounded = c.descend-node.ensures.bounded;
      work = c.loop-work.invariant.less;
      trail =
          λ _.
          subst (λ (n : ℕ). IsTrail net.pipes xs c.args.sought.now.power levels c.args.problem.now.source c.args.problem.now.sink (drop n path)) c.loop-work.invariant.levels.begin
          at_source;
      ways = λ _. refl;
    }

pub returns-then-node-problem-2 : goal.returns-then-node-problem-2
returns-then-node-problem-2 c =
    let a = (goal.at.returns-then-node-problem-2 c).After-descend-node in
    record {
      levels = c.loop-work.invariant.levels;
      bounded = c.descend-node.ensures.bounded;
      work = c.loop-work.invariant.less;
      trail = λ e. absurd (cc e);
      ways = λ before. absurd (no_end a c.if-node-problem.false before);
    }

pub returns : goal.returns
returns c =
    record {
      levels = c.loop-work.invariant.levels;
      bounded = c.loop-work.invariant.bounded;
      work = c.loop-work.invariant.less;
      trail = λ e. absurd (cc e);
      ways = λ before. let w = (c.loop-work.invariant.ways before).0 in absurd (omega (arith, w, c.loop-work-test.false));
    }
