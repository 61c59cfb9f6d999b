use Rattle.std.proofs.Common.{◌≡◌, ◌≢◌, ℕ, ◌-◌, ◌<◌, ◌∙◌, ap, sym, subst, List, length, get_or, set, not, arith}
use Rattle.std.proofs.lemmas.List.{get_or_default}
use Rattle.flow_net.specs.declared.links.Link.{Link}
use Rattle.flow_net.specs.Paths.{use_of}
use Rattle.flow_net.specs.Links.{link_at, row_of}
use Rattle.flow_net.specs.Levels.{unreached, level_of, IsReached}
use Rattle.flow_net.specs.Trails.{IsGood, IsWalk, HaveWays}
use Rattle.flow_net.proofs.Linking.{row_leads}
use Rattle.flow_net.proofs.Trailing.{FoundPlace, found_at, walk_down, bounded_after, ways_down, ways_go_on}
use Rattle.flow_net.proofs.trails.descend.Goals as goal
use Rattle.flow_net.proofs.trails.descend.Goals.{After-next_place-place}

node_in : (c : After-next_place-place) → c.loop-node.node < length c.args.levels.now
node_in c = let k = c.loop-node.invariant.walk.known in omega (arith, k, c.requires.levels.each)

level_is : (c : After-next_place-place) → get_or c.args.levels.now c.loop-node.node 0 ≡ level_of c.args.levels.now c.loop-node.node
level_is c = get_or_default c.args.levels.now c.loop-node.node 0 unreached (node_in c)

found :
    (c : After-next_place-place) →
    FoundPlace c.args.problem.now.net.now.pipes c.args.sought.now.filling.now.amounts c.args.sought.now.power c.args.levels.now (level_of c.args.levels.now c.loop-node.node)
    (row_of c.args.problem.now.adjacency.now c.loop-node.node) (get_or c.loop-node.next c.loop-node.node 0) c.next_place-place.result
found c =
    found_at c.pipes-pipes.result.now c.args.problem.now.net.now.pipes c.args.sought.now.filling.now.amounts c.args.sought.now.power c.args.levels.now
    (get_or c.args.levels.now c.loop-node.node 0) (level_of c.args.levels.now c.loop-node.node) c.list-row.result.now (row_of c.args.problem.now.adjacency.now c.loop-node.node)
    (get_or c.loop-node.next c.loop-node.node 0) c.next_place-place.result c.pipes-pipes.ensures.value (level_is c) c.list-row.ensures
    (record {
      behind = c.next_place-place.ensures.behind;
      within = c.next_place-place.ensures.within;
      good = c.next_place-place.ensures.good;
      first = c.next_place-place.ensures.first;
    })

next_len : (c : After-next_place-place) → length c.loop-node.next ≡ c.args.problem.now.net.now.nodes
next_len c = c.loop-node.auto.next ∙ c.requires.next

pub overflow_cast-next : goal.overflow_cast-next
overflow_cast-next c =
    let a = (goal.at.overflow_cast-next c).After-next_place-place in
    let f = (found a).within in
    let s = c.requires.lawful.links.short c.loop-node.node c.loop-node.invariant.walk.known in
    let few = c.pipes-pipes.ensures.lawful.few_pipes in
    omega (arith, f, s, few)

row_len : (c : After-next_place-place) → length c.list-row.result.now ≡ length (row_of c.args.problem.now.adjacency.now c.loop-node.node)
row_len c = ap (λ (r : List Link). length r) c.list-row.ensures

-- a place within the row
place_in : (c : After-next_place-place) → c.next_place-place.result ≢ length c.list-row.result.now → c.next_place-place.result < length (row_of c.args.problem.now.adjacency.now c.loop-node.node)
place_in c differ = let f = (found c).within in omega (arith, f, differ, row_len c)

good :
    (c : After-next_place-place) → c.next_place-place.result ≢ length c.list-row.result.now →
    IsGood c.args.problem.now.net.now.pipes c.args.sought.now.filling.now.amounts c.args.sought.now.power c.args.levels.now (level_of c.args.levels.now c.loop-node.node)
    (link_at (row_of c.args.problem.now.adjacency.now c.loop-node.node) c.next_place-place.result)
good c differ = (found c).good (place_in c differ)

pub loop-node-smaller : goal.loop-node-smaller
loop-node-smaller c =
    let a = (goal.at.loop-node-smaller c).After-next_place-place in
    let g = good a c.if-place-row.false in
    subst (λ (r : List Link). level_of c.args.levels.now (link_at r c.next_place-place.result).far < level_of c.args.levels.now c.loop-node.node) (sym c.list-row.ensures)
    (omega (arith, g.lower))

pub loop-node-preserved : goal.loop-node-preserved
loop-node-preserved c =
    let a = (goal.at.loop-node-preserved c).After-next_place-place in
    let net = c.args.problem.now.net.now in
    let adjacency = c.args.problem.now.adjacency.now in
    let xs = c.args.sought.now.filling.now.amounts in
    let levels = c.args.levels.now in
    let node = c.loop-node.node in
    let place = c.next_place-place.result in
    let within = place_in a c.if-place-row.false in
    let down = walk_down net adjacency xs c.args.sought.now.power levels c.args.problem.now.sink c.loop-node.path node place
    c.pipes-pipes.ensures.lawful c.requires.lawful.links c.loop-node.invariant.walk within (good a c.if-place-row.false) in
    let at_level =
    subst (λ (n : ℕ). IsWalk net xs c.args.sought.now.power levels c.args.problem.now.sink
    (set c.loop-node.path (n - 1) (use_of (link_at (row_of adjacency node) place).pipe (not (link_at (row_of adjacency node) place).back)))
    (link_at (row_of adjacency node) place).far) (sym (level_is a)) down in
    record {
      bounded = bounded_after net.nodes adjacency c.loop-node.next node place (omega (arith, within)) c.loop-node.invariant.bounded (next_len a) c.loop-node.invariant.walk.known;
      walk =
          subst (λ (r : List Link). IsWalk net xs c.args.sought.now.power levels c.args.problem.now.sink
          (set c.loop-node.path (get_or levels node 0 - 1) (use_of (link_at r place).pipe (not (link_at r place).back)))
          (link_at r place).far) (sym c.list-row.ensures) at_level;
      ways =
          λ before.
          ways_down net.pipes adjacency xs c.args.sought.now.power levels net.nodes c.args.problem.now.source c.loop-node.next node place (next_len a) c.loop-node.invariant.walk.known
          (found a).first (c.loop-node.invariant.ways before);
    }

-- where each node has a way, the walk does not end
no_ways :
    (c : After-next_place-place) → c.loop-node.node ≢ c.args.problem.now.source → c.next_place-place.result ≡ length c.list-row.result.now →
    HaveWays c.args.problem.now.net.now.pipes c.args.sought.now.filling.now.amounts c.args.sought.now.power c.args.levels.now c.args.problem.now.adjacency.now c.args.problem.now.net.now.nodes c.args.problem.now.source c.args.next.now →
    ⊥
no_ways c differ ends before =
    let low = c.loop-node.invariant.walk.low in
    let reached : IsReached c.args.levels.now c.loop-node.node = omega (arith, low, c.loop-node.auto.path, c.requires.few) in
    ways_go_on c.args.problem.now.net.now.pipes c.args.problem.now.adjacency.now c.args.sought.now.filling.now.amounts c.args.sought.now.power c.args.levels.now c.args.problem.now.net.now.nodes c.args.problem.now.source
    c.loop-node.next c.loop-node.node (c.loop-node.invariant.ways before) c.loop-node.invariant.walk.known reached differ
    (λ k from l. (found c).first k from (omega (arith, ends, row_len c, l)))

pub returns-then-place-row : goal.returns-then-place-row
returns-then-place-row c =
    let a = (goal.at.returns-then-place-row c).After-next_place-place in
    record {
      bounded =
          bounded_after c.args.problem.now.net.now.nodes c.args.problem.now.adjacency.now c.loop-node.next c.loop-node.node c.next_place-place.result
          (found a).within c.loop-node.invariant.bounded (next_len a) c.loop-node.invariant.walk.known;
      walk = c.loop-node.invariant.walk;
      ways = λ before. absurd (no_ways a c.loop-node-test.true c.if-place-row.true before);
    }

pub next_place-place-requires-clause-links : goal.next_place-place-requires-clause-links
next_place-place-requires-clause-links c =
    row_leads c.args.problem.now.net.now c.args.problem.now.adjacency.now c.loop-node.node c.pipes-pipes.result.now c.list-row.result.now (length c.args.levels.now)
    c.pipes-pipes.ensures.lawful c.requires.lawful.links c.loop-node.invariant.walk.known c.pipes-pipes.ensures.value c.list-row.ensures c.requires.levels.each
