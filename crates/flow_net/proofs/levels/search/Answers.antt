use Rattle.std.proofs.Common.{◌≡◌, ◌≢◌, ℕ, ◌+◌, ◌<◌, ◌∙◌, inl, inr, not, eqb, sym, subst, List, length, get_or, arith}
use Rattle.std.proofs.lemmas.Bool.Decides.{eqb_tells}
use Rattle.std.proofs.lemmas.List.{get_or_default, length-set}
use Rattle.flow_net.specs.declared.links.Link.{Link}
use Rattle.flow_net.specs.declared.pipes.Pipe.{Pipe}
use Rattle.flow_net.specs.Links.{link_at, row_of}
use Rattle.flow_net.specs.Levels.{unreached, level_of, LeadsFar, IsNext, Spreads, IsQueue, IsReached, IsSearched}
use Rattle.flow_net.proofs.Linking.{row_leads}
use Rattle.flow_net.proofs.Searching.{Searching, search_begins, search_step, search_passes, searched_found, searched_missed}
use Rattle.flow_net.proofs.levels.search.Goals as goal
use Rattle.flow_net.proofs.levels.search.Goals.{After-spread-count}

pub spread-count-requires-clause-links : goal.spread-count-requires-clause-links
spread-count-requires-clause-links c =
    let node = get_or c.loop-head.queue c.loop-head.head 0 in
    row_leads c.args.problem.now.net.now c.args.problem.now.adjacency.now node c.pipes-pipes.result.now c.list-row.result.now (length c.loop-head.levels)
    c.pipes-pipes.ensures.lawful c.requires.lawful.links (c.loop-head.invariant.state.queue_is.queued c.loop-head.head c.loop-head-test.true).0 c.pipes-pipes.ensures.value c.list-row.ensures
    c.loop-head.invariant.sized

pub loop-head-init : goal.loop-head-init
loop-head-init c =
    let few : c.args.problem.now.net.now.nodes < unreached = let l = c.pipes-pipes.ensures.lawful.few_nodes in omega (arith, l) in
    record {
      state =
          search_begins c.args.problem.now.net.now.pipes c.args.sought.now.filling.now.amounts c.args.sought.now.power c.args.sought.now.backward c.args.problem.now.source c.args.problem.now.sink c.args.problem.now.net.now.nodes
          c.clear.new.levels c.args.queue.now few c.requires.lawful.source (c.clear.auto.levels ∙ c.requires.levels) c.requires.queue c.clear.ensures;
      sized = length-set c.clear.new.levels c.args.problem.now.source 0 ∙ (c.clear.auto.levels ∙ c.requires.levels);
    }

sized : (c : After-spread-count) → length c.spread-count.new.levels ≡ c.args.problem.now.net.now.nodes
sized c = c.spread-count.auto.levels ∙ c.loop-head.invariant.sized

step :
    (c : After-spread-count) → get_or c.loop-head.queue c.loop-head.head 0 ≢ c.args.problem.now.sink →
    Searching c.args.problem.now.net.now.pipes c.args.sought.now.filling.now.amounts c.args.sought.now.power c.args.sought.now.backward c.args.problem.now.source c.args.problem.now.sink c.args.problem.now.net.now.nodes
    c.spread-count.new.levels c.spread-count.new.queue c.spread-count.result (c.loop-head.head + 1)
step c aside =
    let net = c.args.problem.now.net.now in
    let xs = c.args.sought.now.filling.now.amounts in
    let state = c.loop-head.invariant.state in
    let node = get_or c.loop-head.queue c.loop-head.head 0 in
    let few : net.nodes < unreached = let l = c.pipes-pipes.ensures.lawful.few_nodes in omega (arith, l) in
    let known : node < length c.loop-head.levels =
    let q = (state.queue_is.queued c.loop-head.head c.loop-head-test.true).0 in omega (arith, q, c.loop-head.invariant.sized) in
    let level : get_or c.loop-head.levels node 0 ≡ level_of c.loop-head.levels node = get_or_default c.loop-head.levels node 0 unreached known in
    let row : c.list-row.result.now ≡ row_of c.args.problem.now.adjacency.now node = c.list-row.ensures in
    let spreads =
    subst (λ (ps : List Pipe). Spreads (IsNext ps xs c.args.sought.now.power c.args.sought.now.backward (row_of c.args.problem.now.adjacency.now node) (length (row_of c.args.problem.now.adjacency.now node))) (level_of c.loop-head.levels node) c.loop-head.levels c.spread-count.new.levels c.loop-head.queue c.spread-count.new.queue c.loop-head.count c.spread-count.result) c.pipes-pipes.ensures.value
    (subst (λ (r : List Link). Spreads (IsNext c.pipes-pipes.result.now xs c.args.sought.now.power c.args.sought.now.backward r (length r)) (level_of c.loop-head.levels node) c.loop-head.levels c.spread-count.new.levels c.loop-head.queue c.spread-count.new.queue c.loop-head.count c.spread-count.result) row
    (subst (λ (n : ℕ). Spreads (IsNext c.pipes-pipes.result.now xs c.args.sought.now.power c.args.sought.now.backward c.list-row.result.now (length c.list-row.result.now)) n c.loop-head.levels c.spread-count.new.levels c.loop-head.queue c.spread-count.new.queue c.loop-head.count c.spread-count.result) level
    c.spread-count.ensures.spreads)) in
    let crossed =
    subst (λ (ps : List Pipe). (k : ℕ) → k < length (row_of c.args.problem.now.adjacency.now node) → LeadsFar ps xs c.args.sought.now.power c.args.sought.now.backward (link_at (row_of c.args.problem.now.adjacency.now node) k) → IsReached c.spread-count.new.levels (link_at (row_of c.args.problem.now.adjacency.now node) k).far) c.pipes-pipes.ensures.value
    (subst (λ (r : List Link). (k : ℕ) → k < length r → LeadsFar c.pipes-pipes.result.now xs c.args.sought.now.power c.args.sought.now.backward (link_at r k) → IsReached c.spread-count.new.levels (link_at r k).far) row
    c.spread-count.ensures.crossed) in
    search_step net c.args.problem.now.adjacency.now xs c.args.sought.now.power c.args.sought.now.backward c.args.problem.now.source c.args.problem.now.sink c.loop-head.levels c.loop-head.queue c.loop-head.count c.loop-head.head
    few c.requires.lawful.links state c.loop-head-test.true aside c.spread-count.new.levels c.spread-count.new.queue c.spread-count.result
    (subst (λ n. IsQueue n c.spread-count.new.levels c.spread-count.new.queue c.spread-count.result) c.loop-head.invariant.sized c.spread-count.ensures.queue)
    spreads crossed

pub loop-head-preserved-then-node-problem : goal.loop-head-preserved-then-node-problem
loop-head-preserved-then-node-problem c =
    let a = (goal.at.loop-head-preserved-then-node-problem c).After-spread-count in
    record {
      state = step a c.if-node-problem.true;
      sized = sized a;
    }

pub loop-head-preserved : goal.loop-head-preserved
loop-head-preserved c =
    record {
      state =
          search_passes c.args.problem.now.net.now.pipes c.args.sought.now.filling.now.amounts c.args.sought.now.power c.args.sought.now.backward c.args.problem.now.source c.args.problem.now.sink c.args.problem.now.net.now.nodes
          c.loop-head.levels c.loop-head.queue c.loop-head.count c.loop-head.head c.loop-head.invariant.state c.loop-head-test.true c.if-node-problem.false;
      sized = c.loop-head.invariant.sized;
    }

pub returns : goal.returns
returns c =
    let levels = c.loop-head.levels in
    let sink = c.args.problem.now.sink in
    let same : level_of levels sink ≡ get_or levels sink 0 =
    get_or_default levels sink unreached 0 (omega (arith, c.loop-head.invariant.sized, c.requires.lawful.sink)) in
    elim (eqb_tells (get_or levels sink 0) unreached) as (λ _. IsSearched c.args.problem.now.net.now.pipes c.args.sought.now.filling.now.amounts c.args.sought.now.power c.args.sought.now.backward c.args.problem.now.source sink levels (not (eqb (get_or levels sink 0) unreached))) [
      | inl missed ↦
          subst (λ b. IsSearched c.args.problem.now.net.now.pipes c.args.sought.now.filling.now.amounts c.args.sought.now.power c.args.sought.now.backward c.args.problem.now.source sink levels (not b)) (sym missed.0)
          (searched_missed c.args.problem.now.net.now.pipes c.args.sought.now.filling.now.amounts c.args.sought.now.power c.args.sought.now.backward c.args.problem.now.source sink c.args.problem.now.net.now.nodes
          levels c.loop-head.queue c.loop-head.count c.loop-head.head c.loop-head.invariant.state c.loop-head.invariant.sized c.loop-head-test.false (same ∙ missed.1))
      | inr found ↦
          let r : IsReached levels sink = omega (arith, same, found.1, c.type_inv.levels sink) in
          subst (λ b. IsSearched c.args.problem.now.net.now.pipes c.args.sought.now.filling.now.amounts c.args.sought.now.power c.args.sought.now.backward c.args.problem.now.source sink levels (not b)) (sym found.0)
          (searched_found c.args.problem.now.net.now.pipes c.args.sought.now.filling.now.amounts c.args.sought.now.power c.args.sought.now.backward c.args.problem.now.source sink c.args.problem.now.net.now.nodes
          levels c.loop-head.queue c.loop-head.count c.loop-head.head c.loop-head.invariant.state c.loop-head.invariant.sized r)
    ]
