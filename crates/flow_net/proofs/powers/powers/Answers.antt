use Rattle.std.proofs.Common.{refl, ◌≡◌, ◌+◌, ◌-◌, ◌^◌, ◌≤◌, Bool, true, false, List, ap, sym, subst, length, arith}
use Rattle.flow_net.specs.declared.pipes.Pipe.{Pipe}
use Rattle.flow_net.specs.Flows.{AreRoomsBelow}
use Rattle.flow_net.specs.Pushes.{Augments}
use Rattle.flow_net.specs.Levels.{IsSearched}
use Rattle.flow_net.proofs.Powering.{Powering, powering_begins, powering_limit, powering_on, one_le_pow, spent_small, spent_upto}
use Rattle.flow_net.proofs.Running.{goes_nowhere, goes_further, goes_lower}
use Rattle.flow_net.proofs.powers.powers.Goals as goal

pub turn_count-turns-requires : goal.turn_count-turns-requires
turn_count-turns-requires g c =
    subst (λ (ps : List Pipe). AreRoomsBelow (2 ^ 104) ps) (sym c.pipes-pipes.ensures.value) (λ i h. (c.pipes-pipes.ensures.lawful.pipes i h).small)

pub turns-init : goal.turns-init
turns-init g c =
    record {
      goes_on = goes_nowhere c.args.problem.now 1 c.args.run.now c.args.steps.now c.requires.run;
      state =
          powering_begins c.args.problem.now.net.now c.args.problem.now.source c.args.problem.now.sink c.turn_count-turns.result c.args.run.now.filling c.args.run.now.scratch.levels.items c.requires.run.lawful.apart c.requires.run.carried
          (subst (λ (ps : List Pipe). AreRoomsBelow (2 ^ c.turn_count-turns.result) ps) c.pipes-pipes.ensures.value c.turn_count-turns.ensures.enough);
      few = omega arith;
    }

pub turn-requires : goal.turn-requires
turn-requires g c =
    let inv = c.turns.invariant in
    let m : length c.pipes-pipes.result.now ≡ length c.args.problem.now.net.now.pipes = ap (λ (ps : List Pipe). length ps) c.pipes-pipes.ensures.value in
    record {
      run = inv.goes_on.run;
      power = subst (λ n. 1 ≤ n) (sym c.power_of_two-power.ensures) (one_le_pow (c.turns.turns - 1));
      few =
          let small = spent_small c.turns.run.filling.pushes c.args.run.now.filling.pushes (length c.args.problem.now.net.now.pipes) c.turns.turns c.turn_count-turns.result
          inv.state.spent c.turn_count-turns.ensures.few c.pipes-pipes.ensures.lawful.few_pipes c.requires.few in
          omega (arith, small, m, c.pushes.ensures);
      left = omega (arith, c.pushes.ensures);
    }

pub turns-preserved : goal.turns-preserved
turns-preserved g c =
    let inv = c.turns.invariant in
    let net = c.args.problem.now.net.now in
    let t = c.turns.turns - 1 in
    let back : c.turns.turns ≡ t + 1 = let h = c.turns-test.true in omega (arith, h) in
    let m : length c.pipes-pipes.result.now ≡ length net.pipes = ap (λ (ps : List Pipe). length ps) c.pipes-pipes.ensures.value in
    let state : Powering net c.args.problem.now.source c.args.problem.now.sink c.turn_count-turns.result (t + 1) c.args.run.now.filling c.turns.run.filling c.turns.run.scratch.levels.items =
    subst (λ n. Powering net c.args.problem.now.source c.args.problem.now.sink c.turn_count-turns.result n c.args.run.now.filling c.turns.run.filling c.turns.run.scratch.levels.items) back inv.state in
    let augments : Augments net.pipes c.args.problem.now.source c.args.problem.now.sink (2 ^ t) c.turns.run.filling c.turn.new.run.filling =
    subst (λ n. Augments net.pipes c.args.problem.now.source c.args.problem.now.sink n c.turns.run.filling c.turn.new.run.filling) c.power_of_two-power.ensures c.turn.ensures.goes_on.augments in
    let limit = powering_limit net c.args.problem.now.source c.args.problem.now.sink c.turn_count-turns.result t c.args.run.now.filling c.turns.run.filling c.turn.new.run.filling c.turns.run.scratch.levels.items
    state (one_le_pow t) augments in
    let closed : c.turn.result ≡ true =
    by_result c.turn.result (λ e. let o = c.turn.ensures.open e in omega (arith, o, limit, m, c.pushes.ensures)) in
    let searched : IsSearched net.pipes c.turn.new.run.filling.amounts (2 ^ t) false c.args.problem.now.source c.args.problem.now.sink c.turn.new.run.scratch.levels.items false =
    subst (λ n. IsSearched net.pipes c.turn.new.run.filling.amounts n false c.args.problem.now.source c.args.problem.now.sink c.turn.new.run.scratch.levels.items false) c.power_of_two-power.ensures (c.turn.ensures.closed closed) in
    record {
      goes_on =
          goes_further c.args.problem.now 1 c.args.run.now c.turns.run c.turn.new.run c.args.steps.now c.turns.steps c.turn.new.steps
          inv.goes_on (goes_lower c.args.problem.now c.power_of_two-power.result c.turns.run c.turn.new.run c.turns.steps c.turn.new.steps
          (subst (λ n. 1 ≤ n) (sym c.power_of_two-power.ensures) (one_le_pow t)) c.turn.ensures.goes_on);
      state =
          powering_on net c.args.problem.now.source c.args.problem.now.sink c.turn_count-turns.result t c.args.run.now.filling c.turns.run.filling c.turn.new.run.filling c.turns.run.scratch.levels.items c.turn.new.run.scratch.levels.items
          state (one_le_pow t) augments c.turn.ensures.goes_on.run.carried searched;
      few = omega (arith, inv.few);
    }
  where
    by_result : (b : Bool) → (b ≡ false → ⊥) → b ≡ true
    by_result true h = refl
    by_result false h = absurd (h refl)

pub returns : goal.returns
returns g c =
    let inv = c.turns.invariant in
    let net = c.args.problem.now.net.now in
    let done : c.turns.turns ≡ 0 = let h = c.turns-test.false in omega (arith, h) in
    let state : Powering net c.args.problem.now.source c.args.problem.now.sink c.turn_count-turns.result 0 c.args.run.now.filling c.turns.run.filling c.turns.run.scratch.levels.items =
    subst (λ n. Powering net c.args.problem.now.source c.args.problem.now.sink c.turn_count-turns.result n c.args.run.now.filling c.turns.run.filling c.turns.run.scratch.levels.items) done inv.state in
    record {
      goes_on = inv.goes_on;
      upto =
          λ k some rooms.
          spent_upto c.turns.run.filling.pushes c.args.run.now.filling.pushes (length net.pipes) c.turn_count-turns.result k state.spent
          (c.turn_count-turns.ensures.least k some (subst (λ (ps : List Pipe). AreRoomsBelow (2 ^ k) ps) (sym c.pipes-pipes.ensures.value) rooms));
      closed = state.closed (let s = c.turn_count-turns.ensures.some in omega (arith, s));
    }
