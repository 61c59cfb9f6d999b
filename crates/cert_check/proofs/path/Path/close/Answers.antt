use Rattle.std.proofs.Common.{◌≡◌, ◌<◌, ◌-◌, ℕ, suc, List, ◌∷◌, drop, length, get_or, set, Bool, true, false, sym, ◌∙◌, ap, subst, arith}
use Rattle.std.proofs.lemmas.List.{get_or_default}
use Rattle.seed_model.specs.declared.node.Node.{Node}
use Rattle.cert_check.specs.declared.path.Side.TheVariants.{Outside, Inside}
use Rattle.cert_check.specs.declared.path.Step.{Step}
use Rattle.cert_check.specs.Paths.{step_at, no_step, IsPath, top, behind, waiting_of}
use Rattle.cert_check.proofs.Pathing.{Stands, fits_in, last_put, up_in, across, reads_on}
use Rattle.cert_check.proofs.path.Path.close.Goals as goal

before : (n : ℕ) → 0 < n → n ≡ suc (n - 1)
before n lt = omega (arith, lt)

read : (steps : List Step) (depth d : ℕ) (node : Node) (reads : Bool) (step : Step) → depth ≡ suc d → IsPath steps depth node reads → step ≡ get_or steps d step → step ≡ step_at steps d
read steps depth d node reads step e p is = is ∙ get_or_default steps d step no_step (omega (arith, e, fits_in steps depth node reads p))

pub loop-self-init : goal.loop-self-init
loop-self-init c =
    let was : waiting_of c.self.inside.reads c.self.inside.steps.items c.self.inside.depth c.self.inside.node ≡ c.args.self.now.waiting = ap (λ v. v.waiting) c.self.view_is in
    let on : c.self.inside.reads ≡ true = reads_on c.self.inside.reads c.self.inside.steps.items c.self.inside.depth c.self.inside.node (subst (λ (ws : List Node). 0 < length ws) (sym was) c.requires) in
    record {
      path = c.self.invariant;
      on = on;
      top_is = ap (λ v. v.root) c.self.view_is;
      rest_is = sym (ap (λ b. drop 1 (waiting_of b c.self.inside.steps.items c.self.inside.depth c.self.inside.node)) on) ∙ ap (λ (ws : List Node). drop 1 ws) was;
    }

pub index-step-requires : goal.index-step-requires
index-step-requires c = let fit = fits_in _ _ _ _ c.loop-self.invariant.path in omega (arith, fit, c.loop-self-test.true)

pub remove-requires : goal.remove-requires
remove-requires c =
    let p = c.loop-self.invariant.path in
    let e = before c.loop-self.self-inside.depth c.loop-self-test.true in
    let put = last_put _ _ _ _ _ _ e (read _ _ _ _ _ _ e p c.index-step.ensures) p in
    omega (arith, put.0, p.inside)

pub loop-self-preserved : goal.loop-self-preserved
loop-self-preserved c =
    let p = c.loop-self.invariant.path in
    let e = before c.loop-self.self-inside.depth c.loop-self-test.true in
    let step : Step = c.index-step.result.now in
    let up = up_in c.loop-self.self-inside.steps.items c.loop-self.self-inside.depth (c.loop-self.self-inside.depth - 1) c.loop-self.self-inside.node c.loop-self.self-inside.reads step e (read _ _ _ _ _ _ e p c.index-step.ensures) c.in-Inside.is c.loop-self.invariant.on p in
    let is : set c.loop-self.self-inside.node.inside step.file false ≡ c.remove.new.self = sym c.remove.ensures in
    let moved = subst (λ (xs : List Bool). Stands c.loop-self.self-inside.steps.items (c.loop-self.self-inside.depth - 1) (record { inside = xs; outside = c.loop-self.self-inside.node.outside }) c.loop-self.self-inside.reads (top c.loop-self.self-inside.steps.items c.loop-self.self-inside.depth c.loop-self.self-inside.node) (behind c.loop-self.self-inside.steps.items c.loop-self.self-inside.depth c.loop-self.self-inside.node)) is up in
    record { path = moved.path; on = moved.on; top_is = moved.top_is ∙ c.loop-self.invariant.top_is; rest_is = moved.rest_is ∙ c.loop-self.invariant.rest_is }

pub remove-requires-in-Outside : goal.remove-requires-in-Outside
remove-requires-in-Outside c =
    let p = c.loop-self.invariant.path in
    let e = before c.loop-self.self-inside.depth c.loop-self-test.true in
    let put = last_put _ _ _ _ _ _ e (read _ _ _ _ _ _ e p c.index-step.ensures) p in
    omega (arith, put.0, p.outside)

pub insert-requires : goal.insert-requires
insert-requires c =
    let p = c.loop-self.invariant.path in
    let e = before c.loop-self.self-inside.depth c.loop-self-test.true in
    let put = last_put _ _ _ _ _ _ e (read _ _ _ _ _ _ e p c.index-step.ensures) p in
    omega (arith, put.0, p.inside)

pub index_mut-requires : goal.index_mut-requires
index_mut-requires c = let fit = fits_in _ _ _ _ c.loop-self.invariant.path in omega (arith, fit, c.loop-self-test.true)

-- the in child
record Turned (steps : List Step) (depth : ℕ) (node : Node) (reads : Bool) (root : Node) (waiting : List Node) : Type 0 where
  path : IsPath steps depth node reads
  top_is : top steps depth node ≡ root
  waits : waiting_of reads steps depth node ≡ waiting

turned : (steps : List Step) (depth : ℕ) (node : Node) (reads : Bool) (root : Node) (rest : List Node) (step : Step) (inside outside : List Bool) → 0 < depth → step ≡ get_or steps (depth - 1) step → step.side ≡ Outside
    → Stands steps depth node reads root rest → inside ≡ set node.inside step.file true → outside ≡ set node.outside step.file false
    → Turned (set steps (depth - 1) (record { file = step.file; side = Inside })) depth (record { inside = inside; outside = outside }) reads root rest
turned steps depth node reads root rest step inside outside lt is side s a b =
    let e = before depth lt in
    let more = across steps depth (depth - 1) node reads step e (read steps depth (depth - 1) node reads step e s.path is) side s.on s.path in
    let child : Node = record { inside = set node.inside step.file true; outside = set node.outside step.file false } in
    let now : List Step = set steps (depth - 1) (record { file = step.file; side = Inside }) in
    let same : child ≡ record { inside = inside; outside = outside } = ap (λ xs. record child { inside = xs }) (sym a) ∙ ap (λ xs. record { inside = inside; outside = xs }) (sym b) in
    let wait : waiting_of reads now depth child ≡ rest =
    ap (λ r. waiting_of r now depth child) s.on ∙ (ap (λ ms. child ∷ ms) more.1.rest_is ∙ (sym more.2 ∙ s.rest_is)) in
    let it : Turned now depth child reads root rest = record { path = more.1.path; top_is = more.1.top_is ∙ s.top_is; waits = wait } in
    subst (λ m. Turned now depth m reads root rest) same it

pub invariant_of-self : goal.invariant_of-self
invariant_of-self c =
    (turned c.loop-self.self-inside.steps.items c.loop-self.self-inside.depth c.loop-self.self-inside.node c.loop-self.self-inside.reads _ _ c.index-step.result.now c.insert.new.self c.remove-in-Outside.new.self
    c.loop-self-test.true c.index-step.ensures c.in-Outside.is c.loop-self.invariant c.insert.ensures c.remove-in-Outside.ensures).path

pub returns-in-Outside-clause-root : goal.returns-in-Outside-clause-root
returns-in-Outside-clause-root c =
    (turned c.loop-self.self-inside.steps.items c.loop-self.self-inside.depth c.loop-self.self-inside.node c.loop-self.self-inside.reads _ _ c.index-step.result.now c.insert.new.self c.remove-in-Outside.new.self
    c.loop-self-test.true c.index-step.ensures c.in-Outside.is c.loop-self.invariant c.insert.ensures c.remove-in-Outside.ensures).top_is

pub returns-in-Outside-clause-waiting : goal.returns-in-Outside-clause-waiting
returns-in-Outside-clause-waiting c =
    (turned c.loop-self.self-inside.steps.items c.loop-self.self-inside.depth c.loop-self.self-inside.node c.loop-self.self-inside.reads _ _ c.index-step.result.now c.insert.new.self c.remove-in-Outside.new.self
    c.loop-self-test.true c.index-step.ensures c.in-Outside.is c.loop-self.invariant c.insert.ensures c.remove-in-Outside.ensures).waits
