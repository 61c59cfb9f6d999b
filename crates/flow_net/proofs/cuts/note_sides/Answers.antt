use Rattle.std.proofs.Common.{◌≡◌, ◌∙◌, ℕ, ◌<◌, List, true, false, ap, subst, length, arith}
use Rattle.std.proofs.lemmas.List.{with_items_is}
use Rattle.flow_net.specs.Flows.{is_in}
use Rattle.flow_net.specs.Levels.{reached}
use Rattle.flow_net.specs.Cuts.{chosen}
use Rattle.flow_net.proofs.Cutting.{sides_are}
use Rattle.flow_net.proofs.cuts.note_sides.Goals as goal

pub returns-clause-sides : goal.returns-clause-sides
returns-clause-sides c =
    let problem = c.args.problem.now in
    let net = problem.net.now in
    let levels = c.args.run.now.scratch.levels in
    let levels_len : length c.deref_mut.result.now ≡ net.nodes =
    ap (λ (l : List ℕ). length l) c.deref_mut.ensures.value ∙ c.requires.run.places.levels in
    let levels_is : c.deref-2.result.now ≡ c.search.new.levels =
    c.deref-2.ensures.value ∙ with_items_is levels c.search.new.levels (c.search.auto.levels ∙ c.deref_mut.ensures.len) in
    let first : (v : ℕ) → v < length levels.items → is_in c.note_side.new.side v ≡ chosen true (reached levels.items v) =
    subst (λ (l : List ℕ). (v : ℕ) → v < length l → is_in c.note_side.new.side v ≡ chosen true (reached l v)) c.deref.ensures.value c.note_side.ensures in
    let second : (v : ℕ) → v < length c.search.new.levels → is_in c.note_side-2.new.side v ≡ chosen false (reached c.search.new.levels v) =
    subst (λ (l : List ℕ). (v : ℕ) → v < length l → is_in c.note_side-2.new.side v ≡ chosen false (reached l v)) levels_is c.note_side-2.ensures in
    sides_are net problem.source problem.sink c.args.run.now.filling.amounts levels.items c.search.new.levels c.search.result
    c.note_side.new.side c.note_side-2.new.side c.requires.net c.requires.run.carried c.requires.run.lawful.source c.requires.run.lawful.sink
    c.requires.levels c.search.ensures
    (λ v h. first v (omega (arith, h, c.requires.run.places.levels)))
    (λ v h. second v (omega (arith, h, c.search.auto.levels, levels_len)))
    (c.note_side.auto.side ∙ c.requires.least)
