use Rattle.std.proofs.Common.{◌≡◌, ◌≤◌, ◌+◌, ◌∙◌, ◌∷◌, ◌++◌, ℕ, List, [], sym, subst, ap, arith, length}
use Rattle.std.specs.List.{concat}
use Rattle.std.proofs.lemmas.List.{length_push}
use Rattle.tiered_list.specs.Inside.{AreTiers, room_of, width}
use Rattle.tiered_list.specs.Tiers.{TieredValue}
use Rattle.tiered_list.proofs.Growing.{grown, grown_room}
use Rattle.tiered_list.proofs.Parts.{joined, tiers_of}
use Rattle.tiered_list.proofs.list.TieredList.add_block.Goals as goal

pub invariant_of-self-2 : goal.invariant_of-self-2
invariant_of-self-2 c =
    let bs = c.self.inside.blocks.items in
    let more = bs ++ [] ∷ [] in
    let pushed : c.push.new.self.items ≡ more = c.in_ok-push.ensures.items ∙ ap (λ (b : List ℕ). bs ++ b ∷ []) c.in_ok-block.ensures in
    let are = grown bs c.self.invariant.tiers in
    record {
      counted = ap (λ (l : List (List ℕ)). length (concat l)) pushed ∙ (ap length (joined more (concat bs) are) ∙ c.self.invariant.counted);
      few = omega (arith, c.if-len-ge-MOST_BLOCKS.false, c.len.ensures, c.self.inside.blocks.ok.0, ap length pushed, length_push bs []);
      tiers = subst AreTiers (sym pushed) (tiers_of more (concat bs) are);
    }

pub returns-clause-more : goal.returns-clause-more
returns-clause-more c =
    let bs = c.self.inside.blocks.items in
    let pushed : c.push.new.self.items ≡ bs ++ [] ∷ [] = c.in_ok-push.ensures.items ∙ ap (λ (b : List ℕ). bs ++ b ∷ []) c.in_ok-block.ensures in
    ap room_of pushed ∙ (grown_room bs c.self.invariant.tiers ∙ ap (λ (v : TieredValue). v.room + width) c.self.view_is)

pub returns-clause-same : goal.returns-clause-same
returns-clause-same c =
    let bs = c.self.inside.blocks.items in
    let more = bs ++ [] ∷ [] in
    let pushed : c.push.new.self.items ≡ more = c.in_ok-push.ensures.items ∙ ap (λ (b : List ℕ). bs ++ b ∷ []) c.in_ok-block.ensures in
    let room : room_of c.push.new.self.items ≡ c.args.self.now.room + width = returns-clause-more c in
    record {
      items = ap concat pushed ∙ (joined more (concat bs) (grown bs c.self.invariant.tiers) ∙ ap (λ (v : TieredValue). v.items) c.self.view_is);
      room = omega (arith, room);
    }
