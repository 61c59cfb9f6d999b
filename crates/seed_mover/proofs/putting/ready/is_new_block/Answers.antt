use Rattle.std.proofs.Common.{◌≡◌, ◌==◌, List, ℕ, [], true, take, get_or, sym, ◌∙◌, ap, eq-eqb}
use Rattle.std.specs.Prelude.{not, is_some}
use Rattle.std.specs.FinMap as map
use Rattle.std.proofs.lemmas.Bool.{ne_eqb}
use Rattle.site_forms.specs.Names.{is_listed}
use Rattle.seed_mover.specs.Blocks.{place_in}
use Rattle.seed_mover.proofs.PutCounts.{each_at, first_is, new_first, new_later}
use Rattle.seed_mover.proofs.putting.ready.is_new_block.Goals as goal

pub returns-then-firsts-block : goal.returns-then-firsts-block
returns-then-firsts-block c =
    let names = c.args.names.now in
    let k = c.args.block in
    let own = get_or names k [] in
    let at : get_or c.args.firsts.now k 0 ≡ place_in names own = ap (λ (l : List ℕ). get_or l k 0) c.requires.firsts ∙ each_at (place_in names) names k [] 0 c.requires.there in
    let out : not (is_listed (take k names) own) ≡ true = sym (first_is names k c.requires.there) ∙ eq-eqb (place_in names own) k (sym at ∙ c.if-firsts-block.true) in
    let held : map.contains_key c.args.holding.now.shape.chunks own ≡ not c.is_none.result = ap is_some (sym c.chunk_len.ensures) ∙ c.is_none.ensures in
    new_first (map.contains_key c.args.holding.now.shape.chunks own) (is_listed (take k names) own) c.is_none.result out held

pub returns-else-firsts-block : goal.returns-else-firsts-block
returns-else-firsts-block c =
    let names = c.args.names.now in
    let k = c.args.block in
    let own = get_or names k [] in
    let at : get_or c.args.firsts.now k 0 ≡ place_in names own = ap (λ (l : List ℕ). get_or l k 0) c.requires.firsts ∙ each_at (place_in names) names k [] 0 c.requires.there in
    new_later (map.contains_key c.args.holding.now.shape.chunks own) (is_listed (take k names) own) (get_or c.args.firsts.now k 0 == k) (ap (λ (n : ℕ). n == k) at ∙ first_is names k c.requires.there) (ne_eqb (get_or c.args.firsts.now k 0) k c.if-firsts-block.false)
