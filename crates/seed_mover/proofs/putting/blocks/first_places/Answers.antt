use Rattle.std.proofs.Common.{ℕ, List, [], ◌∷◌, ◌++◌, take, sym, ◌∙◌, ap}
use Rattle.std.specs.Prelude.{map as each}
use Rattle.seed_mover.specs.Blocks.{place_in}
use Rattle.seed_mover.proofs.PutCounts.{keeps_more, place_kept, places_so_far}
use Rattle.seed_mover.proofs.putting.blocks.first_places.Goals as goal

pub loop-place-preserved : goal.loop-place-preserved
loop-place-preserved c =
    let names = c.args.names.now in
    let k = c.loop-place.place in
    let inv = c.loop-place.invariant in
    record {
      kept = keeps_more names k c.loop-place-test.true c.loop-place.places c.first_place.new.places inv.kept c.in_ok-first_place.ensures.kept;
      firsts =
          c.in_ok-push.ensures.items
          ∙ ap (λ (l : List ℕ). l ++ c.in_ok-first_place.field-0 ∷ []) inv.firsts
          ∙ ap (λ (n : ℕ). each (place_in names) (take k names) ++ n ∷ []) (c.in_ok-first_place.ensures.first ∙ place_kept names k c.loop-place-test.true c.loop-place.places inv.kept)
          ∙ sym (places_so_far names k c.loop-place-test.true);
    }
