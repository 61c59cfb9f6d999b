use Rattle.std.proofs.Common.{ℕ, List, ◌∷◌, ◌∙◌, length, sym, ap, subst}
use Rattle.chunk_volume.specs.Folding.{IsFolded}
use Rattle.chunk_volume.proofs.Foldings.{chunk_dropped}
use Rattle.chunk_volume.proofs.opening.fold_drop_chunk.Goals as goal

pub returns : goal.returns
returns c = λ gate.
    let old = c.args.index.now in
    let new = c.drop_chunk.new.self in
    let name = c.in-Some.name in
    subst (λ (l : List ℕ). IsFolded gate old new (4 ∷ l)) c.in-Some.ensures.some
    (chunk_dropped gate old new name (ap (λ (l : List ℕ). length l) c.in-Some.ensures.some ∙ c.in-Some.ensures.long) (sym c.if-not-may_drop_chunk.ensures) c.drop_chunk.ensures.shape c.drop_chunk.ensures.places)
