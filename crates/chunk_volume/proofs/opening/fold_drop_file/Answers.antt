use Rattle.std.proofs.Common.{ℕ, List, ◌∷◌, subst}
use Rattle.chunk_volume.specs.Folding.{IsFolded}
use Rattle.chunk_volume.proofs.Foldings.{drop_unlawful, drop_folded}
use Rattle.chunk_volume.proofs.Puts.{place_inside}
use Rattle.volume_index.proofs.TableReads.{key_held}
use Rattle.chunk_volume.proofs.opening.fold_drop_file.Goals as goal

pub returns-in_default : goal.returns-in_default
returns-in_default c = λ gate r is. drop_unlawful c.args.index.now c.args.rest.now c.file_count-files.ensures.keeps c.in_default.ensures.none r is

pub drop_file-requires : goal.drop_file-requires
drop_file-requires c = place_inside c.args.index.now.shape.files c.in-Some-find.place c.in-Some.name.now c.in-Some-find.ensures

pub returns : goal.returns
returns c = λ gate.
    let old = c.args.index.now in
    let new = c.drop_file.new.self in
    let name = c.in-Some.name.now in
    subst (λ (l : List ℕ). IsFolded gate old new (3 ∷ l)) c.in-Some.ensures.same.0
    (drop_folded gate old new name (key_held old.shape.files c.in-Some-find.place name c.in-Some-find.ensures) (c.drop_file.ensures.shape name c.in-Some-find.ensures) c.drop_file.ensures.places)
