use Rattle.std.proofs.Common.{◌≡◌, ◌+◌, ℕ, List, length, sym, ◌∙◌, ap, subst, arith}
use Rattle.std.specs.Prelude.{slice_index}
use Rattle.chunk_volume.specs.Folding.{FoldsBody}
use Rattle.chunk_volume.specs.Pieces.{bytes_at}
use Rattle.chunk_volume.specs.VolumeInside.{StandBefore}
use Rattle.chunk_volume.proofs.Gathering.{folded_before}
use Rattle.chunk_volume.proofs.opening.fold_whole.Goals as goal

pub returns-clause-within : goal.returns-clause-within
returns-clause-within g c = λ gate placed before yes.
    let old = c.args.index.now in
    let new = c.fold_body.new.index in
    let body = c.as_slice.result.now in
    let long : length body ≡ c.args.place.len = ap (λ (l : List ℕ). length l) c.as_slice.ensures.value ∙ c.in_ok-read_whole.ensures.long in
    let end : gate + 5 + length body ≡ c.args.place.at + c.args.place.len = omega (arith, placed, long) in
    subst (λ (n : ℕ). StandBefore n new.places new.shape.chunks) end (folded_before gate old new body before (c.in_ok-fold_body.ensures.folded gate yes))

pub returns-clause-folds : goal.returns-clause-folds
returns-clause-folds g c = λ gate honest shows kind.
    let image = (g.R.Rack.disk c.args.rack.now c.args.log.now.device).image in
    let is : c.as_slice.result.now ≡ bytes_at image c.args.place.at c.args.place.len = c.as_slice.ensures.value ∙ c.in_ok-read_whole.ensures.bytes honest shows in
    subst (λ (l : List ℕ). FoldsBody gate c.args.index.now c.fold_body.new.index l c.in_ok-fold_body.field-0) is (c.in_ok-fold_body.ensures.folds gate (λ one. kind (ap (λ (l : List ℕ). slice_index l 0) (sym is) ∙ one)))
