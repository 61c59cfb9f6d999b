use Rattle.chunk_volume.proofs.Foldings.{no_file}
use Rattle.chunk_volume.proofs.opening.fold_file.Goals as goal

pub returns-in_default : goal.returns-in_default
returns-in_default c = λ gate r is. no_file c.args.index.now c.args.rest.now c.in_default.ensures.none r is
