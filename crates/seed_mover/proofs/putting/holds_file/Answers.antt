use Rattle.seed_mover.proofs.Got.{place_found}
use Rattle.seed_mover.proofs.putting.holds_file.Goals as goal

pub returns : goal.returns
returns c = let is = place_found c.args.holding.now.shape.files c.args.name.now c.find.result c.find.ensures in cc
