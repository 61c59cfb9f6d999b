use Rattle.std.proofs.Common.{arith}
use Rattle.seed_io.proofs.Standing.{beyond}
use Rattle.seed_io.proofs.lines.end_at.Goals as goal

pub returns-in-Ok-clause-long : goal.returns-in-Ok-clause-long
returns-in-Ok-clause-long g c = λ long. beyond (g.F.Shelf.tells c.args.shelf.now) (g.F.Shelf.map c.args.shelf.now) c.args.name.now c.read_at.new.into c.args.at c.in-Ok.field-0 c.in-Ok.ensures.bytes (omega arith)
