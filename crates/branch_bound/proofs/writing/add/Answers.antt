use Rattle.std.proofs.Common.{Err, ap}
use Rattle.branch_bound.proofs.Streaming.{front_of_append}
use Rattle.branch_bound.proofs.writing.add.Goals as goal

pub returns-in-Err-Fault-clause-front : goal.returns-in-Err-Fault-clause-front
returns-in-Err-Fault-clause-front g c = λ held told is err.
    front_of_append (g.F.Shelf.map c.args.shelf.now) (g.F.Shelf.map c.append.new.self) c.args.name.now held c.args.bytes.now is ((c.in-Err-Fault.ensures.map told).fault (ap Err c.in-Err-Fault.field-0-is))
