use Rattle.std.proofs.Common.{◌∙◌}
use Rattle.command_endings.proofs.CreatingLemmas.{all_of_them}
use Rattle.command_endings.proofs.creating.create_with.Goals as goal

pub returns-in-Ok-append-clause-front : goal.returns-in-Ok-append-clause-front
returns-in-Ok-append-clause-front g c = λ told.
    let made = (c.in-Ok.ensures.map told).ok in
    let added = (c.in-Ok-append.ensures.map (c.create.ensures.tells ∙ told)).ok in
    all_of_them (g.F.Shelf.map c.args.shelf.now) (g.F.Shelf.map c.append.new.self) c.args.name.now c.args.bytes.now (rw made at added)
