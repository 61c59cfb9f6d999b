use Rattle.undo_move.proofs.Undone.{all_undone}
use Rattle.undo_move.proofs.laws.undo_laws.Goals as goal

pub returns : goal.returns
returns g = record { undone = all_undone }
