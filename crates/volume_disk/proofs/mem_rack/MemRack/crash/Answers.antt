use Rattle.volume_disk.proofs.Picked.{crash_leaves, crash_rests}
use Rattle.volume_disk.proofs.mem_rack.MemRack.crash.Goals as goal

pub returns-clause-left : goal.returns-clause-left
returns-clause-left c = rw (← c.self.view_is) (crash_leaves c.args.pick _ _ c.crash.ensures)

pub returns-clause-rest : goal.returns-clause-rest
returns-clause-rest c = crash_rests c.args.pick _ _ c.crash.ensures
