use Rattle.volume_disk.specs.Record.Step.{Syncing}
use Rattle.volume_disk.proofs.MemCalls.{time_of_sync, fits_call}
use Rattle.volume_disk.proofs.mem_rack.MemRackRack.sync.Goals as goal

pub returns-clause-time : goal.returns-clause-time
returns-clause-time c = time_of_sync c.args.self.now c.sync_counted.new.self _ (Syncing c.args.device) _ c.sync_counted.ensures (fits_call c.args.self.now.devices)
