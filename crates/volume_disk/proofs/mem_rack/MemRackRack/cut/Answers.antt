use Rattle.volume_disk.specs.Record.Step.{Cutting}
use Rattle.volume_disk.proofs.MemCalls.{time_of_call, fits_call}
use Rattle.volume_disk.proofs.mem_rack.MemRackRack.cut.Goals as goal

pub returns-clause-time : goal.returns-clause-time
returns-clause-time c = time_of_call c.args.self.now c.cut_counted.new.self _ (Cutting c.args.device c.args.len) 0 _ c.cut_counted.ensures (fits_call c.args.self.now.devices)
