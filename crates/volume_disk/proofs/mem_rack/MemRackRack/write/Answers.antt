use Rattle.std.proofs.Common.{length}
use Rattle.volume_disk.specs.Record.Step.{Writing}
use Rattle.volume_disk.proofs.MemCalls.{time_of_call, fits_write}
use Rattle.volume_disk.proofs.mem_rack.MemRackRack.write.Goals as goal

pub returns-clause-time : goal.returns-clause-time
returns-clause-time c = time_of_call c.args.self.now c.write_counted.new.self _ (Writing c.args.device c.args.at c.args.bytes.now) (length c.args.bytes.now) _ c.write_counted.ensures (fits_write c.args.self.now.devices c.args.at (length c.args.bytes.now))
