use Rattle.std.proofs.Common.{Result, Vec}
use Rattle.std.specs.declared.alloc.Global.{Global}
use Rattle.std.proofs.Common.{ℕ}
use Rattle.chunk_volume.specs.declared.errors.VolError.{VolError}
use Rattle.chunk_volume.specs.ReadingVolumes.{ReadsChunk, FindsChunk}
use Rattle.chunk_volume.proofs.Adding.{handed}
use Rattle.chunk_volume.proofs.FoundBytes.{stored, found_ok, found_err, read_value, read_refused}
use Rattle.chunk_volume.proofs.volume.Volume.read_chunk.Goals as goal

pub returns-in_err-read_held-clause-reads : goal.returns-in_err-read_held-clause-reads
returns-in_err-read_held-clause-reads g c =
    let error = c.in_err-read_held.field-0.0 in
    handed c.from_residual.result error (λ (x : Result (Vec ℕ Global) VolError). ReadsChunk c.args.self.now c.args.name.now x) c.from_residual.ensures.1
    (read_refused c.args.self.now c.args.name.now c.read_held.new.piece.items error c.in_err-read_held.ensures.held)

pub returns-in_err-read_held-clause-found : goal.returns-in_err-read_held-clause-found
returns-in_err-read_held-clause-found g c = λ place volume honest stands.
    let error = c.in_err-read_held.field-0.0 in
    let v = c.args.self.now in
    let d = g.R.Rack.disk c.args.rack.now in
    let held = c.in_err-read_held.ensures.held in
    handed c.from_residual.result error (λ (x : Result (Vec ℕ Global) VolError). FindsChunk volume c.args.name.now x) c.from_residual.ensures.1
    (found_err v.log.device held.at held.len c.args.name.now c.read_held.new.piece.items d v volume error (stored place v d volume c.args.name.now held.at held.len stands held.placed held.long)
    (c.in_err-read_held.ensures.bytes held.at held.len honest held.placed held.long) held.reads)

pub returns-clause-reads : goal.returns-clause-reads
returns-clause-reads g c = read_value c.args.self.now c.args.name.now c.read_held.new.piece c.in_ok-read_held.ensures.held

pub returns-clause-found : goal.returns-clause-found
returns-clause-found g c = λ place volume honest stands.
    let v = c.args.self.now in
    let d = g.R.Rack.disk c.args.rack.now in
    let held = c.in_ok-read_held.ensures.held in
    found_ok held.at held.len c.args.name.now c.read_held.new.piece d v volume (stored place v d volume c.args.name.now held.at held.len stands held.placed held.long) (c.in_ok-read_held.ensures.bytes held.at held.len honest held.placed held.long)
