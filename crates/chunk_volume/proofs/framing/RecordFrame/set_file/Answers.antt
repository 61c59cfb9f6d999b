use Rattle.std.proofs.Common.{List, ℕ, length, ap, arith, length-append}
use Rattle.chunk_log.specs.Frames.{FrameValue}
use Rattle.chunk_volume.proofs.framing.RecordFrame.set_file.Goals as goal

pub set-requires-clause-fits : goal.set-requires-clause-fits
set-requires-clause-fits c =
    let first = ap (λ (l : List ℕ). length l) c.begin.ensures.items in
    let second = simp length-append at (ap (λ (l : List ℕ). length l) c.put.ensures.items) in
    let third = simp length-append at (ap (λ (l : List ℕ). length l) c.put-2.ensures.items) in
    let fourth = simp length-append at (ap (λ (l : List ℕ). length l) c.put-3.ensures.items) in
    omega (arith, first, second, third, fourth, c.requires.fits, c.as_bytes.ensures.len, c.as_flattened.ensures.len, ap (λ (l : List ℕ). length l) c.deref.ensures.value, ap (λ (f : FrameValue). f.room) c.self.view_is)
