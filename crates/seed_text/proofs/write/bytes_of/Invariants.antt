use Rattle.std.proofs.Common.{◌≡◌, map}
use Rattle.std.specs.List.{range_with_len}
use Rattle.seed_text.specs.SetTexts.{set_byte}
use Rattle.seed_text.proofs.write.bytes_of.Given as goal

abbrev pub invariant-loop-place : goal.invariant-loop-place
invariant-loop-place l = l.bytes.items ≡ map (set_byte l.set) (range_with_len 0 l.place)
