use Rattle.std.proofs.Common.{◌≡◌, ◌<◌, ℕ, length, get_or}
use Rattle.seed_text.specs.SetDigits.{digit_of, hex_digit}
use Rattle.seed_text.proofs.read.fill_set.Given as goal

abbrev pub invariant-loop-place : goal.invariant-loop-place
invariant-loop-place l = record {
  stays : length l.set ≡ length l.fn.set;
  told : (k : ℕ) → k < l.place → get_or l.text k 0 ≡ hex_digit (digit_of l.set k);
}
