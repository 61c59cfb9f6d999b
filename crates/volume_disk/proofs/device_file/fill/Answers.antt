use Rattle.std.proofs.Common.{rules, refl, ◌≡◌, ◌≤◌, ◌+◌, ℕ, List, ◌++◌, length, take, Option, sym, ap, ◌∙◌, arith, length-take-le}
use Rattle.std.proofs.lemmas.List.{take-append-le}
use Rattle.std.proofs.Math.Seq.{take-append-add}
use Rattle.std.proofs.KnownBytes.{Consumes-nil, Consumes-trans}
use Rattle.std.specs.Io.KnownBytes.{Consumes}
use Rattle.volume_disk.proofs.device_file.fill.Goals as goal

-- the front of a list, and what was put behind it
front_filled : (a n : ℕ) (list part rest : List ℕ) → a ≤ length list → n ≤ length part → take (a + n) (take a list ++ (part ++ rest)) ≡ take a list ++ take n part
front_filled a n list part rest within fits =
    let front : length (take a list) ≡ a = length-take-le a list within in
    ap (λ (k : ℕ). take (k + n) (take a list ++ (part ++ rest))) (sym front)
    ∙ take-append-add (take a list) (part ++ rest) n
    ∙ ap (λ (bytes : List ℕ). take a list ++ bytes) (take-append-le n part rest fits)

-- what two runs of reads consumed, of which the second one put its bytes behind those of the first
filled : (u v w : Option (List ℕ)) (a n m : ℕ) (list part rest : List ℕ) → m ≡ a + n → a ≤ length list → n ≤ length part → Consumes u v (take a list) → Consumes v w (take n part)
    → Consumes u w (take m (take a list ++ (part ++ rest)))
filled u v w a n m list part rest total within fits before read = rw (total, front_filled a n list part rest within fits) (Consumes-trans u v w _ _ before read)

pub loop-done-init : goal.loop-done-init
loop-done-init g c = record { within = omega arith; bytes = Consumes-nil _ }

pub returns-then-count-eq0-clause-bytes : goal.returns-then-count-eq0-clause-bytes
returns-then-count-eq0-clause-bytes g c =
    let before = c.loop-done.invariant in
    let got = c.in_ok-count.ensures in
    filled _ _ _ c.loop-done.done c.in_ok-count.count c.loop-done.done c.loop-done.into c.read_once.new.into _ (omega (arith, c.if-count-eq0.true)) before.within got.bound.0 before.bytes got.bytes

pub loop-done-preserved : goal.loop-done-preserved
loop-done-preserved g c =
    let before = c.loop-done.invariant in
    let got = c.in_ok-count.ensures in
    record {
      within = search rules;
      bytes = filled _ _ _ c.loop-done.done c.in_ok-count.count _ c.loop-done.into c.read_once.new.into _ refl before.within got.bound.0 before.bytes got.bytes;
    }
