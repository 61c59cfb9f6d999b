use Rattle.std.proofs.Common.{◌≡◌, ◌∙◌, ◌+◌, ◌≤◌, ℕ, List, take, drop, arith, length, ap}
use Rattle.std.specs.List.{slice_range}
use Rattle.seed_io.specs.Ahead.{Ahead}
use Rattle.seed_io.proofs.Ranges.{range_front, range_rest, length_range}
use Rattle.seed_io.proofs.read_ahead.ReadAhead.give.Goals as goal

pub returns : goal.returns
returns c =
    let s = c.self.inside in
    let held : slice_range s.room.items s.split s.end ≡ c.args.self.now.held = ap (λ (a : Ahead). a.held) c.self.view_is in
    let len = length_range s.room.items s.split s.end (omega arith) in
    let fits : s.split + c.args.count ≤ s.end = omega (arith, ap length held, len) in
    let given = range_front s.room.items s.split c.args.count s.end fits ∙ ap (λ (l : List ℕ). take c.args.count l) held in
    let rest = range_rest s.room.items s.split c.args.count s.end fits ∙ ap (λ (l : List ℕ). drop c.args.count l) held in
    cc
