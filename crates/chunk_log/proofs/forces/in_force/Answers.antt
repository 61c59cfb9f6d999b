use Rattle.std.proofs.Common.{ℕ, ◌+◌, sym, subst}
use Rattle.std.specs.Prelude.{Result}
use Rattle.chunk_log.specs.declared.errors.LogError.{LogError}
use Rattle.chunk_log.specs.PlaceHalves.{IsHalf, NamesHalf}
use Rattle.chunk_log.proofs.HalfFound.{finds_log}
use Rattle.chunk_log.proofs.PlaceHalves.{names_chosen, in_force_by, on_ok_always}
use Rattle.chunk_log.proofs.forces.in_force.Goals as goal

pub returns-in-Ok-clause-named : goal.returns-in-Ok-clause-named
returns-in-Ok-clause-named g c = subst (λ (r : Result (ℕ × ℕ) LogError). NamesHalf c.args.first r) (sym c.choose.ensures) (names_chosen c.args.first c.in-Ok.both.first c.in-Ok.both.second)

pub returns-in-Ok-clause-found : goal.returns-in-Ok-clause-found
returns-in-Ok-clause-found g c = λ honest.
    let s = c.in-Ok.ensures.settled honest in
    let d = g.R.Rack.disk c.args.rack.now in
    let x = (d c.args.first).image in
    let y = (d (c.args.first + 3)).image in
    let is = subst (λ (r : Result (ℕ × ℕ) LogError). IsHalf x y c.args.first r) (sym c.choose.ensures) (in_force_by x y c.args.first c.in-Ok.both.first c.in-Ok.both.second s.numbers.0 s.numbers.1) in
    record {
      others = s.others;
      first = on_ok_always c.choose.result s.first;
      second = on_ok_always c.choose.result s.second;
      is = is;
      stands = λ records log stands.
          finds_log d (g.R.Rack.disk c.read_both.new.rack) c.args.first records log c.choose.result (g.met.R.Rack.reads_alike _ c.args.first honest) (g.met.R.Rack.reads_alike _ (c.args.first + 3) honest)
          (on_ok_always c.choose.result s.first) (on_ok_always c.choose.result s.second) is stands;
      moments = s.moments;
    }
