use Rattle.std.proofs.Common.{◌≡◌, ◌∙◌, ◌+◌, ℕ, List, ◌++◌, length, take, drop, ap, arith, length-append}
use Rattle.seed_io.specs.Lines.{Reading}
use Rattle.seed_io.proofs.Standing.{stands_longer, holds_all}
use Rattle.seed_io.proofs.lines.Lines.fill.Goals as goal

pub returns-in-Ok-clause-told : goal.returns-in-Ok-clause-told
returns-in-Ok-clause-told g c = λ tells file there stands.
    let s = c.self.inside in
    let now = c.args.self.now in
    let n = c.in-Ok.count in
    let new = c.read_more.new.self.held in
    let got = c.in-Ok.ensures.told tells in
    let name : c.as_str-2.result.now ≡ now.name = c.as_str-2.ensures.value ∙ ap (λ (r : Reading). r.name) c.self.view_is in
    let same : got.file ≡ file = cc (got.there, there, name) in
    let held : s.ahead.held ≡ now.held = ap (λ (r : Reading). r.held) c.self.view_is in
    let place : s.place ≡ now.place = ap (λ (r : Reading). r.place) c.self.view_is in
    let size : length c.held.result.now ≡ length s.ahead.held = ap length c.held.ensures in
    let at : s.place + length c.held.result.now ≡ now.place + length now.held = omega (arith, place, ap length c.held.ensures, ap length held) in
    let (more, here) = stands in
    let grown : new ≡ now.held ++ take n (drop (now.place + length now.held) file) = got.bytes
    ∙ ap (λ (l : List ℕ). l ++ take n (drop (s.place + length c.held.result.now) got.file)) held
    ∙ ap (λ (f : List ℕ). now.held ++ take n (drop (s.place + length c.held.result.now) f)) same
    ∙ ap (λ (p : ℕ). now.held ++ take n (drop p file)) at in
    let longer : drop s.place file ≡ new ++ drop n more = ap (λ (p : ℕ). drop p file) place ∙ stands_longer file now.held more new now.place n here grown in
    record {
      stands = (drop n more, longer);
      all = λ none.
          let whole = got.ends (omega (arith, size, c.self.invariant, c.if-at-self.false)) none in
          holds_all file new (drop n more) s.place longer (omega (arith, whole, ap length same, size, ap length c.in-Ok.ensures.more.is, length-append s.ahead.held c.in-Ok.ensures.more.added));
    }
