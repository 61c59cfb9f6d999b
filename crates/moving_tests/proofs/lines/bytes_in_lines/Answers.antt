use Rattle.std.proofs.Common.{◌≡◌, ◌∙◌, Option, Some, None, Ok, refl, arith}
use Rattle.seed_io.specs.Answered.{line_text, line_answer}
use Rattle.seed_io.specs.Lines.{LineText}
use Rattle.moving_tests.proofs.LineSteps.{gives, gives_next, counted, none_left, size_within}
use Rattle.moving_tests.proofs.lines.bytes_in_lines.Goals as goal

pub each-preserved : goal.each-preserved
each-preserved g c =
    let inv = c.each.invariant in
    let next = c.next_line.follows.holds-at-none in
    let text : Option LineText = Some (line_text c.in-Some.line) in
    let is : line_answer c.next_line.result ≡ Ok text = rw (c.in_ok-line.was, c.in-Some.is) refl in
    let given = gives text is next in
    let size = c.whole_bytes-total.ensures in
    let most = size_within (line_text c.in-Some.line) in
    record {
      name = next.name ∙ inv.name;
      limit = next.limit ∙ inv.limit;
      within = let place = given.place in let within = inv.within in omega (arith, place, within, size, most);
      tells = c.next_line.ensures.tells ∙ inv.tells;
      map = c.next_line.ensures.map ∙ inv.map;
      stands = λ tells file there stands.
          let here = gives_next text is next (inv.tells ∙ tells) file (rw (inv.map, inv.name) there) (inv.stands tells file there stands) in
          here.stands;
      sum = λ tells file there stands.
          let here = gives_next text is next (inv.tells ∙ tells) file (rw (inv.map, inv.name) there) (inv.stands tells file there stands) in
          let all = counted text c.each.total _ here (inv.sum tells file there stands) in
          omega (arith, all, size);
    }

pub returns-in-None : goal.returns-in-None
returns-in-None g c = λ tells file there stands.
    let inv = c.each.invariant in
    let next = c.next_line.follows.holds-at-none in
    let is : line_answer c.next_line.result ≡ Ok None = rw (c.in_ok-line.was, c.in-None.is) refl in
    let given = gives None is next in
    let here = gives_next None is next (inv.tells ∙ tells) file (rw (inv.map, inv.name) there) (inv.stands tells file there stands) in
    let all = counted None c.each.total _ here (inv.sum tells file there stands) in
    let none = none_left file c.next_line.follows.lender-at-none given.over in
    omega (arith, all, none)
