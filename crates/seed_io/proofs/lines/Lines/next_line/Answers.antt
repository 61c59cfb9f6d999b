use Rattle.std.proofs.Common.{rules, ◌≡◌, ◌∙◌, ◌+◌, ℕ, List, ◌++◌, Option, Ok, Some, None, false, length, drop, sym, ap, subst, arith, length-drop}
use Rattle.seed_io.specs.Answered.{kind_line}
use Rattle.seed_io.specs.Lines.{LineText, NextLine, Reading, Unended, Whole, Wide, line_size}
use Rattle.seed_io.specs.declared.lines.Shown.TheVariants.{Open}
use Rattle.seed_io.proofs.Standing.{stands_behind, no_more}
use Rattle.seed_io.proofs.lines.Lines.next_line.Given.{Over}
use Rattle.seed_io.proofs.lines.Lines.next_line.Goals as goal
use Rattle.seed_io.proofs.lines.Lines.next_line.Goals.{After-settle}

-- the line that was settled is the next one
settled_next : (g : Over) (c : After-settle g) (line : Option LineText) → kind_line c.settle.new.self.last c.settle.result ≡ line
    → NextLine (g.F.Shelf.tells c.args.shelf.now) (g.F.Shelf.map c.args.shelf.now) c.args.self.now c.settle.new.self (Ok line)
settled_next g c line is =
    let read = c.in-Ok.ensures in
    let settled = c.settle.ensures in
    let mid = c.read_line.new.self in
    let new = c.settle.new.self in
    let size = line_size (kind_line new.last c.settle.result) in
    let going : c.args.self.now.over ≡ false = sym (ap (λ (r : Reading). r.over) c.self.view_is) ∙ c.if-self.false in
    subst (λ (l : Option LineText). NextLine (g.F.Shelf.tells c.args.shelf.now) (g.F.Shelf.map c.args.shelf.now) c.args.self.now new (Ok l)) is (record {
      name = settled.name ∙ read.place.name;
      limit = settled.limit ∙ read.place.limit;
      gives = record {
        over = settled.gives.over;
        ended = λ over. settled.gives.ended (read.place.over ∙ over);
        place = settled.gives.place ∙ ap (λ (p : ℕ). p + size) read.place.place;
        within = settled.gives.within;
        lawful = settled.gives.lawful;
      };
      told = λ tells file there stands.
          let on = read.told tells file there stands in
          let (more, at) = on.stands in
          let here = ap (λ (p : ℕ). drop p file) (sym read.place.place) ∙ at in
          let behind = ap (λ (p : ℕ). drop p file) settled.gives.place ∙ (stands_behind file mid.held more mid.place size at settled.within ∙ ap (λ (l : List ℕ). l ++ more) (sym settled.left)) in
          record {
            lines = rw (going, here, behind) (settled.lines more (λ (e : c.in-Ok.shown ≡ Open). no_more mid.held more (sym at ∙ on.all e)));
            stands = (more, behind);
            ends = λ e.
                let all = ap length (on.all (settled.ends e)) in
                let left = length-drop mid.place file in
                omega (arith, all, left, settled.room, settled.limit);
          };
      stopped = tt;
      full = λ e. cc e;
      same_place = λ e. cc e;
      stays = λ tells file there stands e. cc e;
    })

pub returns-in-None : goal.returns-in-None
returns-in-None g c =
    let next = settled_next g (goal.at.returns-in-None g c).After-settle None (ap (kind_line c.settle.new.self.last) c.in-None.is) in
    search (rules, next)

pub returns-in-Some-Wide : goal.returns-in-Some-Wide
returns-in-Some-Wide g c =
    let is = c.in-Some-Wide.is ∙ ap Some c.in-Some-Wide.field-0-is in
    let next = settled_next g (goal.at.returns-in-Some-Wide g c).After-settle (Some Wide) (ap (kind_line c.settle.new.self.last) is) in
    search (rules, next)

pub returns-in-Some-Unended : goal.returns-in-Some-Unended
returns-in-Some-Unended g c =
    let is = c.in-Some-Unended.is ∙ ap Some c.in-Some-Unended.field-0-is in
    let next = settled_next g (goal.at.returns-in-Some-Unended g c).After-settle (Some Unended) (ap (kind_line c.settle.new.self.last) is) in
    search (rules, next)

pub returns-in-Some-Whole : goal.returns-in-Some-Whole
returns-in-Some-Whole g c =
    let is = c.in-Some-Whole.is ∙ ap Some c.in-Some-Whole.field-0-is in
    let line = ap (λ (l : List ℕ). Some (Whole l)) (sym c.last_line.ensures) in
    let next = settled_next g (goal.at.returns-in-Some-Whole g c).After-settle (Some (Whole c.last_line.result.now)) (ap (kind_line c.settle.new.self.last) is ∙ line) in
    search (rules, next)
