use Rattle.std.proofs.Common.{rules, ◌≡◌, ◌≢◌, ◌∙◌, ◌++◌, Option, Ok, Err, Bool, refl, sym, ap, subst}
use Rattle.std.specs.Prelude.{option_map, is_none, IsSome}
use Rattle.seed_io.specs.Answered.{line_text, line_answer}
use Rattle.seed_io.specs.Lines.{LineText, NextLine, listed}
use Rattle.seed_io.specs.Shelf.{Told}
use Rattle.cert_check.specs.declared.judged.Judged.TheVariants.{More}
use Rattle.cert_check.proofs.Working.{work_begins, works_on, behind_now, there_now, called, gave_at, too_long, err_of, handed, judged_text, judged_sound, runs_on}
use Rattle.cert_check.proofs.checking.check_text.Goals as goal

pub judging-init : goal.judging-init
judging-init g c = record {
  work = work_begins c.args.table.now (g.F.Shelf.tells c.args.shelf.now) (g.F.Shelf.map c.args.shelf.now) c.args.name.now c.in-Ok-new.judge c.in-Ok.lines c.in-Ok-new.ensures.table c.in-Ok-new.ensures.none c.in-Ok-new.ensures.stands c.in-Ok.ensures;
  tells = refl;
  map = refl;
  still = refl;
}

pub judging-preserved : goal.judging-preserved
judging-preserved g c =
    let inv = c.judging.invariant in
    let w = inv.work in
    let tells : Bool = g.F.Shelf.tells c.args.shelf.now in
    let told : Told = g.F.Shelf.map c.args.shelf.now in
    let line : Option LineText = option_map line_text c.in-Ok-next_line.line in
    let old = c.judging.lines in
    let new = c.next_line.follows.lender-at-none in
    let next : NextLine tells told old new (Ok line) = called (g.F.Shelf.tells c.judging.shelf) tells (g.F.Shelf.map c.judging.shelf) told old new (line_answer c.next_line.result) (Ok line) inv.tells inv.map (ap line_answer c.in-Ok-next_line.is) c.next_line.follows.holds-at-none in
    let more : c.take.new.self.judged ≡ More = search rules in
    record {
      work = works_on c.args.table.now tells told c.args.name.now c.judging.judge c.take.new.self old new line w next.name next.limit next.gives
          (behind_now c.args.table.now tells told c.args.name.now c.judging.judge old new line w next)
          (there_now c.args.table.now tells told c.args.name.now c.judging.judge old w (λ t h o. subst (λ (m : Told). IsSome (m old.name)) inv.map (c.in-Ok-next_line.ensures.there (inv.tells ∙ t) h o)))
          c.take.ensures.table c.take.ensures.lines (c.take.ensures.taken w.before w.stands) more;
      tells = c.next_line.ensures.tells ∙ inv.tells;
      map = c.next_line.ensures.map ∙ inv.map;
      still = c.in-Ok-next_line.ensures.cause.kept (λ e. cc) ∙ inv.still;
    }

pub returns-in-Err-clause-long : goal.returns-in-Err-clause-long
returns-in-Err-clause-long g c = λ e.
    let inv = c.judging.invariant in
    let w = inv.work in
    let is = too_long c.in-Err.error (sym c.error_of.ensures ∙ err_of e) in
    gave_at (g.F.Shelf.tells c.judging.shelf) (g.F.Shelf.tells c.args.shelf.now) (g.F.Shelf.map c.judging.shelf) (g.F.Shelf.map c.args.shelf.now) c.judging.lines.name c.args.name.now c.judging.lines.limit _ inv.tells inv.map w.name_is w.limit_is
    (c.in-Err.ensures.long (ap Err is))

pub returns-in-Err-clause-runs_on : goal.returns-in-Err-clause-runs_on
returns-in-Err-clause-runs_on g c = λ t text at e.
    let inv = c.judging.invariant in
    let w = inv.work in
    let tells : Bool = g.F.Shelf.tells c.args.shelf.now in
    let told : Told = g.F.Shelf.map c.args.shelf.now in
    let old = c.judging.lines in
    let new = c.next_line.follows.lender-at-none in
    let is = too_long c.in-Err.error (sym c.error_of.ensures ∙ err_of e) in
    let next : NextLine tells told old new (Err c.in-Err.error) = called (g.F.Shelf.tells c.judging.shelf) tells (g.F.Shelf.map c.judging.shelf) told old new (line_answer c.next_line.result) (Err c.in-Err.error) inv.tells inv.map (ap line_answer c.in-Err.is) c.next_line.follows.holds-at-none in
    let gave = gave_at (g.F.Shelf.tells c.judging.shelf) tells (g.F.Shelf.map c.judging.shelf) told old.name old.name old.limit old.limit inv.tells inv.map refl refl (c.in-Err.ensures.long (ap Err is)) in
    runs_on c.args.table.now tells told c.args.name.now c.judging.judge old new c.in-Err.error text w next is gave t at

pub returns-in-Err-clause-cause : goal.returns-in-Err-clause-cause
returns-in-Err-clause-cause g c =
    handed c.in-Err.error c.error_of.result (g.F.Shelf.faults c.args.shelf.now) (g.F.Shelf.faults c.judging.shelf) (g.F.Shelf.faults c.next_line.new.shelf) c.error_of.ensures c.judging.invariant.still c.in-Err.ensures.cause

pub returns-then-ne-clause-judged : goal.returns-then-ne-clause-judged
returns-then-ne-clause-judged g c = λ t text at.
    let inv = c.judging.invariant in
    let w = inv.work in
    let tells : Bool = g.F.Shelf.tells c.args.shelf.now in
    let told : Told = g.F.Shelf.map c.args.shelf.now in
    let line : Option LineText = option_map line_text c.in-Ok-next_line.line in
    let old = c.judging.lines in
    let new = c.next_line.follows.lender-at-none in
    let next : NextLine tells told old new (Ok line) = called (g.F.Shelf.tells c.judging.shelf) tells (g.F.Shelf.map c.judging.shelf) told old new (line_answer c.next_line.result) (Ok line) inv.tells inv.map (ap line_answer c.in-Ok-next_line.is) c.next_line.follows.holds-at-none in
    let over : c.take.new.self.judged ≢ More = search rules in
    judged_text c.args.table.now c.take.new.self c.into_checked.result text new (w.before ++ listed line) (is_none line) c.laws_of.ensures.told (c.take.ensures.table ∙ w.table_is) over c.into_checked.ensures
    (c.take.ensures.taken w.before w.stands) (behind_now c.args.table.now tells told c.args.name.now c.judging.judge old new line w next t text at)

pub returns-then-ne-clause-sound : goal.returns-then-ne-clause-sound
returns-then-ne-clause-sound g c =
    let w = c.judging.invariant.work in
    let line : Option LineText = option_map line_text c.in-Ok-next_line.line in
    let over : c.take.new.self.judged ≢ More = search rules in
    judged_sound c.args.table.now c.take.new.self c.into_checked.result (w.before ++ listed line) (is_none line) c.laws_of.ensures.told c.laws_of.ensures.sound c.laws_of.ensures.table (c.take.ensures.table ∙ w.table_is) over c.into_checked.ensures
    (c.take.ensures.taken w.before w.stands)
