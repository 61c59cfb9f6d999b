use Rattle.std.proofs.Common.{◌∙◌, sym}
use Rattle.std.specs.Str.Iter.{chars_rest}
use Rattle.file_names.proofs.Marks.{control_first, control_later, control_none, utf8_rest}
use Rattle.file_names.proofs.has_control.Goals as goal

pub returns-then-is_control : goal.returns-then-is_control
returns-then-is_control c =
    let inv = c.loop-character.invariant in
    sym (inv.rest ∙ control_first (chars_rest c.loop-character.character-iterator) (chars_rest c.next.new.self) c.in-Some.character inv.utf8 c.in-Some.ensures.steps.0 (sym c.if-is_control.ensures))

pub loop-character-preserved : goal.loop-character-preserved
loop-character-preserved c =
    let inv = c.loop-character.invariant in
    record {
      utf8 = utf8_rest (chars_rest c.loop-character.character-iterator) (chars_rest c.next.new.self) c.in-Some.character inv.utf8 c.in-Some.ensures.steps.0;
      rest = inv.rest ∙ control_later (chars_rest c.loop-character.character-iterator) (chars_rest c.next.new.self) c.in-Some.character inv.utf8 c.in-Some.ensures.steps.0 (sym c.if-is_control.ensures);
    }

pub returns : goal.returns
returns c = sym (c.loop-character.invariant.rest ∙ control_none (chars_rest c.loop-character.character-iterator) c.in-None.ensures.steps.0.0)
