use Rattle.std.proofs.Common.{◌≡◌}
use Rattle.std.specs.Char.{is_control}
use Rattle.std.specs.List.{list_any}
use Rattle.std.specs.Str.{chars, IsUtf8}
use Rattle.std.specs.Str.Iter.{chars_rest}
use Rattle.file_names.proofs.has_control.Given as goal

abbrev pub invariant-loop-character : goal.invariant-loop-character
invariant-loop-character l = record {
  utf8 : IsUtf8 (chars_rest l.character-iterator);
  rest : list_any is_control (chars l.text) ≡ list_any is_control (chars (chars_rest l.character-iterator));
}
