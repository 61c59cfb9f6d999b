use Rattle.std.proofs.Common.{◌≡◌, ◌++◌, length, Some}
use Rattle.std.specs.List.{AllByRecursion}
use Rattle.bound_cert.specs.declared.place.Place.TheVariants.{AtTitle}
use Rattle.bound_cert.specs.Lines.{IsLine}
use Rattle.bound_cert.specs.Grammar.{after_all, entries_of, text_of}
use Rattle.bound_cert.proofs.Reading.{HasRoom}
use Rattle.bound_cert.proofs.line_list.lines_of.Given as goal

abbrev pub invariant-loop-place : goal.invariant-loop-place
invariant-loop-place l = record {
  lawful : AllByRecursion IsLine (entries_of l.lines.items);
  placed : after_all AtTitle (entries_of l.lines.items) ≡ Some l.place;
  split : l.text ≡ text_of (entries_of l.lines.items) ++ l.rest;
  room : HasRoom l.place (length l.lines.items);
}

abbrev pub decreases-loop-place : goal.decreases-loop-place
decreases-loop-place l = length l.rest
