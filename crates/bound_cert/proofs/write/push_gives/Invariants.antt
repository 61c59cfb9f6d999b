use Rattle.std.proofs.Common.{◌≡◌, ◌++◌, map, take}
use Rattle.bound_cert.specs.Grammar.{text_of}
use Rattle.bound_cert.specs.Documents.{give_entry}
use Rattle.bound_cert.proofs.write.push_gives.Given as goal

abbrev pub invariant-loop-give : goal.invariant-loop-give
invariant-loop-give l = l.out.items ≡ l.initial.out.items ++ text_of (map give_entry (take l.give-index l.gives))
