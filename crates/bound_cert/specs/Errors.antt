-- Why a text is no document.
use Rattle.std.specs.Prelude.{ℕ, List}
use Rattle.bound_cert.specs.declared.doc_error.DocError.{DocError}
use Rattle.bound_cert.specs.declared.doc_error.DocError.TheVariants.{Bad, Memory}
use Rattle.bound_cert.specs.Grammar.{IsFirstBadLine}

-- a text that is said to be bad at a line is so
abbrev pub IsBadAt : List ℕ → DocError → Type 0
IsBadAt text (Bad line) = IsFirstBadLine text line
IsBadAt text Memory = Unit {0}
