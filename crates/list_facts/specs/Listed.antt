-- What clauses see of lists of vectors and of strings.
use Rattle.std.specs.Prelude.{List, ℕ, map, String, Vec}
use Rattle.std.specs.String.{string_bytes}
use Rattle.std.specs.declared.alloc.Global.{Global}

-- the lists in these vectors
abbrev pub lists_in : {X : Type 0} → List (Vec X Global) → List (List X)
lists_in vectors = map (λ v. v.items) vectors

-- the bytes of these texts
abbrev pub texts_in : List (String Global) → List (List ℕ)
texts_in texts = map string_bytes texts
