-- What taking a row does to the rows left.
use Rattle.std.specs.Prelude.{◌≡◌, List, [], ◌∷◌, ℕ, Bool, true, false}

-- the first row is taken; or there was none
abbrev pub RowTaken : Bool → List (List (List ℕ)) → List (List (List ℕ)) → List (List ℕ) → Type 0
RowTaken true before after row = before ≡ row ∷ after
RowTaken false before after row = (before ≡ []) × (after ≡ [])
