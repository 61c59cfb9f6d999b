-- What the calls of a holding answer.
use Rattle.std.specs.Prelude.{◌≡◌, ℕ, false, List, slice_get, Option, Some, None}
use Rattle.std.specs.FinMap as map
use Rattle.site_forms.specs.Volumes.{Files}

-- the place of a file by name, none where it is lacking
abbrev pub IsFilePlace : Files → List ℕ → Option ℕ → Type 0
IsFilePlace files name (Some place) = slice_get (map.keys files) place ≡ Some name
IsFilePlace files name None = map.contains_key files name ≡ false
