-- Maps with each value made another.
use Rattle.std.specs.Prelude.{map as each}
use Rattle.std.specs.FinMap as map
use Rattle.site_forms.specs.Volumes.{bytes_cmp}

-- the same keys, each with what f makes of its value
abbrev pub map_values : {X Y : Type 0} → (X → Y) → map.FinMap bytes_cmp X → map.FinMap bytes_cmp Y
map_values f m = map.from_entries (each (λ e. (e.0, f e.1)) (map.entries m))
