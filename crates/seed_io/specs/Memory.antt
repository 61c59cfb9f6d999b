-- Shelves and sinks in memory.
use Rattle.std.specs.Prelude.{ℕ, option_map, Vec, String}
use Rattle.std.specs.declared.alloc.Global.{Global}
use Rattle.std.specs.BTreeMap.{BTreeMap, get_by_text}
use Rattle.seed_io.specs.Shelf.{Told}

-- what the files of a shelf in memory hold
abbrev pub files_told : BTreeMap (String Global) (Vec ℕ Global) → Told
files_told files name = option_map (λ v. v.items) (get_by_text files name)
