-- Which limit of a recipe one file more would break, its chunks held or not.
use Rattle.std.specs.Prelude.{ℕ, ◌+◌, ◌++◌, nat_le, List, Option, Some, None, if◌then◌else◌}
use Rattle.std.specs.FinMap as map
use Rattle.seed_model.specs.declared.limits.TheConstants.{MOST_FILES, MOST_CHUNKS, MOST_PAIRS}
use Rattle.site_forms.specs.Volumes.{Shape, all_lists, distinct_count, pair_count}
use Rattle.volume_index.specs.declared.index.Limit.{Limit}
use Rattle.volume_index.specs.declared.index.Limit.TheVariants.{Files, Chunks, Pairs}

-- the first limit that these numbers of files, used chunks and pairs break
abbrev pub first_broken : ℕ → ℕ → ℕ → Option Limit
first_broken files chunks pairs =
    if nat_le files MOST_FILES then (if nat_le chunks MOST_CHUNKS then (if nat_le pairs MOST_PAIRS then None else Some Pairs) else Some Chunks) else Some Files

-- the first limit that the files with one of this list more break
abbrev pub first_limit : Shape → List (List ℕ) → Option Limit
first_limit shape list = first_broken (map.len shape.files + 1) (distinct_count (list ++ all_lists shape.files)) (distinct_count list + pair_count shape.files)
