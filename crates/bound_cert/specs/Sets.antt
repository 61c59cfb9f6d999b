-- The sets that words name.
use Rattle.std.specs.Prelude.{◌≡◌, ℕ, List, [], Bool, map, Option, Some, None}
use Rattle.std.specs.List.{range_with_len}
use Rattle.std.specs.Result.{result_unwrap_or}
use Rattle.hex.specs.Hex.{decode_of}
use Rattle.seed_model.specs.declared.node.Node.{Node}
use Rattle.seed_model.specs.declared.node.Mix.{Mix}
use Rattle.seed_model.specs.Nodes.{undecided_node}
use Rattle.seed_text.specs.SetTexts.{has_file, set_text}
use Rattle.bound_cert.specs.declared.heading.Pins.{Pins}

-- the set of so many files that a word names
abbrev pub set_named : ℕ → List ℕ → List Bool
set_named files word = map (has_file (result_unwrap_or (decode_of word) [])) (range_with_len 0 files)

-- the word is the text of that set
abbrev pub IsSetOf : ℕ → List ℕ → Type 0
IsSetOf files word = word ≡ set_text (set_named files word)

abbrev pub mix_named : ℕ → List ℕ → List ℕ → ℕ → ℕ → Mix
mix_named files first second alpha beta = record { first = set_named files first; second = set_named files second; alpha = alpha; beta = beta }

-- the root of a tree: the node of the pins, or the one in which no file is decided
abbrev pub root_of : ℕ → Option Pins → Node
root_of files None = undecided_node files
root_of files (Some pins) = record { inside = set_named files pins.go; outside = set_named files pins.stay }
