-- The blocks of a file that is put, by their names.
use Rattle.std.specs.Prelude.{◌≡◌, ℕ, ◌+◌, ◌<◌, ◌≤◌, Bool, not, ◌||◌, List, [], ◌∷◌, map as each, unwrap_or, Option, Some, None, if◌then◌else◌}
use Rattle.std.specs.BTreeMap.{BTreeMap, get as kept}
use Rattle.std.specs.List.{filter}
use Rattle.std.specs.Str.{bytes_eq}
use Rattle.std.specs.FinMap as map
use Rattle.seed_model.specs.declared.limits.TheConstants.{MOST_FILES, MOST_CHUNKS, MOST_PAIRS}
use Rattle.recipe_reader.specs.declared.error.What.{What}
use Rattle.recipe_reader.specs.declared.error.What.TheVariants.{Files as FilesPast, Chunks, Bytes, Pairs}
use Rattle.site_forms.specs.Names.{is_listed}
use Rattle.site_forms.specs.Volumes.{Shape, all_lists, bytes_cmp, distinct_count, pair_count, used}
use Rattle.seed_mover.specs.declared.putting.blocks.NewCounts.{NewCounts}

-- the first place at which a name stands in a list; the length of the list where it lacks the name
abbrev pub place_in : List (List ℕ) → List ℕ → ℕ
place_in [] name = 0
place_in (x ∷ names) name = if bytes_eq name x then 0 else place_in names name + 1

abbrev pub first_places : List (List ℕ) → List ℕ
first_places names = each (place_in names) names

-- a map keeps the first place of each name of a list
abbrev pub KeepsPlaces : BTreeMap (List ℕ) ℕ → List (List ℕ) → Type 0
KeepsPlaces places names = (name : List ℕ) → kept bytes_cmp places name ≡ (if is_listed names name then Some (place_in names name) else None)

-- a map with a place for a name, where it keeps none
abbrev pub KeepsFirst : BTreeMap (List ℕ) ℕ → BTreeMap (List ℕ) ℕ → List ℕ → ℕ → Type 0
KeepsFirst old new name place = (q : List ℕ) → kept bytes_cmp new q ≡ (if bytes_eq q name then Some (unwrap_or (kept bytes_cmp old name) place) else kept bytes_cmp old q)

-- no file uses a chunk, and a volume lacks it
abbrev pub is_unused : Shape → List ℕ → Bool
is_unused a name = not (is_listed (all_lists a.files) name)

abbrev pub is_lacking : Shape → List ℕ → Bool
is_lacking a name = not (map.contains_key a.chunks name)

-- a volume lacks a chunk, and its name is not among others
abbrev pub is_new : Shape → List (List ℕ) → List ℕ → Bool
is_new a names name = not (map.contains_key a.chunks name || is_listed names name)

-- how many names are in a list, how many of them no file uses, and how many of them a volume lacks
pub record CountsNew (a : Shape) (names : List (List ℕ)) (c : NewCounts) : Type 0 where
  pub names_are : c.names ≡ distinct_count names
  pub unused : c.unused ≡ distinct_count (filter (is_unused a) names)
  pub lacking : c.lacking ≡ distinct_count (filter (is_lacking a) names)

-- counts with a name more
abbrev pub more_new : Shape → NewCounts → List ℕ → NewCounts
more_new a c name = record {
  names = c.names + 1;
  unused = c.unused + (if is_unused a name then 1 else 0);
  lacking = c.lacking + (if is_lacking a name then 1 else 0);
}

-- the first limit that the counts of a volume pass with a file more
abbrev pub AreFew : Shape → NewCounts → Type 0
AreFew a c = (map.len a.files + 1 ≤ MOST_FILES) × (map.len (used a.files) + c.unused ≤ MOST_CHUNKS)

abbrev pub JudgesCounts : Shape → NewCounts → Option What → Type 0
JudgesCounts a c None = AreFew a c × (pair_count a.files + c.names ≤ MOST_PAIRS)
JudgesCounts a c (Some FilesPast) = MOST_FILES < map.len a.files + 1
JudgesCounts a c (Some Chunks) = (map.len a.files + 1 ≤ MOST_FILES) × (MOST_CHUNKS < map.len (used a.files) + c.unused)
JudgesCounts a c (Some Bytes) = ⊥
JudgesCounts a c (Some Pairs) = AreFew a c × (MOST_PAIRS < pair_count a.files + c.names)
