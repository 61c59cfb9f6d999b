-- Nodes: sets of files with some files decided, the means of their bytes, and the value of a node.
use Rattle.std.specs.Prelude.{◌≡◌, ℕ, ◌+◌, ◌*◌, ◌<◌, ◌≤◌, ◌&&◌, not, Bool, true, false, IsTrue, length, slice_set, replicate}
use Rattle.seed_model.specs.declared.node.Node.{Node}
use Rattle.seed_model.specs.declared.node.Mix.{Mix}
use Rattle.seed_model.specs.declared.range.Range.{Range}
use Rattle.seed_model.specs.Files.{holds}
use Rattle.seed_model.specs.Tables.{TableValue}
use Rattle.seed_model.specs.Sums.{migrated_of, replicated_of}
use Rattle.seed_model.specs.Ranges.{InRange}

-- no file of so many is decided
abbrev pub undecided_node : ℕ → Node
undecided_node files = record { inside = replicate files false; outside = replicate files false }

-- the node with a file put inside
abbrev pub put_inside : ℕ → Node → Node
put_inside file node = record { inside = slice_set node.inside file true; outside = node.outside }

-- the node with a file put outside
abbrev pub put_outside : ℕ → Node → Node
put_outside file node = record { inside = node.inside; outside = slice_set node.outside file true }

-- neither inside nor outside
abbrev pub is_free : Node → ℕ → Bool
is_free node file = not (holds node.inside file) && not (holds node.outside file)

-- a node of so many files: no file is both inside and outside
pub record IsNode (files : ℕ) (node : Node) : Type 0 where
  pub inside : length node.inside ≡ files
  pub outside : length node.outside ≡ files
  pub apart : (file : ℕ) → file < files → IsTrue (holds node.inside file) → holds node.outside file ≡ false

-- a set that has the files inside, and none of those outside
pub record IsMember (files : ℕ) (node : Node) (set : ℕ → Bool) : Type 0 where
  pub has : (file : ℕ) → file < files → IsTrue (holds node.inside file) → IsTrue (set file)
  pub lacks : (file : ℕ) → file < files → IsTrue (holds node.outside file) → set file ≡ false

-- the members with the fewest and with the most files
abbrev pub smallest_member : Node → ℕ → Bool
smallest_member node = holds node.inside

abbrev pub largest_member : Node → ℕ → Bool
largest_member node file = not (holds node.outside file)

-- no member migrates enough
abbrev pub IsLow : TableValue → Range → Node → Type 0
IsLow table range node = migrated_of (largest_member node) table < range.low

-- every member migrates too much
abbrev pub IsHigh : TableValue → Range → Node → Type 0
IsHigh table range node = range.high < migrated_of (smallest_member node) table

-- the weight of both sets of a mix together
abbrev pub weight_of : Mix → ℕ
weight_of mix = mix.alpha + mix.beta

-- the bytes that a mix replicates, and those that it migrates, times its weight
abbrev pub mixed_replicated : TableValue → Mix → ℕ
mixed_replicated table mix = mix.alpha * replicated_of (holds mix.first) table + mix.beta * replicated_of (holds mix.second) table

abbrev pub mixed_migrated : TableValue → Mix → ℕ
mixed_migrated table mix = mix.alpha * migrated_of (holds mix.first) table + mix.beta * migrated_of (holds mix.second) table

-- two members whose weighted mean of migrated bytes is in the range
pub record IsMix (table : TableValue) (range : Range) (node : Node) (mix : Mix) : Type 0 where
  pub first_files : length mix.first ≡ table.files
  pub second_files : length mix.second ≡ table.files
  pub first : IsMember table.files node (holds mix.first)
  pub second : IsMember table.files node (holds mix.second)
  pub weighed : 0 < weight_of mix
  pub enough : range.low * weight_of mix ≤ mixed_migrated table mix
  pub no_more : mixed_migrated table mix ≤ range.high * weight_of mix

-- a mix replicates at most as many bytes as another, in the weighted mean
abbrev pub ReplicatesNoMore : TableValue → Mix → Mix → Type 0
ReplicatesNoMore table mix other = mixed_replicated table mix * weight_of other ≤ mixed_replicated table other * weight_of mix

-- a mix replicates at most so many bytes, in the weighted mean
abbrev pub ReplicatesUpTo : TableValue → Mix → ℕ → Type 0
ReplicatesUpTo table mix bound = mixed_replicated table mix ≤ bound * weight_of mix

-- a mix has the value of its node: no mix of the node replicates less
pub record HasValue (table : TableValue) (range : Range) (node : Node) (mix : Mix) : Type 0 where
  pub is_mix : IsMix table range node mix
  pub least : (other : Mix) → IsMix table range node other → ReplicatesNoMore table mix other

-- a member in range: it may be chosen where the node's files are pinned
pub record IsAdmitted (table : TableValue) (range : Range) (pins : Node) (set : ℕ → Bool) : Type 0 where
  pub member : IsMember table.files pins set
  pub in_range : InRange table range set

-- admitted, and no admitted set replicates less
pub record IsBestAdmitted (table : TableValue) (range : Range) (pins : Node) (set : ℕ → Bool) : Type 0 where
  pub admitted : IsAdmitted table range pins set
  pub least : (other : ℕ → Bool) → IsAdmitted table range pins other → replicated_of set table ≤ replicated_of other table

-- no set is admitted
abbrev pub NoneAdmitted : TableValue → Range → Node → Type 0
NoneAdmitted table range pins = (set : ℕ → Bool) → ¬ IsAdmitted table range pins set
