-- What is kept of lines that kept every rule.
use Rattle.std.specs.Prelude.{List, ◌≡◌, ℕ, ◌+◌, ◌-◌, ◌<◌, ◌≤◌, ◌^◌, length, drop, Bool, true, false, Option, Some, None, option_map, IfSome, IfNone}
use Rattle.std.specs.List.{AllByRecursion}
use Rattle.seed_model.specs.declared.node.Node.{Node}
use Rattle.seed_model.specs.Ranges.{IsRange}
use Rattle.seed_model.specs.Tables.{TableValue}
use Rattle.bound_cert.specs.declared.heading.Claimed.{Claimed}
use Rattle.bound_cert.specs.declared.heading.Pins.{Pins}
use Rattle.bound_cert.specs.declared.place.Place.{Place}
use Rattle.bound_cert.specs.declared.place.Place.TheVariants.{AtNode, AtGive}
use Rattle.bound_cert.specs.Judgements.{Told, Rule, Keeps, IsFirstBroken, number_of, line_of, told_by}
use Rattle.bound_cert.specs.Lines.{Entry, Branch}
use Rattle.bound_cert.specs.Sets.{root_of, set_named}
use Rattle.cert_rules.specs.declared.branching.Branching.{Branching}
use Rattle.cert_check.specs.declared.kept.Kept.{Kept}
use Rattle.cert_check.specs.declared.kept.Sums.{Sums}
use Rattle.cert_check.specs.declared.kept.Broken.{Broken}
use Rattle.bound_cert.specs.declared.multipliers.Give.{Give}
use Rattle.cert_check.specs.Leaves.{AreSums, StaysSmall, JudgesLeaf, multipliers_of}
use Rattle.cert_check.specs.Paths.{node_in}

-- a node's sets are sets of so many files
pub record IsSized (files : ℕ) (node : Node) : Type 0 where
  pub inside : length node.inside ≡ files
  pub outside : length node.outside ≡ files

-- the class in work is that of the last give
abbrev pub IsLast : Option (ℕ × ℕ) → ℕ → Type 0
IsLast None class = class ≡ 0
IsLast (Some last) class = class ≡ last.0

-- how many nodes wait, and what the gives of a leaf in work have come to
abbrev pub IsAt : Place → ℕ → ℕ → ℕ → Type 0
IsAt (AtNode nodes) waiting class gives = waiting ≡ nodes
IsAt (AtGive nodes left last) waiting class gives = (waiting ≡ nodes + 1) × (gives + left ≤ 4194303) × IsLast last class
IsAt place waiting class gives = waiting ≡ 0

-- what is kept fits the table
pub record IsKept (table : TableValue) (kept : Kept) : Type 0 where
  pub range : IsRange kept.range
  pub bound : IfSome kept.bound (λ z. z < 2 ^ 50)
  pub plan : length kept.plan ≡ table.files
  pub first : length kept.mix.first ≡ table.files
  pub second : length kept.mix.second ≡ table.files
  pub root : IsSized table.files kept.path.root
  pub nodes : AllByRecursion (IsSized table.files) kept.path.waiting
  pub shares : length kept.leaf.shares.items ≡ table.files
  pub small : StaysSmall kept.leaf
  pub class : kept.leaf.class ≤ length table.classes
  pub at : IsAt kept.place (length kept.path.waiting) kept.leaf.class kept.leaf.gives

abbrev pub sums_of : Claimed → Sums
sums_of claimed = record { migrated = claimed.migrated; replicated = claimed.replicated }

abbrev pub has_pins : Option Pins → Bool
has_pins None = false
has_pins (Some pins) = true

-- it is what the lines have told, with sets for words, a path for the nodes to be read, and sums for the gives
pub record KeepsTold (table : TableValue) (kept : Kept) (told : Told) : Type 0 where
  pub place : kept.place ≡ told.place
  pub range : kept.range ≡ told.range
  pub pinned : kept.pinned ≡ has_pins told.pins
  pub root : kept.path.root ≡ root_of table.files told.pins
  pub answer : kept.answer ≡ told.answer
  pub sums : kept.sums ≡ option_map sums_of told.plan
  pub plan : IfSome told.plan (λ claimed. kept.plan ≡ set_named table.files claimed.set)
  pub bound : kept.bound ≡ told.bound
  pub waiting : kept.path.waiting ≡ told.waiting
  pub branchings : kept.branchings ≡ told.branchings
  pub p : kept.leaf.p ≡ told.p
  pub q : kept.leaf.q ≡ told.q
  pub gives : AreSums table told.gives kept.leaf

-- a line keeps every rule, or breaks this one and none of a smaller number, and so many lines back stands the line that
-- the failure carries
abbrev pub JudgesLine : TableValue → Told → Entry → Option Broken → Type 0
JudgesLine table told e None = (rule : Rule) → Keeps table told e rule
JudgesLine table told e (Some broken) =
    (rule : Rule) × (number_of rule ≡ broken.rule) × IsFirstBroken table told e rule × ((number : ℕ) → line_of told e rule number ≡ number - broken.back)

-- a line is taken that leads to a place: it is judged by the rules on it, and where it keeps them all, what is kept is
-- what the lines have told with it
pub record Takes (table : TableValue) (old new : Kept) (e : Entry) (next : Place) (result : Option Broken) : Type 0 where
  pub judged : (told : Told) → KeepsTold table old told → JudgesLine table told e result
  pub fits : IfNone result (IsKept table new)
  pub told : IfNone result ((told : Told) → KeepsTold table old told → KeepsTold table new (told_by table.files told next e))

-- a rule that a line breaks, where the failure carries the line itself
abbrev pub broken_here : Option ℕ → Option Broken
broken_here None = None
broken_here (Some rule) = Some (record { rule = rule; back = 0 })

-- what the line of a branching says
abbrev pub branch_entry : Branching → Entry
branch_entry line = Branch line.file line.first.now line.second.now line.alpha line.beta

-- what a plan is said to replicate
abbrev pub replicated_of : Option Sums → Option ℕ
replicated_of None = None
replicated_of (Some sums) = Some sums.replicated

-- a leaf in work that can be judged as a whole
pub record FitsLeaf (table : TableValue) (kept : Kept) : Type 0 where
  pub range : IsRange kept.range
  pub bound : IfSome kept.bound (λ z. z < 2 ^ 50)
  pub shares : length kept.leaf.shares.items ≡ table.files
  pub small : StaysSmall kept.leaf
  pub class : kept.leaf.class ≤ length table.classes
  pub waits : 0 < length kept.path.waiting
  pub node : IsSized table.files (node_in kept.path)

-- the number of a rule that is broken
abbrev pub rule_of : Option Broken → Option ℕ
rule_of None = None
rule_of (Some broken) = Some broken.rule

-- a leaf is judged as a whole, and its node is closed; a failure stands as many lines back as the leaf has gives
pub record EndsLeaf (table : TableValue) (old new : Kept) (result : Option Broken) : Type 0 where
  pub others : new ≡ record old { path = new.path; leaf = new.leaf }
  pub root : new.path.root ≡ old.path.root
  pub waiting : new.path.waiting ≡ drop 1 old.path.waiting
  pub shares : length new.leaf.shares.items ≡ table.files
  pub small : StaysSmall new.leaf
  pub class : new.leaf.class ≤ length table.classes
  pub p : new.leaf.p ≡ old.leaf.p
  pub q : new.leaf.q ≡ old.leaf.q
  pub sums : (gives : List Give) → AreSums table gives old.leaf → AreSums table gives new.leaf
  pub judged : (gives : List Give) → AreSums table gives old.leaf → JudgesLeaf table old.range old.bound (node_in old.path) (multipliers_of old.leaf gives) (rule_of result)
  pub back : IfSome result (λ b. b.back ≡ old.leaf.gives)
