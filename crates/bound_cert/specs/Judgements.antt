-- The judgements of a text, line by line, and the first that fails.
use Rattle.std.specs.Prelude.{◌≡◌, ◌⊎◌, ℕ, ◌+◌, ◌-◌, ◌<◌, ◌==◌, Bool, true, false, List, [], ◌∷◌, ◌++◌, length, drop, slice_index_or, IsTrue, Option, Some, None, option_map, IfSome, IsSome, IsSomeAnd, if◌then◌else◌}
use Rattle.seed_model.specs.declared.node.Node.{Node}
use Rattle.seed_model.specs.declared.range.Range.{Range}
use Rattle.seed_model.specs.Differences.{IsFirstDifference}
use Rattle.seed_model.specs.Files.{holds}
use Rattle.seed_model.specs.Tables.{TableValue}
use Rattle.seed_model.specs.Sums.{migrated_of, replicated_of}
use Rattle.seed_model.specs.Ranges.{InRange}
use Rattle.seed_model.specs.Nodes.{IsLow, IsHigh, IsMix, IsMember, ReplicatesUpTo, undecided_node, is_free, put_inside, put_outside}
use Rattle.bound_cert.specs.declared.heading.Answer.{Answer}
use Rattle.bound_cert.specs.declared.heading.Answer.TheVariants.{Open}
use Rattle.bound_cert.specs.declared.heading.Pins.{Pins}
use Rattle.bound_cert.specs.declared.heading.Claimed.{Claimed}
use Rattle.bound_cert.specs.declared.multipliers.Give.{Give as GiveValue}
use Rattle.bound_cert.specs.declared.multipliers.Multipliers.{Multipliers}
use Rattle.bound_cert.specs.Lines.{Entry, Title, Span, Pinned, Answered, Planned, NoPlan, Bounded, NoBound, Branch, Low, High, Leaf, Give, End, line_text, IsLine}
use Rattle.bound_cert.specs.declared.place.Place.{Place}
use Rattle.bound_cert.specs.declared.place.Place.TheVariants.{AtTitle, AtGive, Past}
use Rattle.bound_cert.specs.Grammar.{after, text_of, IsNextBad}
use Rattle.bound_cert.specs.Multipliers.{IsGive, AreCharged, AreRewarded, ReachesBound}
use Rattle.bound_cert.specs.Sets.{IsSetOf, set_named, mix_named, root_of}
use Rattle.bound_cert.specs.Valid.{Agrees}

-- What the lines so far have told: the heading, the nodes still to be read with the one in work first, the branchings,
-- and of a leaf in work its p, its q and its gives.
pub record Told : Type 0 where
  pub place : Place
  pub range : Range
  pub pins : Option Pins
  pub answer : Answer
  pub plan : Option Claimed
  pub bound : Option ℕ
  pub waiting : List Node
  pub branchings : ℕ
  pub p : ℕ
  pub q : ℕ
  pub gives : List GiveValue

-- before the first line
abbrev pub nothing_told : Told
nothing_told = record { place = AtTitle; range = record { low = 0; high = 0 }; pins = None; answer = Open; plan = None; bound = None; waiting = []; branchings = 0; p = 0; q = 0; gives = [] }

-- the node in work
abbrev pub node_of : ℕ → Told → Node
node_of files told = slice_index_or told.waiting 0 (undecided_node files)

abbrev pub give_of : ℕ → ℕ → ℕ → ℕ → GiveValue
give_of class file charge reward = record { class = class; file = file; charge = charge; reward = reward }

-- whether one give of a leaf is left
abbrev pub is_last : Place → Bool
is_last (AtGive nodes gives last) = gives == 1
is_last place = false

-- the multipliers of a leaf, at its last line
abbrev pub leaf_of : Told → Entry → Option Multipliers
leaf_of told (Leaf p q gives) = if gives == 0 then Some (record { p = p; q = q; gives = [] }) else None
leaf_of told (Give class file charge reward) = if is_last told.place then Some (record { p = told.p; q = told.q; gives = told.gives ++ give_of class file charge reward ∷ [] }) else None
leaf_of told e = None

-- what the lines have told with one more, in a place that is behind it
abbrev pub told_by : ℕ → Told → Place → Entry → Told
told_by files told place (Title version) = record told { place = place }
told_by files told place (Span low high) = record told { place = place; range = record { low = low; high = high } }
told_by files told place (Pinned go stay) = record told { place = place; pins = Some (record { go = go; stay = stay }) }
told_by files told place (Answered answer) = record told { place = place; answer = answer }
told_by files told place (Planned set migrated replicated) = record told { place = place; plan = Some (record { set = set; migrated = migrated; replicated = replicated }) }
told_by files told place NoPlan = record told { place = place; plan = None }
told_by files told place (Bounded bound) = record told { place = place; bound = Some bound; waiting = root_of files told.pins ∷ [] }
told_by files told place NoBound = record told { place = place; bound = None; waiting = root_of files told.pins ∷ [] }
told_by files told place (Branch file first second alpha beta) =
    record told { place = place; waiting = put_outside file (node_of files told) ∷ put_inside file (node_of files told) ∷ drop 1 told.waiting; branchings = told.branchings + 1 }
told_by files told place Low = record told { place = place; waiting = drop 1 told.waiting }
told_by files told place High = record told { place = place; waiting = drop 1 told.waiting }
told_by files told place (Leaf p q gives) = record told { place = place; p = p; q = q; gives = []; waiting = if gives == 0 then drop 1 told.waiting else told.waiting }
told_by files told place (Give class file charge reward) =
    record told { place = place; gives = told.gives ++ give_of class file charge reward ∷ []; waiting = if is_last told.place then drop 1 told.waiting else told.waiting }
told_by files told place End = record told { place = place }

-- none where the line may not stand there
abbrev pub told_next : ℕ → Told → Entry → Option Told
told_next files told e = option_map (λ place. told_by files told place e) (after told.place e)

-- the rules on a line that may stand where it stands
pub data Rule : Type 0 where
  Width : Rule
  Answering : Rule
  Sums : Rule
  InReach : Rule
  Difference : Rule
  Mixing : Rule
  Closing : Rule
  Using : Rule
  Charging : Rule
  Rewarding : Rule
  Reaching : Rule
  Apart : Rule
  Pinning : Rule

-- their numbers; that of the form of a line is 1
abbrev pub number_of : Rule → ℕ
number_of Width = 2
number_of Answering = 3
number_of Sums = 4
number_of InReach = 5
number_of Difference = 6
number_of Mixing = 7
number_of Closing = 8
number_of Using = 9
number_of Charging = 10
number_of Rewarding = 11
number_of Reaching = 12
number_of Apart = 13
number_of Pinning = 14

-- a word names a set of the table's files
abbrev pub HasWidth : ℕ → Entry → Type 0
HasWidth files (Pinned go stay) = IsSetOf files go × IsSetOf files stay
HasWidth files (Planned set migrated replicated) = IsSetOf files set
HasWidth files (Branch file first second alpha beta) = IsSetOf files first × IsSetOf files second
HasWidth files e = Unit {0}

-- answer, plan and bound go together
abbrev pub IsAnswered : Told → Entry → Type 0
IsAnswered told (Bounded bound) = Agrees told.answer told.plan (Some bound)
IsAnswered told NoBound = Agrees told.answer told.plan None
IsAnswered told e = Unit {0}

-- the printed sums are those of the plan
abbrev pub HasSums : TableValue → Entry → Type 0
HasSums table (Planned set migrated replicated) =
    (migrated ≡ migrated_of (holds (set_named table.files set)) table) × (replicated ≡ replicated_of (holds (set_named table.files set)) table)
HasSums table e = Unit {0}

-- the plan is in range
abbrev pub IsInReach : TableValue → Range → Entry → Type 0
IsInReach table range (Planned set migrated replicated) = InRange table range (holds (set_named table.files set))
IsInReach table range e = Unit {0}

-- the file of a branching is free, and the first in which its sets differ
abbrev pub IsDifference : ℕ → Node → Entry → Type 0
IsDifference files node (Branch file first second alpha beta) = (is_free node file ≡ true) × IsFirstDifference (set_named files first) (set_named files second) file
IsDifference files node e = Unit {0}

-- its mix is one of the node's, and replicates no more than the bound
abbrev pub IsMixed : TableValue → Range → Option ℕ → Node → Entry → Type 0
IsMixed table range bound node (Branch file first second alpha beta) =
    IsMix table range node (mix_named table.files first second alpha beta) × IfSome bound (ReplicatesUpTo table (mix_named table.files first second alpha beta))
IsMixed table range bound node e = Unit {0}

-- a node that is said to be low or high is so
abbrev pub IsClosed : TableValue → Range → Node → Entry → Type 0
IsClosed table range node Low = IsLow table range node
IsClosed table range node High = IsHigh table range node
IsClosed table range node e = Unit {0}

-- a give is of a class, to a user of it
abbrev pub IsUsed : TableValue → Entry → Type 0
IsUsed table (Give class file charge reward) = IsGive table (give_of class file charge reward)
IsUsed table e = Unit {0}

-- no file is pinned to both sides
abbrev pub IsApart : ℕ → Entry → Type 0
IsApart files (Pinned go stay) = (file : ℕ) → file < files → IsTrue (holds (set_named files go) file) → holds (set_named files stay) file ≡ false
IsApart files e = Unit {0}

-- the plan keeps to the pins
abbrev pub IsPinning : ℕ → Option Pins → Entry → Type 0
IsPinning files pins (Planned set migrated replicated) = IsMember files (root_of files pins) (holds (set_named files set))
IsPinning files pins e = Unit {0}

-- a line keeps a rule, where it stands; the rules on charges, rewards and the bound are judged at a leaf's last line
abbrev pub Keeps : TableValue → Told → Entry → Rule → Type 0
Keeps table told e Width = HasWidth table.files e
Keeps table told e Answering = IsAnswered told e
Keeps table told e Sums = HasSums table e
Keeps table told e InReach = IsInReach table told.range e
Keeps table told e Difference = IsDifference table.files (node_of table.files told) e
Keeps table told e Mixing = IsMixed table told.range told.bound (node_of table.files told) e
Keeps table told e Closing = IsClosed table told.range (node_of table.files told) e
Keeps table told e Using = IsUsed table e
Keeps table told e Charging = IfSome (leaf_of told e) (λ m. AreCharged table m.q m.gives)
Keeps table told e Rewarding = IfSome (leaf_of told e) (λ m. AreRewarded table m.p m.gives)
Keeps table told e Reaching = IfSome (leaf_of told e) (λ m. IsSomeAnd told.bound (λ bound. ReachesBound table told.range (node_of table.files told) bound m))
Keeps table told e Apart = IsApart table.files e
Keeps table told e Pinning = IsPinning table.files told.pins e

-- the line that a failure carries: for the rules on a whole leaf, that of its line `bound`
abbrev pub line_of : Told → Entry → Rule → ℕ → ℕ
line_of told (Give class file charge reward) Charging number = number - length told.gives - 1
line_of told (Give class file charge reward) Rewarding number = number - length told.gives - 1
line_of told (Give class file charge reward) Reaching number = number - length told.gives - 1
line_of told e rule number = number

-- a line breaks a rule and none of a smaller number
pub record IsFirstBroken (table : TableValue) (told : Told) (e : Entry) (rule : Rule) : Type 0 where
  pub breaks : ¬ Keeps table told e rule
  pub before : (other : Rule) → number_of other < number_of rule → Keeps table told e other

-- lawful lines, each where it may stand and keeping every rule
abbrev pub Tells : TableValue → Told → List Entry → Told → Type 0
Tells table told [] end = told ≡ end
Tells table told (e ∷ es) end = IsLine e × ((rule : Rule) → Keeps table told e rule) × IsSomeAnd (told_next table.files told e) (λ next. Tells table next es end)

-- no judgement of a text fails
pub record PassesAll (table : TableValue) (text : List ℕ) : Type 0 where
  pub lines : List Entry
  pub end : Told
  pub tells : Tells table nothing_told lines end
  pub past : end.place ≡ Past
  pub text_is : text ≡ text_of lines

-- a line may not stand where it stands, or is missing: rule 1
abbrev pub FailsByForm : Told → ℕ → List ℕ → ℕ → ℕ → Type 0
FailsByForm told number rest line rule = IsNextBad told.place rest × (line ≡ number) × (rule ≡ 1)

-- a line that may stand there breaks a rule first
pub record FailsByRule (table : TableValue) (told : Told) (number : ℕ) (rest : List ℕ) (line rule : ℕ) : Type 0 where
  pub entry : Entry
  pub more : List ℕ
  pub broken : Rule
  pub is : rest ≡ line_text entry ++ 10 ∷ more
  pub lawful : IsLine entry
  pub placed : IsSome (after told.place entry)
  pub first : IsFirstBroken table told entry broken
  pub at_line : line ≡ line_of told entry broken number
  pub by_number : rule ≡ number_of broken

-- the first judgement that fails, by its line and the number of its rule
pub record FailsFirst (table : TableValue) (text : List ℕ) (line rule : ℕ) : Type 0 where
  pub front : List Entry
  pub rest : List ℕ
  pub told : Told
  pub tells : Tells table nothing_told front told
  pub split : text ≡ text_of front ++ rest
  pub fails : FailsByForm told (length front + 1) rest line rule ⊎ FailsByRule table told (length front + 1) rest line rule
