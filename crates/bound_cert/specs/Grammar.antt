-- Which line may stand where: the heading, the tree in preorder with the gives of each leaf, and `end`.
use Rattle.std.specs.Prelude.{◌≡◌, ◌≢◌, ◌+◌, ◌-◌, ◌≤◌, length, map, IsSome, ℕ, ◌==◌, nat_lt, ◌&&◌, ◌||◌, Bool, true, List, [], ◌∷◌, ◌++◌, Option, Some, None, option_and_then, if◌then◌else◌}
use Rattle.std.specs.List.{flat_map, AllByRecursion}
use Rattle.bound_cert.specs.declared.text_line.TextLine.{TextLine}
use Rattle.bound_cert.specs.declared.place.Place.{Place}
use Rattle.bound_cert.specs.declared.place.Place.TheVariants.{AtTitle, AtSpan, AtPins, AtAnswer, AtPlan, AtBound, AtNode, AtGive, Past}
use Rattle.bound_cert.specs.Lines.{Entry, Title, Span, Pinned, Answered, Planned, NoPlan, Bounded, NoBound, Branch, Low, High, Leaf, Give, End, entry_of, line_text, IsLine}

-- gives rise by class, and then by file
abbrev pub is_above : ℕ → ℕ → Option (ℕ × ℕ) → Bool
is_above class file None = true
is_above class file (Some last) = nat_lt last.0 class || (last.0 == class && nat_lt last.1 file)

-- with so many gives of a leaf still to be read
abbrev pub at_gives : ℕ → ℕ → Option (ℕ × ℕ) → Place
at_gives nodes gives last = if gives == 0 then AtNode nodes else AtGive nodes gives last

-- The place behind a line; none where the line may not stand.
abbrev pub after_title : Entry → Option Place
after_title (Title version) = Some (AtSpan version)
after_title e = None

abbrev pub after_span : ℕ → Entry → Option Place
after_span version (Span low high) = Some (if version == 1 then AtAnswer else AtPins)
after_span version e = None

abbrev pub after_pins : Entry → Option Place
after_pins (Pinned go stay) = Some AtAnswer
after_pins e = None

abbrev pub after_answer : Entry → Option Place
after_answer (Answered answer) = Some AtPlan
after_answer e = None

abbrev pub after_plan : Entry → Option Place
after_plan (Planned set migrated replicated) = Some AtBound
after_plan NoPlan = Some AtBound
after_plan e = None

-- behind the bound one node is to be read, the root
abbrev pub after_bound : Entry → Option Place
after_bound (Bounded bound) = Some (AtNode 1)
after_bound NoBound = Some (AtNode 1)
after_bound e = None

-- where no node is to be read
abbrev pub after_end : Entry → Option Place
after_end End = Some Past
after_end e = None

-- at a node that so many others follow
abbrev pub after_node : ℕ → Entry → Option Place
after_node nodes (Branch file first second alpha beta) = Some (AtNode (nodes + 2))
after_node nodes Low = Some (AtNode nodes)
after_node nodes High = Some (AtNode nodes)
after_node nodes (Leaf p q gives) = Some (at_gives nodes gives None)
after_node nodes e = None

-- at a give that so many others of its leaf follow
abbrev pub after_give : ℕ → ℕ → Option (ℕ × ℕ) → Entry → Option Place
after_give nodes gives last (Give class file charge reward) = if is_above class file last then Some (at_gives nodes gives (Some (class, file))) else None
after_give nodes gives last e = None

abbrev pub after : Place → Entry → Option Place
after AtTitle e = after_title e
after (AtSpan version) e = after_span version e
after AtPins e = after_pins e
after AtAnswer e = after_answer e
after AtPlan e = after_plan e
after AtBound e = after_bound e
after (AtNode nodes) e = if nodes == 0 then after_end e else after_node (nodes - 1) e
after (AtGive nodes gives last) e = if gives == 0 then None else after_give nodes (gives - 1) last e
after Past e = None

-- how many nodes are still to be read
abbrev pub nodes_at : Place → ℕ
nodes_at (AtNode nodes) = nodes
nodes_at (AtGive nodes gives last) = nodes
nodes_at place = 0

-- the place behind lines
abbrev pub after_all : Place → List Entry → Option Place
after_all place [] = Some place
after_all place (e ∷ es) = option_and_then (λ next. after_all next es) (after place e)

-- lines that are lawful and stand where they may from a place on, to the last
pub record LeadsOn (place : Place) (es : List Entry) : Type 0 where
  pub lawful : AllByRecursion IsLine es
  pub placed : after_all place es ≡ Some Past

-- from some node on, and from so many gives of a leaf on
pub record LeadsOnNodes (es : List Entry) : Type 0 where
  pub nodes : ℕ
  pub leads : LeadsOn (AtNode nodes) es

pub record LeadsOnGives (gives : ℕ) (es : List Entry) : Type 0 where
  pub nodes : ℕ
  pub last : Option (ℕ × ℕ)
  pub leads : LeadsOn (at_gives nodes gives last) es

-- lines that are lawful and stand where they may, from the first to the last
abbrev pub AreLines : List Entry → Type 0
AreLines es = LeadsOn AtTitle es

-- a line of a text is a give
abbrev pub IsGiveLine : TextLine → Type 0
IsGiveLine line = (class : ℕ) × (file : ℕ) × (charge : ℕ) × (reward : ℕ) × (entry_of line ≡ Give class file charge reward)

-- what the lines of a text say
abbrev pub entries_of : List TextLine → List Entry
entries_of lines = map entry_of lines

abbrev pub is_lf : ℕ → Bool
is_lf byte = byte == 10

-- each line with its LF
abbrev pub text_of : List Entry → List ℕ
text_of es = flat_map (λ e. line_text e ++ 10 ∷ []) es

-- a text in the grammar
abbrev pub IsInGrammar : List ℕ → Type 0
IsInGrammar text = (es : List Entry) × AreLines es × (text ≡ text_of es)

-- no lawful line that may stand here begins the text; behind the last line no text may
abbrev pub IsNextBad : Place → List ℕ → Type 0
IsNextBad Past rest = rest ≢ []
IsNextBad place rest = (e : Entry) (more : List ℕ) → IsLine e → IsSome (after place e) → rest ≢ line_text e ++ 10 ∷ more

-- The first so many lines are lawful and stand where they may, and the next one is no such line: it is missing, has no
-- LF, or stands behind `end`.
pub record IsFirstBadLine (text : List ℕ) (line : ℕ) : Type 0 where
  pub front : List Entry
  pub rest : List ℕ
  pub place : Place
  pub lines : line ≡ length front + 1
  pub split : text ≡ text_of front ++ rest
  pub lawful : AllByRecursion IsLine front
  pub placed : after_all AtTitle front ≡ Some place
  pub breaks : IsNextBad place rest

-- a version, and what its range is followed by
abbrev pub IsVersion : ℕ → Type 0
IsVersion version = (1 ≤ version) × (version ≤ 2)

abbrev pub behind_span : ℕ → Place
behind_span version = if version == 1 then AtAnswer else AtPins
