-- The lines of a document, each by itself.
use Rattle.std.specs.Prelude.{ℕ, ◌+◌, ◌<◌, ◌≤◌, ◌^◌, List, [], ◌∷◌, codes}
use Rattle.std.specs.Fmt.{decimal}
use Rattle.bound_cert.specs.declared.heading.Answer.{Answer}
use Rattle.bound_cert.specs.declared.heading.Answer.TheVariants.{Optimal, Infeasible, Open}
use Rattle.bound_cert.specs.declared.text_line.TextLine.{TextLine}
use Rattle.bound_cert.specs.declared.text_line.TextLine.TheVariants as code
use Rattle.seed_text.specs.SetWords.{IsSetWord}
use Rattle.bound_cert.specs.Words.{joined}

-- what a line says; sets are their words
pub data Entry : Type 0 where
  Title : (version : ℕ) → Entry
  Span : (low : ℕ) (high : ℕ) → Entry
  Pinned : (go : List ℕ) (stay : List ℕ) → Entry
  Answered : (answer : Answer) → Entry
  Planned : (set : List ℕ) (migrated : ℕ) (replicated : ℕ) → Entry
  NoPlan : Entry
  Bounded : (bound : ℕ) → Entry
  NoBound : Entry
  Branch : (file : ℕ) (first : List ℕ) (second : List ℕ) (alpha : ℕ) (beta : ℕ) → Entry
  Low : Entry
  High : Entry
  Leaf : (p : ℕ) (q : ℕ) (gives : ℕ) → Entry
  Give : (class : ℕ) (file : ℕ) (charge : ℕ) (reward : ℕ) → Entry
  End : Entry

-- what a line of a text says
abbrev pub entry_of : TextLine → Entry
entry_of (code.Title version) = Title version
entry_of (code.Span low high) = Span low high
entry_of (code.Pinned go stay) = Pinned go.now stay.now
entry_of (code.Answered answer) = Answered answer
entry_of (code.Planned set migrated replicated) = Planned set.now migrated replicated
entry_of code.NoPlan = NoPlan
entry_of (code.Bounded bound) = Bounded bound
entry_of code.NoBound = NoBound
entry_of (code.Branch file first second alpha beta) = Branch file first.now second.now alpha beta
entry_of code.Low = Low
entry_of code.High = High
entry_of (code.Leaf p q gives) = Leaf p q gives
entry_of (code.Give class file charge reward) = Give class file charge reward
entry_of code.End = End

abbrev pub answer_word : Answer → List ℕ
answer_word Optimal = codes "optimal"
answer_word Infeasible = codes "infeasible"
answer_word Open = codes "open"

-- the first word of a line
abbrev pub keyword : Entry → List ℕ
keyword (Title version) = codes "goseed"
keyword (Span low high) = codes "range"
keyword (Pinned go stay) = codes "pins"
keyword (Answered answer) = codes "answer"
keyword (Planned set migrated replicated) = codes "plan"
keyword NoPlan = codes "plan"
keyword (Bounded bound) = codes "bound"
keyword NoBound = codes "bound"
keyword (Branch file first second alpha beta) = codes "branch"
keyword Low = codes "low"
keyword High = codes "high"
keyword (Leaf p q gives) = codes "bound"
keyword (Give class file charge reward) = codes "give"
keyword End = codes "end"

-- and the others
abbrev pub operands : Entry → List (List ℕ)
operands (Title version) = decimal version ∷ []
operands (Span low high) = decimal low ∷ decimal high ∷ []
operands (Pinned go stay) = go ∷ stay ∷ []
operands (Answered answer) = answer_word answer ∷ []
operands (Planned set migrated replicated) = set ∷ decimal migrated ∷ decimal replicated ∷ []
operands NoPlan = codes "none" ∷ []
operands (Bounded bound) = decimal bound ∷ []
operands NoBound = codes "none" ∷ []
operands (Branch file first second alpha beta) = decimal file ∷ first ∷ second ∷ decimal alpha ∷ decimal beta ∷ []
operands Low = []
operands High = []
operands (Leaf p q gives) = decimal p ∷ decimal q ∷ decimal gives ∷ []
operands (Give class file charge reward) = decimal class ∷ decimal file ∷ decimal charge ∷ decimal reward ∷ []
operands End = []

-- the text of a line, without its LF
abbrev pub line_text : Entry → List ℕ
line_text e = joined (keyword e ∷ operands e)

-- the bounds of a line's numbers, and that its sets are words of sets
abbrev pub IsLine : Entry → Type 0
IsLine (Title version) = (1 ≤ version) × (version ≤ 2)
IsLine (Span low high) = (low ≤ high) × (high < 2 ^ 51)
IsLine (Pinned go stay) = IsSetWord go × IsSetWord stay
IsLine (Answered answer) = Unit {0}
IsLine (Planned set migrated replicated) = IsSetWord set × (migrated < 2 ^ 50) × (replicated < 2 ^ 50)
IsLine NoPlan = Unit {0}
IsLine (Bounded bound) = bound < 2 ^ 50
IsLine NoBound = Unit {0}
IsLine (Branch file first second alpha beta) = (file < 16383) × IsSetWord first × IsSetWord second × (alpha < 2 ^ 51) × (beta < 2 ^ 51)
IsLine Low = Unit {0}
IsLine High = Unit {0}
IsLine (Leaf p q gives) = (p ≤ 2 ^ 50) × (1 ≤ q) × (q ≤ 2 ^ 50) × (gives ≤ 4194303)
IsLine (Give class file charge reward) = (class < 1048575) × (file < 16383) × (charge < 2 ^ 100) × (reward < 2 ^ 100) × (1 ≤ charge + reward)
IsLine End = Unit {0}
