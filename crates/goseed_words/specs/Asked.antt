-- What words ask for: a command, with a value for each operand.
use Rattle.std.specs.Prelude.{◌≡◌, ℕ, ◌+◌, zero, suc, List, [], ◌∷◌, ◌⊎◌, Contains, length, true}
use Rattle.goseed_words.specs.Commands.{Form, Kind, Reads, Creates, Value, Says, IsLawfulValue, Command, row}

-- a value for each of these operands
abbrev pub Values : List Kind → Type 0
Values [] = Unit {0}
Values (kind ∷ kinds) = Value kind × Values kinds

pub record Asked : Type 0 where
  pub command : Command
  pub values : Values (row command).operands

-- a function of a value for each of these operands
abbrev pub Takes {ℓ} : List Kind → Type ℓ → Type ℓ
Takes [] Result = Result
Takes (kind ∷ kinds) Result = Value kind → Takes kinds Result

-- a function of all values, as one of a value after the other; and back
abbrev pub one_by_one {ℓ} : {Result : Type ℓ} (kinds : List Kind) → (Values kinds → Result) → Takes kinds Result
one_by_one [] of = of tt
one_by_one (kind ∷ kinds) of = λ value. one_by_one kinds (λ values. of (value, values))

abbrev pub all_at_once {ℓ} : {Result : Type ℓ} (kinds : List Kind) → Takes kinds Result → Values kinds → Result
all_at_once [] result values = result
all_at_once (kind ∷ kinds) takes values = all_at_once kinds (takes values.0) values.1

-- this command with these values
abbrev pub asking : (command : Command) → Takes (row command).operands Asked
asking command = one_by_one (row command).operands (λ values. record { command = command; values = values })

-- of the operands' words one of this kind is this one
abbrev pub HasOperand : List Kind → List (List ℕ) → Kind → List ℕ → Type 0
HasOperand (kind ∷ kinds) (word ∷ words) wanted name = ((kind ≡ wanted) × (word ≡ name)) ⊎ HasOperand kinds words wanted name
HasOperand [] words wanted name = ⊥
HasOperand kinds [] wanted name = ⊥

-- a command's name, and as many words as it has operands; none is created that is read
pub record Fits (words : List (List ℕ)) (command : Command) : Type 0 where
  pub operands : List (List ℕ)
  pub split : words ≡ (row command).name ∷ operands
  pub as_many : length operands ≡ length (row command).operands
  pub apart : (name : List ℕ) (form : Form) → HasOperand (row command).operands operands Creates name → ¬ HasOperand (row command).operands operands (Reads form) name

-- each word says the value of its operand
abbrev pub SayAll : (kinds : List Kind) → List (List ℕ) → Values kinds → Type 0
SayAll [] [] values = Unit {0}
SayAll (kind ∷ kinds) (word ∷ words) values = Says kind word values.0 × SayAll kinds words values.1
SayAll [] (word ∷ words) values = ⊥
SayAll (kind ∷ kinds) [] values = ⊥

-- the words ask for this
pub record Asks (words : List (List ℕ)) (asked : Asked) : Type 0 where
  pub fits : Fits words asked.command
  pub say : SayAll (row asked.command).operands fits.operands asked.values

-- of the operands' words, the one with this number, from 0 on, is the first that says nothing of its kind
abbrev pub IsFirstBad : List Kind → List (List ℕ) → ℕ → Type 0
IsFirstBad (kind ∷ kinds) (word ∷ words) zero = (value : Value kind) → ¬ Says kind word value
IsFirstBad (kind ∷ kinds) (word ∷ words) (suc k) = ((value : Value kind) × Says kind word value) × IsFirstBad kinds words k
IsFirstBad [] words k = ⊥
IsFirstBad kinds [] k = ⊥

-- the words are a command's name and operands, and the one at this place is the first bad one; the name is at place 1
pub record HasBadWord (words : List (List ℕ)) (place : ℕ) : Type 0 where
  pub command : Command
  pub fits : Fits words command
  pub number : ℕ
  pub at : place ≡ number + 2
  pub first : IsFirstBad (row command).operands fits.operands number

-- the values are those that words say
abbrev pub AreLawful : (kinds : List Kind) → Values kinds → Type 0
AreLawful [] values = Unit {0}
AreLawful (kind ∷ kinds) values = IsLawfulValue kind values.0 × AreLawful kinds values.1

abbrev pub IsLawful : Asked → Type 0
IsLawful asked = AreLawful (row asked.command).operands asked.values

-- the words are a command's name and operands, and the command creates this name: one of the operands, or whatever they are
pub record IsCreated (words : List (List ℕ)) (name : List ℕ) : Type 0 where
  pub command : Command
  pub fits : Fits words command
  pub created : HasOperand (row command).operands fits.operands Creates name ⊎ Contains (row command).creates name

-- the words ask for a command that reads what has this name as this
pub record AsksToRead (words : List (List ℕ)) (form : Form) (name : List ℕ) : Type 0 where
  pub asked : Asked
  pub asks : Asks words asked
  pub reads : HasOperand (row asked.command).operands asks.fits.operands (Reads form) name

-- the words are a command's name and operands, and the command uses the site
pub record UsesSite (words : List (List ℕ)) : Type 0 where
  pub command : Command
  pub fits : Fits words command
  pub uses : (row command).uses_site ≡ true
