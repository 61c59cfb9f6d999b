-- The commands: their names and operands, a line each.
use Rattle.std.specs.Prelude.{◌≡◌, ℕ, ◌^◌, ◌<◌, ◌≤◌, List, [], ◌∷◌, Bool, false, codes}
use Rattle.std.specs.Fmt.{decimal}
use Rattle.seed_text.specs.SetWords.{IsSetWord}
use Rattle.goseed_words.specs.declared.amount.Amount.{Amount}
use Rattle.goseed_words.specs.Amounts.{SpellsAmount, IsAmount}

-- what a byte string is read as
pub data Form : Type 0 where
  Recipe : Form
  Certificate : Form

-- what an operand is: the name of a byte string that is read, or of one that is created; a set of files; an amount; a number
-- up to a limit; a count from 1 up to a limit
pub data Kind : Type 0 where
  Reads : Form → Kind
  Creates : Kind
  ASet : Kind
  AnAmount : Kind
  ANumber : ℕ → Kind
  ACount : ℕ → Kind

-- what a word of this kind says
abbrev pub Value : Kind → Type 0
Value (Reads form) = List ℕ
Value Creates = List ℕ
Value ASet = List ℕ
Value AnAmount = Amount
Value (ANumber limit) = ℕ
Value (ACount limit) = ℕ

-- the numbers of a kind: up to its limit, and of 32 bits
pub record IsUpTo (limit n : ℕ) : Type 0 where
  pub within : n ≤ limit
  pub small : n < 2 ^ 32

-- the counts of a kind: such numbers but 0
pub record IsCountTo (limit n : ℕ) : Type 0 where
  pub some : 1 ≤ n
  pub up_to : IsUpTo limit n

-- the word says this: the shelf takes any word as a name; whether a recipe has the set, the recipe tells
abbrev pub Says : (kind : Kind) → List ℕ → Value kind → Type 0
Says (Reads form) word name = word ≡ name
Says Creates word name = word ≡ name
Says ASet word set = (word ≡ set) × IsSetWord word
Says AnAmount word amount = SpellsAmount word amount
Says (ANumber limit) word n = (word ≡ decimal n) × IsUpTo limit n
Says (ACount limit) word n = (word ≡ decimal n) × IsCountTo limit n

-- the values that words of this kind say
abbrev pub IsLawfulValue : (kind : Kind) → Value kind → Type 0
IsLawfulValue (Reads form) name = Unit {0}
IsLawfulValue Creates name = Unit {0}
IsLawfulValue ASet set = IsSetWord set
IsLawfulValue AnAmount amount = IsAmount amount
IsLawfulValue (ANumber limit) n = IsUpTo limit n
IsLawfulValue (ACount limit) n = IsCountTo limit n

pub data Command : Type 0 where
  Best : Command
  Weigh : Command
  Check : Command
  Relax : Command
  Plan : Command
  Pinned : Command
  Gen : Command
  Greedy : Command
  Gap : Command
  Sort : Command
  Carry : Command

-- a command's name and operands, the names that it creates whatever its operands are, and whether it uses the site
pub record Row : Type 0 where
  pub name : List ℕ
  pub operands : List Kind
  pub creates : List (List ℕ)
  pub uses_site : Bool

abbrev pub row : Command → Row
row Best = record { name = codes "best"; operands = Reads Recipe ∷ AnAmount ∷ AnAmount ∷ []; creates = []; uses_site = false }
row Weigh = record { name = codes "weigh"; operands = Reads Recipe ∷ ASet ∷ []; creates = []; uses_site = false }
row Check = record { name = codes "check"; operands = Reads Recipe ∷ Reads Certificate ∷ []; creates = []; uses_site = false }
row Relax = record { name = codes "relax"; operands = Reads Recipe ∷ AnAmount ∷ AnAmount ∷ ASet ∷ ASet ∷ []; creates = []; uses_site = false }
row Plan = record { name = codes "plan"; operands = Reads Recipe ∷ Creates ∷ AnAmount ∷ AnAmount ∷ ANumber 65535 ∷ []; creates = []; uses_site = false }
row Pinned = record { name = codes "pinned"; operands = Reads Recipe ∷ Creates ∷ AnAmount ∷ AnAmount ∷ ANumber 65535 ∷ ASet ∷ ASet ∷ []; creates = []; uses_site = false }
row Gen = record { name = codes "gen"; operands = ANumber 65535 ∷ ACount 16383 ∷ []; creates = codes "gen.csv" ∷ codes "gen.doc" ∷ []; uses_site = false }
row Greedy = record { name = codes "greedy"; operands = Reads Recipe ∷ AnAmount ∷ AnAmount ∷ []; creates = []; uses_site = false }
row Gap = record { name = codes "gap"; operands = Reads Recipe ∷ Reads Certificate ∷ []; creates = []; uses_site = false }
row Sort = record { name = codes "sort"; operands = Reads Recipe ∷ Creates ∷ []; creates = []; uses_site = false }
row Carry = record { name = codes "carry"; operands = Reads Recipe ∷ Reads Certificate ∷ Reads Recipe ∷ Creates ∷ []; creates = []; uses_site = false }
