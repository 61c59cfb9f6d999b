-- What words mean: an order, or why none.
use Rattle.std.specs.Prelude.{◌≡◌, ℕ, List, map, String, string_bytes, Result, Ok, Err}
use Rattle.std.specs.declared.alloc.Global.{Global}
use Rattle.goseed_words.specs.declared.order.Order.{Order}
use Rattle.goseed_words.specs.declared.order.Order.TheVariants as order
use Rattle.goseed_words.specs.declared.order.WordError.{WordError}
use Rattle.goseed_words.specs.declared.order.WordError.TheVariants.{Usage, BadWord}
use Rattle.goseed_words.specs.Commands.{Command, Best, Weigh, Check, Relax, Plan, Pinned, Gen, Greedy, Gap, Sort, Carry}
use Rattle.goseed_words.specs.Asked.{Asked, Asks, Fits, HasBadWord, asking}

-- the words' bytes
abbrev pub texts : List (String Global) → List (List ℕ)
texts words = map string_bytes words

-- what an order asks for
abbrev pub asked_of : Order → Asked
asked_of (order.Best recipe target slack) = asking Best recipe.now target slack
asked_of (order.Weigh recipe set) = asking Weigh recipe.now set.now
asked_of (order.Check recipe certificate) = asking Check recipe.now certificate.now
asked_of (order.Relax recipe target slack inside outside) = asking Relax recipe.now target slack inside.now outside.now
asked_of (order.Plan recipe document target slack nodes) = asking Plan recipe.now document.now target slack nodes
asked_of (order.Pinned recipe document target slack nodes go stay) = asking Pinned recipe.now document.now target slack nodes go.now stay.now
asked_of (order.Gen number files) = asking Gen number files
asked_of (order.Greedy recipe target slack) = asking Greedy recipe.now target slack
asked_of (order.Gap recipe certificate) = asking Gap recipe.now certificate.now
asked_of (order.Sort recipe out) = asking Sort recipe.now out.now
asked_of (order.Carry recipe document other out) = asking Carry recipe.now document.now other.now out.now

-- usage: no command fits; a bad word: one fits, and this is the place of the first word that says nothing of its kind
abbrev pub IsWordFault : List (List ℕ) → WordError → Type 0
IsWordFault words Usage = (command : Command) → ¬ Fits words command
IsWordFault words (BadWord place) = HasBadWord words place

-- what the words mean
abbrev pub Means : List (List ℕ) → Result Order WordError → Type 0
Means words (Ok order) = Asks words (asked_of order)
Means words (Err error) = IsWordFault words error

-- two meanings that say the same
abbrev pub IsSameMeaning : Result Order WordError → Result Order WordError → Type 0
IsSameMeaning (Ok one) (Ok other) = asked_of one ≡ asked_of other
IsSameMeaning (Err one) (Err other) = one ≡ other
IsSameMeaning (Ok one) (Err other) = ⊥
IsSameMeaning (Err one) (Ok other) = ⊥

-- words mean one thing
abbrev pub OneMeaning : Type 0
OneMeaning = (words : List (List ℕ)) (one other : Result Order WordError) → Means words one → Means words other → IsSameMeaning one other

-- the words mean no order
abbrev pub MeansNoOrder : List (List ℕ) → Type 0
MeansNoOrder words = (error : WordError) × IsWordFault words error
