-- Words mean one thing.
use Rattle.std.proofs.Common.{◌≡◌, ◌∙◌, ◌+◌, ◌∷◌, [], ℕ, zero, suc, List, Option, Some, None, refl, sym, ap, subst, arith}
use Rattle.std.specs.Prelude.{Ok, Err, bytes_eq, if◌then◌else◌}
use Rattle.std.specs.Fmt.{decimal}
use Rattle.std.proofs.lemmas.Fmt.{decimal_injective}
use Rattle.std.proofs.lemmas.List.{same_from_push}
use Rattle.goseed_words.specs.declared.amount.Amount.{Amount}
use Rattle.goseed_words.specs.declared.amount.Amount.TheVariants.{Bytes, Percent}
use Rattle.goseed_words.specs.declared.order.WordError.{WordError}
use Rattle.goseed_words.specs.declared.order.WordError.TheVariants.{Usage, BadWord}
use Rattle.goseed_words.specs.Amounts.{SpellsAmount}
use Rattle.goseed_words.specs.Commands.{Form, Kind, Reads, Creates, ASet, AnAmount, ANumber, ACount, Value, Says, Command, Best, Weigh, Check, Relax, Plan, Pinned, Gen, Greedy, Gap, Sort, Carry, row}
use Rattle.goseed_words.specs.Asked.{Values, Asked, SayAll, Asks, HasOperand, Fits, IsFirstBad}
use Rattle.goseed_words.specs.Orders.{asked_of, IsWordFault, OneMeaning}
use Rattle.goseed_words.proofs.AmountLemmas.{no_percent}

-- the first command with a name
named : List ℕ → Option Command
named name =
    if bytes_eq name (row Best).name then Some Best
    else if bytes_eq name (row Weigh).name then Some Weigh
    else if bytes_eq name (row Check).name then Some Check
    else if bytes_eq name (row Relax).name then Some Relax
    else if bytes_eq name (row Plan).name then Some Plan
    else if bytes_eq name (row Pinned).name then Some Pinned
    else if bytes_eq name (row Gen).name then Some Gen
    else if bytes_eq name (row Greedy).name then Some Greedy
    else if bytes_eq name (row Gap).name then Some Gap
    else if bytes_eq name (row Sort).name then Some Sort
    else if bytes_eq name (row Carry).name then Some Carry
    else None

-- it is the command: names are apart
found : (command : Command) → named (row command).name ≡ Some command
unfolding named
found Best = refl
found Weigh = refl
found Check = refl
found Relax = refl
found Plan = refl
found Pinned = refl
found Gen = refl
found Greedy = refl
found Gap = refl
found Sort = refl
found Carry = refl

one_command : (a b : Command) → (row a).name ≡ (row b).name → a ≡ b
one_command a b same = cc (sym (found a) ∙ (ap named same ∙ found b))

-- what holds of a row's command and operands holds of those of each row of the same words
pub of_row : {words : List (List ℕ)} {a b : Command} (p : Fits words a) (q : Fits words b) (P : Command → List (List ℕ) → Type 0) → P a p.operands → P b q.operands
of_row {words} {a} {b} p q P holds =
    let same : (row a).name ∷ p.operands ≡ (row b).name ∷ q.operands = sym p.split ∙ q.split in
    let operands : p.operands ≡ q.operands = cc same in
    subst (λ (c : Command). P c q.operands) (one_command a b (cc same)) (subst (P a) operands holds)

-- a command that would read what it creates fits no words
pub not_apart : (command : Command) (operands : List (List ℕ)) (name : List ℕ) (form : Form) → HasOperand (row command).operands operands Creates name
    → HasOperand (row command).operands operands (Reads form) name → IsWordFault ((row command).name ∷ operands) Usage
not_apart command operands name form created read other fits =
    let same : (row command).name ∷ operands ≡ (row other).name ∷ fits.operands = fits.split in
    let words : operands ≡ fits.operands = cc same in
    let Has : Kind → Command → List (List ℕ) → Type 0 = λ kind c ops. HasOperand (row c).operands ops kind name in
    let commands = one_command command other (cc same) in
    fits.apart name form
    (subst (λ (c : Command). Has Creates c fits.operands) commands (subst (Has Creates command) words created))
    (subst (λ (c : Command). Has (Reads form) c fits.operands) commands (subst (Has (Reads form) command) words read))

-- a word spells one amount
one_amount : (word : List ℕ) (a b : Amount) → SpellsAmount word a → SpellsAmount word b → a ≡ b
one_amount word (Bytes n) (Bytes m) p q = ap Bytes (decimal_injective n m (omega (arith, p.1)) (omega (arith, q.1)) (sym p.0 ∙ q.0))
one_amount word (Bytes n) (Percent k) p q = absurd (no_percent n 37 (decimal k) (omega (arith, p.1)) (sym p.0 ∙ q.0) refl)
one_amount word (Percent k) (Bytes n) p q = absurd (no_percent n 37 (decimal k) (omega (arith, q.1)) (sym q.0 ∙ p.0) refl)
one_amount word (Percent k) (Percent l) p q =
    let same = same_from_push (decimal k) (decimal l) 37 37 (sym p.0 ∙ q.0) in
    ap Percent (decimal_injective k l (omega (arith, p.1)) (omega (arith, q.1)) same.0)

-- a word says one value of a kind
one_value : (kind : Kind) (word : List ℕ) (a b : Value kind) → Says kind word a → Says kind word b → a ≡ b
one_value (Reads form) word a b p q = sym p ∙ q
one_value Creates word a b p q = sym p ∙ q
one_value ASet word a b p q = sym p.0 ∙ q.0
one_value AnAmount word a b p q = one_amount word a b p q
one_value (ANumber limit) word a b p q = decimal_injective a b (omega (arith, p.1.small)) (omega (arith, q.1.small)) (sym p.0 ∙ q.0)
one_value (ACount limit) word a b p q = let one = p.1.up_to.small in let other = q.1.up_to.small in decimal_injective a b (omega (arith, one)) (omega (arith, other)) (sym p.0 ∙ q.0)

one_values : (kinds : List Kind) (words : List (List ℕ)) (a b : Values kinds) → SayAll kinds words a → SayAll kinds words b → a ≡ b
one_values [] [] a b p q = refl
one_values (kind ∷ kinds) (word ∷ words) a b p q =
    ap (λ (v : Value kind). (v, a.1)) (one_value kind word a.0 b.0 p.0 q.0) ∙ ap (λ (vs : Values kinds). (b.0, vs)) (one_values kinds words a.1 b.1 p.1 q.1)
one_values [] (word ∷ words) a b p q = absurd p
one_values (kind ∷ kinds) [] a b p q = absurd p

pub one_asked : (words : List (List ℕ)) (a b : Asked) → Asks words a → Asks words b → a ≡ b
one_asked words a b p q =
    of_row p.fits q.fits (λ command operands. (values : Values (row command).operands) → SayAll (row command).operands operands values → a ≡ record { command = command; values = values })
    (λ values say. ap (λ (vs : Values (row a.command).operands). record { command = a.command; values = vs }) (one_values (row a.command).operands p.fits.operands a.values values p.say say)) b.values q.say

-- where each word says a value, none is bad
none_bad : (kinds : List Kind) (words : List (List ℕ)) (values : Values kinds) (k : ℕ) → SayAll kinds words values → IsFirstBad kinds words k → ⊥
none_bad (kind ∷ kinds) (word ∷ words) values zero all bad = bad values.0 all.0
none_bad (kind ∷ kinds) (word ∷ words) values (suc k) all bad = none_bad kinds words values.1 k all.1 bad.1
none_bad [] words values k all bad = bad
none_bad (kind ∷ kinds) [] values k all bad = bad

-- one word is the first bad one
one_bad : (kinds : List Kind) (words : List (List ℕ)) (k l : ℕ) → IsFirstBad kinds words k → IsFirstBad kinds words l → k ≡ l
one_bad (kind ∷ kinds) (word ∷ words) zero zero p q = refl
one_bad (kind ∷ kinds) (word ∷ words) zero (suc l) p q = absurd (p q.0.0 q.0.1)
one_bad (kind ∷ kinds) (word ∷ words) (suc k) zero p q = absurd (q p.0.0 p.0.1)
one_bad (kind ∷ kinds) (word ∷ words) (suc k) (suc l) p q = ap suc (one_bad kinds words k l p.1 q.1)
one_bad [] words k l p q = absurd p
one_bad (kind ∷ kinds) [] k l p q = absurd p

pub asked_no_fault : (words : List (List ℕ)) (asked : Asked) (error : WordError) → Asks words asked → IsWordFault words error → ⊥
asked_no_fault words asked Usage p fault = fault asked.command p.fits
asked_no_fault words asked (BadWord place) p fault =
    of_row p.fits fault.fits (λ command operands. (k : ℕ) → IsFirstBad (row command).operands operands k → ⊥)
    (λ k bad. none_bad (row asked.command).operands p.fits.operands asked.values k p.say bad) fault.number fault.first

one_fault : (words : List (List ℕ)) (a b : WordError) → IsWordFault words a → IsWordFault words b → a ≡ b
one_fault words Usage Usage p q = refl
one_fault words Usage (BadWord place) p q = absurd (p q.command q.fits)
one_fault words (BadWord place) Usage p q = absurd (q p.command p.fits)
one_fault words (BadWord place) (BadWord other) p q =
    let bad = of_row p.fits q.fits (λ command operands. IsFirstBad (row command).operands operands p.number) p.first in
    ap BadWord (p.at ∙ (ap (λ (k : ℕ). k + 2) (one_bad (row q.command).operands q.fits.operands p.number q.number bad q.first) ∙ sym q.at))

pub one_meaning : OneMeaning
one_meaning words (Ok a) (Ok b) p q = one_asked words (asked_of a) (asked_of b) p q
one_meaning words (Ok a) (Err b) p q = asked_no_fault words (asked_of a) b p q
one_meaning words (Err a) (Ok b) p q = asked_no_fault words (asked_of b) a q p
one_meaning words (Err a) (Err b) p q = one_fault words a b p q
