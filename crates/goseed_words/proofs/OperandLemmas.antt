-- What a command reads and creates, from the values that its words say.
use Rattle.std.proofs.Common.{◌∷◌, [], ℕ, List, refl, inl, inr}
use Rattle.goseed_words.specs.Commands.{Form, Kind, Reads, Creates}
use Rattle.goseed_words.specs.Asked.{Values, SayAll, HasOperand}

-- one whose first operand is read
pub first_read : (form : Form) (kinds : List Kind) (words : List (List ℕ)) (values : Values (Reads form ∷ kinds)) → SayAll (Reads form ∷ kinds) words values
    → HasOperand (Reads form ∷ kinds) words (Reads form) values.0
first_read form kinds (word ∷ words) values say = inl (refl, say.0)
first_read form kinds [] values say = absurd say

-- one whose second operand is created
pub second_created : (form : Form) (kinds : List Kind) (words : List (List ℕ)) (values : Values (Reads form ∷ Creates ∷ kinds)) → SayAll (Reads form ∷ Creates ∷ kinds) words values
    → HasOperand (Reads form ∷ Creates ∷ kinds) words Creates values.1.0
second_created form kinds (word ∷ next ∷ words) values say = inr (inl (refl, say.1.0))
second_created form kinds (word ∷ []) values say = absurd say.1
second_created form kinds [] values say = absurd say

-- one whose second operand is read
pub second_read : (first form : Form) (kinds : List Kind) (words : List (List ℕ)) (values : Values (Reads first ∷ Reads form ∷ kinds)) → SayAll (Reads first ∷ Reads form ∷ kinds) words values
    → HasOperand (Reads first ∷ Reads form ∷ kinds) words (Reads form) values.1.0
second_read first form kinds (word ∷ next ∷ words) values say = inr (inl (refl, say.1.0))
second_read first form kinds (word ∷ []) values say = absurd say.1
second_read first form kinds [] values say = absurd say

-- one whose third operand is read
pub third_read : (first second form : Form) (kinds : List Kind) (words : List (List ℕ)) (values : Values (Reads first ∷ Reads second ∷ Reads form ∷ kinds))
    → SayAll (Reads first ∷ Reads second ∷ Reads form ∷ kinds) words values → HasOperand (Reads first ∷ Reads second ∷ Reads form ∷ kinds) words (Reads form) values.1.1.0
third_read first second form kinds (word ∷ next ∷ third ∷ words) values say = inr (inr (inl (refl, say.1.1.0)))
third_read first second form kinds (word ∷ next ∷ []) values say = absurd say.1.1
third_read first second form kinds (word ∷ []) values say = absurd say.1
third_read first second form kinds [] values say = absurd say

-- one whose fourth operand is created
pub fourth_created : (first second third : Form) (kinds : List Kind) (words : List (List ℕ)) (values : Values (Reads first ∷ Reads second ∷ Reads third ∷ Creates ∷ kinds))
    → SayAll (Reads first ∷ Reads second ∷ Reads third ∷ Creates ∷ kinds) words values → HasOperand (Reads first ∷ Reads second ∷ Reads third ∷ Creates ∷ kinds) words Creates values.1.1.1.0
fourth_created first second third kinds (word ∷ next ∷ more ∷ last ∷ words) values say = inr (inr (inr (inl (refl, say.1.1.1.0))))
fourth_created first second third kinds (word ∷ next ∷ more ∷ []) values say = absurd say.1.1.1
fourth_created first second third kinds (word ∷ next ∷ []) values say = absurd say.1.1
fourth_created first second third kinds (word ∷ []) values say = absurd say.1
fourth_created first second third kinds [] values say = absurd say
