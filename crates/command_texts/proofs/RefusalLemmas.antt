-- The texts of refusals, from their numbers and words.
use Rattle.std.proofs.Common.{◌≡◌, ◌∙◌, ◌++◌, ◌∷◌, [], ap, sym, List, ℕ, refl, append_assoc}
use Rattle.std.specs.Prelude.{codes}
use Rattle.std.specs.List.{flat_map}
use Rattle.std.specs.Fmt.{decimal}
use Rattle.command_texts.specs.Refusals.{Refusal, refusal_text}

-- the words, a space before each
spaced : List (List ℕ) → List ℕ
spaced words = flat_map (λ word. 32 ∷ word) words

from_parts : (r : Refusal) (n : ℕ) (words : List (List ℕ)) (end text : List ℕ) → n ≡ r.number → r.words ≡ words → spaced words ++ 10 ∷ [] ≡ end
    → text ≡ codes "refused " ++ (decimal n ++ end) → text ≡ refusal_text r
unfolding spaced
from_parts r n words end text number same ends is =
    let inner : decimal n ++ end ≡ (decimal r.number ++ spaced r.words) ++ 10 ∷ [] =
    ap (λ (t : List ℕ). decimal n ++ t) (sym ends) ∙ (sym (append_assoc (decimal n) (spaced words) (10 ∷ [])) ∙ (ap (λ (m : ℕ). (decimal m ++ spaced words) ++ 10 ∷ []) number ∙ ap (λ (ws : List (List ℕ)). (decimal r.number ++ spaced ws) ++ 10 ∷ []) (sym same))) in
    is ∙ ap (λ (t : List ℕ). codes "refused " ++ t) inner

one_end : (a : List ℕ) → spaced (a ∷ []) ++ 10 ∷ [] ≡ 32 ∷ (a ++ 10 ∷ [])
unfolding spaced
one_end a = ap (λ (t : List ℕ). 32 ∷ t) (append_assoc a [] (10 ∷ []))

more_end : (a end : List ℕ) (words : List (List ℕ)) → spaced words ++ 10 ∷ [] ≡ end → spaced (a ∷ words) ++ 10 ∷ [] ≡ 32 ∷ (a ++ end)
unfolding spaced
more_end a end words e = ap (λ (t : List ℕ). 32 ∷ t) (append_assoc a (spaced words) (10 ∷ []) ∙ ap (λ (t : List ℕ). a ++ t) e)

pub no_word : (r : Refusal) (n : ℕ) (text : List ℕ) → n ≡ r.number → r.words ≡ [] → text ≡ codes "refused " ++ (decimal n ++ 10 ∷ []) → text ≡ refusal_text r
unfolding spaced
no_word r n text number words is = from_parts r n [] (10 ∷ []) text number words refl is

pub one_word : (r : Refusal) (n : ℕ) (a text : List ℕ) → n ≡ r.number → r.words ≡ a ∷ [] → text ≡ codes "refused " ++ (decimal n ++ 32 ∷ (a ++ 10 ∷ [])) → text ≡ refusal_text r
one_word r n a text number words is = from_parts r n (a ∷ []) (32 ∷ (a ++ 10 ∷ [])) text number words (one_end a) is

pub two_words : (r : Refusal) (n : ℕ) (a b text : List ℕ) → n ≡ r.number → r.words ≡ a ∷ b ∷ []
    → text ≡ codes "refused " ++ (decimal n ++ 32 ∷ (a ++ 32 ∷ (b ++ 10 ∷ []))) → text ≡ refusal_text r
two_words r n a b text number words is = from_parts r n (a ∷ b ∷ []) (32 ∷ (a ++ 32 ∷ (b ++ 10 ∷ []))) text number words (more_end a _ (b ∷ []) (one_end b)) is

pub three_words : (r : Refusal) (n : ℕ) (a b d text : List ℕ) → n ≡ r.number → r.words ≡ a ∷ b ∷ d ∷ []
    → text ≡ codes "refused " ++ (decimal n ++ 32 ∷ (a ++ 32 ∷ (b ++ 32 ∷ (d ++ 10 ∷ [])))) → text ≡ refusal_text r
three_words r n a b d text number words is =
    from_parts r n (a ∷ b ∷ d ∷ []) (32 ∷ (a ++ 32 ∷ (b ++ 32 ∷ (d ++ 10 ∷ [])))) text number words (more_end a _ (b ∷ d ∷ []) (more_end b _ (d ∷ []) (one_end d))) is
