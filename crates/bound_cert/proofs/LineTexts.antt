-- Lines, their words and their keywords.
use Rattle.std.proofs.Common.{◌≡◌, ◌≢◌, ℕ, ◌<◌, ◌≤◌, ◌^◌, List, [], ◌∷◌, ◌++◌, false, Option, Some, None, IfNone, IfSome, length, codes, refl, ap, ◌∙◌, sym, subst, get_or, ◌+◌, ◌*◌, arith, rules, inl, inr, nat_eq, decimal}
use Rattle.std.specs.List.{AllByRecursion, join_with_byte}
use Rattle.std.specs.Str.Parse.{AllDigits, digits_value}
use Rattle.std.specs.Char.{digit_value}
use Rattle.std.proofs.lemmas.Bool.Decides.{nat_tests}
use Rattle.std.proofs.lemmas.Fmt.{decimal_is_IsNumeral_wide}
use Rattle.std.proofs.lemmas.List.{length-append}
use Rattle.std.proofs.lemmas.List.Elements.{recursion_from_All}
use Rattle.std.proofs.lemmas.List.Splits.{length-slice_split, join_with_byte-slice_split}
use Rattle.bound_cert.specs.declared.heading.Answer.{Answer}
use Rattle.bound_cert.specs.declared.heading.Answer.TheVariants.{Optimal, Infeasible, Open}
use Rattle.seed_text.specs.SetWords.{IsHexDigit, IsSetWord}
use Rattle.bound_cert.specs.Words.{words, is_space, IsWord}
use Rattle.bound_cert.specs.Lines.{Entry, Title, Span, Pinned, Answered, Planned, NoPlan, Bounded, NoBound, Branch, Low, High, Leaf, Give, End, answer_word, keyword, operands, line_text, IsLine}
use Rattle.bound_cert.specs.Grammar.{text_of}
use Rattle.bound_cert.proofs.Splitting.{split_joined, each_free, joined_free}

-- what stands behind the first, of two readings
pub behind : {X : Type 0} {ws xs ys : List X} {x y : X} → ws ≡ x ∷ xs → ws ≡ y ∷ ys → xs ≡ ys
behind p q = cc

pub front : {X : Type 0} {ws xs ys : List X} {x y : X} → ws ≡ x ∷ xs → ws ≡ y ∷ ys → x ≡ y
front p q = cc

pub none_still : {X : Type 0} {P Q : Type 0} (o : Option X) → (P → Q) → IfNone o P → IfNone o Q
none_still None f h = f h
none_still (Some x) f h = tt

pub none_two : {X : Type 0} {P Q R : Type 0} (o : Option X) → (P → Q → R) → IfNone o P → IfNone o Q → IfNone o R
none_two None f h k = f h k
none_two (Some x) f h k = tt

pub some_still : {X : Type 0} {P Q : X → Type 0} (o : Option X) → ((x : X) → P x → Q x) → IfSome o P → IfSome o Q
some_still None f h = tt
some_still (Some x) f h = f x h

digit_above : (c : ℕ) → digit_value c < 10 → 32 < c
digit_above c h = grind (arith, nat_tests, h)

digit_below : (c : ℕ) → digit_value c < 10 → c < 58
digit_below c h = grind (arith, nat_tests, h)

digits_word : (ds : List ℕ) → AllDigits 10 ds → IsWord ds
digits_word [] h = tt
digits_word (c ∷ ds) h = (digit_above c h.0, digits_word ds h.1)

number_word : (n : ℕ) → n < 10 ^ 64 → IsWord (decimal n)
number_word n h = digits_word (decimal n) (decimal_is_IsNumeral_wide n h).0.1

-- a number is no word
first_digit : (ds : List ℕ) (c : ℕ) (rest : List ℕ) → AllDigits 10 ds → ds ≡ c ∷ rest → c < 58
first_digit [] c rest h e = cc
first_digit (d ∷ ds) c rest h e = let f : d ≡ c = cc in omega (arith, digit_below d h.0, f)

pub no_number : (n c : ℕ) (rest : List ℕ) → n < 10 ^ 64 → 58 ≤ c → decimal n ≢ c ∷ rest
no_number n c rest h l e = omega (arith, l, first_digit (decimal n) c rest (decimal_is_IsNumeral_wide n h).0.1 e)

hex_word : (w : List ℕ) → AllByRecursion IsHexDigit w → IsWord w
hex_word [] h = tt
hex_word (c ∷ w) h = (elim h.0 [ inl l ↦ omega arith | inr l ↦ omega arith ], hex_word w h.1)

set_word : (w : List ℕ) → IsSetWord w → IsWord w
set_word w (inl e) = subst IsWord (sym e) (omega arith, tt)
set_word w (inr h) = hex_word w (recursion_from_All IsHexDigit w h.digits)

answer_is_word : (a : Answer) → IsWord (answer_word a)
answer_is_word Optimal = search rules
answer_is_word Infeasible = search rules
answer_is_word Open = search rules

line_words : (l : Entry) → IsLine l → AllByRecursion IsWord (keyword l ∷ operands l)
line_words (Title v) h = (search rules, (number_word v (omega arith), tt))
line_words (Span l u) h = (search rules, (number_word l (omega arith), (number_word u (omega arith), tt)))
line_words (Pinned g s) h = (search rules, (set_word g h.0, (set_word s h.1, tt)))
line_words (Answered a) h = (search rules, (answer_is_word a, tt))
line_words (Planned s m r) h = (search rules, (set_word s h.0, (number_word m (omega arith), (number_word r (omega arith), tt))))
line_words NoPlan h = search rules
line_words (Bounded z) h = (search rules, (number_word z (omega arith), tt))
line_words NoBound h = search rules
line_words (Branch f p q a b) h = (search rules, (number_word f (omega arith), (set_word p h.1, (set_word q h.2, (number_word a (omega arith), (number_word b (omega arith), tt))))))
line_words Low h = search rules
line_words High h = search rules
line_words (Leaf p q k) h = (search rules, (number_word p (omega arith), (number_word q (omega arith), (number_word k (omega arith), tt))))
line_words (Give c f a b) h = (search rules, (number_word c (omega arith), (number_word f (omega arith), (number_word a (omega arith), (number_word b (omega arith), tt)))))
line_words End h = search rules

-- the words of a line's text
pub words_of_line : (l : Entry) → IsLine l → words (line_text l) ≡ keyword l ∷ operands l
words_of_line l h = split_joined 32 (keyword l) (operands l) (each_free 32 (omega arith) (keyword l ∷ operands l) (line_words l h))

pub some_words : (text : List ℕ) → words text ≢ []
some_words text e = let h = length-slice_split is_space text in let k = ap length e in omega (arith, h, k)

-- no two numbers are spelled alike
pub decimal_apart : (m n : ℕ) → m < 10 ^ 64 → n < 10 ^ 64 → decimal m ≡ decimal n → m ≡ n
decimal_apart m n hm hn e = sym (decimal_is_IsNumeral_wide m hm).1 ∙ (ap (digits_value 10) e ∙ (decimal_is_IsNumeral_wide n hn).1)

pub text_of_words : (text w : List ℕ) (ws vs : List (List ℕ)) → words text ≡ w ∷ ws → w ∷ ws ≡ vs → text ≡ join_with_byte 32 vs
text_of_words text w ws vs p q = sym (join_with_byte-slice_split 32 text) ∙ ap (join_with_byte 32) (p ∙ q)

-- no LF is in a line's text
pub line_free : (l : Entry) → IsLine l → AllByRecursion (λ b. nat_eq b 10 ≡ false) (line_text l)
line_free l h = joined_free 10 (omega arith) (omega arith) (keyword l ∷ operands l) (line_words l h)

-- the first and the rest of equal lists
pub head_same : {X : Type 0} {x y : X} {xs ys : List X} → x ∷ xs ≡ y ∷ ys → x ≡ y
head_same e = cc

pub tail_same : {X : Type 0} {x y : X} {xs ys : List X} → x ∷ xs ≡ y ∷ ys → xs ≡ ys
tail_same e = cc

-- tells keywords apart: the first two bytes
abbrev pub key : List ℕ → ℕ
key w = get_or w 0 0 + 300 * get_or w 1 0

-- what no line of one keyword is, no line is
pub only_title : (w : List ℕ) (ws : List (List ℕ)) → w ≡ codes "goseed" → ((v : ℕ) → IsLine (Title v) → ws ≢ operands (Title v)) → (l : Entry) → IsLine l → w ∷ ws ≢ keyword l ∷ operands l
only_title w ws k n (Title v) h e = n v h (tail_same e)
only_title w ws k n l h e = absurd (omega (arith, ap key (sym k ∙ head_same e)))

pub only_span : (w : List ℕ) (ws : List (List ℕ)) → w ≡ codes "range" → ((a b : ℕ) → IsLine (Span a b) → ws ≢ operands (Span a b)) → (l : Entry) → IsLine l → w ∷ ws ≢ keyword l ∷ operands l
only_span w ws k n (Span a b) h e = n a b h (tail_same e)
only_span w ws k n l h e = absurd (omega (arith, ap key (sym k ∙ head_same e)))

pub only_pins : (w : List ℕ) (ws : List (List ℕ)) → w ≡ codes "pins" → ((g s : List ℕ) → IsLine (Pinned g s) → ws ≢ operands (Pinned g s)) → (l : Entry) → IsLine l → w ∷ ws ≢ keyword l ∷ operands l
only_pins w ws k n (Pinned g s) h e = n g s h (tail_same e)
only_pins w ws k n l h e = absurd (omega (arith, ap key (sym k ∙ head_same e)))

pub only_answer : (w : List ℕ) (ws : List (List ℕ)) → w ≡ codes "answer" → ((a : Answer) → ws ≢ operands (Answered a)) → (l : Entry) → IsLine l → w ∷ ws ≢ keyword l ∷ operands l
only_answer w ws k n (Answered a) h e = n a (tail_same e)
only_answer w ws k n l h e = absurd (omega (arith, ap key (sym k ∙ head_same e)))

pub only_plan : (w : List ℕ) (ws : List (List ℕ)) → w ≡ codes "plan" → ws ≢ operands NoPlan → ((s : List ℕ) (m r : ℕ) → IsLine (Planned s m r) → ws ≢ operands (Planned s m r)) → (l : Entry) → IsLine l → w ∷ ws ≢ keyword l ∷ operands l
only_plan w ws k none n NoPlan h e = none (tail_same e)
only_plan w ws k none n (Planned s m r) h e = n s m r h (tail_same e)
only_plan w ws k none n l h e = absurd (omega (arith, ap key (sym k ∙ head_same e)))

pub only_bound : (w : List ℕ) (ws : List (List ℕ)) → w ≡ codes "bound" → ws ≢ operands NoBound → ((z : ℕ) → IsLine (Bounded z) → ws ≢ operands (Bounded z)) → ((p q k : ℕ) → IsLine (Leaf p q k) → ws ≢ operands (Leaf p q k)) → (l : Entry) → IsLine l → w ∷ ws ≢ keyword l ∷ operands l
only_bound w ws k none z n NoBound h e = none (tail_same e)
only_bound w ws k none z n (Bounded b) h e = z b h (tail_same e)
only_bound w ws k none z n (Leaf p q g) h e = n p q g h (tail_same e)
only_bound w ws k none z n l h e = absurd (omega (arith, ap key (sym k ∙ head_same e)))

pub only_branch : (w : List ℕ) (ws : List (List ℕ)) → w ≡ codes "branch" → ((f : ℕ) (p q : List ℕ) (a b : ℕ) → IsLine (Branch f p q a b) → ws ≢ operands (Branch f p q a b)) → (l : Entry) → IsLine l → w ∷ ws ≢ keyword l ∷ operands l
only_branch w ws k n (Branch f p q a b) h e = n f p q a b h (tail_same e)
only_branch w ws k n l h e = absurd (omega (arith, ap key (sym k ∙ head_same e)))

pub only_give : (w : List ℕ) (ws : List (List ℕ)) → w ≡ codes "give" → ((c f a b : ℕ) → IsLine (Give c f a b) → ws ≢ operands (Give c f a b)) → (l : Entry) → IsLine l → w ∷ ws ≢ keyword l ∷ operands l
only_give w ws k n (Give c f a b) h e = n c f a b h (tail_same e)
only_give w ws k n l h e = absurd (omega (arith, ap key (sym k ∙ head_same e)))

-- tells the kinds of lines apart: the number of words, and the first byte
abbrev mark : List (List ℕ) → ℕ
mark ws = length ws + 10 * get_or (get_or ws 0 []) 0 0

same_answer : (a b : Answer) → answer_word a ≡ answer_word b → a ≡ b
same_answer Optimal Optimal e = refl
same_answer Infeasible Infeasible e = refl
same_answer Open Open e = refl
same_answer a b e = cc

same_words : (l m : Entry) → IsLine l → IsLine m → keyword l ∷ operands l ≡ keyword m ∷ operands m → l ≡ m
same_words (Title v) (Title w) h k e = let ev = decimal_apart v w (omega arith) (omega arith) cc in cc
same_words (Span a b) (Span c d) h k e =
    let ea = decimal_apart a c (omega arith) (omega arith) cc in
    let eb = decimal_apart b d (omega arith) (omega arith) cc in
    cc
same_words (Pinned g s) (Pinned f t) h k e = cc
same_words (Answered a) (Answered b) h k e = let ea = same_answer a b cc in cc
same_words (Planned s m r) (Planned t n u) h k e =
    let em = decimal_apart m n (omega arith) (omega arith) cc in
    let er = decimal_apart r u (omega arith) (omega arith) cc in
    cc
same_words NoPlan NoPlan h k e = refl
same_words (Bounded a) (Bounded b) h k e = let ea = decimal_apart a b (omega arith) (omega arith) cc in cc
same_words (Bounded a) NoBound h k e = let x : decimal a ≡ codes "none" = cc in absurd (no_number a 110 _ (omega arith) (omega arith) x)
same_words NoBound (Bounded a) h k e = let x : decimal a ≡ codes "none" = cc in absurd (no_number a 110 _ (omega arith) (omega arith) x)
same_words NoBound NoBound h k e = refl
same_words (Branch f p q a b) (Branch g r s c d) h k e =
    let ef = decimal_apart f g (omega arith) (omega arith) cc in
    let ea = decimal_apart a c (omega arith) (omega arith) cc in
    let eb = decimal_apart b d (omega arith) (omega arith) cc in
    cc
same_words Low Low h k e = refl
same_words High High h k e = refl
same_words (Leaf p q n) (Leaf r s m) h k e =
    let ep = decimal_apart p r (omega arith) (omega arith) cc in
    let eq = decimal_apart q s (omega arith) (omega arith) cc in
    let en = decimal_apart n m (omega arith) (omega arith) cc in
    cc
same_words (Give c f a b) (Give d g x y) h k e =
    let ec = decimal_apart c d (omega arith) (omega arith) cc in
    let ef = decimal_apart f g (omega arith) (omega arith) cc in
    let ea = decimal_apart a x (omega arith) (omega arith) cc in
    let eb = decimal_apart b y (omega arith) (omega arith) cc in
    cc
same_words End End h k e = refl
same_words l m h k e = let n = ap mark e in absurd (omega (arith, n))

-- no two lines have one text
pub line_apart : (l m : Entry) → IsLine l → IsLine m → line_text l ≡ line_text m → l ≡ m
line_apart l m h k e = same_words l m h k (sym (words_of_line l h) ∙ (ap words e ∙ words_of_line m k))

-- a line has a text
pub line_some : (e : Entry) → 0 < length (line_text e)
line_some (Title v) = omega arith
line_some (Span a b) = omega arith
line_some (Pinned g s) = omega arith
line_some (Answered a) = omega arith
line_some (Planned s m r) = omega arith
line_some NoPlan = omega arith
line_some (Bounded z) = omega arith
line_some NoBound = omega arith
line_some (Branch f p q a b) = omega arith
line_some Low = omega arith
line_some High = omega arith
line_some (Leaf p q k) = omega arith
line_some (Give c f a b) = omega arith
line_some End = omega arith

pub lines_fit : (es : List Entry) → 2 * length es ≤ length (text_of es)
lines_fit [] = omega arith
lines_fit (e ∷ es) =
    omega (arith, line_some e, lines_fit es, length-append (line_text e) (10 ∷ []), length-append (line_text e ++ 10 ∷ []) (text_of es))
