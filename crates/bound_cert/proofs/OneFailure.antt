-- At most one judgement of a text fails first.
use Rattle.std.proofs.Common.{◌≡◌, ℕ, ◌+◌, ◌-◌, ◌≤◌, List, [], ◌∷◌, ◌++◌, false, length, take, refl, sym, ◌∙◌, ap, subst, arith, inl, inr, ◌⊎◌, if◌then◌else◌, append_assoc}
use Rattle.std.specs.Prelude.{◌==◌, All}
use Rattle.std.proofs.lemmas.Bool.{cases_order, cases_lt}
use Rattle.std.proofs.lemmas.List.{length-append}
use Rattle.std.proofs.lemmas.Grind.{flat_map-append}
use Rattle.std.proofs.lemmas.List.Elements.{All-nil}
use Rattle.std.proofs.Math.Seq.{take-append-add}
use Rattle.seed_model.specs.Tables.{TableValue}
use Rattle.bound_cert.specs.declared.place.Place.{Place}
use Rattle.bound_cert.specs.Lines.{Entry, IsLine, line_text}
use Rattle.bound_cert.specs.Grammar.{after, text_of, is_lf}
use Rattle.bound_cert.specs.Judgements.{Told, Tells, Keeps, Rule, Width, Answering, Sums, InReach, Difference, Mixing, Closing, Using, Charging, Rewarding, Reaching, Apart, Pinning, number_of, line_of, IsFirstBroken, FailsByForm, FailsByRule, told_by, nothing_told}
use Rattle.bound_cert.specs.Laws.{OneFailure, RunsOnUnfailed}
use Rattle.bound_cert.specs.Within.{IsUnseen}
use Rattle.bound_cert.proofs.FirstLines.{one_first, no_lf_no_line}
use Rattle.bound_cert.proofs.Placing.{some_same}
use Rattle.bound_cert.proofs.OneReading.{front_line, one_line, not_bad, some_at}
use Rattle.bound_cert.proofs.Telling.{led}

-- the rule of a number
rule_of : ℕ → Rule
rule_of n =
    if n == 2 then Width
    else if n == 3 then Answering
    else if n == 4 then Sums
    else if n == 5 then InReach
    else if n == 6 then Difference
    else if n == 7 then Mixing
    else if n == 8 then Closing
    else if n == 9 then Using
    else if n == 10 then Charging
    else if n == 11 then Rewarding
    else if n == 12 then Reaching
    else if n == 13 then Apart
    else Pinning

rule_back : (rule : Rule) → rule_of (number_of rule) ≡ rule
unfolding rule_of
rule_back Width = refl
rule_back Answering = refl
rule_back Sums = refl
rule_back InReach = refl
rule_back Difference = refl
rule_back Mixing = refl
rule_back Closing = refl
rule_back Using = refl
rule_back Charging = refl
rule_back Rewarding = refl
rule_back Reaching = refl
rule_back Apart = refl
rule_back Pinning = refl

-- a line breaks one rule first
one_broken : (table : TableValue) (told : Told) (e : Entry) (p q : Rule) → IsFirstBroken table told e p → IsFirstBroken table told e q → p ≡ q
one_broken table told e p q a b = elim (cases_order (number_of p) (number_of q)) [
  | inl same ↦ sym (rule_back p) ∙ ap rule_of same ∙ rule_back q
  | inr (inl less) ↦ absurd (a.breaks (b.before p less))
  | inr (inr more) ↦ absurd (b.breaks (a.before q more))
]

abbrev Fails : TableValue → Told → ℕ → List ℕ → ℕ → ℕ → Type 0
Fails table told number rest line rule = FailsByForm told number rest line rule ⊎ FailsByRule table told number rest line rule

-- at one line
same_failure : (table : TableValue) (told : Told) (number : ℕ) (rest : List ℕ) (line rule other second : ℕ) → Fails table told number rest line rule → Fails table told number rest other second
    → (line ≡ other) × (rule ≡ second)
same_failure table told number rest line rule other second (inl a) (inl b) = (a.1 ∙ sym b.1, a.2 ∙ sym b.2)
same_failure table told number rest line rule other second (inl a) (inr b) = absurd (not_bad told.place rest b.more b.entry a.0 b.lawful b.placed b.is)
same_failure table told number rest line rule other second (inr a) (inl b) = absurd (not_bad told.place rest a.more a.entry b.0 a.lawful a.placed a.is)
same_failure table told number rest line rule other second (inr a) (inr b) =
    let same : b.entry ≡ a.entry = one_first rest b.entry a.entry b.more a.more b.lawful a.lawful b.is a.is in
    let rules : a.broken ≡ b.broken = one_broken table told a.entry a.broken b.broken a.first (subst (λ (e : Entry). IsFirstBroken table told e b.broken) same b.first) in (
      a.at_line ∙ ap (λ (r : Rule). line_of told a.entry r number) rules ∙ ap (λ (e : Entry). line_of told e b.broken number) (sym same) ∙ sym b.at_line,
      a.by_number ∙ ap number_of rules ∙ sym b.by_number,
    )

-- and not at a line that is told
no_failure : (table : TableValue) (told end : Told) (number : ℕ) (rest more : List ℕ) (line rule : ℕ) (e : Entry) (es : List Entry) → Tells table told (e ∷ es) end → rest ≡ line_text e ++ 10 ∷ more
    → Fails table told number rest line rule → ⊥
no_failure table told end number rest more line rule e es t is (inl a) =
    let l = led table told e es end t in not_bad told.place rest more e a.0 t.0 (some_at (after told.place e) l.place l.placed) is
no_failure table told end number rest more line rule e es t is (inr a) =
    let same : e ≡ a.entry = one_first rest e a.entry more a.more t.0 a.lawful is a.is in a.first.breaks (subst (λ (x : Entry). Keeps table told x a.broken) same (t.1 a.broken))

-- of two fronts of a text that are told from one start, one goes on where the other ends
record GoesOn (table : TableValue) (short long : List Entry) (told end : Told) (rest : List ℕ) : Type 0 where
  entry : Entry
  entries : List Entry
  more : List ℕ
  whole : long ≡ short ++ entry ∷ entries
  tells : Tells table told (entry ∷ entries) end
  is : rest ≡ line_text entry ++ 10 ∷ more

goes_on_behind : (table : TableValue) (d e : Entry) (short long : List Entry) (told end : Told) (rest : List ℕ) → d ≡ e → GoesOn table short long told end rest → GoesOn table (d ∷ short) (e ∷ long) told end rest
goes_on_behind table d e short long told end rest same g =
    record { entry = g.entry; entries = g.entries; more = g.more; whole = ap (λ (x : Entry). x ∷ long) (sym same) ∙ ap (λ (es : List Entry). d ∷ es) g.whole; tells = g.tells; is = g.is }

Fronts : TableValue → List Entry → List Entry → Told → Told → List ℕ → List ℕ → Type 0
Fronts table xs ys a b r s = ((xs ≡ ys) × (a ≡ b) × (r ≡ s)) ⊎ (GoesOn table xs ys a b r ⊎ GoesOn table ys xs b a s)

fronts : (table : TableValue) (start a b : Told) (xs ys : List Entry) (r s : List ℕ) → Tells table start xs a → Tells table start ys b → text_of xs ++ r ≡ text_of ys ++ s → Fronts table xs ys a b r s
unfolding Fronts
fronts table start a b [] [] r s t u is = inl (refl, sym t ∙ u, is)
fronts table start a b [] (e ∷ ys) r s t u is =
    inr (inl (record { entry = e; entries = ys; more = text_of ys ++ s; whole = refl; tells = subst (λ (x : Told). Tells table x (e ∷ ys) b) t u; is = is ∙ front_line e ys s }))
fronts table start a b (d ∷ xs) [] r s t u is =
    inr (inr (record { entry = d; entries = xs; more = text_of xs ++ r; whole = refl; tells = subst (λ (x : Told). Tells table x (d ∷ xs) a) u t; is = sym is ∙ front_line d xs r }))
fronts table start a b (d ∷ xs) (e ∷ ys) r s t u is =
    let lt = led table start d xs a t in
    let lu = led table start e ys b u in
    let one = one_line d e xs ys r s t.0 u.0 is in
    let same : d ≡ e = one.0 in
    let place : lt.place ≡ lu.place = some_same (sym lt.placed ∙ ap (after start.place) same ∙ lu.placed) in
    let next : told_by table.files start lu.place e ≡ told_by table.files start lt.place d =
    ap (λ (p : Place). told_by table.files start p e) (sym place) ∙ ap (told_by table.files start lt.place) (sym same) in
    elim (fronts table (told_by table.files start lt.place d) a b xs ys r s lt.tells (subst (λ (x : Told). Tells table x ys b) next lu.tells) one.1) [
      | inl equal ↦ inl (ap (λ (es : List Entry). d ∷ es) equal.0 ∙ ap (λ (x : Entry). x ∷ ys) same, equal.1, equal.2)
      | inr (inl g) ↦ inr (inl (goes_on_behind table d e xs ys a b r same g))
      | inr (inr g) ↦ inr (inr (goes_on_behind table e d ys xs b a s (sym same) g))
    ]

pub one_failure : OneFailure
unfolding Fronts
one_failure table text line rule other second a b =
    elim (fronts table nothing_told a.told b.told a.front b.front a.rest b.rest a.tells b.tells (sym a.split ∙ b.split)) [
      | inl equal ↦
          same_failure table a.told (length a.front + 1) a.rest line rule other second a.fails
          (subst (λ (es : List Entry). Fails table a.told (length es + 1) a.rest other second) (sym equal.0)
          (subst (λ (told : Told). Fails table told (length b.front + 1) a.rest other second) (sym equal.1)
          (subst (λ (rest : List ℕ). Fails table b.told (length b.front + 1) rest other second) (sym equal.2) b.fails)))
      | inr (inl g) ↦ absurd (no_failure table a.told b.told (length a.front + 1) a.rest g.more line rule g.entry g.entries g.tells g.is a.fails)
      | inr (inr g) ↦ absurd (no_failure table b.told a.told (length b.front + 1) b.rest g.more other second g.entry g.entries g.tells g.is b.fails)
    ]

-- where no LF is seen, no line is
unseen_line : (n : ℕ) (e : Entry) (more : List ℕ) → IsLine e → All (λ byte. is_lf byte ≡ false) (take n (line_text e ++ 10 ∷ more)) → n ≤ length (line_text e)
unseen_line n e more lawful none = elim (cases_lt (length (line_text e)) n) [
  | inl lt ↦
      let line : List ℕ = line_text e ++ 10 ∷ [] in
      let k : ℕ = n - length line in
      let size : length line ≡ length (line_text e) + 1 = length-append (line_text e) (10 ∷ []) in
      let long : n ≡ length line + k = omega (arith, size, lt) in
      let front : take n (line_text e ++ 10 ∷ more) ≡ line_text e ++ 10 ∷ take k more =
      ap (take n) (sym (append_assoc (line_text e) (10 ∷ []) more)) ∙ ap (λ m. take m (line ++ more)) long ∙ take-append-add line more k ∙ append_assoc (line_text e) (10 ∷ []) (take k more) in
      absurd (no_lf_no_line (take n (line_text e ++ 10 ∷ more)) e (take k more) none lawful front)
  | inr ge ↦ ge
]

-- so what goes on behind the lines that are seen is unseen
unseen_behind : (limit : ℕ) (text rest s : List ℕ) (short long entries : List Entry) (e : Entry) (more : List ℕ) → IsLine e → long ≡ short ++ e ∷ entries → rest ≡ line_text e ++ 10 ∷ more
    → IsUnseen limit text short rest → IsUnseen limit text long s
unseen_behind limit text rest s short long entries e more lawful whole is u =
    let room = unseen_line (limit - length (text_of short)) e more lawful (subst (λ (t : List ℕ). All (λ byte. is_lf byte ≡ false) (take (limit - length (text_of short)) t)) is u.unended) in
    let size : length (text_of long) ≡ length (text_of short) + length (text_of (e ∷ entries)) =
    ap (λ (es : List Entry). length (text_of es)) whole ∙ (ap length (flat_map-append _ short (e ∷ entries)) ∙ length-append (text_of short) (text_of (e ∷ entries))) in
    let first : length (text_of (e ∷ entries)) ≡ length (line_text e ++ 10 ∷ []) + length (text_of entries) = length-append (line_text e ++ 10 ∷ []) (text_of entries) in
    let one : length (line_text e ++ 10 ∷ []) ≡ length (line_text e) + 1 = length-append (line_text e) (10 ∷ []) in
    let none : limit - length (text_of long) ≡ 0 = omega (arith, room, size, first, one) in
    record { long = u.long; unended = subst (λ n. All (λ byte. is_lf byte ≡ false) (take n s)) (sym none) (All-nil _); narrow = omega (arith, room, size, first, one) }

pub runs_on_unfailed : RunsOnUnfailed
unfolding Fronts
runs_on_unfailed table limit text line rule p q =
    let f = q.failure in
    elim (fronts table nothing_told p.told f.told p.front f.front p.rest f.rest p.tells f.tells (sym p.split ∙ f.split)) [
      | inl equal ↦ q.seen (subst (λ (es : List Entry). IsUnseen limit text es f.rest) equal.0 (subst (λ (rest : List ℕ). IsUnseen limit text p.front rest) equal.2 p.unseen))
      | inr (inl g) ↦ q.seen (unseen_behind limit text p.rest f.rest p.front f.front g.entries g.entry g.more g.tells.0 g.whole g.is p.unseen)
      | inr (inr g) ↦ no_failure table f.told p.told (length f.front + 1) f.rest g.more line rule g.entry g.entries g.tells g.is f.fails
    ]
