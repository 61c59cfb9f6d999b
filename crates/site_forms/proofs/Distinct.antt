-- Lists in which no name stands twice, and the set of the names so far.
use Rattle.std.proofs.Common.{◌≡◌, ℕ, ◌+◌, ◌≤◌, List, [], ◌∷◌, ◌++◌, length, take, drop, Bool, true, false, Some, Bor, refl, sym, ◌∙◌, ap, append_assoc}
use Rattle.std.specs.Prelude.{slice_get, not, ◌||◌}
use Rattle.std.specs.BTreeMap.{is_at}
use Rattle.std.specs.BTreeSet.{insert_key}
use Rattle.std.specs.Cmp.{tied_itself}
use Rattle.std.specs.Cmp.Lexicographic.{slice_cmp, nat_list_cmp_total, texts_ties, same_text}
use Rattle.std.specs.List.{list_any}
use Rattle.std.specs.Ordering.{is_eq, nat_cmp, match_ordering}
use Rattle.std.specs.Str.{bytes_eq}
use Rattle.std.specs.declared.cmp.Ordering.{Ordering}
use Rattle.std.specs.declared.cmp.Ordering.TheVariants.{Less, Equal, Greater}
use Rattle.std.proofs.lemmas.Bool.{true≢false, and_parts, and_from, false_from_ne_true, not-true, or_left, or_right, and_left, and_right}
use Rattle.std.proofs.lemmas.List.{take_more, take_all, take-append-drop}
use Rattle.std.proofs.lemmas.List.Folds.{list_any-append}
use Rattle.std.proofs.lemmas.Map.Text.{is_eq-slice_cmp}
use Rattle.std.proofs.lemmas.Option.{slice_get_within, get_or_from_slice_get}
use Rattle.site_forms.specs.Names.{is_listed, is_distinct}

-- A NAME MORE

same_bytes : (q : List ℕ) → bytes_eq q q ≡ true
same_bytes q = texts_ties q q ∙ ap is_eq (tied_itself nat_list_cmp_total q)

listed_there : (names others : List (List ℕ)) (name : List ℕ) → is_listed (names ++ name ∷ others) name ≡ true
listed_there names others name = list_any-append (bytes_eq name) names (name ∷ others) ∙ or_right (is_listed names name) (bytes_eq name name || is_listed others name) (or_left (bytes_eq name name) (is_listed others name) (same_bytes name))

twice_by : (b : Bool) (x name : List ℕ) (xs others : List (List ℕ)) → bytes_eq name x ≡ b → (b || is_listed xs name) ≡ true → (is_listed xs name ≡ true → is_distinct (xs ++ name ∷ others) ≡ false) → is_distinct (x ∷ (xs ++ name ∷ others)) ≡ false
twice_by true x name xs others same listed next =
    and_left (not (is_listed (xs ++ name ∷ others) x)) (is_distinct (xs ++ name ∷ others))
    (ap not (ap (is_listed (xs ++ name ∷ others)) (sym (same_text name x (sym same))) ∙ listed_there xs others name))
twice_by false x name xs others same listed next = and_right (not (is_listed (xs ++ name ∷ others) x)) (is_distinct (xs ++ name ∷ others)) (next listed)

-- behind names among which it stands
pub twice : (names others : List (List ℕ)) (name : List ℕ) → is_listed names name ≡ true → is_distinct (names ++ name ∷ others) ≡ false
twice [] others name listed = absurd (true≢false (sym listed))
twice (x ∷ xs) others name listed = twice_by (bytes_eq name x) x name xs others refl listed (λ next. twice xs others name next)

new_by : (b c : Bool) → (b || c) ≡ false → (b ≡ false) × (c ≡ false)
new_by true c is = absurd (true≢false is)
new_by false c is = (refl, is)

apart_names : (x name : List ℕ) → bytes_eq name x ≡ false → bytes_eq x name ≡ false
apart_names x name other = false_from_ne_true (bytes_eq x name) (λ same. true≢false (sym (ap (bytes_eq name) (same_text x name (sym same)) ∙ same_bytes name) ∙ other))

either_false : (b c : Bool) → b ≡ false → c ≡ false → (b || (c || false)) ≡ false
either_false true c is other = absurd (true≢false is)
either_false false true is other = absurd (true≢false other)
either_false false false is other = refl

-- behind names among which it does not stand
pub once_more : (names : List (List ℕ)) (name : List ℕ) → is_distinct names ≡ true → is_listed names name ≡ false → is_distinct (names ++ name ∷ []) ≡ true
once_more [] name distinct lacks = refl
once_more (x ∷ xs) name distinct lacks =
    let parts = and_parts (not (is_listed xs x)) (is_distinct xs) distinct in
    let apart = new_by (bytes_eq name x) (is_listed xs name) lacks in
    and_from (not (is_listed (xs ++ name ∷ []) x)) (is_distinct (xs ++ name ∷ []))
    (ap not (list_any-append (bytes_eq x) xs (name ∷ []) ∙ either_false (is_listed xs x) (bytes_eq x name) (not-true (is_listed xs x) parts.0) (apart_names x name apart.0)))
    (once_more xs name parts.1 apart.1)

-- THE SET OF THE NAMES SO FAR

-- the order of its keys, and whether one has these bytes
abbrev pub key_cmp : Bor (List ℕ) → Bor (List ℕ) → Ordering
key_cmp x y = slice_cmp nat_cmp x.now y.now

abbrev pub is_key : List ℕ → Bor (List ℕ) → Bool
is_key q key = bytes_eq q key.now

any_alike : {K : Type 0} (p q : K → Bool) → ((k : K) → p k ≡ q k) → (keys : List K) → list_any p keys ≡ list_any q keys
any_alike p q alike [] = refl
any_alike p q alike (k ∷ keys) = λ i. alike k i || any_alike p q alike keys i

or_same : (b c : Bool) → (b || c) ≡ (b || (b || c))
or_same true c = refl
or_same false c = refl

or_between : (a b c : Bool) → (a || (b || c)) ≡ (b || (a || c))
or_between true true c = refl
or_between true false c = refl
or_between false b c = refl

-- a key more
any_inserted : {K : Type 0} (p : K → Bool) (cmp : K → K → Ordering) → ((x y : K) → cmp x y ≡ Equal → p x ≡ p y) → (keys : List K) (key : K) → list_any p (insert_key cmp keys key) ≡ (p key || list_any p keys)
any_inserted p cmp same [] key = refl
any_inserted p cmp same (x ∷ xs) key = by (cmp key x) refl (any_inserted p cmp same xs key)
  where
    by : (o : Ordering) → cmp key x ≡ o → list_any p (insert_key cmp xs key) ≡ (p key || list_any p xs) → list_any p (match_ordering o (key ∷ x ∷ xs) (x ∷ xs) (x ∷ insert_key cmp xs key)) ≡ (p key || (p x || list_any p xs))
    by Less is next = refl
    by Equal is next = or_same (p x) (list_any p xs) ∙ ap (λ (b : Bool). b || (p x || list_any p xs)) (sym (same key x is))
    by Greater is next = ap (λ (b : Bool). p x || b) next ∙ or_between (p x) (p key) (list_any p xs)

same_key : (x y : Bor (List ℕ)) → key_cmp x y ≡ Equal → x.now ≡ y.now
same_key x y is = same_text x.now y.now (sym (sym (is_eq-slice_cmp x.now y.now) ∙ ap is_eq is))

-- the names before a place, as a set has them
pub record AreSeen (keys : List (Bor (List ℕ))) (names : List (List ℕ)) (place : ℕ) : Type 0 where
  pub has : (q : List ℕ) → list_any (is_key q) keys ≡ is_listed (take place names) q
  pub distinct : is_distinct (take place names) ≡ true

pub seen_begins : (names : List (List ℕ)) → AreSeen [] names 0
seen_begins names = record { has = λ q. refl; distinct = refl }

module _ (keys : List (Bor (List ℕ))) (names : List (List ℕ)) (place : ℕ) (name : Bor (List ℕ)) (at : slice_get names place ≡ Some name.now) (seen : AreSeen keys names place) where
  one_taken : take (place + 1) names ≡ take place names ++ name.now ∷ []
  one_taken = take_more names place [] (slice_get_within names place name.now at) ∙ ap (λ (l : List ℕ). take place names ++ l ∷ []) (get_or_from_slice_get names place name.now [] at)

  listed : list_any (is_at (key_cmp name)) keys ≡ is_listed (take place names) name.now
  listed = any_alike (is_at (key_cmp name)) (is_key name.now) (λ k. is_eq-slice_cmp name.now k.now) keys ∙ seen.has name.now

  not_new : (b : Bool) → not b ≡ false → b ≡ true
  not_new true is = refl
  not_new false is = absurd (true≢false is)

  -- a name that the set has stands twice
  pub seen_before : not (list_any (is_at (key_cmp name)) keys) ≡ false → is_distinct names ≡ false
  seen_before is =
      let whole : names ≡ take place names ++ name.now ∷ drop (place + 1) names =
      sym (take-append-drop (place + 1) names) ∙ ap (λ (l : List (List ℕ)). l ++ drop (place + 1) names) one_taken ∙ append_assoc (take place names) (name.now ∷ []) (drop (place + 1) names) in
      ap is_distinct whole ∙ twice (take place names) (drop (place + 1) names) name.now (sym listed ∙ not_new (list_any (is_at (key_cmp name)) keys) is)

  -- a new one is put into it
  pub seen_more : not (list_any (is_at (key_cmp name)) keys) ≡ true → AreSeen (insert_key key_cmp keys name) names (place + 1)
  seen_more is = record {
    has = λ q.
        any_inserted (is_key q) key_cmp (λ x y same. ap (bytes_eq q) (same_key x y same)) keys name
        ∙ ap (λ (b : Bool). bytes_eq q name.now || b) (seen.has q)
        ∙ behind (bytes_eq q name.now) (is_listed (take place names) q)
        ∙ sym (ap (λ (l : List (List ℕ)). is_listed l q) one_taken ∙ list_any-append (bytes_eq q) (take place names) (name.now ∷ []));
    distinct = ap is_distinct one_taken ∙ once_more (take place names) name.now seen.distinct (sym listed ∙ not-true (list_any (is_at (key_cmp name)) keys) is);
  }
    where
      behind : (a b : Bool) → (a || b) ≡ (b || (a || false))
      behind true true = refl
      behind true false = refl
      behind false true = refl
      behind false false = refl

pub seen_all : (keys : List (Bor (List ℕ))) (names : List (List ℕ)) (place : ℕ) → length names ≤ place → AreSeen keys names place → is_distinct names ≡ true
seen_all keys names place all seen = ap is_distinct (sym (take_all place names all)) ∙ seen.distinct
