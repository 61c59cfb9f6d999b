-- The loops over the names of the blocks of a file.
use mir.Val.{bool_byte}
use Rattle.std.proofs.Common.{◌≡◌, ℕ, zero, suc, ◌+◌, ◌<◌, ◌≤◌, List, [], ◌∷◌, ◌++◌, length, take, drop, get_or, Bool, true, false, cond, Some, None, refl, sym, ◌∙◌, ap, subst, arith}
use Rattle.std.specs.Prelude.{map as each, not, ◌||◌, ◌==◌, unwrap_or, if◌then◌else◌}
use Rattle.std.specs.BTreeMap.{BTreeMap, get as kept}
use Rattle.std.specs.List.{filter}
use Rattle.std.specs.Str.{bytes_eq}
use Rattle.std.proofs.lemmas.Bool.{true≢false, not-true}
use Rattle.std.proofs.lemmas.List.{drop_more, length-take-le, take-append-drop, take_more}
use Rattle.site_forms.specs.Names.{is_listed}
use Rattle.site_forms.specs.Volumes.{Shape, bytes_cmp, distinct_count}
use Rattle.volume_index.proofs.Sets.{count_first, count_last, count_none}
use Rattle.seed_mover.specs.declared.putting.blocks.NewCounts.{NewCounts}
use Rattle.seed_mover.specs.Blocks.{CountsNew, KeepsFirst, KeepsPlaces, is_lacking, is_unused, more_new, place_in}
use Rattle.seed_mover.proofs.FirstPlaces.{count_more, first_kept, own_place, places_more}

-- what tests are worth
pub byte_of : (b : Bool) (n : ℕ) → n ≡ bool_byte b → n ≡ (if b then 1 else 0)
byte_of true n is = is
byte_of false n is = is

pub not_back : (a b : Bool) → a ≡ not b → b ≡ not a
not_back a true is = ap not (sym is)
not_back a false is = ap not (sym is)

-- whether a name is new, at its first place and at another
pub new_first : (held listed none : Bool) → not listed ≡ true → held ≡ not none → none ≡ not (held || listed)
new_first held true none out is = absurd (true≢false (sym out))
new_first true false none out is = not_back true none is
new_first false false none out is = not_back false none is

pub new_later : (held listed first : Bool) → first ≡ not listed → first ≡ false → first ≡ not (held || listed)
new_later true listed first is later = later
new_later false listed first is later = is

-- EACH AT ITS PLACE

pub each_at : {X Y : Type 0} (f : X → Y) (xs : List X) (k : ℕ) (d : X) (e : Y) → k < length xs → get_or (each f xs) k e ≡ f (get_or xs k d)
each_at f [] k d e inside = absurd (omega (arith, inside))
each_at f (x ∷ xs) zero d e inside = refl
each_at f (x ∷ xs) (suc k) d e inside = each_at f xs k d e (omega (arith, inside))

-- COUNTS

pub few_more : (a : Shape) (c : NewCounts) (name : List ℕ) (first : Bool) (k : ℕ) → c.names ≤ k → c.unused ≤ k → c.lacking ≤ k
    → ((if first then more_new a c name else c).names ≤ k + 1) × ((if first then more_new a c name else c).unused ≤ k + 1) × ((if first then more_new a c name else c).lacking ≤ k + 1)
few_more a c name true k names unused lacking = (omega (arith, names), at_most (is_unused a name) c.unused unused, at_most (is_lacking a name) c.lacking lacking)
  where
    at_most : (b : Bool) (n : ℕ) → n ≤ k → n + (if b then 1 else 0) ≤ k + 1
    at_most true n few = omega (arith, few)
    at_most false n few = omega (arith, few)
few_more a c name false k names unused lacking = (omega (arith, names), omega (arith, unused), omega (arith, lacking))

pub counts_none : (a : Shape) (names : List (List ℕ)) → CountsNew a (take 0 names) (record { names = 0; unused = 0; lacking = 0 })
counts_none a names = record { names_are = sym count_none; unused = sym count_none; lacking = sym count_none }

new_by : (p : List ℕ → Bool) (xs : List (List ℕ)) (x : List ℕ) (n : ℕ) → is_listed xs x ≡ false → n ≡ distinct_count (filter p xs) → n + (if p x then 1 else 0) ≡ distinct_count (filter p (xs ++ x ∷ []))
new_by p xs x n out is = ap (λ (k : ℕ). k + cond (p x) 1 0) is ∙ sym (count_more p xs x ∙ ap (λ (b : Bool). cond b (distinct_count (filter p xs)) (distinct_count (filter p xs) + cond (p x) 1 0)) out)

old_by : (p : List ℕ → Bool) (xs : List (List ℕ)) (x : List ℕ) (n : ℕ) → is_listed xs x ≡ true → n ≡ distinct_count (filter p xs) → n ≡ distinct_count (filter p (xs ++ x ∷ []))
old_by p xs x n there is = is ∙ sym (count_more p xs x ∙ ap (λ (b : Bool). cond b (distinct_count (filter p xs)) (distinct_count (filter p xs) + cond (p x) 1 0)) there)

not_false : (b : Bool) → not b ≡ false → b ≡ true
not_false true is = refl
not_false false is = absurd (true≢false is)

counts_by : (a : Shape) (xs : List (List ℕ)) (x : List ℕ) (c : NewCounts) (first : Bool) → first ≡ not (is_listed xs x) → CountsNew a xs c → CountsNew a (xs ++ x ∷ []) (if first then more_new a c x else c)
counts_by a xs x c true is counts =
    let out : is_listed xs x ≡ false = not-true (is_listed xs x) (sym is) in
    record {
      names_are = ap (λ (n : ℕ). n + 1) counts.names_are ∙ sym (count_last xs x ∙ ap (λ (b : Bool). cond b (distinct_count xs) (distinct_count xs + 1)) out);
      unused = new_by (is_unused a) xs x c.unused out counts.unused;
      lacking = new_by (is_lacking a) xs x c.lacking out counts.lacking;
    }
counts_by a xs x c false is counts =
    let there : is_listed xs x ≡ true = not_false (is_listed xs x) (sym is) in
    record {
      names_are = counts.names_are ∙ sym (count_last xs x ∙ ap (λ (b : Bool). cond b (distinct_count xs) (distinct_count xs + 1)) there);
      unused = old_by (is_unused a) xs x c.unused there counts.unused;
      lacking = old_by (is_lacking a) xs x c.lacking there counts.lacking;
    }

-- no more than there are names
one_more : (b : Bool) (n m k : ℕ) → m ≡ cond b n (n + 1) → n ≤ k → m ≤ k + 1
one_more true n m k is few = omega (arith, is, few)
one_more false n m k is few = omega (arith, is, few)

count_few : (xs : List (List ℕ)) → distinct_count xs ≤ length xs
count_few [] = omega (arith, count_none)
count_few (x ∷ xs) =
    let more : distinct_count (x ∷ xs) ≤ length xs + 1 = one_more (is_listed xs x) (distinct_count xs) (distinct_count (x ∷ xs)) (length xs) (count_first xs x) (count_few xs) in omega (arith, more)

filter_few : (p : List ℕ → Bool) (xs : List (List ℕ)) → length (filter p xs) ≤ length xs
filter_few p [] = omega arith
filter_few p (x ∷ xs) =
    elim (p x) as (λ b. length (cond b (x ∷ filter p xs) (filter p xs)) ≤ length (x ∷ xs)) [
      | true ↦ omega (arith, filter_few p xs)
      | false ↦ omega (arith, filter_few p xs)
    ]

pub counts_few : (a : Shape) (names : List (List ℕ)) (c : NewCounts) → CountsNew a names c → (c.names ≤ length names) × (c.unused ≤ length names)
counts_few a names c counts = (
  omega (arith, counts.names_are, count_few names),
  omega (arith, counts.unused, count_few (filter (is_unused a) names), filter_few (is_unused a) names),
)

module _ (names : List (List ℕ)) (k : ℕ) (inside : k < length names) where
  abbrev own : List ℕ
  own = get_or names k []

  split : names ≡ take k names ++ own ∷ drop (k + 1) names
  split = sym (take-append-drop k names) ∙ ap (λ (l : List (List ℕ)). take k names ++ l) (drop_more names k [] inside)

  front_long : length (take k names) ≡ k
  front_long = length-take-le k names (omega (arith, inside))

  -- a name stands at its first place exactly where the names before it lack it
  pub first_is : (place_in names own == k) ≡ not (is_listed (take k names) own)
  first_is =
      ap (λ (l : List (List ℕ)). place_in l own == k) split
      ∙ ap (λ (n : ℕ). place_in (take k names ++ own ∷ drop (k + 1) names) own == n) (sym front_long)
      ∙ own_place (take k names) own (drop (k + 1) names)

  pub counts_more : (a : Shape) (c : NewCounts) (first : Bool) → first ≡ (place_in names own == k) → CountsNew a (take k names) c → CountsNew a (take (k + 1) names) (if first then more_new a c own else c)
  counts_more a c first is counts =
      subst (λ (l : List (List ℕ)). CountsNew a l (if first then more_new a c own else c)) (sym (take_more names k [] inside)) (counts_by a (take k names) own c first (is ∙ first_is) counts)

  -- PLACES

  pub place_kept : (old : BTreeMap (List ℕ) ℕ) → KeepsPlaces old (take k names) → unwrap_or (kept bytes_cmp old own) k ≡ place_in names own
  place_kept old keeps =
      ap (λ o. unwrap_or o k) (keeps own)
      ∙ ap (unwrap_or (if is_listed (take k names) own then Some (place_in (take k names) own) else None)) (sym front_long)
      ∙ first_kept (take k names) own (drop (k + 1) names)
      ∙ ap (λ (l : List (List ℕ)). place_in l own) (sym split)

  pub keeps_more : (old new : BTreeMap (List ℕ) ℕ) → KeepsPlaces old (take k names) → KeepsFirst old new own k → KeepsPlaces new (take (k + 1) names)
  keeps_more old new keeps first q =
      first q
      ∙ ap (λ o. if bytes_eq q own then Some (unwrap_or o k) else kept bytes_cmp old q) (keeps own)
      ∙ ap (λ o. if bytes_eq q own then Some (unwrap_or (if is_listed (take k names) own then Some (place_in (take k names) own) else None) k) else o) (keeps q)
      ∙ ap (λ (n : ℕ). if bytes_eq q own then Some (unwrap_or (if is_listed (take k names) own then Some (place_in (take k names) own) else None) n) else (if is_listed (take k names) q then Some (place_in (take k names) q) else None)) (sym front_long)
      ∙ places_more (take k names) own q
      ∙ ap (λ (l : List (List ℕ)). if is_listed l q then Some (place_in l q) else None) (sym (take_more names k [] inside))

  pub places_so_far : each (place_in names) (take (k + 1) names) ≡ each (place_in names) (take k names) ++ place_in names own ∷ []
  places_so_far = ap (each (place_in names)) (take_more names k [] inside) ∙ each_push (take k names)
    where
      each_push : (xs : List (List ℕ)) → each (place_in names) (xs ++ own ∷ []) ≡ each (place_in names) xs ++ place_in names own ∷ []
      each_push [] = refl
      each_push (x ∷ xs) = ap (λ (l : List ℕ). place_in names x ∷ l) (each_push xs)

pub places_none : (names : List (List ℕ)) (places : BTreeMap (List ℕ) ℕ) → ((q : List ℕ) → kept bytes_cmp places q ≡ None) → KeepsPlaces places (take 0 names)
places_none names places none q = none q
