-- A recipe whose parts are all another's is no larger.
use Rattle.std.specs.Prelude.{◌==◌, Contains, map}
use Rattle.std.proofs.Common.{◌≡◌, ◌∙◌, ◌<◌, ◌≤◌, ◌∷◌, [], ℕ, List, true, sym, ap, subst, length, get_or, arith, inl, inr}
use Rattle.std.specs.List.{IsDistinct, list_any}
use Rattle.std.proofs.lemmas.Bool.{cases_Bool, and_parts, eqb-true}
use Rattle.std.proofs.lemmas.List.{get_or-map, length-map}
use Rattle.std.proofs.lemmas.List.Elements.{Contains-get_or, All-get_or}
use Rattle.std.proofs.lemmas.Map.Keys.{IsDistinct-from_apart, apart_from_distinct}
use Rattle.std.proofs.lemmas.Map.Views.{list_any-from_Contains}
use Rattle.list_facts.proofs.Numbering.{place}
use Rattle.recipe_reader.specs.Lawful.{IsPairBelow}
use Rattle.recipe_reader.specs.Recipes.{RecipeValue, file_number, chunk_number, is_pair, name_at}
use Rattle.recipe_reader.specs.Same.{UsesByName}
use Rattle.recipe_reader.specs.WrittenRows.{file_at}
use Rattle.recipe_reader.proofs.Keeping.{pair_equiv}
use Rattle.recipe_reader.proofs.Sizes.{contains_at}
use Rattle.recipe_reader.proofs.Subsets.{cons_cases, contains_head, contains_tail, length_within}
use Rattle.recipe_order.proofs.Names.{IsKeyed, IsNumbered, number_of_file, number_of_chunk, name_is, uses_of_pair, numbered}

-- each pair is another recipe's by name
abbrev pub UsesWithin : RecipeValue → RecipeValue → Type 0
UsesWithin a b = (file chunk : List ℕ) → UsesByName a file chunk → UsesByName b file chunk

-- the numbers that a pair has in another recipe
abbrev pub carried_pair : RecipeValue → RecipeValue → ℕ × ℕ → ℕ × ℕ
carried_pair a b p = (file_number b.files (file_at a p.0), chunk_number b.chunks (name_at a p.1))

pub exact_pair : (file chunk : ℕ) (q : ℕ × ℕ) → is_pair file chunk q ≡ true → (file, chunk) ≡ q
exact_pair file chunk q e =
    let both = and_parts (file == q.0) (chunk == q.1) e in
    let one = eqb-true file q.0 both.0 in
    let two = eqb-true chunk q.1 both.1 in
    λ i. (one i, two i)

pub contains_pair : (pairs : List (ℕ × ℕ)) (file chunk : ℕ) → list_any (is_pair file chunk) pairs ≡ true → Contains pairs (file, chunk)
contains_pair pairs file chunk any =
    let p = place (is_pair file chunk) pairs any in
    let Within : ℕ × ℕ → Type 0 = λ q. Contains pairs q in
    subst Within (sym (exact_pair file chunk p.item p.passes)) (contains_at pairs _ p.item p.at)

-- a pair among a recipe's is numbered in the other
pub pair_numbered : (a b : RecipeValue) (i : ℕ) → IsKeyed a → IsKeyed b → UsesWithin a b → i < length a.pairs
    → let p = get_or a.pairs i (0, 0) in IsNumbered b (file_at a p.0) (name_at a p.1)
pair_numbered a b i ka kb within lt =
    let p = get_or a.pairs i (0, 0) in
    let any = list_any-from_Contains pair_equiv p a.pairs (Contains-get_or a.pairs i (0, 0) lt) in
    numbered b (file_at a p.0) (name_at a p.1) kb (within (file_at a p.0) (name_at a p.1) (uses_of_pair a p.0 p.1 ka any))

-- two pairs with the same numbers are one
same_carried : (a b : RecipeValue) (p q : ℕ × ℕ) → IsKeyed a → IsPairBelow (length a.files) (length a.chunks) p → IsPairBelow (length a.files) (length a.chunks) q
    → IsNumbered b (file_at a p.0) (name_at a p.1) → IsNumbered b (file_at a q.0) (name_at a q.1) → carried_pair a b p ≡ carried_pair a b q → p ≡ q
same_carried a b p q ka below_p below_q np nq same =
    let files : file_at a p.0 ≡ file_at a q.0 = sym np.file_is ∙ (ap (λ (t : ℕ × ℕ). file_at b t.0) same ∙ nq.file_is) in
    let names : name_at a p.1 ≡ name_at a q.1 = sym np.chunk_is ∙ (ap (λ (t : ℕ × ℕ). name_at b t.1) same ∙ nq.chunk_is) in
    let one : p.0 ≡ q.0 = sym (number_of_file a p.0 ka below_p.file) ∙ (ap (file_number a.files) files ∙ number_of_file a q.0 ka below_q.file) in
    let chunk : (k : ℕ) → k < length a.chunks → chunk_number a.chunks (name_at a k) ≡ k = λ k lt. ap (chunk_number a.chunks) (name_is a k lt) ∙ number_of_chunk a k ka lt in
    let two : p.1 ≡ q.1 = sym (chunk p.1 below_p.chunk) ∙ (ap (chunk_number a.chunks) names ∙ chunk q.1 below_q.chunk) in
    λ i. (one i, two i)

pub carried_differ : (a b : RecipeValue) → IsKeyed a → IsKeyed b → IsDistinct (λ (p : ℕ × ℕ). is_pair p.0 p.1) a.pairs → UsesWithin a b
    → IsDistinct (λ (p : ℕ × ℕ). is_pair p.0 p.1) (map (carried_pair a b) a.pairs)
carried_differ a b ka kb differ within = IsDistinct-from_apart (λ (p : ℕ × ℕ). is_pair p.0 p.1) (map (carried_pair a b) a.pairs) (λ i j d before inside.
    let long = length-map a.pairs (carried_pair a b) in
    let j_in : j < length a.pairs = omega (arith, long) in
    let i_in : i < length a.pairs = omega arith in
    let p = get_or a.pairs i (0, 0) in
    let q = get_or a.pairs j (0, 0) in
    let one = get_or-map (carried_pair a b) a.pairs i (0, 0) d i_in in
    let two = get_or-map (carried_pair a b) a.pairs j (0, 0) d j_in in
    let apart = apart_from_distinct (λ (p : ℕ × ℕ). is_pair p.0 p.1) a.pairs i j (0, 0) differ before j_in in
    let Below : ℕ × ℕ → Type 0 = λ t. IsPairBelow (length a.files) (length a.chunks) t in
    let below_p : Below p = All-get_or Below a.pairs i (0, 0) i_in ka.pairs in
    let below_q : Below q = All-get_or Below a.pairs j (0, 0) j_in ka.pairs in
    let np = pair_numbered a b i ka kb within i_in in
    let nq = pair_numbered a b j ka kb within j_in in
    rw (one, two) (elim (cases_Bool (is_pair (carried_pair a b p).0 (carried_pair a b p).1 (carried_pair a b q))) [
      | inl t ↦
          let same = same_carried a b p q ka below_p below_q np nq (exact_pair (carried_pair a b p).0 (carried_pair a b p).1 (carried_pair a b q) t) in
          let alike : is_pair p.0 p.1 q ≡ true = ap (λ (t : ℕ × ℕ). is_pair t.0 t.1 q) same ∙ pair_equiv.refl q in
          cc (apart, alike)
      | inr f ↦ f
    ]))

pub contains-map_from : {X Y : Type 0} (f : X → Y) (xs : List X) (y : Y) → Contains (map f xs) y → (x : X) × Contains xs x × (y ≡ f x)
contains-map_from f [] y there = absurd (omega (arith, there.1))
contains-map_from f (x ∷ xs) y there = elim (cons_cases (f x) (map f xs) y there) [
  | inl own ↦ (x, contains_head x xs, sym own)
  | inr behind ↦ let r = contains-map_from f xs y behind in (r.0, contains_tail x xs r.0 r.1, r.2)
]

pub carried_within : (a b : RecipeValue) → IsKeyed a → IsKeyed b → UsesWithin a b → (q : ℕ × ℕ) → Contains (map (carried_pair a b) a.pairs) q → Contains b.pairs q
carried_within a b ka kb within q there =
    let from = contains-map_from (carried_pair a b) a.pairs q there in
    let p = from.0 in
    let any = list_any-from_Contains pair_equiv p a.pairs from.1 in
    let n = numbered b (file_at a p.0) (name_at a p.1) kb (within (file_at a p.0) (name_at a p.1) (uses_of_pair a p.0 p.1 ka any)) in
    let Within : ℕ × ℕ → Type 0 = λ t. Contains b.pairs t in
    subst Within (sym from.2) (contains_pair b.pairs (carried_pair a b p).0 (carried_pair a b p).1 n.pair)

pub pairs_within : (a b : RecipeValue) → IsKeyed a → IsKeyed b → IsDistinct (λ (p : ℕ × ℕ). is_pair p.0 p.1) a.pairs → UsesWithin a b → length a.pairs ≤ length b.pairs
pairs_within a b ka kb differ within =
    let long = length-map a.pairs (carried_pair a b) in
    let short = length_within (λ (p : ℕ × ℕ). is_pair p.0 p.1) pair_equiv (map (carried_pair a b) a.pairs) b.pairs (carried_differ a b ka kb differ within) (carried_within a b ka kb within) in
    omega (arith, long, short)
