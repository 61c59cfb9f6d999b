-- Recipes that are one but for their order have the same sums of every set of names.
use Rattle.std.specs.Prelude.{◌==◌, ◌&&◌, not, map, sum_by, if◌then◌else◌}
use Rattle.std.proofs.Common.{◌≡◌, ◌∙◌, ◌∷◌, [], ℕ, List, Bool, true, refl, sym, ap, length, arith, inl, inr, eq-eqb}
use Rattle.std.specs.List.{list_all, list_any}
use Rattle.std.proofs.lemmas.Bool.{cases_Bool, eqb-true}
use Rattle.std.proofs.lemmas.List.{get_or-map, length-map}
use Rattle.std.proofs.lemmas.List.FromFn.{fill_by_all}
use Rattle.std.proofs.lemmas.Map.Keys.{any_passes_from_place}
use Rattle.list_facts.proofs.Numbering.{place}
use Rattle.seed_model.specs.declared.table.Class.{Class}
use Rattle.seed_model.specs.Sums.{bytes_where}
use Rattle.recipe_reader.specs.Lawful.{IsRecipe}
use Rattle.recipe_reader.specs.Recipes.{NamedChunk, RecipeValue, chunk_class, chunk_number, file_number, is_chunk, is_pair, name_at, table_of, users_of}
use Rattle.recipe_reader.specs.WrittenRows.{file_at}
use Rattle.recipe_reader.proofs.Keeping.{chunk_equiv}
use Rattle.recipe_reader.proofs.Subsets.{sum_within}
use Rattle.incidence.proofs.ChunkTables.{sum_by-map}
use Rattle.incidence.proofs.Exact.{users_exact}
use Rattle.recipe_order.specs.Laws.{AreAlike, KeepsSums, KeepsBytes}
use Rattle.recipe_order.specs.Reordered.{named_set}
use Rattle.recipe_order.proofs.Names.{keyed, no_chunk, name_is, size_is, number_of_chunk, chunk_by_name, pair_below, uses_of_pair, numbered}

pub turned : (a b : RecipeValue) → AreAlike a b → AreAlike b a
turned a b h = record {
  first = h.second;
  second = h.first;
  reordered = record {
    files = λ name. ((h.reordered.files name).1, (h.reordered.files name).0);
    chunks = λ chunk. ((h.reordered.chunks chunk).1, (h.reordered.chunks chunk).0);
    pairs = λ file chunk. ((h.reordered.pairs file chunk).1, (h.reordered.pairs file chunk).0);
  };
}

-- the users of the chunk with a name
abbrev pub users_named : RecipeValue → List ℕ → List ℕ
users_named r name = users_of r (chunk_number r.chunks name)

-- a number of a list that passes a test
any_of : (test : ℕ → Bool) (xs : List ℕ) (x : ℕ) → list_any (λ y. x == y) xs ≡ true → test x ≡ true → list_any test xs ≡ true
any_of test xs x there passes =
    let p = place (λ y. x == y) xs there in
    let same : x ≡ p.item = eqb-true x p.item p.passes in
    any_passes_from_place test xs _ p.item p.at (ap test (sym same) ∙ passes)

any_carried : (a b : RecipeValue) (names : List ℕ → Bool) (chunk : List ℕ) → AreAlike a b
    → list_any (named_set a names) (users_named a chunk) ≡ true → list_any (named_set b names) (users_named b chunk) ≡ true
any_carried a b names chunk h t =
    let k = chunk_number a.chunks chunk in
    let p = place (named_set a names) (users_named a chunk) t in
    let u = p.item in
    let listed : list_any (λ y. u == y) (users_named a chunk) ≡ true = any_passes_from_place (λ y. u == y) (users_named a chunk) _ u p.at (eq-eqb u u refl) in
    let pair : list_any (is_pair u k) a.pairs ≡ true = sym ((users_exact a k h.first).1 u) ∙ listed in
    let below = pair_below a u k (keyed a h.first) pair in
    let name : name_at a k ≡ chunk = name_is a k below.chunk ∙ chunk_by_name a chunk below.chunk in
    let used = uses_of_pair a u k (keyed a h.first) pair in
    let n = numbered b (file_at a u) chunk (keyed b h.second) ((h.reordered.pairs (file_at a u) chunk).0 (rw name at used)) in
    let v = file_number b.files (file_at a u) in
    let users : list_any (λ y. v == y) (users_named b chunk) ≡ true = (users_exact b (chunk_number b.chunks chunk) h.second).1 v ∙ n.pair in
    any_of (named_set b names) (users_named b chunk) v users (ap names n.file_is ∙ p.passes)

same_bool : (x y : Bool) → (x ≡ true → y ≡ true) → (y ≡ true → x ≡ true) → x ≡ y
same_bool x y there back = elim (cases_Bool x) [
  | inl t ↦ t ∙ sym (there t)
  | inr f ↦ elim (cases_Bool y) [ inl u ↦ cc (back u) | inr g ↦ f ∙ sym g ]
]

any_same : (a b : RecipeValue) (names : List ℕ → Bool) (chunk : List ℕ) → AreAlike a b → list_any (named_set a names) (users_named a chunk) ≡ list_any (named_set b names) (users_named b chunk)
any_same a b names chunk h =
    same_bool (list_any (named_set a names) (users_named a chunk)) (list_any (named_set b names) (users_named b chunk)) (any_carried a b names chunk h) (any_carried b a names chunk (turned a b h))

-- all are in a set where none is outside it
all_by_any : (test : ℕ → Bool) (xs : List ℕ) → list_all test xs ≡ not (list_any (λ x. not (test x)) xs)
all_by_any test [] = refl
all_by_any test (x ∷ xs) = elim (cases_Bool (test x)) [ inl t ↦ rw t (all_by_any test xs) | inr f ↦ rw f refl ]

all_same : (a b : RecipeValue) (names : List ℕ → Bool) (chunk : List ℕ) → AreAlike a b → list_all (named_set a names) (users_named a chunk) ≡ list_all (named_set b names) (users_named b chunk)
all_same a b names chunk h =
    all_by_any (named_set a names) (users_named a chunk)
    ∙ (ap not (any_same a b (λ name. not (names name)) chunk h) ∙ sym (all_by_any (named_set b names) (users_named b chunk)))

-- the classes of a recipe, chunk by chunk
abbrev class_of : RecipeValue → NamedChunk → Class
class_of r c = record { size = c.size; users = users_named r c.name }

classes_by_chunk : (r : RecipeValue) → IsRecipe r → (table_of r).classes ≡ map (class_of r) r.chunks
classes_by_chunk r h =
    let none : Class = record { size = 0; users = [] } in
    sym (fill_by_all (chunk_class r) (map (class_of r) r.chunks) (length r.chunks) none (length-map r.chunks (class_of r)) (λ k lt.
    get_or-map (class_of r) r.chunks k no_chunk none lt ∙ (λ i. record { size = sym (size_is r k lt) i; users = users_of r (number_of_chunk r k (keyed r h) lt i) })))

-- what a chunk counts, by a test of its users
abbrev weighed : RecipeValue → (List ℕ → Bool) → NamedChunk → ℕ
weighed r test c = if test (users_named r c.name) then c.size else 0

bytes_by_chunk : (r : RecipeValue) (test : List ℕ → Bool) → IsRecipe r → bytes_where test (table_of r).classes ≡ sum_by (weighed r test) r.chunks
bytes_by_chunk r test h =
    ap (bytes_where test) (classes_by_chunk r h) ∙ sum_by-map (λ (c : Class). if test c.users then c.size else 0) (class_of r) r.chunks

-- the same chunks have the same sums
chunks_same : (a b : RecipeValue) (weight : NamedChunk → ℕ) → AreAlike a b → sum_by weight a.chunks ≡ sum_by weight b.chunks
chunks_same a b weight h =
    let there = sum_within (λ (c : NamedChunk). is_chunk c.name) chunk_equiv weight a.chunks b.chunks h.first.chunks_differ (λ c. (h.reordered.chunks c).0) in
    let back = sum_within (λ (c : NamedChunk). is_chunk c.name) chunk_equiv weight b.chunks a.chunks h.second.chunks_differ (λ c. (h.reordered.chunks c).1) in
    omega (arith, there, back)

pub bytes_same : (a b : RecipeValue) (one other : List ℕ → Bool) → AreAlike a b → ((chunk : List ℕ) → one (users_named a chunk) ≡ other (users_named b chunk))
    → bytes_where one (table_of a).classes ≡ bytes_where other (table_of b).classes
bytes_same a b one other h same =
    bytes_by_chunk a one h.first ∙ (chunks_same a b (weighed a one) h
    ∙ ((λ i. sum_by (λ (c : NamedChunk). if same c.name i then c.size else 0) b.chunks) ∙ sym (bytes_by_chunk b other h.second)))

pub keeps_sums : KeepsSums
keeps_sums a b names h = record {
  migrated = bytes_same a b (list_all (named_set a names)) (list_all (named_set b names)) h (λ chunk. all_same a b names chunk h);
  touched = bytes_same a b (list_any (named_set a names)) (list_any (named_set b names)) h (λ chunk. any_same a b names chunk h);
  replicated = bytes_same a b (λ users. list_any (named_set a names) users && not (list_all (named_set a names) users))
      (λ users. list_any (named_set b names) users && not (list_all (named_set b names) users)) h
      (λ chunk i. any_same a b names chunk h i && not (all_same a b names chunk h i));
}

pub keeps_bytes : KeepsBytes
keeps_bytes a b h = chunks_same a b (λ c. c.size) h
