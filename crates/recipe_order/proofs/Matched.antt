-- When a recipe has all of another one, and when two are one but for their order.
use Rattle.std.specs.Prelude.{◌==◌, ◌↔◌, Contains, All, map, replicate, Option, Result, Ok, Err, is_ok, IfNone, IfOk, IfSome, IsTrue}
use Rattle.std.proofs.Common.{◌≡◌, ◌≢◌, ◌∙◌, ◌+◌, ◌<◌, ◌≤◌, [], ℕ, zero, suc, List, Bool, None, Some, eq-eqb, true, false, refl, sym, ap, subst, length, get_or, arith, inl, inr}
use Rattle.std.specs.Cmp.Lexicographic.{same_text}
use Rattle.std.specs.List.{list_any, position_or_len}
use Rattle.std.specs.List.Sorted.{IsBinarySearchResult, IsStrictlyIncreasing}
use Rattle.std.specs.Ordering.{nat_cmp}
use Rattle.std.proofs.Math.ListN.{set as set_at}
use Rattle.std.proofs.lemmas.Bool.{cases_eq, cases_lt, ne_eqb}
use Rattle.std.proofs.lemmas.List.{get_or_default, get_or-set_other, get_or-set_same, length-map, length-replicate, length-set}
use Rattle.std.proofs.lemmas.List.Folds.{list_any_at, list_any_none}
use Rattle.std.proofs.lemmas.List.Sorted.{searched}
use Rattle.std.proofs.lemmas.Map.Keys.{non_decreasing_from_sorted, sorted_from_strictly_increasing}
use Rattle.seed_model.specs.Files.{holds}
use Rattle.incidence.proofs.Exact.{users_exact}
use Rattle.std.proofs.lemmas.List.Elements.{All-contains, Contains-get_or}
use Rattle.std.proofs.lemmas.Map.Views.{list_any-from_Contains}
use Rattle.std.proofs.lemmas.Option.{get_or_from_slice_get}
use Rattle.list_facts.proofs.Numbering.{place, place-map}
use Rattle.recipe_reader.specs.Lawful.{IsRecipe, IsPairBelow}
use Rattle.recipe_reader.specs.Recipes.{NamedChunk, RecipeValue, chunk_number, file_number, is_chunk, is_named, is_pair, name_at, users_of}
use Rattle.recipe_reader.specs.Same.{UsesByName}
use Rattle.recipe_reader.specs.WrittenRows.{file_at}
use Rattle.recipe_reader.proofs.Keeping.{chunk_equiv, named_equiv, pair_equiv}
use Rattle.recipe_reader.proofs.Sizes.{contains_at, one_of_name}
use Rattle.recipe_reader.proofs.Subsets.{length_within}
use Rattle.recipe_order.specs.Matching.{AreAmong, AreAsLarge, AreNumbers, HaveSizesOf, StandsIn, chunk_names}
use Rattle.recipe_order.specs.Parts.{IsPartOf}
use Rattle.recipe_order.specs.Reordered.{IsReordered, carried_set}
use Rattle.recipe_order.proofs.NameLists.{all_there, among_names, name_among, number_at, number_within, numbers_length}
use Rattle.recipe_order.proofs.Names.{chunk_by_name, keyed, name_is, no_chunk, numbered, size_is, uses_of_pair}
use Rattle.recipe_order.proofs.Within.{carried_differ, carried_pair, carried_within, contains-map_from, exact_pair, pairs_within}

-- the number of a chunk by its name
number_by_name : (r : RecipeValue) (name : List ℕ) → position_or_len (is_named name) (chunk_names r) ≡ chunk_number r.chunks name
number_by_name r name = place-map (λ (c : NamedChunk). c.name) (is_named name) r.chunks

pub names_length : (r : RecipeValue) → length (chunk_names r) ≡ length r.chunks
names_length r = length-map r.chunks (λ (c : NamedChunk). c.name)

-- the number of a part's chunk in the whole
pub chunk_found : (whole part : RecipeValue) (chunks : List ℕ) (k : ℕ) → AreNumbers (chunk_names whole) (chunk_names part) chunks → k < length part.chunks
    → get_or chunks k 0 ≡ chunk_number whole.chunks (name_at part k)
chunk_found whole part chunks k h lt = number_at (chunk_names whole) (chunk_names part) chunks k h (omega (arith, names_length part)) ∙ number_by_name whole (name_at part k)

pub chunk_within : (whole part : RecipeValue) (chunks : List ℕ) (k : ℕ) → AreNumbers (chunk_names whole) (chunk_names part) chunks → k < length part.chunks → get_or chunks k 0 < length whole.chunks
chunk_within whole part chunks k h lt =
    omega (arith, number_within (chunk_names whole) (chunk_names part) chunks k h (omega (arith, names_length part)), names_length whole)

chunk_same_name : (whole part : RecipeValue) (chunks : List ℕ) (k : ℕ) → AreNumbers (chunk_names whole) (chunk_names part) chunks → k < length part.chunks
    → (get_or whole.chunks (get_or chunks k 0) no_chunk).name ≡ name_at part k
chunk_same_name whole part chunks k h lt =
    let at = chunk_found whole part chunks k h lt in
    ap (λ (n : ℕ). (get_or whole.chunks n no_chunk).name) at ∙ chunk_by_name whole (name_at part k) (omega (arith, at, chunk_within whole part chunks k h lt))

file_same_name : (whole part : RecipeValue) (files : List ℕ) (k : ℕ) → AreNumbers whole.files part.files files → k < length part.files → file_at whole (get_or files k 0) ≡ file_at part k
file_same_name whole part files k h lt =
    let p = place (is_named (file_at part k)) whole.files (h.among k [] lt) in
    ap (file_at whole) (number_at whole.files part.files files k h lt)
    ∙ (get_or_from_slice_get whole.files (position_or_len (is_named (file_at part k)) whole.files) p.item [] p.at ∙ sym (same_text (file_at part k) p.item (sym p.passes)))

-- ---- a recipe has all of a part

pub all_part : (whole part : RecipeValue) (files chunks : List ℕ) → IsRecipe whole → IsRecipe part → AreNumbers whole.files part.files files → AreNumbers (chunk_names whole) (chunk_names part) chunks
    → HaveSizesOf whole part chunks → All (StandsIn whole files chunks) part.pairs → IsPartOf whole part
all_part whole part files chunks h lawful fs cs sizes pairs = record {
  recipe = lawful;
  files = λ name there. name_among whole.files part.files name fs.among there;
  chunks = λ c there.
      let k = there.0 in
      let n = get_or chunks k 0 in
      let own : get_or part.chunks k no_chunk ≡ c = get_or_default part.chunks k no_chunk c there.1 ∙ there.2 in
      let inside = chunk_within whole part chunks k cs there.1 in
      let name : (get_or whole.chunks n no_chunk).name ≡ c.name = chunk_same_name whole part chunks k cs there.1 ∙ (name_is part k there.1 ∙ ap (λ (c : NamedChunk). c.name) own) in
      let size : (get_or whole.chunks n no_chunk).size ≡ c.size = sym (size_is whole n inside) ∙ (sizes k there.1 ∙ (size_is part k there.1 ∙ ap (λ (c : NamedChunk). c.size) own)) in
      let Within : NamedChunk → Type 0 = λ t. Contains whole.chunks t in
      subst Within (λ i. record { name = name i; size = size i }) (Contains-get_or whole.chunks n no_chunk inside);
  pairs = λ file chunk u.
      let p = u.pair in
      let below = All-contains (IsPairBelow (length part.files) (length part.chunks)) part.pairs p lawful.pairs u.stands in
      let stands = All-contains (StandsIn whole files chunks) part.pairs p pairs u.stands in
      let used = uses_of_pair whole (get_or files p.0 0) (get_or chunks p.1 0) (keyed whole h) stands in
      let file_is : file_at whole (get_or files p.0 0) ≡ file = file_same_name whole part files p.0 fs below.file ∙ get_or_from_slice_get part.files p.0 file [] u.file_named in
      let chunk_is : name_at whole (get_or chunks p.1 0) ≡ chunk =
      name_is whole (get_or chunks p.1 0) (chunk_within whole part chunks p.1 cs below.chunk) ∙ (chunk_same_name whole part chunks p.1 cs below.chunk ∙ get_or_from_slice_get (chunk_names part) p.1 chunk [] u.chunk_named) in
      rw (file_is, chunk_is) at used;
}

-- ---- and each of these is so where it has

pub part_files : (whole part : RecipeValue) → IsPartOf whole part → AreAmong whole.files part.files
part_files whole part p = among_names whole.files part.files p.files

pub part_names : (whole part : RecipeValue) → IsPartOf whole part → AreAmong (chunk_names whole) (chunk_names part)
part_names whole part p = among_names (chunk_names whole) (chunk_names part) (λ name there.
    let from = contains-map_from (λ (c : NamedChunk). c.name) part.chunks name there in
    let inside = p.chunks from.0 from.1 in
    let at : get_or whole.chunks inside.0 no_chunk ≡ from.0 = get_or_default whole.chunks inside.0 no_chunk from.0 inside.1 ∙ inside.2 in
    let long = names_length whole in
    let lt : inside.0 < length (chunk_names whole) = omega (arith, long, inside.1) in
    let named : name_at whole inside.0 ≡ name = name_is whole inside.0 inside.1 ∙ (ap (λ (c : NamedChunk). c.name) at ∙ sym from.2) in
    (inside.0, lt, get_or_default (chunk_names whole) inside.0 name [] lt ∙ named))

pub part_sizes : (whole part : RecipeValue) (chunks : List ℕ) → IsRecipe whole → AreNumbers (chunk_names whole) (chunk_names part) chunks → IsPartOf whole part → HaveSizesOf whole part chunks
part_sizes whole part chunks h cs p k lt =
    let n = get_or chunks k 0 in
    let inside = chunk_within whole part chunks k cs lt in
    let c = get_or part.chunks k no_chunk in
    let d = get_or whole.chunks n no_chunk in
    let name : d.name ≡ c.name = chunk_same_name whole part chunks k cs lt ∙ name_is part k lt in
    let same : d ≡ c = one_of_name whole.chunks d c h.chunks_differ (Contains-get_or whole.chunks n no_chunk inside) (p.chunks c (Contains-get_or part.chunks k no_chunk lt)) name in
    size_is whole n inside ∙ (ap (λ (c : NamedChunk). c.size) same ∙ sym (size_is part k lt))

pub part_pairs : (whole part : RecipeValue) (files chunks : List ℕ) → IsRecipe whole → AreNumbers whole.files part.files files → AreNumbers (chunk_names whole) (chunk_names part) chunks → IsPartOf whole part
    → All (StandsIn whole files chunks) part.pairs
part_pairs whole part files chunks h fs cs p i d lt =
    let q = get_or part.pairs i d in
    let below = p.recipe.pairs i d lt in
    let there : Contains part.pairs q = (i, lt, get_or_default part.pairs i q d lt) in
    let any = list_any-from_Contains pair_equiv q part.pairs there in
    let used = uses_of_pair part q.0 q.1 (keyed part p.recipe) any in
    let n = numbered whole (file_at part q.0) (name_at part q.1) (keyed whole h) (p.pairs (file_at part q.0) (name_at part q.1) used) in
    let one : get_or files q.0 0 ≡ file_number whole.files (file_at part q.0) = number_at whole.files part.files files q.0 fs below.file in
    let two = chunk_found whole part chunks q.1 cs below.chunk in
    (λ k. list_any (is_pair (one k) (two k)) whole.pairs) ∙ n.pair

-- ---- two recipes of one size

back_pair : (a b : RecipeValue) → IsRecipe a → AreAsLarge a b → IsPartOf a b → (file chunk : List ℕ) → UsesByName a file chunk → UsesByName b file chunk
back_pair a b h large p file chunk u =
    let ka = keyed a h in
    let kb = keyed b p.recipe in
    let long = length-map b.pairs (carried_pair b a) in
    let q : ℕ × ℕ = (file_number a.files file, chunk_number a.chunks chunk) in
    let n = numbered a file chunk ka u in
    let pair_there : Contains a.pairs q =
    let o = place (is_pair q.0 q.1) a.pairs n.pair in
    let Within : ℕ × ℕ → Type 0 = λ t. Contains a.pairs t in
    subst Within (sym (exact_pair q.0 q.1 o.item o.passes)) (contains_at a.pairs _ o.item o.at) in
    let in_map = all_there (λ (p : ℕ × ℕ). is_pair p.0 p.1) pair_equiv (map (carried_pair b a) b.pairs) a.pairs (carried_differ b a kb ka p.recipe.pairs_differ p.pairs) (carried_within b a kb ka p.pairs)
    (omega (arith, long, large.pairs)) q (λ z there same. sym (exact_pair q.0 q.1 z same)) pair_there in
    let from = contains-map_from (carried_pair b a) b.pairs q in_map in
    let r = from.0 in
    let used = uses_of_pair b r.0 r.1 kb (list_any-from_Contains pair_equiv r b.pairs from.1) in
    let m = numbered a (file_at b r.0) (name_at b r.1) ka (p.pairs (file_at b r.0) (name_at b r.1) used) in
    let file_is : file_at b r.0 ≡ file = sym m.file_is ∙ (ap (λ (t : ℕ × ℕ). file_at a t.0) (sym from.2) ∙ n.file_is) in
    let chunk_is : name_at b r.1 ≡ chunk = sym m.chunk_is ∙ (ap (λ (t : ℕ × ℕ). name_at a t.1) (sym from.2) ∙ n.chunk_is) in
    rw (file_is, chunk_is) at used

pub reordered_from : (a b : RecipeValue) → IsRecipe a → AreAsLarge a b → IsPartOf a b → IsReordered a b
reordered_from a b h large p = record {
  files = λ name. (
    all_there is_named named_equiv b.files a.files p.recipe.files_differ p.files (omega (arith, large.files)) name (λ z there same. sym (same_text name z (sym same))),
    p.files name,
  );
  chunks = λ c. (
    λ there. all_there (λ (c : NamedChunk). is_chunk c.name) chunk_equiv b.chunks a.chunks p.recipe.chunks_differ p.chunks (omega (arith, large.chunks)) c
        (λ z in_b same. one_of_name a.chunks z c h.chunks_differ (p.chunks z in_b) there (sym (same_text c.name z.name (sym same)))) there,
    p.chunks c,
  );
  pairs = λ file chunk. (back_pair a b h large p file chunk, p.pairs file chunk);
}

pub part_from : (a b : RecipeValue) → IsRecipe b → IsReordered a b → IsPartOf a b
part_from a b h s = record { recipe = h; files = λ name. (s.files name).1; chunks = λ c. (s.chunks c).1; pairs = λ file chunk. (s.pairs file chunk).1 }

pub large_from : (a b : RecipeValue) → IsRecipe a → IsRecipe b → IsReordered a b → AreAsLarge a b
large_from a b h k s =
    let files_up = length_within is_named named_equiv a.files b.files h.files_differ (λ name. (s.files name).0) in
    let files_down = length_within is_named named_equiv b.files a.files k.files_differ (λ name. (s.files name).1) in
    let chunks_up = length_within (λ (c : NamedChunk). is_chunk c.name) chunk_equiv a.chunks b.chunks h.chunks_differ (λ c. (s.chunks c).0) in
    let chunks_down = length_within (λ (c : NamedChunk). is_chunk c.name) chunk_equiv b.chunks a.chunks k.chunks_differ (λ c. (s.chunks c).1) in
    let pairs_up = pairs_within a b (keyed a h) (keyed b k) h.pairs_differ (λ file chunk. (s.pairs file chunk).0) in
    let pairs_down = pairs_within b a (keyed b k) (keyed a h) k.pairs_differ (λ file chunk. (s.pairs file chunk).1) in
    record { files = omega (arith, files_up, files_down); chunks = omega (arith, chunks_up, chunks_down); pairs = omega (arith, pairs_up, pairs_down) }

-- ---- pairs that are searched

-- a pair among those of a recipe
pub pair_at : (r : RecipeValue) (pairs : List (ℕ × ℕ)) (i : ℕ) → IsRecipe r → pairs ≡ r.pairs → i < length pairs → IsPairBelow (length r.files) (length r.chunks) (get_or pairs i (0, 0))
pair_at r pairs i h same lt = rw same (h.pairs i (0, 0) (omega (arith, ap length same)))

searched_any : (users : List ℕ) (file : ℕ) (found : Result ℕ ℕ) → IsStrictlyIncreasing users → IsBinarySearchResult (λ y. nat_cmp y file) users found → is_ok found ≡ list_any (λ user. file == user) users
searched_any users file (Ok i) rising position =
    let s = searched users file (Ok i) position (λ i j le lt. non_decreasing_from_sorted users (sorted_from_strictly_increasing users rising) i j 0 le lt) in
    sym (list_any_at (λ user. file == user) users i 0 s.0 (rw s.1 (eq-eqb file file refl)))
searched_any users file (Err i) rising position =
    let s = searched users file (Err i) position (λ i j le lt. non_decreasing_from_sorted users (sorted_from_strictly_increasing users rising) i j 0 le lt) in
    sym (list_any_none (λ user. file == user) users (λ k d lt.
    let own = get_or_default users k d 0 lt in
    elim (cases_lt k i) [
      | inl before ↦ let less = s.1 k before in let apart : file ≢ get_or users k 0 = omega (arith, less) in rw own (ne_eqb file (get_or users k 0) apart)
      | inr behind ↦ let more = s.2 k behind lt in let apart : file ≢ get_or users k 0 = omega (arith, more) in rw own (ne_eqb file (get_or users k 0) apart)
    ]))

pub pair_found : (r : RecipeValue) (users : List ℕ) (file chunk : ℕ) (found : Result ℕ ℕ) (is : Bool) → IsRecipe r → users ≡ users_of r chunk → IsStrictlyIncreasing users
    → IsBinarySearchResult (λ y. nat_cmp y file) users found → is ≡ is_ok found → is ≡ list_any (is_pair file chunk) r.pairs
pair_found r users file chunk found is h read rising position ok =
    ok ∙ (searched_any users file found rising position ∙ (ap (list_any (λ user. file == user)) read ∙ (users_exact r chunk h).1 file))

-- ---- the set that is carried

pub number_carried : (from to : RecipeValue) (numbers : List ℕ) (set : List Bool) (file : ℕ) → AreNumbers from.files to.files numbers → file < length to.files
    → holds set (get_or numbers file 0) ≡ carried_set from to (holds set) file
number_carried from to numbers set file h lt = ap (holds set) (number_at from.files to.files numbers file h lt)

pub none_held : (n k : ℕ) → holds (replicate n false) k ≡ false
none_held zero k = refl
none_held (suc n) zero = refl
none_held (suc n) (suc k) = none_held n k

-- the files so far
pub record IsCarriedSoFar (from to : RecipeValue) (set carried : List Bool) (file : ℕ) : Type 0 where
  pub files : length carried ≡ length to.files
  pub same : (k : ℕ) → k < file → holds carried k ≡ carried_set from to (holds set) k
  pub rest : (k : ℕ) → file ≤ k → holds carried k ≡ false

pub none_carried : (from to : RecipeValue) (set carried : List Bool) (files : ℕ) → files ≡ length to.files → carried ≡ replicate files false → IsCarriedSoFar from to set carried 0
none_carried from to set carried files count is = record {
  files = ap length is ∙ (length-replicate files false ∙ count);
  same = λ k lt. absurd (omega arith);
  rest = λ k le. ap (λ (t : List Bool). holds t k) is ∙ none_held files k;
}

pub carried_more : (from to : RecipeValue) (set carried after : List Bool) (file : ℕ) → IsCarriedSoFar from to set carried file → file < length to.files → carried_set from to (holds set) file ≡ true
    → after ≡ set_at carried file true → IsCarriedSoFar from to set after (file + 1)
carried_more from to set carried after file c lt own put =
    let Set : List Bool → Type 0 = λ t. IsCarriedSoFar from to set t (file + 1) in
    let inside : file < length carried = omega (arith, c.files) in
    subst Set (sym put) record {
      files = length-set carried file true ∙ c.files;
      same = λ k below. elim (cases_eq k file) [
        | inl at ↦ ap (holds (set_at carried file true)) at ∙ (get_or-set_same carried file true false inside ∙ (sym own ∙ ap (carried_set from to (holds set)) (sym at)))
        | inr apart ↦ get_or-set_other carried file k true false apart ∙ c.same k (omega arith)
      ];
      rest = λ k above. let apart : k ≢ file = omega arith in get_or-set_other carried file k true false apart ∙ c.rest k (omega arith);
    }

pub not_carried_more : (from to : RecipeValue) (set carried : List Bool) (file : ℕ) → IsCarriedSoFar from to set carried file → carried_set from to (holds set) file ≡ false
    → IsCarriedSoFar from to set carried (file + 1)
not_carried_more from to set carried file c own = record {
  files = c.files;
  same = λ k below. elim (cases_eq k file) [
    | inl at ↦ ap (holds carried) at ∙ (c.rest file (omega arith) ∙ (sym own ∙ ap (carried_set from to (holds set)) (sym at)))
    | inr apart ↦ c.same k (omega arith)
  ];
  rest = λ k above. c.rest k (omega arith);
}

-- ---- what the steps tell

pub if_none : {X : Type 0} (P : Type 0) (o : Option X) → o ≡ None → IfNone o P → P
if_none P None is h = h
if_none P (Some x) is h = cc is

pub if_some : {X : Type 0} (P : X → Type 0) (o : Option X) (x : X) → o ≡ Some x → IfSome o P → P x
if_some P None x is h = cc is
if_some P (Some y) x is h = let same : y ≡ x = cc in subst P same h

pub stands_is : (whole part : RecipeValue) (files chunks : List ℕ) (pairs : List (ℕ × ℕ)) (i : ℕ) (is : Bool) → pairs ≡ part.pairs
    → is ≡ list_any (is_pair (get_or files (get_or pairs i (0, 0)).0 0) (get_or chunks (get_or pairs i (0, 0)).1 0)) whole.pairs
    → is ≡ list_any (is_pair (get_or files (get_or part.pairs i (0, 0)).0 0) (get_or chunks (get_or part.pairs i (0, 0)).1 0)) whole.pairs
stands_is whole part files chunks pairs i is same told =
    told ∙ ap (λ (t : List (ℕ × ℕ)). list_any (is_pair (get_or files (get_or t i (0, 0)).0 0) (get_or chunks (get_or t i (0, 0)).1 0)) whole.pairs) same

pub sizes_told : (whole part : RecipeValue) (chunks read : List ℕ) (sizes : Bool) → IsRecipe whole → AreNumbers (chunk_names whole) (chunk_names part) chunks → read ≡ chunks
    → (IsTrue sizes ↔ HaveSizesOf whole part read) → IsPartOf whole part → IsTrue sizes
sizes_told whole part chunks read sizes h cs same told p =
    let Sized : List ℕ → Type 0 = λ t. HaveSizesOf whole part t in
    told.1 (subst Sized (sym same) (part_sizes whole part chunks h cs p))

pub all_told : (whole part : RecipeValue) (files chunks sized read_files read_chunks : List ℕ) (sizes pairs : Bool) → IsRecipe whole → IsRecipe part → AreNumbers whole.files part.files files
    → AreNumbers (chunk_names whole) (chunk_names part) chunks → sized ≡ chunks → read_files ≡ files → read_chunks ≡ chunks → sizes ≡ true → (IsTrue sizes ↔ HaveSizesOf whole part sized)
    → (IsTrue pairs ↔ All (StandsIn whole read_files read_chunks) part.pairs) → IsTrue pairs ↔ IsPartOf whole part
all_told whole part files chunks sized read_files read_chunks sizes pairs h k fs cs same_sized same_files same_chunks holds_true by_sizes by_pairs =
    let Sized : List ℕ → Type 0 = λ t. HaveSizesOf whole part t in
    let Stand : List ℕ → List ℕ → Type 0 = λ f c. All (StandsIn whole f c) part.pairs in
    let there : Stand read_files read_chunks → Stand files chunks = λ all. subst (λ (f : List ℕ). Stand f chunks) same_files (subst (λ (c : List ℕ). Stand read_files c) same_chunks all) in
    let back : Stand files chunks → Stand read_files read_chunks = λ all. subst (λ (f : List ℕ). Stand f read_chunks) (sym same_files) (subst (λ (c : List ℕ). Stand files c) (sym same_chunks) all) in
    (λ t. all_part whole part files chunks h k fs cs (subst Sized same_sized (by_sizes.0 holds_true)) (there (by_pairs.0 t)), λ p. by_pairs.1 (back (part_pairs whole part files chunks h fs cs p)))

pub match_told : {E : Type 0} (a b : RecipeValue) (result : Result Bool E) → IsRecipe a → IsRecipe b → AreAsLarge a b → IfOk result (λ has. IsTrue has ↔ IsPartOf a b)
    → IfOk result (λ same. IsTrue same ↔ IsReordered a b)
match_told a b (Ok has) h k large told = (λ t. reordered_from a b h large (told.0 t), λ s. told.1 (part_from a b k s))
match_told a b (Err e) h k large told = tt

-- a number that is read
pub number_read : (from to : RecipeValue) (numbers : List ℕ) (file n : ℕ) → AreNumbers from.files to.files numbers → file < length to.files → n ≡ get_or numbers file n
    → (n ≡ get_or numbers file 0) × (n < length from.files)
number_read from to numbers file n h lt read =
    let inside : file < length numbers = omega (arith, lt, numbers_length from.files to.files numbers h) in
    let is : n ≡ get_or numbers file 0 = read ∙ get_or_default numbers file n 0 inside in
    (is, omega (arith, is, number_within from.files to.files numbers file h lt))
