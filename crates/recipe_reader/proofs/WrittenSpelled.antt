-- The rows by which a recipe is written, as what they say.
use Rattle.std.specs.Prelude.{◌==◌, All, map, sum_by, codes, if◌then◌else◌}
use Rattle.std.proofs.Common.{◌≡◌, ◌≢◌, ◌∙◌, ◌∷◌, ◌++◌, ◌+◌, ◌<◌, ◌≤◌, [], ℕ, zero, suc, List, Some, None, refl, ap, length, length-append, get_or, arith, inl, inr}
use Rattle.std.specs.List.{AllZip, flat_map, range_with_len, filter_map}
use Rattle.std.proofs.lemmas.Bool.{cases_Bool, cases_lt, eqb-true, ne_eqb}
use Rattle.std.proofs.lemmas.List.{get_or-map, get_or_past}
use Rattle.std.proofs.lemmas.List.Elements.{All-nil, All-cons, All-head, All-tail, All-append, Contains-get_or, filter_map-append}
use Rattle.std.proofs.lemmas.List.Sums.{sum_by-cons}
use Rattle.hex.specs.Hex.{IsBytes}
use Rattle.hex.proofs.HexLemmas.{decode_of-encode_lower}
use Rattle.recipe_reader.specs.Lawful.{IsRecipe, IsChunk}
use Rattle.recipe_reader.specs.Recipes.{NamedChunk, RecipeValue, empty_recipe, name_at, size_at}
use Rattle.recipe_reader.specs.RecipeRows.{Row, SpellsRow}
use Rattle.recipe_reader.specs.WrittenRows.{chunks_used, file_at, file_rows, pair_row, rows_of_recipe}
use Rattle.recipe_reader.proofs.Gathering.{nothing_so_far}
use Rattle.recipe_reader.proofs.Keeping.{empty_keeps}
use Rattle.recipe_reader.proofs.Replaying.{IsOf, IsPart, Replay, replay, uses}
use Rattle.recipe_reader.proofs.WrittenText.{chunks_below}

-- the chunk with a number
abbrev pub chunk_at : RecipeValue → ℕ → NamedChunk
chunk_at r chunk = get_or r.chunks chunk (record { name = []; size = 0 })

-- what the rows of a file say
abbrev pub row_at : RecipeValue → ℕ → ℕ → Row
row_at r file chunk = record { file = file_at r file; chunk = Some (chunk_at r chunk) }

abbrev pub said_of : RecipeValue → ℕ → List ℕ → List Row
said_of r file [] = record { file = file_at r file; chunk = None } ∷ []
said_of r file (chunk ∷ chunks) = map (row_at r file) (chunk ∷ chunks)

abbrev pub said : RecipeValue → List ℕ → List Row
said r files = flat_map (λ file. said_of r file (chunks_used r.pairs file)) files

bytes_everywhere : (xs : List ℕ) → All (λ b. b < 256) xs → IsBytes xs
bytes_everywhere xs h i = elim (cases_lt i (length xs)) [
  | inl lt ↦ h i 0 lt
  | inr past ↦ let none = get_or_past xs i 0 past in omega (arith, none)
]

spells_pair : (r : RecipeValue) (file chunk : ℕ) → IsRecipe r → file < length r.files → chunk < length r.chunks → SpellsRow (pair_row r file chunk) (row_at r file chunk)
spells_pair r file chunk h file_there there =
    let none : NamedChunk = record { name = []; size = 0 } in
    let lawful : IsChunk (chunk_at r chunk) = h.chunks chunk none there in
    let name : name_at r chunk ≡ (chunk_at r chunk).name = get_or-map (λ (c : NamedChunk). c.name) r.chunks chunk none [] there in
    let size : size_at r chunk ≡ (chunk_at r chunk).size = get_or-map (λ (c : NamedChunk). c.size) r.chunks chunk none 0 there in
    record {
      name = _;
      size = _;
      three = refl;
      file = h.files file [] file_there;
      chunk = (
        record { digits = rw name (decode_of-encode_lower (chunk_at r chunk).name (bytes_everywhere (chunk_at r chunk).name lawful.name.bytes)); some = lawful.name.some; short = lawful.name.short },
        record { digits = rw size refl; small = lawful.small },
      );
    }

of_pair : (r : RecipeValue) (file chunk : ℕ) → file < length r.files → chunk < length r.chunks → IsOf r (row_at r file chunk)
of_pair r file chunk file_there there = record {
  file = Contains-get_or r.files file [] file_there;
  chunk = λ c is. let same : chunk_at r chunk ≡ c = cc in rw (← same) (Contains-get_or r.chunks chunk (record { name = []; size = 0 }) there);
}

-- the rows of chunks, of a file, of all files
spelled_pairs : (r : RecipeValue) (file : ℕ) (chunks : List ℕ) → IsRecipe r → file < length r.files → All (λ c. c < length r.chunks) chunks → AllZip SpellsRow (map (pair_row r file) chunks) (map (row_at r file) chunks)
spelled_pairs r file [] h there below = tt
spelled_pairs r file (chunk ∷ chunks) h there below =
    (spells_pair r file chunk h there (All-head (λ c. c < length r.chunks) chunk chunks below), spelled_pairs r file chunks h there (All-tail (λ c. c < length r.chunks) chunk chunks below))

of_pairs : (r : RecipeValue) (file : ℕ) (chunks : List ℕ) → file < length r.files → All (λ c. c < length r.chunks) chunks → All (IsOf r) (map (row_at r file) chunks)
of_pairs r file [] there below = All-nil (IsOf r)
of_pairs r file (chunk ∷ chunks) there below =
    All-cons (IsOf r) (row_at r file chunk) (map (row_at r file) chunks) (of_pair r file chunk there (All-head (λ c. c < length r.chunks) chunk chunks below))
    (of_pairs r file chunks there (All-tail (λ c. c < length r.chunks) chunk chunks below))

spelled_file : (r : RecipeValue) (file : ℕ) (chunks : List ℕ) → IsRecipe r → file < length r.files → All (λ c. c < length r.chunks) chunks → AllZip SpellsRow (file_rows r file chunks) (said_of r file chunks)
spelled_file r file [] h there below = (record { name = []; size = codes "0"; three = refl; file = h.files file [] there; chunk = (refl, refl) }, tt)
spelled_file r file (chunk ∷ chunks) h there below = spelled_pairs r file (chunk ∷ chunks) h there below

of_file : (r : RecipeValue) (file : ℕ) (chunks : List ℕ) → file < length r.files → All (λ c. c < length r.chunks) chunks → All (IsOf r) (said_of r file chunks)
of_file r file [] there below =
    All-cons (IsOf r) (record { file = file_at r file; chunk = None }) [] (record { file = Contains-get_or r.files file [] there; chunk = λ c is. cc }) (All-nil (IsOf r))
of_file r file (chunk ∷ chunks) there below = of_pairs r file (chunk ∷ chunks) there below

-- how many pairs the rows of a file name
uses_pairs : (r : RecipeValue) (file : ℕ) (chunks : List ℕ) → uses (map (row_at r file) chunks) ≡ length chunks
uses_pairs r file [] = refl
uses_pairs r file (chunk ∷ chunks) = let rest = uses_pairs r file chunks in omega (arith, rest)

uses_file : (r : RecipeValue) (file : ℕ) (chunks : List ℕ) → uses (said_of r file chunks) ≡ length chunks
uses_file r file [] = refl
uses_file r file (chunk ∷ chunks) = uses_pairs r file (chunk ∷ chunks)

zip-append : {A B : Type 0} (R : A → B → Type 0) (xs cs : List A) (ys ds : List B) → AllZip R xs ys → AllZip R cs ds → AllZip R (xs ++ cs) (ys ++ ds)
zip-append R [] cs [] ds front back = back
zip-append R [] cs (y ∷ ys) ds front back = absurd front
zip-append R (x ∷ xs) cs [] ds front back = absurd front
zip-append R (x ∷ xs) cs (y ∷ ys) ds front back = (front.0, zip-append R xs cs ys ds front.1 back)

abbrev rows_from : RecipeValue → ℕ → List (List (List ℕ))
rows_from r file = file_rows r file (chunks_used r.pairs file)

spelled_from : (r : RecipeValue) (a n : ℕ) → IsRecipe r → a + n ≤ length r.files → AllZip SpellsRow (flat_map (rows_from r) (range_with_len a n)) (said r (range_with_len a n))
spelled_from r a zero h within = tt
spelled_from r a (suc n) h within =
    zip-append SpellsRow (rows_from r a) (flat_map (rows_from r) (range_with_len (a + 1) n)) (said_of r a (chunks_used r.pairs a)) (said r (range_with_len (a + 1) n))
    (spelled_file r a (chunks_used r.pairs a) h (omega arith) (chunks_below (length r.files) (length r.chunks) a r.pairs h.pairs)) (spelled_from r (a + 1) n h (omega arith))

of_from : (r : RecipeValue) (a n : ℕ) → IsRecipe r → a + n ≤ length r.files → All (IsOf r) (said r (range_with_len a n))
of_from r a zero h within = All-nil (IsOf r)
of_from r a (suc n) h within =
    All-append (IsOf r) (said_of r a (chunks_used r.pairs a)) (said r (range_with_len (a + 1) n))
    (of_file r a (chunks_used r.pairs a) (omega arith) (chunks_below (length r.files) (length r.chunks) a r.pairs h.pairs)) (of_from r (a + 1) n h (omega arith))

-- the rows name each pair once
abbrev tally : List (ℕ × ℕ) → List ℕ → ℕ
tally pairs files = sum_by (λ file. length (chunks_used pairs file)) files

uses-append : (xs ys : List Row) → uses (xs ++ ys) ≡ uses xs + uses ys
uses-append xs ys = ap length (filter_map-append (λ (row : Row). row.chunk) xs ys) ∙ length-append (filter_map (λ (row : Row). row.chunk) xs) (filter_map (λ (row : Row). row.chunk) ys)

uses_said : (r : RecipeValue) (files : List ℕ) → uses (said r files) ≡ tally r.pairs files
uses_said r [] = refl
uses_said r (file ∷ files) =
    let own = uses_file r file (chunks_used r.pairs file) in
    let rest = uses_said r files in
    let both = uses-append (said_of r file (chunks_used r.pairs file)) (said r files) in
    let sum = sum_by-cons (λ file. length (chunks_used r.pairs file)) file files in
    omega (arith, own, rest, both, sum)

abbrev hit : ℕ × ℕ → ℕ → ℕ
hit p file = if p.0 == file then 1 else 0

used-cons : (p : ℕ × ℕ) (pairs : List (ℕ × ℕ)) (file : ℕ) → length (chunks_used (p ∷ pairs) file) ≡ hit p file + length (chunks_used pairs file)
used-cons p pairs file = elim (cases_Bool (p.0 == file)) [ inl t ↦ rw t (omega arith) | inr f ↦ rw f (omega arith) ]

tally-cons : (p : ℕ × ℕ) (pairs : List (ℕ × ℕ)) (files : List ℕ) → tally (p ∷ pairs) files ≡ sum_by (hit p) files + tally pairs files
tally-cons p pairs [] = refl
tally-cons p pairs (file ∷ files) =
    let rest = tally-cons p pairs files in
    let own = used-cons p pairs file in
    let whole = sum_by-cons (λ file. length (chunks_used (p ∷ pairs) file)) file files in
    let hits = sum_by-cons (hit p) file files in
    let counts = sum_by-cons (λ file. length (chunks_used pairs file)) file files in
    omega (arith, rest, own, whole, hits, counts)

hits_none : (p : ℕ × ℕ) (a n : ℕ) → p.0 < a → sum_by (hit p) (range_with_len a n) ≡ 0
hits_none p a zero below = refl
hits_none p a (suc n) below =
    let off : p.0 ≢ a = omega arith in
    let miss = ne_eqb p.0 a off in
    let own : hit p a ≡ 0 = rw miss refl in
    let rest = hits_none p (a + 1) n (omega arith) in
    let sum = sum_by-cons (hit p) a (range_with_len (a + 1) n) in
    omega (arith, own, rest, sum)

hits_once : (p : ℕ × ℕ) (a n : ℕ) → sum_by (hit p) (range_with_len a n) ≤ 1
hits_once p a zero = omega arith
hits_once p a (suc n) =
    let sum = sum_by-cons (hit p) a (range_with_len (a + 1) n) in
    elim (cases_Bool (p.0 == a)) [
      | inl t ↦
          let at = eqb-true p.0 a t in
          let own : hit p a ≡ 1 = rw t refl in
          let rest = hits_none p (a + 1) n (omega (arith, at)) in
          omega (arith, own, rest, sum)
      | inr f ↦
          let own : hit p a ≡ 0 = rw f refl in
          let rest = hits_once p (a + 1) n in
          omega (arith, own, rest, sum)
    ]

tally-nil : (files : List ℕ) → tally [] files ≡ 0
tally-nil [] = refl
tally-nil (file ∷ files) = let rest = tally-nil files in let sum = sum_by-cons (λ file. length (chunks_used [] file)) file files in omega (arith, rest, sum)

tally_within : (pairs : List (ℕ × ℕ)) (a n : ℕ) → tally pairs (range_with_len a n) ≤ length pairs
tally_within [] a n = let none = tally-nil (range_with_len a n) in omega (arith, none)
tally_within (p ∷ pairs) a n =
    let rest = tally_within pairs a n in
    let one = hits_once p a n in
    let sum = tally-cons p pairs (range_with_len a n) in
    omega (arith, rest, one, sum)

-- what is written leads to a recipe again
unfoldable pub said_all : RecipeValue → List Row
said_all r = said r (range_with_len 0 (length r.files))

pub replayed : (r : RecipeValue) → IsRecipe r → Replay r empty_recipe [] (said_all r) (rows_of_recipe r) (0 + uses (said_all r))
unfolding said_all
replayed r h =
    let n = length r.files in
    let spelled = spelled_from r 0 n h (omega arith) in
    let of_r = of_from r 0 n h (omega arith) in
    let count = uses_said r (range_with_len 0 n) in
    let few = tally_within r.pairs 0 n in
    let limit = h.limits.pairs in
    replay r empty_recipe [] (said_all r) (rows_of_recipe r) 0 h (nothing_of r) nothing_so_far spelled of_r (omega (arith, count, few, limit))
  where
    nothing_of : (r : RecipeValue) → IsPart r empty_recipe 0
    nothing_of r = record {
      files = λ name there. absurd (omega (arith, there.1));
      files_differ = empty_keeps.files_differ;
      chunks = λ c there. absurd (omega (arith, there.1));
      chunks_differ = empty_keeps.chunks_differ;
      pairs = omega arith;
    }
