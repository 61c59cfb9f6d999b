-- Rows of a recipe lead to a recipe again, within the limits.
use Rattle.std.specs.Prelude.{Contains, All, Option}
use Rattle.std.proofs.Common.{◌≡◌, ◌∙◌, ◌∷◌, ◌++◌, ◌+◌, ◌≤◌, [], ℕ, List, Bool, Some, None, refl, sym, ap, length, length-append, arith, inl, inr}
use Rattle.std.specs.Cmp.{IsEquivalence}
use Rattle.std.specs.List.{AllZip, IsDistinct, list_any, filter_map}
use Rattle.std.proofs.lemmas.Bool.{cases_Bool}
use Rattle.std.proofs.lemmas.List.{append-nil, append_assoc, length_push}
use Rattle.std.proofs.lemmas.List.Elements.{All-head, All-tail, filter_map-append}
use Rattle.std.proofs.lemmas.Map.Keys.{IsDistinct-push}
use Rattle.seed_model.specs.declared.limits.TheConstants.{MOST_PAIRS}
use Rattle.recipe_reader.specs.Lawful.{IsRecipe}
use Rattle.recipe_reader.specs.Limits.{IsWithinLimits, KeepsSize}
use Rattle.recipe_reader.specs.Reading.{Leads, MayFollow}
use Rattle.recipe_reader.specs.Recipes.{NamedChunk, RecipeValue, is_named, is_chunk, is_pair, with_new, with_file, with_pair, file_number, chunk_number}
use Rattle.recipe_reader.specs.RecipeRows.{Row, SpellsRow, with_row}
use Rattle.list_facts.proofs.FirstAppearance.{contains_with_new}
use Rattle.recipe_reader.proofs.Gathering.{SoFar, step}
use Rattle.recipe_reader.proofs.Keeping.{named_equiv, chunk_equiv}
use Rattle.recipe_reader.proofs.Sizes.{one_of_name}
use Rattle.recipe_reader.proofs.Subsets.{sum_within, length_within}

-- the row's file and chunk are the recipe's
pub record IsOf (r : RecipeValue) (row : Row) : Type 0 where
  pub file : Contains r.files row.file
  pub chunk : (c : NamedChunk) → row.chunk ≡ Some c → Contains r.chunks c

-- how many rows name a chunk
abbrev pub uses : List Row → ℕ
uses rows = length (filter_map (λ (row : Row). row.chunk) rows)

-- what is read so far is part of the recipe
pub record IsPart (r part : RecipeValue) (rows : ℕ) : Type 0 where
  pub files : (name : List ℕ) → Contains part.files name → Contains r.files name
  pub files_differ : IsDistinct is_named part.files
  pub chunks : (c : NamedChunk) → Contains part.chunks c → Contains r.chunks c
  pub chunks_differ : IsDistinct (λ (c : NamedChunk). is_chunk c.name) part.chunks
  pub pairs : length part.pairs ≤ rows

part_limits : (r part : RecipeValue) (rows : ℕ) → IsRecipe r → IsPart r part rows → rows ≤ MOST_PAIRS → IsWithinLimits part
part_limits r part rows h p few =
    let files = length_within is_named named_equiv part.files r.files p.files_differ p.files in
    let chunks = length_within (λ (c : NamedChunk). is_chunk c.name) chunk_equiv part.chunks r.chunks p.chunks_differ p.chunks in
    let bytes = sum_within (λ (c : NamedChunk). is_chunk c.name) chunk_equiv (λ (c : NamedChunk). c.size) part.chunks r.chunks p.chunks_differ p.chunks in
    let pairs = p.pairs in
    let limits = h.limits in
    record { files = omega (arith, files); chunks = omega (arith, chunks); bytes = omega (arith, bytes); pairs = omega (arith, pairs) }

-- items stay distinct, and grow by one at most
pub distinct_with_new : {X : Type 0} (same : X → X → Bool) → IsEquivalence same → (xs : List X) (y : X) → IsDistinct same xs → IsDistinct same (with_new (same y) xs y)
distinct_with_new same laws xs y distinct = elim (cases_Bool (list_any (same y) xs)) [
  | inl t ↦ rw t distinct
  | inr f ↦ rw f (IsDistinct-push laws xs y distinct f)
]

length_with_new : {X : Type 0} (test : X → Bool) (xs : List X) (y : X) → length (with_new test xs y) ≤ length xs + 1
length_with_new test xs y = elim (cases_Bool (list_any test xs)) [
  | inl t ↦ rw t (omega arith)
  | inr f ↦ rw f (let longer = length_push xs y in omega (arith, longer))
]

part_file : (r part : RecipeValue) (rows : ℕ) (file : List ℕ) → IsPart r part rows → Contains r.files file → IsPart r (with_file part file) rows
part_file r part rows file p there = record {
  files = λ name in_part. elim (contains_with_new (is_named file) part.files file name in_part) [ inl old ↦ p.files name old | inr new ↦ rw (sym new.1) there ];
  files_differ = distinct_with_new is_named named_equiv part.files file p.files_differ;
  chunks = p.chunks;
  chunks_differ = p.chunks_differ;
  pairs = p.pairs;
}

part_pair : (r part : RecipeValue) (rows file : ℕ) (c : NamedChunk) → IsPart r part rows → Contains r.chunks c → IsPart r (with_pair part file c) (rows + 1)
part_pair r part rows file c p there =
    let chunks = with_new (is_chunk c.name) part.chunks c in
    let number = chunk_number chunks c.name in
    let longer = length_with_new (is_pair file number) part.pairs (file, number) in
    let before = p.pairs in
    record {
      files = p.files;
      files_differ = p.files_differ;
      chunks = λ k in_part. elim (contains_with_new (is_chunk c.name) part.chunks c k in_part) [ inl old ↦ p.chunks k old | inr new ↦ rw (sym new.1) there ];
      chunks_differ = distinct_with_new (λ (c : NamedChunk). is_chunk c.name) chunk_equiv part.chunks c p.chunks_differ;
      pairs = omega (arith, longer, before);
    }

-- a chunk of the recipe keeps its size in a part of it
part_keeps : (r part : RecipeValue) (rows : ℕ) (c : NamedChunk) → IsRecipe r → IsPart r part rows → Contains r.chunks c → KeepsSize part (Some c)
part_keeps r part rows c h p there = λ known in_part same.
    ap (λ (k : NamedChunk). k.size) (one_of_name r.chunks known c h.chunks_differ (p.chunks known in_part) there same)

-- one row of the recipe more
record Follows (r part : RecipeValue) (rows : ℕ) (row : Row) : Type 0 where
  may : MayFollow part row
  part_then : IsPart r (with_row part row) (rows + uses (row ∷ []))

follows : (r part : RecipeValue) (rows : ℕ) (file : List ℕ) (chunk : Option NamedChunk) → let row : Row = record { file = file; chunk = chunk } in IsRecipe r → IsPart r part rows → IsOf r row
    → rows + uses (row ∷ []) ≤ MOST_PAIRS → Follows r part rows row
follows r part rows file None h p of_r few =
    let after = part_file r part rows file p of_r.file in
    let count : rows ≡ rows + 0 = omega arith in
    record { may = record { size = tt; limits = part_limits r (with_file part file) rows h after (omega arith) }; part_then = rw (← count) after }
follows r part rows file (Some c) h p of_r few =
    let row : Row = record { file = file; chunk = Some c } in
    let named = with_file part file in
    let middle = part_file r part rows file p of_r.file in
    let there = of_r.chunk c refl in
    let after = part_pair r named rows (file_number named.files file) c middle there in
    record { may = record { size = part_keeps r part rows c h p there; limits = part_limits r (with_row part row) (rows + 1) h after few }; part_then = after }

-- all of them
pub record Replay (r part : RecipeValue) (front rows : List Row) (fields : List (List (List ℕ))) (n : ℕ) : Type 0 where
  pub back : RecipeValue
  pub leads : Leads part fields back
  pub so_far : SoFar (front ++ rows) back
  pub part_of : IsPart r back n

uses-cons : (row : Row) (rows : List Row) → uses (row ∷ rows) ≡ uses (row ∷ []) + uses rows
uses-cons row rows = ap length (filter_map-append (λ (row : Row). row.chunk) (row ∷ []) rows) ∙ length-append (filter_map (λ (row : Row). row.chunk) (row ∷ [])) (filter_map (λ (row : Row). row.chunk) rows)

pub replay : (r part : RecipeValue) (front rows : List Row) (fields : List (List (List ℕ))) (n : ℕ) → IsRecipe r → IsPart r part n → SoFar front part → AllZip SpellsRow fields rows → All (IsOf r) rows
    → n + uses rows ≤ MOST_PAIRS → Replay r part front rows fields (n + uses rows)
replay r part front [] [] n h p so_far spelled of_r few =
    let count : n ≡ n + 0 = omega arith in
    record { back = part; leads = refl; so_far = rw (append-nil front) so_far; part_of = rw (← count) p }
replay r part front [] (f ∷ fields) n h p so_far spelled of_r few = absurd spelled
replay r part front (row ∷ rows) [] n h p so_far spelled of_r few = absurd spelled
replay r part front (row ∷ rows) (f ∷ fields) n h p so_far spelled of_r few =
    let count = uses-cons row rows in
    let one = follows r part n row.file row.chunk h p (All-head (IsOf r) row rows of_r) (omega (arith, count)) in
    let next = with_row part row in
    let more = replay r next (front ++ row ∷ []) rows fields (n + uses (row ∷ [])) h one.part_then (step front part row.file row.chunk so_far one.may.size) spelled.1 (All-tail (IsOf r) row rows of_r) (omega (arith, count)) in
    let total : n + uses (row ∷ rows) ≡ n + uses (row ∷ []) + uses rows = omega (arith, count) in
    record {
      back = more.back;
      leads = (next, record { row = row; spelled = spelled.0; follows = one.may; taken = refl }, more.leads);
      so_far = rw (← append_assoc front (row ∷ []) rows) more.so_far;
      part_of = rw total more.part_of;
    }
