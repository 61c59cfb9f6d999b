-- The text of a recipe has the rows of the recipe.
use Rattle.std.specs.Prelude.{◌&&◌, ◌==◌, All, map, codes}
use Rattle.std.proofs.Common.{◌≡◌, ◌∙◌, ◌∷◌, ◌++◌, ◌≤◌, [], ℕ, zero, suc, List, refl, sym, ap, length, arith, inl, inr, append_assoc}
use Rattle.std.specs.List.{flat_map, range_with_len}
use Rattle.std.proofs.lemmas.Bool.{cases_Bool, and_parts, eqb-true}
use Rattle.std.specs.Fmt.{decimal}
use Rattle.std.proofs.lemmas.List.{map-append}
use Rattle.hex.specs.Hex.{encode_lower}
use Rattle.file_names.proofs.Marks.{unmarked_bytes}
use Rattle.csv.specs.Reading.{strip_bom, is_bom}
use Rattle.csv.specs.Writing.{default_writer, field_text, fields_text, is_blank, read_back, row_text}
use Rattle.csv_rows.specs.Rows.{rows_of, rows_text}
use Rattle.csv_rows.proofs.Mark.{field_keeps}
use Rattle.csv_rows.proofs.Written.{read-rows_text}
use Rattle.file_names.specs.FileNames.{IsFileName, StartsWithMark}
use Rattle.recipe_reader.specs.Lawful.{IsRecipe}
use Rattle.recipe_reader.specs.Recipes.{RecipeValue, name_at, size_at}
use Rattle.recipe_reader.specs.WrittenRows.{chunks_used, file_at, file_rows, pair_row, rows_of_recipe}

-- a name that begins with no mark keeps its first bytes
pub unmarked : (name : List ℕ) → ¬ StartsWithMark name → strip_bom name ≡ name
unfolding strip_bom
unmarked [] none = refl
unmarked (a ∷ []) none = refl
unmarked (a ∷ b ∷ []) none = refl
unmarked (a ∷ b ∷ c ∷ rest) none = elim (cases_Bool (is_bom a b c)) [
  | inl t ↦
      let outer = and_parts ((a == 0xEF) && (b == 0xBB)) (c == 0xBF) t in
      let inner = and_parts (a == 0xEF) (b == 0xBB) outer.0 in
      let one = eqb-true a 0xEF inner.0 in
      let two = eqb-true b 0xBB inner.1 in
      let three = eqb-true c 0xBF outer.1 in
      absurd (none (rest, rw (one, two, three) refl))
  | inr f ↦ rw f refl
]

-- a row of three fields, as its text begins
joined : (front more end rest : List ℕ) → ((front ++ 44 ∷ more) ++ end) ++ rest ≡ front ++ 44 ∷ (more ++ (end ++ rest))
joined front more end rest = append_assoc (front ++ 44 ∷ more) end rest ∙ append_assoc front (44 ∷ more) (end ++ rest)

row-begins : (name second third rest : List ℕ) → strip_bom name ≡ name → strip_bom (row_text default_writer (name ∷ second ∷ third ∷ []) ++ rest) ≡ row_text default_writer (name ∷ second ∷ third ∷ []) ++ rest
unfolding fields_text is_blank
row-begins name second third rest plain =
    let more = field_text default_writer second ++ 44 ∷ (field_text default_writer third ++ []) in
    let shape = joined (field_text default_writer name) more (10 ∷ []) rest in
    ap strip_bom shape ∙ (field_keeps name (more ++ ((10 ∷ []) ++ rest)) plain ∙ sym shape)

-- so begins the text of a file's rows
file-begins : (r : RecipeValue) (file : ℕ) (chunks : List ℕ) (rest : List (List (List ℕ))) → strip_bom (file_at r file) ≡ file_at r file
    → strip_bom (rows_text (file_rows r file chunks ++ rest)) ≡ rows_text (file_rows r file chunks ++ rest)
unfolding rows_text
file-begins r file [] rest plain = row-begins (file_at r file) [] (codes "0") (rows_text rest) plain
file-begins r file (chunk ∷ chunks) rest plain =
    row-begins (file_at r file) (encode_lower (name_at r chunk)) (decimal (size_at r chunk)) (rows_text (map (pair_row r file) chunks ++ rest)) plain

begins : (r : RecipeValue) (n : ℕ) → n ≤ length r.files → All IsFileName r.files
    → let rows : ℕ → List (List (List ℕ)) = λ file. file_rows r file (chunks_used r.pairs file) in
    strip_bom (rows_text (flat_map rows (range_with_len 0 n))) ≡ rows_text (flat_map rows (range_with_len 0 n))
unfolding strip_bom rows_text
begins r zero within lawful = refl
begins r (suc n) within lawful =
    let plain : strip_bom (file_at r 0) ≡ file_at r 0 = unmarked (file_at r 0) (unmarked_bytes (file_at r 0) (lawful 0 [] (omega arith))) in
    let rows : ℕ → List (List (List ℕ)) = λ file. file_rows r file (chunks_used r.pairs file) in
    file-begins r 0 (chunks_used r.pairs 0) (flat_map rows (range_with_len 1 n)) plain

-- reading leaves rows of some fields as they are
pairs-back : (r : RecipeValue) (file : ℕ) (chunks : List ℕ) → map read_back (map (pair_row r file) chunks) ≡ map (pair_row r file) chunks
pairs-back r file [] = refl
pairs-back r file (chunk ∷ chunks) = ap (λ (t : List (List (List ℕ))). pair_row r file chunk ∷ t) (pairs-back r file chunks)

file-back : (r : RecipeValue) (file : ℕ) (chunks : List ℕ) → map read_back (file_rows r file chunks) ≡ file_rows r file chunks
file-back r file [] = refl
file-back r file (chunk ∷ chunks) = pairs-back r file (chunk ∷ chunks)

all-back : (r : RecipeValue) (files : List ℕ) → let rows : ℕ → List (List (List ℕ)) = λ file. file_rows r file (chunks_used r.pairs file) in map read_back (flat_map rows files) ≡ flat_map rows files
all-back r [] = refl
all-back r (file ∷ files) =
    let rows : ℕ → List (List (List ℕ)) = λ file. file_rows r file (chunks_used r.pairs file) in
    map-append read_back (rows file) (flat_map rows files) ∙ rw (file-back r file (chunks_used r.pairs file), all-back r files) refl

pub reads_back : (r : RecipeValue) → IsRecipe r → rows_of (rows_text (rows_of_recipe r)) ≡ rows_of_recipe r
reads_back r h = read-rows_text (rows_of_recipe r) (begins r (length r.files) (omega arith) h.files) ∙ all-back r (range_with_len 0 (length r.files))
