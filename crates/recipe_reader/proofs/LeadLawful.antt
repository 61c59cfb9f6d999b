-- Rows lead to lawful recipes.
use Rattle.std.proofs.Common.{◌≡◌, ◌∷◌, ◌++◌, ◌+◌, ◌<◌, ◌≤◌, [], ℕ, List, Bool, true, false, Option, Some, None, subst, sym, length, inl, inr, arith}
use Rattle.std.specs.Prelude.{All}
use Rattle.std.specs.List.{list_any}
use Rattle.std.proofs.lemmas.Bool.{cases_Bool}
use Rattle.std.proofs.lemmas.List.{length_push, get_or_default}
use Rattle.hex.specs.Hex.{IsBytes}
use Rattle.hex.proofs.HexLemmas.{decode_of-ok}
use Rattle.file_names.specs.FileNames.{IsFileName}
use Rattle.list_facts.proofs.Numbering.{place}
use Rattle.seed_model.specs.declared.limits.TheConstants.{MOST_FILES}
use Rattle.recipe_reader.specs.Lawful.{IsChunk, IsRecipe}
use Rattle.recipe_reader.specs.Limits.{IsWithinLimits}
use Rattle.recipe_reader.specs.Reading.{Leads}
use Rattle.recipe_reader.specs.Recipes.{NamedChunk, RecipeValue, is_named, is_chunk, is_pair, file_number, chunk_number, with_file, with_pair, with_use}
use Rattle.recipe_reader.specs.RecipeRows.{Row, SpellsRow, SpellsChunk, SpellsChunkName, SpellsSize, with_row}
use Rattle.recipe_reader.proofs.Keeping.{file_keeps, known_or_new_keeps, chunk_keeps, bytes_push}
use Rattle.recipe_reader.proofs.OnePairMore.{with_pair-known, with_pair-new}
use Rattle.recipe_reader.proofs.RowsTaken.{file_there}

-- with a file
known_or_new_file : (r : RecipeValue) (name : List ℕ) → IsRecipe r → IsFileName name → length (with_file r name).files ≤ MOST_FILES → IsRecipe (with_file r name)
known_or_new_file r name h lawful few = elim (cases_Bool (list_any (is_named name) r.files)) [
  | inl known ↦ rw known h
  | inr new ↦
      let longer : length (r.files ++ name ∷ []) ≡ length r.files + 1 = length_push r.files name in
      let few2 : length (r.files ++ name ∷ []) ≤ MOST_FILES = rw new at few in
      rw new (file_keeps r name h lawful new (omega (arith, longer, few2)))
]

-- with a use
use_within : (r : RecipeValue) (file chunk : ℕ) → IsRecipe r → file < length r.files → chunk < length r.chunks → IsWithinLimits (with_use r file chunk) → IsRecipe (with_use r file chunk)
use_within r file chunk h file_in chunk_in limits = known_or_new_keeps r file chunk h file_in chunk_in (λ new.
    let longer = length_push r.pairs (file, chunk) in
    let pairs = rw new at limits.pairs in
    omega (arith, longer, pairs))

-- with a pair
pair_within : (r : RecipeValue) (file : ℕ) (c : NamedChunk) → IsRecipe r → file < length r.files → IsChunk c → IsWithinLimits (with_pair r file c) → IsRecipe (with_pair r file c)
pair_within r file c h file_in lawful limits = elim (cases_Bool (list_any (is_chunk c.name) r.chunks)) [
  | inl known ↦
      let same = with_pair-known r file c known in
      rw same (use_within r file (chunk_number r.chunks c.name) h file_in (place (is_chunk c.name) r.chunks known).within (subst IsWithinLimits same limits))
  | inr new ↦
      let same = with_pair-new r file c h new in
      let l = subst IsWithinLimits same limits in
      let chunks = l.chunks in
      let pairs = l.pairs in
      let bytes = l.bytes in
      rw same (chunk_keeps r file c h file_in lawful new
      (omega (arith, chunks, length_push r.chunks c)) (omega (arith, bytes, bytes_push r.chunks c)) (omega (arith, pairs, length_push r.pairs (file, length r.chunks))))
]

bytes_below : (xs : List ℕ) → IsBytes xs → All (λ b. b < 256) xs
bytes_below xs h = λ i d lt. subst (λ b. b < 256) (sym (get_or_default xs i d 0 lt)) (h i)

-- a chunk that a row spells
spelled_chunk : (name size : List ℕ) (c : NamedChunk) → SpellsChunk name size (Some c) → IsChunk c
spelled_chunk name size c s =
    let n = s.0 in
    record { name = record { bytes = bytes_below c.name (decode_of-ok name c.name n.digits).3; some = n.some; short = n.short }; small = s.1.small }

row_within : (r : RecipeValue) (file name size : List ℕ) (chunk : Option NamedChunk) → IsRecipe r → IsFileName file → SpellsChunk name size chunk
    → IsWithinLimits (with_row r (record { file = file; chunk = chunk })) → IsRecipe (with_row r (record { file = file; chunk = chunk }))
row_within r file name size None h lawful spells limits = known_or_new_file r file h lawful limits.files
row_within r file name size (Some c) h lawful spells limits =
    pair_within (with_file r file) (file_number (with_file r file).files file) c (known_or_new_file r file h lawful limits.files) (file_there r file) (spelled_chunk name size c spells) limits

pub leads_lawful : (rows : List (List (List ℕ))) (before after : RecipeValue) → IsRecipe before → Leads before rows after → IsRecipe after
leads_lawful [] before after h leads = subst IsRecipe leads h
leads_lawful (fields ∷ rows) before after h leads =
    let t = leads.1 in
    let s = t.spelled in
    let next : IsRecipe (with_row before t.row) = row_within before t.row.file s.name s.size t.row.chunk h s.file s.chunk t.follows.limits in
    leads_lawful rows leads.0 after (subst IsRecipe (sym t.taken) next) leads.2
