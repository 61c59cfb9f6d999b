-- What a row does to a recipe, and why it is refused.
use Rattle.std.specs.Prelude.{codes, Result, Ok, Err, OnOk}
use Rattle.std.proofs.Common.{◌≡◌, ◌≢◌, ◌∷◌, ◌++◌, ◌+◌, ◌<◌, [], ℕ, List, Some, refl, length, get_or, arith, inl, inr}
use Rattle.std.specs.List.{list_any}
use Rattle.std.proofs.lemmas.Bool.{cases_Bool}
use Rattle.std.proofs.lemmas.List.{length_push}
use Rattle.file_names.specs.FileNames.{IsFileName}
use Rattle.recipe_reader.specs.AddFaults.{IsLimitFault, IsPairFault}
use Rattle.recipe_reader.specs.Lawful.{IsRecipe}
use Rattle.recipe_reader.specs.Limits.{KeepsSize, PassesFirst, IsWithinLimits}
use Rattle.recipe_reader.specs.Parts.{NamesChunk, IsRowFault, chunk_of, fault_at, row_of}
use Rattle.recipe_reader.specs.Reading.{IsFault, Leads, MayFollow, TakesRow}
use Rattle.recipe_reader.specs.Recipes.{RecipeValue, is_named, file_number, with_file, with_pair}
use Rattle.recipe_reader.specs.RecipeRows.{Row, SpellsRow, SpellsSize, with_row}
use Rattle.recipe_reader.specs.declared.error.AddError.{AddError}
use Rattle.recipe_reader.specs.declared.error.AddError.TheVariants as add
use Rattle.recipe_reader.specs.declared.error.RecipeError.{RecipeError}
use Rattle.recipe_reader.specs.declared.error.RecipeError.TheVariants.{BadRow, BadName, BadChunkName, BadSize, SizeClash, TooMany, Memory}
use Rattle.recipe_reader.specs.declared.error.What.{What}
use Rattle.recipe_reader.specs.declared.error.What.TheVariants.{Files, Chunks, Bytes, Pairs}
use Rattle.recipe_reader.proofs.Fields.{three_fields}
use Rattle.recipe_reader.proofs.Keeping.{named_equiv}
use Rattle.list_facts.proofs.Numbering.{place}
use Rattle.recipe_reader.proofs.OnePairMore.{number_last}

-- a chunk with a name
pub chunk_of-named : (name : List ℕ) (size : ℕ) → 0 < length name → chunk_of name size ≡ Some record { name = name; size = size }
chunk_of-named [] size some = absurd (omega arith)
chunk_of-named (b ∷ name) size some = refl

pub keeps_chunk_of : (r : RecipeValue) (name : List ℕ) (size : ℕ) → KeepsSize r (Some record { name = name; size = size }) → KeepsSize r (chunk_of name size)
keeps_chunk_of r [] size keeps = tt
keeps_chunk_of r (b ∷ name) size keeps = keeps

-- a row that names a chunk
pub with_row-named : (r : RecipeValue) (file name : List ℕ) (size : ℕ) → 0 < length name
    → with_row r (row_of file name size) ≡ with_pair (with_file r file) (file_number (with_file r file).files file) (record { name = name; size = size })
with_row-named r file [] size some = absurd (omega arith)
with_row-named r file (b ∷ name) size some = refl

-- the row's file is there once it is added
pub file_there : (r : RecipeValue) (file : List ℕ) → file_number (with_file r file).files file < length (with_file r file).files
file_there r file = elim (cases_Bool (list_any (is_named file) r.files)) [
  | inl t ↦ rw t (place (is_named file) r.files t).within
  | inr f ↦
      let last = number_last (is_named file) r.files file f (named_equiv.refl file) in
      let longer : length (r.files ++ file ∷ []) ≡ length r.files + 1 = length_push r.files file in
      rw (f, last) (omega (arith, longer))
]

-- a file can only pass the limit of files
pub file_limit : (r : RecipeValue) (file name : List ℕ) (size : ℕ) (what : What) → IsRecipe r → PassesFirst (with_file r file) what → PassesFirst (with_row r (row_of file name size)) what
file_limit r file [] size what h passes = passes
file_limit r file (b ∷ name) size Files h passes = passes
file_limit r file (b ∷ name) size Chunks h passes = let limit = h.limits.chunks in let over = passes.1 in absurd (omega (arith, limit, over))
file_limit r file (b ∷ name) size Bytes h passes = let limit = h.limits.bytes in let over = passes.2 in absurd (omega (arith, limit, over))
file_limit r file (b ∷ name) size Pairs h passes = let limit = h.limits.pairs in let over = passes.3 in absurd (omega (arith, limit, over))

pub file_refused : (r : RecipeValue) (number : ℕ) (file name : List ℕ) (size : ℕ) (fault : AddError) → IsRecipe r → KeepsSize r (Some record { name = name; size = size })
    → IsLimitFault (with_file r file) fault → fault_at number fault ≢ Memory → IsRowFault r number (row_of file name size) (fault_at number fault)
file_refused r number file name size (add.Clash first now) h keeps limit other = absurd limit
file_refused r number file name size (add.TooMany what) h keeps limit other = (refl, keeps_chunk_of r name size keeps, file_limit r file name size what h limit)
file_refused r number file name size add.Memory h keeps limit other = absurd (other refl)

pub pair_refused : (r : RecipeValue) (number : ℕ) (file name : List ℕ) (size : ℕ) (fault : AddError) → 0 < length name
    → IsPairFault (with_file r file) (file_number (with_file r file).files file) (record { name = name; size = size }) fault → fault_at number fault ≢ Memory
    → IsRowFault r number (row_of file name size) (fault_at number fault)
pair_refused r number file [] size fault some h other = absurd (omega arith)
pair_refused r number file (b ∷ name) size (add.Clash first now) some h other = (refl, (record { name = b ∷ name; size = size }, refl, h.0, h.1, h.2))
pair_refused r number file (b ∷ name) size (add.TooMany what) some h other = (refl, h.0, h.1)
pair_refused r number file (b ∷ name) size add.Memory some h other = absurd (other refl)

pub follows_named : (r : RecipeValue) (file name : List ℕ) (size : ℕ) → 0 < length name → KeepsSize (with_file r file) (Some record { name = name; size = size })
    → IsWithinLimits (with_row r (row_of file name size)) → MayFollow r (row_of file name size)
follows_named r file name size some keeps limits = record { size = keeps_chunk_of r name size keeps; limits = limits }

-- what the fields spell
pub spells_row : (fields : List (List ℕ)) (file text name size_text : List ℕ) (size : ℕ) → fields ≡ file ∷ text ∷ size_text ∷ [] → IsFileName file → NamesChunk text name
    → SpellsSize size_text size → (text ≡ [] → size_text ≡ codes "0") → SpellsRow fields (row_of file name size)
spells_row fields file text [] size_text size three lawful (inl empty) spelled unnamed =
    record { name = text; size = size_text; three = three; file = lawful; chunk = (empty.0, unnamed empty.0) }
spells_row fields file text [] size_text size three lawful (inr named) spelled unnamed = let some = named.some in absurd (omega (arith, some))
spells_row fields file text (b ∷ name) size_text size three lawful (inl empty) spelled unnamed = cc empty.1
spells_row fields file text (b ∷ name) size_text size three lawful (inr named) spelled unnamed =
    record { name = text; size = size_text; three = three; file = lawful; chunk = (named, spelled) }

-- a well spelled row's fault
pub row_fault : (r : RecipeValue) (number : ℕ) (fields : List (List ℕ)) (row : Row) (e : RecipeError) → SpellsRow fields row → IsRowFault r number row e → IsFault r number fields e
row_fault r number fields row (BadRow at) spelled h = absurd h
row_fault r number fields row (BadName at) spelled h = absurd h
row_fault r number fields row (BadChunkName at) spelled h = absurd h
row_fault r number fields row (BadSize at) spelled h = absurd h
row_fault r number fields row (SizeClash at first now) spelled h =
    (h.0, (row, h.1.0, record { name = h.1.0.name; size = first }, spelled, h.1.1, h.1.2, h.1.4, refl, refl, h.1.3))
row_fault r number fields row (TooMany at what) spelled h = (h.0, (row, spelled, h.1, h.2))
row_fault r number fields row Memory spelled h = absurd h

-- one row more
pub leads_push : (start before after : RecipeValue) (rows : List (List (List ℕ))) (fields : List (List ℕ)) → Leads start rows before → TakesRow before fields after → Leads start (rows ++ fields ∷ []) after
leads_push start before after [] fields led taken = (after, rw led taken, refl)
leads_push start before after (row ∷ rows) fields led taken = (led.0, led.1, leads_push led.0 before after rows fields led.2 taken)

-- the fields of a row, one by one
pub spells_fields : (fields : List (List ℕ)) (first second third file name shown : List ℕ) (size : ℕ) → length fields ≡ 3
    → first ≡ get_or fields 0 [] → second ≡ get_or fields 1 [] → third ≡ get_or fields 2 [] → file ≡ first → IsFileName first → shown ≡ name → NamesChunk second name
    → SpellsSize third size → (second ≡ [] → third ≡ codes "0") → SpellsRow fields (row_of file shown size)
spells_fields fields first second third file name shown size three one two last same lawful is_name named spelled unnamed =
    let split : fields ≡ first ∷ second ∷ third ∷ [] = rw (one, two, last) (three_fields fields three) in
    rw (same, is_name) (spells_row fields first second name third size split lawful named spelled unnamed)

-- a row that is spelled and may follow is taken
pub row_taken : {T E : Type 0} (result : Result T E) (before after : RecipeValue) (fields : List (List ℕ)) (row : Row) → SpellsRow fields row → OnOk result (after ≡ with_row before row)
    → OnOk result (MayFollow before row) → OnOk result (TakesRow before fields after)
row_taken (Ok value) before after fields row spelled taken follows = record { row = row; spelled = spelled; follows = follows; taken = taken }
row_taken (Err error) before after fields row spelled taken follows = tt
