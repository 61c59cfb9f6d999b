-- A row that is drawn, as it is added.
use Rattle.std.proofs.Common.{◌≡◌, ◌∙◌, ℕ, suc, ◌+◌, ◌*◌, ◌/◌, ◌%◌, ◌<◌, ◌≤◌, List, length, sym, ap, subst, arith}
use Rattle.std.specs.Int.{to_be_bytes, w32}
use Rattle.recipe_reader.specs.AddFaults.{IsPairFault}
use Rattle.recipe_reader.specs.Appearance.{Gathers}
use Rattle.recipe_reader.specs.Recipes.{NamedChunk, RecipeValue, file_number, with_file, with_pair}
use Rattle.recipe_reader.specs.RecipeRows.{with_row}
use Rattle.recipe_reader.specs.declared.error.AddError.{AddError}
use Rattle.recipe_reader.specs.declared.error.AddError.TheVariants.{Memory}
use Rattle.load_gen.specs.Draws.{chunk_numbered, file_named, next_number, number_drawn, row_of, rows_drawn, recipe_drawn}
use Rattle.load_gen.specs.Takes.{Takes}
use Rattle.load_gen.proofs.Growing.{added_file, gathers, only_memory_pair, takes}

-- the number of the file is that of a file
pub added_at : (r after : RecipeValue) (name : List ℕ) (file : ℕ) → after ≡ with_file r name → file ≡ file_number after.files name → file < length after.files
added_at r after name file is number =
    let P : RecipeValue → Type 0 = λ t. file_number t.files name < length t.files in
    omega (arith, number, subst P (sym is) (added_file r name))

chunk_is : (bytes : List ℕ) (chunk size : ℕ) → bytes ≡ to_be_bytes w32 chunk → size ≡ 377 * chunk % 9000
    → let c : NamedChunk = record { name = bytes; size = 1000 + size } in c ≡ chunk_numbered chunk
chunk_is bytes chunk size named sized = λ i. record { name = named i; size = 1000 + sized i }

-- the recipe once the file and the pair are added
pub paired : (r after last : RecipeValue) (name bytes : List ℕ) (chunk file size : ℕ) → after ≡ with_file r name → file ≡ file_number after.files name
    → bytes ≡ to_be_bytes w32 chunk → size ≡ 377 * chunk % 9000 → last ≡ with_pair after file (record { name = bytes; size = 1000 + size }) → last ≡ with_row r (row_of name chunk)
paired r after last name bytes chunk file size is number named sized last_is =
    last_is ∙ ap (λ (c : NamedChunk). with_pair after file c) (chunk_is bytes chunk size named sized) ∙ ap (λ (n : ℕ). with_pair after n (chunk_numbered chunk)) number
    ∙ ap (λ (t : RecipeValue). with_pair t (file_number t.files name) (chunk_numbered chunk)) is

-- the pair of a row that is taken is only refused for want of memory
pub want_pair : (r after : RecipeValue) (name bytes : List ℕ) (chunk file size : ℕ) (e : AddError) → Takes r name chunk → after ≡ with_file r name → file ≡ file_number after.files name
    → bytes ≡ to_be_bytes w32 chunk → size ≡ 377 * chunk % 9000 → IsPairFault after file (record { name = bytes; size = 1000 + size }) e → e ≡ Memory
want_pair r after name bytes chunk file size e t is number named sized fault =
    let P : NamedChunk → Type 0 = λ c. IsPairFault after file c e in
    let Q : ℕ → Type 0 = λ n. IsPairFault after n (chunk_numbered chunk) e in
    let R : RecipeValue → Type 0 = λ s. IsPairFault s (file_number s.files name) (chunk_numbered chunk) e in
    only_memory_pair (with_file r name) (file_number (with_file r name).files name) (chunk_numbered chunk) e t.size t.room
    (subst R is (subst Q number (subst P (chunk_is bytes chunk size named sized) fault)))

-- a file's next row is taken
pub takes_at : (r : RecipeValue) (number files file draw state next : ℕ) (name : List ℕ) → 1 ≤ files → files ≤ 16383 → file < files → draw < 4
    → state ≡ number_drawn number (4 * file + draw) → r ≡ recipe_drawn number files (4 * file + draw) → next ≡ next_number state → name ≡ file_named file
    → Takes r name (next % (3 * files))
takes_at r number files file draw state next name some few within four state_is recipe_is next_is name_is =
    let draws : ℕ = 4 * file + draw in
    let quarter : draws / 4 ≡ file = omega arith in
    let drawn = takes number files draws some few (omega arith) in
    let last : number_drawn number (suc draws) ≡ next = sym (next_is ∙ ap next_number state_is) in
    let A : RecipeValue → Type 0 = λ s. Takes s name (next % (3 * files)) in
    let B : List ℕ → Type 0 = λ s. Takes (recipe_drawn number files draws) s (next % (3 * files)) in
    let C : ℕ → Type 0 = λ s. Takes (recipe_drawn number files draws) (file_named (draws / 4)) (s % (3 * files)) in
    subst A (sym recipe_is) (subst B (ap file_named quarter ∙ sym name_is) (subst C last drawn))

-- and the recipe is that of one draw more
pub drawn_on : (r after : RecipeValue) (number files file draw state next : ℕ) (name : List ℕ) → draw < 4
    → state ≡ number_drawn number (4 * file + draw) → r ≡ recipe_drawn number files (4 * file + draw) → next ≡ next_number state → name ≡ file_named file
    → after ≡ with_row r (row_of name (next % (3 * files)))
    → (next ≡ number_drawn number (4 * file + (draw + 1))) × (after ≡ recipe_drawn number files (4 * file + (draw + 1)))
drawn_on r after number files file draw state next name four state_is recipe_is next_is name_is after_is =
    let draws : ℕ = 4 * file + draw in
    let quarter : draws / 4 ≡ file = omega arith in
    let more : suc draws ≡ 4 * file + (draw + 1) = omega arith in
    let last : next ≡ number_drawn number (suc draws) = next_is ∙ ap next_number state_is in
    let row = ap (λ (s : List ℕ). row_of s (next % (3 * files))) (name_is ∙ sym (ap file_named quarter)) ∙ ap (λ (s : ℕ). row_of (file_named (draws / 4)) (s % (3 * files))) last in
    let whole : after ≡ recipe_drawn number files (suc draws) = after_is ∙ ap (λ s. with_row s (row_of name (next % (3 * files)))) recipe_is ∙ ap (with_row (recipe_drawn number files draws)) row in
    (last ∙ ap (number_drawn number) more, whole ∙ ap (recipe_drawn number files) more)

pub gathered_at : (r : RecipeValue) (number files file : ℕ) → 1 ≤ files → files ≤ 16383 → file ≡ files → r ≡ recipe_drawn number files (4 * file) → Gathers (rows_drawn number files) r
gathered_at r number files file some few same recipe_is =
    let P : RecipeValue → Type 0 = λ s. Gathers (rows_drawn number files) s in
    subst P (sym (recipe_is ∙ ap (λ (n : ℕ). recipe_drawn number files (4 * n)) same)) (gathers number files some few)
