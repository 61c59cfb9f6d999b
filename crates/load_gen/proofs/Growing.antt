-- How recipes grow as they are drawn, and that they take each row.
use Rattle.std.specs.Prelude.{All, sum_by, map, ◌⊎◌}
use Rattle.std.proofs.Common.{◌≡◌, ◌∙◌, ℕ, zero, suc, ◌+◌, ◌*◌, ◌/◌, ◌%◌, ◌<◌, ◌≤◌, ◌^◌, List, Bool, Some, true, length, sym, ap, refl, subst, arith, inl, inr}
use Rattle.std.specs.Int.{from_be_bytes, w32}
use Rattle.std.specs.List.{list_any, range_with_len}
use Rattle.std.proofs.lemmas.Bool.{cases_Bool, cases_eq}
use Rattle.std.proofs.lemmas.List.{length_push}
use Rattle.std.proofs.lemmas.List.Elements.{All-nil, All-push, All-contains}
use Rattle.std.proofs.lemmas.List.FromFn.{map-range_with_len_more}
use Rattle.std.proofs.lemmas.Nat.{from_be_bytes-to_be_bytes_4}
use Rattle.std.proofs.Math.Nat.{mod-lt}
use Rattle.list_facts.proofs.FirstAppearance.{any_new}
use Rattle.list_facts.proofs.Numbering.{place}
use Rattle.recipe_reader.specs.Appearance.{Gathers}
use Rattle.recipe_reader.specs.Limits.{IsWithinLimits, KeepsSize, PassesFirst}
use Rattle.recipe_reader.specs.AddFaults.{IsLimitFault, IsPairFault}
use Rattle.recipe_reader.specs.Recipes.{NamedChunk, RecipeValue, bytes_of, is_named, is_chunk, is_pair, file_number, chunk_number, with_new, with_file, with_pair}
use Rattle.recipe_reader.specs.RecipeRows.{Row}
use Rattle.recipe_reader.specs.declared.error.AddError.{AddError}
use Rattle.recipe_reader.specs.declared.error.AddError.TheVariants.{Clash, TooMany, Memory}
use Rattle.recipe_reader.specs.declared.error.What.{What}
use Rattle.recipe_reader.specs.declared.error.What.TheVariants.{Files, Chunks, Bytes, Pairs}
use Rattle.recipe_reader.proofs.Gathering.{SoFar, nothing_so_far, step}
use Rattle.recipe_reader.proofs.Keeping.{bytes_push, named_equiv}
use Rattle.load_gen.specs.Draws.{chunk_numbered, file_named, number_drawn, row_drawn, rows_drawn, recipe_drawn}
use Rattle.load_gen.specs.Takes.{Takes}
use Rattle.load_gen.proofs.Names.{lawful_name}

-- every number drawn is below the modulus
pub drawn_below : (number draws : ℕ) → number ≤ 65535 → number_drawn number draws < 65537
drawn_below number zero small = omega arith
drawn_below number (suc draws) small = omega arith

-- a list with an item that may be new
longer : {X : Type 0} (p : X → Bool) (xs : List X) (x : X) → length (with_new p xs x) ≤ length xs + 1
longer p xs x = elim (cases_Bool (list_any p xs)) [
  | inl t ↦ rw t (omega arith)
  | inr f ↦ rw f (omega (arith, length_push xs x))
]

heavier : (chunks : List NamedChunk) (c : NamedChunk)
    → sum_by (λ (c : NamedChunk). c.size) (with_new (is_chunk c.name) chunks c) ≤ sum_by (λ (c : NamedChunk). c.size) chunks + c.size
heavier chunks c = elim (cases_Bool (list_any (is_chunk c.name) chunks)) [
  | inl t ↦ rw t (omega arith)
  | inr f ↦ rw f (omega (arith, bytes_push chunks c))
]

all_with_new : {X : Type 0} (P : X → Type 0) (p : X → Bool) (xs : List X) (x : X) → All P xs → P x → All P (with_new p xs x)
all_with_new P p xs x all last = elim (cases_Bool (list_any p xs)) [
  | inl t ↦ rw t all
  | inr f ↦ rw f (All-push P xs x all last)
]

same_length : {X : Type 0} (p : X → Bool) (xs : List X) (x : X) → list_any p xs ≡ true → length (with_new p xs x) ≡ length xs
same_length p xs x there = rw there refl

-- a chunk whose size its name tells
abbrev pub size_named : List ℕ → ℕ
size_named name = 1000 + 377 * from_be_bytes w32 name % 9000

abbrev pub IsSized : NamedChunk → Type 0
IsSized c = c.size ≡ size_named c.name

sized : (c : ℕ) → c < 2 ^ 32 → IsSized (chunk_numbered c)
sized c small = ap (λ (k : ℕ). 1000 + 377 * k % 9000) (sym (from_be_bytes-to_be_bytes_4 c small))

keeps_size : (r : RecipeValue) (c : ℕ) → c < 2 ^ 32 → All IsSized r.chunks → KeepsSize r (Some (chunk_numbered c))
keeps_size r c small all known there same = All-contains IsSized r.chunks known all there ∙ (ap size_named same ∙ sym (sized c small))

no_limit : (after : RecipeValue) (what : What) → IsWithinLimits after → PassesFirst after what → ⊥
no_limit after Files h past = omega (arith, h.files, past)
no_limit after Chunks h past = omega (arith, h.chunks, past.1)
no_limit after Bytes h past = omega (arith, h.bytes, past.2)
no_limit after Pairs h past = omega (arith, h.pairs, past.3)

-- what the first draws have come to
pub record IsGrown (draws : ℕ) (r : RecipeValue) : Type 0 where
  pub files : 4 * length r.files ≤ draws + 3
  pub chunks : length r.chunks ≤ draws
  pub bytes : bytes_of r ≤ 10000 * draws
  pub pairs : length r.pairs ≤ draws
  pub sized : All IsSized r.chunks
  pub last : (before : ℕ) → draws ≡ before + 1 → list_any (is_named (file_named (before / 4))) r.files ≡ true

-- a file more
files_grow : (draws : ℕ) (r : RecipeValue) → IsGrown draws r → 4 * length (with_new (is_named (file_named (draws / 4))) r.files (file_named (draws / 4))) ≤ draws + 4
files_grow zero r h = omega (arith, h.files, longer (is_named (file_named (zero / 4))) r.files (file_named (zero / 4)))
files_grow (suc before) r h = elim (edge before) [
  | inl next ↦ omega (arith, h.files, longer (is_named (file_named (suc before / 4))) r.files (file_named (suc before / 4)))
  | inr same ↦
      let there : list_any (is_named (file_named (suc before / 4))) r.files ≡ true = rw (sym same) (h.last before (omega arith)) in
      omega (arith, h.files, same_length (is_named (file_named (suc before / 4))) r.files (file_named (suc before / 4)) there)
]
  where
    edge : (before : ℕ) → (suc before % 4 ≡ 0) ⊎ (before / 4 ≡ suc before / 4)
    edge before = elim (cases_eq (suc before % 4) 0) [ inl next ↦ inl next | inr same ↦ inr (omega (arith, same)) ]

fewer_than : (x files : ℕ) → 1 ≤ files → files ≤ 16383 → x % (3 * files) < 49149
fewer_than x files some few = omega (arith, mod-lt x {m = 3 * files} (omega arith))

pub grown : (number files draws : ℕ) → 1 ≤ files → files ≤ 16383 → IsGrown draws (recipe_drawn number files draws)
grown number files zero some few = record {
  files = omega arith;
  chunks = omega arith;
  bytes = omega arith;
  pairs = omega arith;
  sized = All-nil IsSized;
  last = λ before e. absurd (omega arith);
}
grown number files (suc draws) some few =
    let h = grown number files draws some few in
    let r = recipe_drawn number files draws in
    let name = file_named (draws / 4) in
    let c = number_drawn number (suc draws) % (3 * files) in
    let chunk = chunk_numbered c in
    let small = fewer_than (number_drawn number (suc draws)) files some few in
    let chunks = with_new (is_chunk chunk.name) r.chunks chunk in
    let pair : ℕ × ℕ = (file_number (with_new (is_named name) r.files name) name, chunk_number chunks chunk.name) in
    record {
      files = omega (arith, files_grow draws r h);
      chunks = omega (arith, h.chunks, longer (is_chunk chunk.name) r.chunks chunk);
      bytes = omega (arith, h.bytes, heavier r.chunks chunk, light c);
      pairs = omega (arith, h.pairs, longer (is_pair pair.0 pair.1) r.pairs pair);
      sized = all_with_new IsSized (is_chunk chunk.name) r.chunks chunk h.sized (sized c (omega (arith, small)));
      last = λ before e.
          let same : before ≡ draws = omega (arith, e) in
          rw same (any_new (is_named name) r.files name (named_equiv.refl name));
    }
  where
    light : (c : ℕ) → 1000 + 377 * c % 9000 ≤ 10000
    light c = omega (arith, mod-lt (377 * c) {m = 9000} (omega arith))

-- the next row is taken
pub takes : (number files draws : ℕ) → 1 ≤ files → files ≤ 16383 → draws < 4 * files
    → Takes (recipe_drawn number files draws) (file_named (draws / 4)) (number_drawn number (suc draws) % (3 * files))
takes number files draws some few before =
    let r = recipe_drawn number files draws in
    let h = grown number files draws some few in
    let next = grown number files (suc draws) some few in
    let c = number_drawn number (suc draws) % (3 * files) in
    let small = fewer_than (number_drawn number (suc draws)) files some few in
    record {
      name = lawful_name (draws / 4) (omega arith);
      below = small;
      file_room = record {
        files = omega (arith, files_grow draws r h);
        chunks = omega (arith, h.chunks);
        bytes = omega (arith, h.bytes);
        pairs = omega (arith, h.pairs);
      };
      room = record {
        files = omega (arith, next.files);
        chunks = omega (arith, next.chunks);
        bytes = omega (arith, next.bytes);
        pairs = omega (arith, next.pairs);
      };
      size = keeps_size r c (omega (arith, small)) h.sized;
    }

-- the rows so far gather to the recipe so far
gathers_so_far : (number files draws : ℕ) → 1 ≤ files → files ≤ 16383 → SoFar (map (row_drawn number files) (range_with_len 0 draws)) (recipe_drawn number files draws)
gathers_so_far number files zero some few = nothing_so_far
gathers_so_far number files (suc draws) some few =
    let r = recipe_drawn number files draws in
    let h = grown number files draws some few in
    let c = number_drawn number (suc draws) % (3 * files) in
    let small = fewer_than (number_drawn number (suc draws)) files some few in
    let more = map-range_with_len_more (row_drawn number files) 0 draws draws (omega arith) in
    let next = step (map (row_drawn number files) (range_with_len 0 draws)) r (file_named (draws / 4)) (Some (chunk_numbered c)) (gathers_so_far number files draws some few)
    (keeps_size r c (omega (arith, small)) h.sized) in
    let one : draws + 1 ≡ suc draws = omega arith in
    let rows = rw one at more in
    let P : List Row → Type 0 = λ t. SoFar t (recipe_drawn number files (suc draws)) in
    subst P (sym rows) next

pub gathers : (number files : ℕ) → 1 ≤ files → files ≤ 16383 → Gathers (rows_drawn number files) (recipe_drawn number files (4 * files))
gathers number files some few = (gathers_so_far number files (4 * files) some few).gathers

-- a fault that no limit explains is want of memory
pub only_memory : (after : RecipeValue) (e : AddError) → IsWithinLimits after → IsLimitFault after e → e ≡ Memory
only_memory after (Clash first now) h fault = absurd fault
only_memory after (TooMany what) h fault = absurd (no_limit after what h fault)
only_memory after Memory h fault = refl

pub only_memory_pair : (r : RecipeValue) (file : ℕ) (c : NamedChunk) (e : AddError) → KeepsSize r (Some c) → IsWithinLimits (with_pair r file c) → IsPairFault r file c e → e ≡ Memory
only_memory_pair r file c (Clash first now) keeps h fault = absurd (fault.1 (keeps (record { name = c.name; size = first }) fault.2 refl ∙ fault.0))
only_memory_pair r file c (TooMany what) keeps h fault = absurd (no_limit (with_pair r file c) what h fault.1)
only_memory_pair r file c Memory keeps h fault = refl

-- a file that was added has a number
pub added_file : (r : RecipeValue) (name : List ℕ) → file_number (with_file r name).files name < length (with_file r name).files
added_file r name = (place (is_named name) (with_file r name).files (any_new (is_named name) r.files name (named_equiv.refl name))).within
