-- Rows that lead to a recipe gather to it.
use Rattle.std.specs.Prelude.{All, map}
use Rattle.std.proofs.Common.{◌≡◌, ◌∙◌, ◌∷◌, ◌++◌, [], ℕ, List, Option, Some, None, refl, sym, ap, subst, true, inl, inr}
use Rattle.std.specs.List.{AllZip, list_any, filter_map}
use Rattle.std.proofs.lemmas.List.{append-nil, append_assoc, map-append}
use Rattle.std.proofs.lemmas.List.Elements.{All-nil, All-push, All-weaker, filter_map-append}
use Rattle.recipe_reader.specs.Appearance.{firsts, pair_named, Gathers, IsGathered}
use Rattle.recipe_reader.specs.Limits.{KeepsSize}
use Rattle.recipe_reader.specs.Reading.{Leads}
use Rattle.recipe_reader.specs.Recipes.{NamedChunk, RecipeValue, empty_recipe, is_named, is_chunk, is_pair, with_new, with_file, with_pair, file_number, chunk_number}
use Rattle.recipe_reader.specs.RecipeRows.{Row, SpellsRow, with_row}
use Rattle.list_facts.proofs.FirstAppearance.{firsts-push, any_with_new, place_with_new, any_new, contains_with_new, filter_map-same}
use Rattle.recipe_reader.proofs.Keeping.{named_equiv, chunk_equiv, pair_equiv}

-- the chunk, if any, is known by name
abbrev pub KnowsChunk : RecipeValue → Option NamedChunk → Type 0
KnowsChunk r None = Unit {0}
KnowsChunk r (Some c) = list_any (is_chunk c.name) r.chunks ≡ true

-- what stands for the rows so far
pub record Stands (r : RecipeValue) (row : Row) : Type 0 where
  pub file : list_any (is_named row.file) r.files ≡ true
  pub chunk : KnowsChunk r row.chunk

pub record SoFar (rows : List Row) (r : RecipeValue) : Type 0 where
  pub gathers : Gathers rows r
  pub stands : All (Stands r) rows

-- one recipe grew to the other: what was there keeps its number and its size
record Grows (r s : RecipeValue) : Type 0 where
  files : (name : List ℕ) → list_any (is_named name) r.files ≡ true → (list_any (is_named name) s.files ≡ true) × (file_number s.files name ≡ file_number r.files name)
  chunks : (name : List ℕ) → list_any (is_chunk name) r.chunks ≡ true → (list_any (is_chunk name) s.chunks ≡ true) × (chunk_number s.chunks name ≡ chunk_number r.chunks name)
  sizes : (chunk : Option NamedChunk) → KnowsChunk r chunk → KeepsSize r chunk → KeepsSize s chunk

stands_on : (r s : RecipeValue) (row : Row) (chunk : Option NamedChunk) → row.chunk ≡ chunk → Grows r s → Stands r row → Stands s row
stands_on r s row None is grows stands = record { file = (grows.files row.file stands.file).0; chunk = rw is tt }
stands_on r s row (Some c) is grows stands = record { file = (grows.files row.file stands.file).0; chunk = rw is (grows.chunks c.name (rw is at stands.chunk)).0 }

same_pair : (r s : RecipeValue) (row : Row) (chunk : Option NamedChunk) → row.chunk ≡ chunk → Grows r s → Stands r row → pair_named s row ≡ pair_named r row
same_pair r s row None is grows stands = rw is refl
same_pair r s row (Some c) is grows stands =
    let file = (grows.files row.file stands.file).1 in
    let chunk = (grows.chunks c.name (rw is at stands.chunk)).1 in
    rw (is, file, chunk) refl

-- a file more
grows_file : (r : RecipeValue) (file : List ℕ) → Grows r (with_file r file)
grows_file r file = record {
  files = λ name there. (any_with_new (is_named name) (is_named file) r.files file there, place_with_new (is_named name) (is_named file) r.files file there);
  chunks = λ name there. (there, refl);
  sizes = λ chunk known keeps. keeps_same chunk keeps;
}
  where
    keeps_same : (chunk : Option NamedChunk) → KeepsSize r chunk → KeepsSize (with_file r file) chunk
    keeps_same None keeps = tt
    keeps_same (Some c) keeps = keeps

-- a pair more
keeps_more : (r : RecipeValue) (file : ℕ) (c : NamedChunk) (chunk : Option NamedChunk) → KnowsChunk r chunk → KeepsSize r chunk → KeepsSize (with_pair r file c) chunk
keeps_more r file c None known keeps = tt
keeps_more r file c (Some k) known keeps = λ other there same. elim (contains_with_new (is_chunk c.name) r.chunks c other there) [
  | inl old ↦ keeps other old same
  | inr new ↦ let named : c.name ≡ k.name = ap (λ (x : NamedChunk). x.name) new.1 ∙ same in cc (rw named at new.0, known)
]

grows_pair : (r : RecipeValue) (file : ℕ) (c : NamedChunk) → Grows r (with_pair r file c)
grows_pair r file c = record {
  files = λ name there. (there, refl);
  chunks = λ name there. (any_with_new (is_chunk name) (is_chunk c.name) r.chunks c there, place_with_new (is_chunk name) (is_chunk c.name) r.chunks c there);
  sizes = keeps_more r file c;
}

grows_on : (r s t : RecipeValue) → Grows r s → Grows s t → ((chunk : Option NamedChunk) → KnowsChunk r chunk → KnowsChunk s chunk) → Grows r t
grows_on r s t a b knows = record {
  files = λ name there. let one = a.files name there in let two = b.files name one.0 in (two.0, two.1 ∙ one.1);
  chunks = λ name there. let one = a.chunks name there in let two = b.chunks name one.0 in (two.0, two.1 ∙ one.1);
  sizes = λ chunk known keeps. b.sizes chunk (knows chunk known) (a.sizes chunk known keeps);
}

knows_still : (r : RecipeValue) (file : List ℕ) (chunk : Option NamedChunk) → KnowsChunk r chunk → KnowsChunk (with_file r file) chunk
knows_still r file None known = tt
knows_still r file (Some c) known = known

-- the rows so far, as the recipe grows
older : (rows : List Row) (r s : RecipeValue) → Grows r s → SoFar rows r → All (λ row. Stands s row × KeepsSize s row.chunk × (pair_named s row ≡ pair_named r row)) rows
older rows r s grows so_far =
    All-weaker (λ row. Stands r row × KeepsSize r row.chunk) (λ row. Stands s row × KeepsSize s row.chunk × (pair_named s row ≡ pair_named r row))
    (λ row h. (stands_on r s row row.chunk refl grows h.0, grows.sizes row.chunk h.0.chunk h.1, same_pair r s row row.chunk refl grows h.0)) rows
    (λ k d lt. (so_far.stands k d lt, so_far.gathers.sizes k d lt))

files_push : (rows : List Row) (files : List (List ℕ)) (row : Row) → files ≡ firsts is_named (map (λ (row : Row). row.file) rows)
    → with_new (is_named row.file) files row.file ≡ firsts is_named (map (λ (row : Row). row.file) (rows ++ row ∷ []))
files_push rows files row h =
    ap (λ t. with_new (is_named row.file) t row.file) h
    ∙ sym (ap (firsts is_named) (map-append (λ (row : Row). row.file) rows (row ∷ [])) ∙ firsts-push is_named named_equiv (map (λ (row : Row). row.file) rows) row.file)

-- a row that names no chunk
step_file : (rows : List Row) (r : RecipeValue) (file : List ℕ) → SoFar rows r → SoFar (rows ++ record { file = file; chunk = None } ∷ []) (with_file r file)
step_file rows r file so_far =
    let row : Row = record { file = file; chunk = None } in
    let s = with_file r file in
    let old = older rows r s (grows_file r file) so_far in
    let same = filter_map-same (pair_named s) (pair_named r) rows (λ k d lt. (old k d lt).2) in
    record {
      gathers = record {
        files = files_push rows r.files row so_far.gathers.files;
        chunks = so_far.gathers.chunks ∙ sym (ap (firsts (λ (c : NamedChunk). is_chunk c.name)) (filter_map-append (λ (row : Row). row.chunk) rows (row ∷ []) ∙ append-nil (filter_map (λ (row : Row). row.chunk) rows)));
        pairs = so_far.gathers.pairs ∙ sym (ap (firsts (λ (p : ℕ × ℕ). is_pair p.0 p.1)) (filter_map-append (pair_named s) rows (row ∷ []) ∙ (append-nil (filter_map (pair_named s) rows) ∙ same)));
        sizes = All-push (λ (row : Row). KeepsSize s row.chunk) rows row (λ k d lt. (old k d lt).1) tt;
      };
      stands = All-push (Stands s) rows row (λ k d lt. (old k d lt).0) (record { file = any_new (is_named file) r.files file (named_equiv.refl file); chunk = tt });
    }

-- a row that names one
step_pair : (rows : List Row) (r : RecipeValue) (file : List ℕ) (c : NamedChunk) → SoFar rows r → KeepsSize r (Some c)
    → SoFar (rows ++ record { file = file; chunk = Some c } ∷ []) (with_row r (record { file = file; chunk = Some c }))
step_pair rows r file c so_far keeps =
    let row : Row = record { file = file; chunk = Some c } in
    let named = with_file r file in
    let number = file_number named.files file in
    let s = with_pair named number c in
    let old = older rows r s (grows_on r named s (grows_file r file) (grows_pair named number c) (knows_still r file)) so_far in
    let same = filter_map-same (pair_named s) (pair_named r) rows (λ k d lt. (old k d lt).2) in
    let pair : ℕ × ℕ = (number, chunk_number s.chunks c.name) in
    record {
      gathers = record {
        files = files_push rows r.files row so_far.gathers.files;
        chunks = ap (λ t. with_new (is_chunk c.name) t c) so_far.gathers.chunks
            ∙ sym (ap (firsts (λ (c : NamedChunk). is_chunk c.name)) (filter_map-append (λ (row : Row). row.chunk) rows (row ∷ []))
            ∙ firsts-push (λ (c : NamedChunk). is_chunk c.name) chunk_equiv (filter_map (λ (row : Row). row.chunk) rows) c);
        pairs = ap (λ t. with_new (is_pair pair.0 pair.1) t pair) (so_far.gathers.pairs ∙ ap (firsts (λ (p : ℕ × ℕ). is_pair p.0 p.1)) (sym same))
            ∙ sym (ap (firsts (λ (p : ℕ × ℕ). is_pair p.0 p.1)) (filter_map-append (pair_named s) rows (row ∷ []))
            ∙ firsts-push (λ (p : ℕ × ℕ). is_pair p.0 p.1) pair_equiv (filter_map (pair_named s) rows) pair);
        sizes = All-push (λ (row : Row). KeepsSize s row.chunk) rows row (λ k d lt. (old k d lt).1) (own keeps);
      };
      stands = All-push (Stands s) rows row (λ k d lt. (old k d lt).0)
          (record { file = any_new (is_named file) r.files file (named_equiv.refl file); chunk = any_new (is_chunk c.name) r.chunks c (chunk_equiv.refl c) });
    }
  where
    own : KeepsSize r (Some c) → KeepsSize (with_row r (record { file = file; chunk = Some c })) (Some c)
    own keeps other there same = elim (contains_with_new (is_chunk c.name) r.chunks c other there) [
      | inl old ↦ keeps other old same
      | inr new ↦ ap (λ (x : NamedChunk). x.size) (sym new.1)
    ]

pub step : (rows : List Row) (r : RecipeValue) (file : List ℕ) (chunk : Option NamedChunk) → SoFar rows r → KeepsSize r chunk
    → SoFar (rows ++ record { file = file; chunk = chunk } ∷ []) (with_row r (record { file = file; chunk = chunk }))
step rows r file None so_far keeps = step_file rows r file so_far
step rows r file (Some c) so_far keeps = step_pair rows r file c so_far keeps

-- the rows to come
record Rest (front : List Row) (fields : List (List (List ℕ))) (r : RecipeValue) : Type 0 where
  rows : List Row
  spelled : AllZip SpellsRow fields rows
  gathers : Gathers (front ++ rows) r

rest : (fields : List (List (List ℕ))) (front : List Row) (r s : RecipeValue) → SoFar front r → Leads r fields s → Rest front fields s
rest [] front r s so_far led =
    record { rows = []; spelled = tt; gathers = rw (append-nil front, ← led) so_far.gathers }
rest (row ∷ fields) front r s so_far led =
    let taken = led.1 in
    let next = step front r taken.row.file taken.row.chunk so_far taken.follows.size in
    let After : RecipeValue → Type 0 = λ t. SoFar (front ++ taken.row ∷ []) t in
    let more = rest fields (front ++ taken.row ∷ []) led.0 s (subst After (sym taken.taken) next) led.2 in
    record { rows = taken.row ∷ more.rows; spelled = (taken.spelled, more.spelled); gathers = rw (← append_assoc front (taken.row ∷ []) more.rows) more.gathers }

pub gathered : (fields : List (List (List ℕ))) (r : RecipeValue) → Leads empty_recipe fields r → IsGathered fields r
gathered fields r led =
    let none : SoFar [] empty_recipe = record {
      gathers = record { files = refl; chunks = refl; pairs = refl; sizes = All-nil (λ (row : Row). KeepsSize empty_recipe row.chunk) };
      stands = All-nil (Stands empty_recipe);
    } in
    let all = rest fields [] empty_recipe r none led in
    record { rows = all.rows; spelled = all.spelled; gathers = all.gathers }

pub nothing_so_far : SoFar [] empty_recipe
nothing_so_far = record {
  gathers = record { files = refl; chunks = refl; pairs = refl; sizes = All-nil (λ (row : Row). KeepsSize empty_recipe row.chunk) };
  stands = All-nil (Stands empty_recipe);
}
