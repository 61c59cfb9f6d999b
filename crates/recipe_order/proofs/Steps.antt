-- The steps by which a recipe is copied in an order.
use Rattle.std.specs.Prelude.{Contains, All}
use Rattle.std.proofs.Common.{◌≡◌, ◌∙◌, ◌+◌, ◌<◌, ◌≤◌, [], ℕ, List, Some, sym, ap, subst, length, take, slice_get, get_or, arith}
use Rattle.std.specs.List.{range_with_len}
use Rattle.std.proofs.lemmas.List.{take_all}
use Rattle.std.proofs.lemmas.List.Elements.{Contains-get_or}
use Rattle.std.proofs.lemmas.List.FromFn.{get_or-range_with_len, length-range_with_len}
use Rattle.std.proofs.lemmas.List.Sorted.{All-permutation}
use Rattle.std.proofs.lemmas.List.Sums.{fold_more}
use Rattle.std.proofs.lemmas.Option.{get_or_from_slice_get, slice_get-get_or, slice_get_within}
use Rattle.list_facts.specs.Keyed.{lists_by_key, values_of}
use Rattle.list_facts.proofs.ByKey.{length-table, read-table}
use Rattle.recipe_reader.specs.AddFaults.{IsLimitFault, IsPairFault}
use Rattle.recipe_reader.specs.Lawful.{IsRecipe}
use Rattle.recipe_reader.specs.Recipes.{NamedChunk, RecipeValue, empty_recipe, file_number, name_at, size_at, with_file, with_pair}
use Rattle.recipe_reader.specs.Same.{UsesByName}
use Rattle.recipe_reader.specs.WrittenRows.{chunks_used, file_at}
use Rattle.recipe_reader.specs.declared.error.AddError.{AddError}
use Rattle.recipe_reader.specs.declared.error.AddError.TheVariants.{Memory}
use Rattle.recipe_reader.proofs.WrittenText.{values-used}
use Rattle.recipe_order.specs.Orders.{IsOrder}
use Rattle.recipe_order.specs.Parts.{IsPartOf}
use Rattle.recipe_order.specs.Sorted.{chunk_at, in_order, with_chunks_of, with_file_of}
use Rattle.recipe_order.proofs.Copying.{chunk_there, file_memory, pair_memory, part_file, part_pair}
use Rattle.recipe_order.proofs.InOrder.{chunks_files, number_there, uses_listed}

-- a chunk as it is read
chunk_read : (r : RecipeValue) (chunk : ℕ) (bytes : List ℕ) (size : ℕ) → bytes ≡ name_at r chunk → size ≡ size_at r chunk → let c : NamedChunk = record { name = bytes; size = size } in c ≡ chunk_at r chunk
chunk_read r chunk bytes size named sized = λ i. record { name = named i; size = sized i }

pub chunk_memory : (r part : RecipeValue) (number chunk : ℕ) (bytes : List ℕ) (size : ℕ) (e : AddError) → IsRecipe r → IsPartOf r part → number < length part.files → chunk < length r.chunks
    → UsesByName r (file_at part number) (name_at r chunk) → bytes ≡ name_at r chunk → size ≡ size_at r chunk → IsPairFault part number (record { name = bytes; size = size }) e → e ≡ Memory
chunk_memory r part number chunk bytes size e h p in_files in_chunks used named sized fault =
    let Faulty : NamedChunk → Type 0 = λ c. IsPairFault part number c e in
    pair_memory r part number (chunk_at r chunk) (file_at part number) e h p (chunk_there r chunk in_chunks) (slice_get-get_or part.files number [] in_files) used
    (subst Faulty (chunk_read r chunk bytes size named sized) fault)

pub chunk_copied : (r part after : RecipeValue) (number chunk : ℕ) (bytes : List ℕ) (size : ℕ) → bytes ≡ name_at r chunk → size ≡ size_at r chunk
    → after ≡ with_pair part number (record { name = bytes; size = size }) → after ≡ with_pair part number (chunk_at r chunk)
chunk_copied r part after number chunk bytes size named sized is = is ∙ ap (with_pair part number) (chunk_read r chunk bytes size named sized)

pub chunk_part : (r part after : RecipeValue) (number chunk : ℕ) → IsPartOf r part → number < length part.files → chunk < length r.chunks
    → UsesByName r (file_at part number) (name_at r chunk) → after ≡ with_pair part number (chunk_at r chunk) → IsRecipe after → IsPartOf r after
chunk_part r part after number chunk p in_files in_chunks used is lawful =
    let Part : RecipeValue → Type 0 = λ t. IsPartOf r t in
    subst Part (sym is) (part_pair r part number (chunk_at r chunk) (file_at part number) p (chunk_there r chunk in_chunks) (slice_get-get_or part.files number [] in_files) used (subst IsRecipe is lawful))

-- a file is named in the recipe
file_there : (r : RecipeValue) (file : ℕ) (name : List ℕ) → file < length r.files → name ≡ file_at r file → Contains r.files name
file_there r file name lt is = let P : List ℕ → Type 0 = λ t. Contains r.files t in subst P (sym is) (Contains-get_or r.files file [] lt)

pub name_memory : (r part : RecipeValue) (file : ℕ) (name : List ℕ) (e : AddError) → IsRecipe r → IsPartOf r part → file < length r.files → name ≡ file_at r file
    → IsLimitFault (with_file part name) e → e ≡ Memory
name_memory r part file name e h p lt is fault = file_memory r part name e h p (file_there r file name lt is) fault

-- the chunks so far
pub record IsCopying (r before copy : RecipeValue) (file number : ℕ) (chunks : List ℕ) : Type 0 where
  pub number_is : number ≡ file_number (with_file before (file_at r file)).files (file_at r file)
  pub copied : copy ≡ with_chunks_of r number (with_file before (file_at r file)) chunks
  pub part : IsPartOf r copy

pub copying_begins : (r before copy : RecipeValue) (file number : ℕ) (name : List ℕ) → IsPartOf r before → file < length r.files → name ≡ file_at r file → copy ≡ with_file before name
    → number ≡ file_number copy.files name → IsRecipe copy → IsCopying r before copy file number []
copying_begins r before copy file number name p lt name_is is numbered lawful =
    let whole : copy ≡ with_file before (file_at r file) = is ∙ ap (with_file before) name_is in
    let Part : RecipeValue → Type 0 = λ t. IsPartOf r t in
    record {
      number_is = numbered ∙ (λ i. file_number (whole i).files (name_is i));
      copied = whole;
      part = subst Part (sym whole) (part_file r before (file_at r file) p (Contains-get_or r.files file [] lt) (subst IsRecipe whole lawful));
    }

-- the file stands at its number
pub named_there : (r before copy : RecipeValue) (file number : ℕ) (chunks : List ℕ) → IsCopying r before copy file number chunks → slice_get copy.files number ≡ Some (file_at r file)
named_there r before copy file number chunks c =
    let name = file_at r file in
    let named = with_file before name in
    ap (λ (t : RecipeValue). slice_get t.files number) c.copied ∙ (ap (λ (t : List (List ℕ)). slice_get t number) (chunks_files r number named chunks)
    ∙ (ap (slice_get named.files) c.number_is ∙ number_there before name))

pub number_below : (r before copy : RecipeValue) (file number : ℕ) (chunks : List ℕ) → IsCopying r before copy file number chunks → number < length copy.files
number_below r before copy file number chunks c = slice_get_within copy.files number (file_at r file) (named_there r before copy file number chunks c)

pub chunk_used : (r before copy : RecipeValue) (file number : ℕ) (chunks all : List ℕ) (i : ℕ) → IsCopying r before copy file number chunks → IsRecipe r → all ≡ chunks_used r.pairs file → i < length all
    → UsesByName r (file_at copy number) (name_at r (get_or all i 0))
chunk_used r before copy file number chunks all i c h is lt =
    let same : file_at copy number ≡ file_at r file = get_or_from_slice_get copy.files number (file_at r file) [] (named_there r before copy file number chunks c) in
    let Uses : List ℕ → Type 0 = λ t. UsesByName r t (name_at r (get_or all i 0)) in
    subst Uses (sym same) (uses_listed r file all i h is lt)

pub copying_more : (r before copy after : RecipeValue) (file number : ℕ) (all : List ℕ) (i : ℕ) → IsCopying r before copy file number (take i all) → i < length all
    → after ≡ with_pair copy number (chunk_at r (get_or all i 0)) → IsPartOf r after → IsCopying r before after file number (take (i + 1) all)
copying_more r before copy after file number all i c lt is part =
    let named = with_file before (file_at r file) in
    record {
      number_is = c.number_is;
      copied = is ∙ (ap (λ (t : RecipeValue). with_pair t number (chunk_at r (get_or all i 0))) c.copied ∙ sym (fold_more (λ t chunk. with_pair t number (chunk_at r chunk)) named all i 0 lt));
      part = part;
    }

pub file_copied : (r before copy : RecipeValue) (file number : ℕ) (all : List ℕ) (i : ℕ) → IsCopying r before copy file number (take i all) → length all ≤ i → all ≡ chunks_used r.pairs file
    → copy ≡ with_file_of r before file
file_copied r before copy file number all i c end is =
    let named = with_file before (file_at r file) in
    c.copied ∙ ((λ k. with_chunks_of r (c.number_is k) named (take_all i all end k)) ∙ ap (with_chunks_of r (file_number named.files (file_at r file)) named) is)

-- ---- file by file

pub record IsInOrder (r copy : RecipeValue) (order : List ℕ) : Type 0 where
  pub copied : copy ≡ in_order r order
  pub part : IsPartOf r copy

pub in_order_more : (r copy after : RecipeValue) (order : List ℕ) (i : ℕ) → IsInOrder r copy (take i order) → i < length order → after ≡ with_file_of r copy (get_or order i 0) → IsPartOf r after
    → IsInOrder r after (take (i + 1) order)
in_order_more r copy after order i c lt is part = record {
  copied = is ∙ (ap (λ (t : RecipeValue). with_file_of r t (get_or order i 0)) c.copied ∙ sym (fold_more (with_file_of r) empty_recipe order i 0 lt));
  part = part;
}

pub in_order_all : (r copy : RecipeValue) (order : List ℕ) (i : ℕ) → IsInOrder r copy (take i order) → length order ≤ i → copy ≡ in_order r order
in_order_all r copy order i c end = c.copied ∙ ap (in_order r) (take_all i order end)

-- the list of a file
pub list_length : (known : List (ℕ × ℕ)) (files : ℕ) (lists : List (List ℕ)) → lists ≡ lists_by_key known files → length lists ≡ files
list_length known files lists is = ap length is ∙ length-table (λ (key : ℕ). values_of key known) files

pub list_read : (pairs known : List (ℕ × ℕ)) (files file : ℕ) (lists : List (List ℕ)) (list : List ℕ) → lists ≡ lists_by_key known files → known ≡ pairs
    → file < files → list ≡ get_or lists file [] → list ≡ chunks_used pairs file
list_read pairs known files file lists list grouped same below at =
    at ∙ (read-table (λ (key : ℕ). values_of key known) lists files file [] grouped below ∙ (values-used known file ∙ ap (λ (t : List (ℕ × ℕ)). chunks_used t file) same))

-- an order has files alone
pub order_below : (r : RecipeValue) (order : List ℕ) → IsOrder r order → All (λ file. file < length r.files) order
order_below r order h =
    let n = length r.files in
    All-permutation (λ file. file < n) (range_with_len 0 n) order h.each (λ k d lt.
    let long = length-range_with_len 0 n in
    let at = get_or-range_with_len 0 n k d (omega (arith, long)) in
    omega (arith, long, at))
