-- The recipe of a volume, a file and a chunk at a time.
use Rattle.std.proofs.Common.{◌≡◌, ℕ, ◌+◌, ◌<◌, List, [], ◌∷◌, ◌++◌, length, take, get_or, Option, Some, sym, ◌∙◌, ap, subst, arith, add-one}
use Rattle.std.specs.Prelude.{slice_get, unwrap_or}
use Rattle.std.specs.List.{fold}
use Rattle.std.specs.FinMap as map
use Rattle.std.proofs.Math.Seq.{take-suc}
use Rattle.std.proofs.lemmas.List.{get_or-map, length-map}
use Rattle.std.proofs.lemmas.List.Sums.{fold-append}
use Rattle.std.proofs.lemmas.Option.{slice_get-get_or}
use Rattle.recipe_reader.specs.Recipes.{RecipeValue, empty_recipe, with_file, with_pair, file_number}
use Rattle.recipe_reader.proofs.RowsTaken.{file_there}
use Rattle.site_forms.specs.Volumes.{Files, Shape, chunk_or}
use Rattle.chunk_volume.specs.ReadingVolumes.{with_chunk_of, with_list}

-- a file of which the first chunks are added
pub record ChunksAdded (shape : Shape) (old recipe : RecipeValue) (file : ℕ) (name : List ℕ) (list : List (List ℕ)) (i : ℕ) : Type 0 where
  pub is : recipe ≡ fold (with_chunk_of shape name) (with_file old name) (take i list)
  pub number : file ≡ file_number recipe.files name
  pub inside : file < length recipe.files

pub file_added : (shape : Shape) (old recipe : RecipeValue) (file : ℕ) (name : List ℕ) (list : List (List ℕ)) → recipe ≡ with_file old name → file ≡ file_number recipe.files name → ChunksAdded shape old recipe file name list 0
file_added shape old recipe file name list is number = record {
  is = is;
  number = number;
  inside =
      let there : file_number recipe.files name < length recipe.files = subst (λ (r : RecipeValue). file_number r.files name < length r.files) (sym is) (file_there old name) in
      omega (arith, there, number);
}

pub chunk_added : (shape : Shape) (old recipe new : RecipeValue) (file : ℕ) (name : List ℕ) (list : List (List ℕ)) (i size : ℕ) → i < length list → map.get shape.chunks (get_or list i []) ≡ Some size
    → new ≡ with_pair recipe file (record { name = get_or list i []; size = size }) → ChunksAdded shape old recipe file name list i → ChunksAdded shape old new file name list (i + 1)
chunk_added shape old recipe new file name list i size inside sized is added =
    let chunk = get_or list i [] in
    let files : new.files ≡ recipe.files = ap (λ (r : RecipeValue). r.files) is in
    let same : size ≡ chunk_or 0 shape chunk = sym (ap (λ (o : Option ℕ). unwrap_or o 0) sized) in
    let one : new ≡ with_chunk_of shape name recipe chunk = is ∙ (λ k. with_pair recipe (added.number k) (record { name = chunk; size = same k })) in
    let next : take (i + 1) list ≡ take i list ++ chunk ∷ [] = ap (λ (n : ℕ). take n list) (add-one i) ∙ take-suc list i [] inside in
    record {
      is = one ∙ ap (λ (r : RecipeValue). with_chunk_of shape name r chunk) added.is
          ∙ sym (fold-append (with_chunk_of shape name) (with_file old name) (take i list) (chunk ∷ []))
          ∙ ap (fold (with_chunk_of shape name) (with_file old name)) (sym next);
      number = added.number ∙ ap (λ (l : List (List ℕ)). file_number l name) (sym files);
      inside = subst (λ (l : List (List ℕ)). file < length l) (sym files) added.inside;
    }

-- the entry at a place
pub record NextEntry (files : Files) (place : ℕ) : Type 0 where
  pub name : List ℕ
  pub list : List (List ℕ)
  pub key : slice_get (map.keys files) place ≡ Some name
  pub value : slice_get (map.values files) place ≡ Some list
  pub next : take (place + 1) (map.entries files) ≡ take place (map.entries files) ++ (name, list) ∷ []

pub next_entry : (files : Files) (place : ℕ) → place < map.len files → NextEntry files place
next_entry files place inside =
    let entries = map.entries files in
    let here : place < length entries = omega (arith, inside, map.len-entries files) in
    let e = get_or entries place ([], []) in
    record {
      name = e.0;
      list = e.1;
      key = slice_get-get_or (map.keys files) place [] (omega (arith, here, length-map entries (λ (x : List ℕ × List (List ℕ)). x.0))) ∙ ap (λ (l : List ℕ). Some l) (get_or-map (λ (x : List ℕ × List (List ℕ)). x.0) entries place ([], []) [] here);
      value = slice_get-get_or (map.values files) place [] (omega (arith, here, length-map entries (λ (x : List ℕ × List (List ℕ)). x.1))) ∙ ap (λ (l : List (List ℕ)). Some l) (get_or-map (λ (x : List ℕ × List (List ℕ)). x.1) entries place ([], []) [] here);
      next = ap (λ (n : ℕ). take n entries) (add-one place) ∙ take-suc entries place ([], []) here;
    }

-- a file more
pub list_added : (shape : Shape) (old new : RecipeValue) (place : ℕ) → (entry : NextEntry shape.files place) → old ≡ fold (with_list shape) empty_recipe (take place (map.entries shape.files)) → new ≡ with_list shape old (entry.name, entry.list)
    → new ≡ fold (with_list shape) empty_recipe (take (place + 1) (map.entries shape.files))
list_added shape old new place entry was is =
    is ∙ ap (λ (r : RecipeValue). with_list shape r (entry.name, entry.list)) was
    ∙ sym (fold-append (with_list shape) empty_recipe (take place (map.entries shape.files)) ((entry.name, entry.list) ∷ []))
    ∙ ap (fold (with_list shape) empty_recipe) (sym entry.next)
