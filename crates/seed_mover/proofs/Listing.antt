-- The chunks of a file as a copy of its list.
use Rattle.std.proofs.Common.{◌≡◌, ℕ, List, [], false, Option, Some, None, refl, sym, ◌∙◌, ap}
use Rattle.std.specs.Prelude.{Result, Ok, Err, IfOk, Vec, is_some, slice_get, unwrap_or}
use Rattle.std.specs.declared.alloc.Global.{Global}
use Rattle.std.specs.FinMap as map
use Rattle.std.proofs.lemmas.Bool.{true≢false}
use Rattle.seed_model.specs.declared.memory.NoMemory.{NoMemory}
use Rattle.site_forms.specs.Volumes.{Shape}
use Rattle.chunk_volume.proofs.Files.{file_list}
use Rattle.site_core.specs.Steps.{list_of}

pub copied_list : (result : Result (Vec (List ℕ) Global) NoMemory) (list other : List (List ℕ)) → IfOk result (λ copy. copy.items ≡ list) → list ≡ other → IfOk result (λ copy. copy.items ≡ other)
copied_list (Ok copy) list other is same = is ∙ same
copied_list (Err error) list other is same = tt

pub held_list : (shape : Shape) (place : ℕ) (name : List ℕ) (list : List (List ℕ)) → slice_get (map.keys shape.files) place ≡ Some name → slice_get (map.values shape.files) place ≡ Some list → list ≡ list_of shape name
held_list shape place name list is_name is_list = sym (ap (λ (o : Option (List (List ℕ))). unwrap_or o []) (file_list shape.files place name list is_name is_list))

nothing : (o : Option (List (List ℕ))) → is_some o ≡ false → [] ≡ unwrap_or o []
nothing None is = refl
nothing (Some list) is = absurd (true≢false is)

pub nothing_listed : (shape : Shape) (name : List ℕ) (list : Vec (List ℕ) Global) → list.items ≡ [] → map.contains_key shape.files name ≡ false → list.items ≡ list_of shape name
nothing_listed shape name list empty lacking = empty ∙ nothing (map.get shape.files name) lacking
