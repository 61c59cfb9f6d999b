-- One file of one chunk keeps the limits.
use Rattle.std.proofs.Common.{◌≡◌, ℕ, ◌+◌, ◌^◌, ◌≤◌, List, [], ◌∷◌, length, true, Some, Option, None, refl, sym, ◌∙◌, ap, arith}
use Rattle.std.specs.Prelude.{map as each, sum_by, unwrap_or, nat_le, IsSomeAnd}
use Rattle.std.specs.List.{flat_map}
use Rattle.std.specs.Cmp.Lexicographic.{nat_list_cmp_total}
use Rattle.std.specs.FinMap as map
use Rattle.std.proofs.lemmas.Bool.{and_from, le-leb}
use Rattle.site_forms.specs.Volumes.{bytes_cmp, Files, Shape, set_of, all_lists, used, pair_count, used_bytes, keeps_limits, chunk_or}

empty_list : {A : Type 0} (xs : List A) → length xs ≡ 0 → xs ≡ []
empty_list [] none = refl
empty_list (x ∷ xs) none = absurd (omega (arith, none))

-- a map of nothing with one entry has that one
one_entry : {X : Type 0} (m : map.FinMap bytes_cmp X) (key : List ℕ) (value : X) → map.len m ≡ 0 → map.entries (map.insert m key value) ≡ (key, value) ∷ []
one_entry m key value none = map.entries-insert nat_list_cmp_total m key value ∙ ap (map.put bytes_cmp key value) (empty_list (map.entries m) (sym (map.len-entries m) ∙ none))

one_counts : {X : Type 0} (m : map.FinMap bytes_cmp X) (key : List ℕ) (value : X) → map.len m ≡ 0 → map.len (map.insert m key value) ≡ 1
one_counts m key value none = map.len-entries _ ∙ ap length (one_entry m key value none)

-- a set of one name
one_name : (name : List ℕ) → map.entries (set_of (name ∷ [])) ≡ (name, tt) ∷ []
one_name name = one_entry map.empty name tt (map.len-empty bytes_cmp (Unit {0}))

held_length : (o : Option ℕ) → IsSomeAnd o (λ len. len ≤ 2 ^ 20) → unwrap_or o 0 ≤ 2 ^ 20
held_length None held = absurd held
held_length (Some len) held = held

module _ (shape : Shape) (name chunk : List ℕ) (none : map.len shape.files ≡ 0) (held : IsSomeAnd (map.get shape.chunks chunk) (λ len. len ≤ 2 ^ 20)) where
  abbrev files : Files
  files = map.insert shape.files name (chunk ∷ [])

  lists : all_lists files ≡ chunk ∷ []
  lists = ap (λ es. flat_map (λ (list : List (List ℕ)). list) (each (λ (e : List ℕ × List (List ℕ)). e.1) es)) (one_entry shape.files name (chunk ∷ []) none)

  used_names : map.keys (used files) ≡ chunk ∷ []
  used_names = ap (λ l. map.keys (set_of l)) lists ∙ ap (each (λ (e : List ℕ × Unit {0}). e.0)) (one_name chunk)

  used_count : map.len (used files) ≡ 1
  used_count = ap (λ l. map.len (set_of l)) lists ∙ map.len-entries _ ∙ ap length (one_name chunk)

  pairs : pair_count files ≡ 1
  pairs = ap (λ es. sum_by (λ (l : List (List ℕ)). map.len (set_of l)) (each (λ (e : List ℕ × List (List ℕ)). e.1) es)) (one_entry shape.files name (chunk ∷ []) none) ∙ ap (λ (n : ℕ). 0 + n) (map.len-entries _ ∙ ap length (one_name chunk))

  bytes : used_bytes (λ c. chunk_or 0 shape c) files ≡ 0 + chunk_or 0 shape chunk
  bytes = ap (sum_by (λ (c : List ℕ). chunk_or 0 shape c)) used_names

  pub one_file_fits : keeps_limits (λ c. chunk_or 0 shape c) (map.insert shape.files name (chunk ∷ [])) ≡ true
  one_file_fits =
      let few : used_bytes (λ c. chunk_or 0 shape c) files ≤ 1125899906842623 = omega (arith, bytes, held_length (map.get shape.chunks chunk) held) in
      and_from _ _ (ap (λ n. nat_le n 16383) (one_counts shape.files name (chunk ∷ []) none))
      (and_from _ _ (ap (λ n. nat_le n 1048575) used_count) (and_from _ _ (ap (λ n. nat_le n 4194303) pairs) (le-leb (used_bytes (λ c. chunk_or 0 shape c) files) 1125899906842623 few)))
