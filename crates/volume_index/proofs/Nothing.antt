-- What an index with nothing keeps.
use Rattle.std.proofs.Common.{◌≡◌, ℕ, ◌^◌, ◌≤◌, List, [], ◌∷◌, length, true, Some, refl, sym, ◌∙◌, ap, subst, arith}
use Rattle.std.specs.Prelude.{is_some, sum_by, nat_le, All}
use Rattle.std.specs.List.{flat_map}
use Rattle.std.specs.FinMap as map
use Rattle.std.proofs.lemmas.Bool.{true≢false, and_from, le-leb}
use Rattle.std.proofs.lemmas.Option.{none-some}
use Rattle.file_names.specs.FileNames.{IsFileName}
use Rattle.seed_model.specs.declared.limits.TheConstants.{MOST_FILES, MOST_CHUNKS, MOST_PAIRS}
use Rattle.site_forms.specs.VolumeRecords.{IsChunkName}
use Rattle.site_forms.specs.Volumes.{bytes_cmp, Files, empty_volume, used, pair_count, set_of, distinct_count}
use Rattle.volume_index.specs.declared.chunk_table.ChunkEntry.{ChunkEntry}
use Rattle.volume_index.specs.declared.index.Index.TheInside.{Inside}
use Rattle.volume_index.specs.ChunkTables.{Entries}
use Rattle.volume_index.specs.HoldingValues.{KeepsShape, held_bytes}
use Rattle.volume_index.specs.IndexInside.{KeepsIndex}
use Rattle.volume_index.proofs.Alls.{all_keys, all_values}
use Rattle.volume_index.proofs.Indexing.{shape_by, len_of, values_long}
use Rattle.volume_index.proofs.Limits.{counts_decide}
use Rattle.volume_index.proofs.MapValues.{empty-map_values}
use Rattle.volume_index.proofs.Sets.{count_none}

none_in : {A : Type 0} (xs : List A) → length xs ≡ 0 → xs ≡ []
none_in [] is = refl
none_in (x ∷ xs) is = absurd (omega (arith, is))

module _ (X : Type 0) where
  abbrev nothing : map.FinMap bytes_cmp X
  nothing = map.empty

  no_value : (q : List ℕ) (v : X) → map.get nothing q ≡ Some v → ⊥
  no_value q v is = none-some v (sym (map.get-empty bytes_cmp q) ∙ is)

  no_key : (q : List ℕ) → map.contains_key nothing q ≡ true → ⊥
  no_key q is = true≢false (sym is ∙ ap is_some (map.get-empty bytes_cmp q))

  values_none : map.values nothing ≡ []
  values_none = none_in (map.values nothing) (values_long nothing ∙ map.len-empty bytes_cmp X)

used_none : map.len (used map.empty) ≡ 0
used_none = ap (λ (lists : List (List (List ℕ))). map.len (set_of (flat_map (λ l. l) lists))) (values_none (List (List ℕ))) ∙ count_none

pairs_none : pair_count map.empty ≡ 0
pairs_none = ap (λ (lists : List (List (List ℕ))). sum_by distinct_count lists) (values_none (List (List ℕ)))

bytes_none : held_bytes empty_volume ≡ 0
bytes_none = ap (λ (lengths : List ℕ). sum_by (λ n. n) lengths) (values_none ℕ)

pub nothing_keeps : KeepsShape empty_volume
nothing_keeps =
    let most : All (λ n. n ≤ 2 ^ 20) (map.values (nothing ℕ)) = all_values (nothing ℕ) (λ n. n ≤ 2 ^ 20) (λ q v is. absurd (no_value ℕ q v is)) in
    record {
      names = all_keys (nothing (List (List ℕ))) IsFileName (λ q held. absurd (no_key (List (List ℕ)) q held));
      held = λ name list is. absurd (no_value (List (List ℕ)) name list is);
      short = λ name list is. absurd (no_value (List (List ℕ)) name list is);
      chunk_names = all_keys (nothing ℕ) IsChunkName (λ q held. absurd (no_key ℕ q held));
      some = all_values (nothing ℕ) (λ n. 1 ≤ n) (λ q v is. absurd (no_value ℕ q v is));
      most = most;
      limits =
          counts_decide empty_volume map.empty most
          ∙ and_from (nat_le (map.len (nothing (List (List ℕ)))) MOST_FILES) _ (le-leb (map.len (nothing (List (List ℕ)))) MOST_FILES (omega (arith, map.len-empty bytes_cmp (List (List ℕ)))))
          (and_from (nat_le (map.len (used map.empty)) MOST_CHUNKS) _ (le-leb (map.len (used map.empty)) MOST_CHUNKS (omega (arith, used_none)))
          (le-leb (pair_count map.empty) MOST_PAIRS (omega (arith, pairs_none))));
    }

pub no_shape : (entries : Entries) (files : Files) → entries ≡ map.empty → files ≡ map.empty → shape_by entries files ≡ empty_volume
no_shape entries files no_entries no_files = (λ i. shape_by (no_entries i) (no_files i)) ∙ (λ i. record { chunks = empty-map_values len_of i; files = map.empty })

pub kept_nothing : (a : Inside) → a.chunks.entries ≡ map.empty → a.files.files ≡ map.empty → a.used ≡ 0 → a.pairs ≡ 0 → a.bytes ≡ 0 → a.first ≡ 0 → KeepsIndex a
kept_nothing a no_entries no_files no_used no_pairs no_bytes first =
    let none = no_shape a.chunks.entries a.files.files no_entries no_files in
    record {
      shape = subst KeepsShape (sym none) nothing_keeps;
      users = λ q e is. absurd (no_value ChunkEntry q e (ap (λ (m : Entries). map.get m q) (sym no_entries) ∙ is));
      used = no_used ∙ sym (ap (λ (f : Files). map.len (used f)) no_files ∙ used_none);
      pairs = no_pairs ∙ sym (ap pair_count no_files ∙ pairs_none);
      bytes = no_bytes ∙ sym (ap held_bytes none ∙ bytes_none);
      within = omega (arith, first);
      first = λ j less. absurd (omega (arith, first, less));
    }
