-- The small volume folded.
use Rattle.std.proofs.Common.{◌≡◌, inl, ⊎_elim, ℕ, ◌+◌, ◌<◌, ◌≤◌, List, [], ◌∷◌, ◌++◌, length, Bool, true, Some, None, refl, sym, ◌∙◌, ap, arith}
use Rattle.std.specs.Prelude.{is_some, ◌&&◌, not, if◌then◌else◌, map as each, sum_by, unwrap_or, nat_le}
use Rattle.std.specs.List.{flat_map}
use Rattle.std.specs.Option.{option_and_then, option_map}
use Rattle.std.specs.Char.{encode_utf8}
use Rattle.std.specs.Str.{chars, is_utf8}
use Rattle.std.specs.Cmp.Lexicographic.{nat_list_cmp_total}
use Rattle.std.specs.FinMap as map
use Rattle.std.proofs.lemmas.Bool.{true≢false, and_from}
use Rattle.site_forms.specs.declared.phase.Phase.TheVariants.{Idle, Moving}
use Rattle.site_forms.specs.declared.phase.Phase.{Phase}
use Rattle.site_forms.specs.Names.{is_name}
use Rattle.site_forms.specs.Halves.{stronger, records_of, records_at, pair_records}
use Rattle.site_forms.specs.Views.{State, view, joined_bytes}
use Rattle.site_forms.specs.Phases.{phase_of}
use Rattle.site_forms.proofs.Halves.{closed_none}
use Rattle.site_forms.proofs.Folds.{short_records}
use Rattle.site_forms.specs.Volumes.{bytes_cmp, Volume, Files, set_of, all_lists, used, pair_count, used_bytes, keeps_limits, may_add_file, chunk_or, empty_volume, with_chunk, with_file, volume_step, volume_of}
use Rattle.site_forms.specs.Examples.{abc_name, chunk_body, file_body, small_log, abc}
use Rattle.site_forms.specs.Sites.{Fits, HoldsFile, state_of, volume_at, phase_at}

empty_list : {A : Type 0} (xs : List A) → length xs ≡ 0 → xs ≡ []
empty_list [] none = refl
empty_list (x ∷ xs) none = absurd (omega (arith, none))

-- `n` is a lawful name
pub n_name : is_name (0x6e ∷ []) ≡ true
unfolding is_utf8 chars encode_utf8
n_name = refl

pub nothing_held : (name : List ℕ) → HoldsFile (empty_volume {X = ℕ}) name → ⊥
nothing_held name held = true≢false (sym held ∙ ap is_some (map.get-empty bytes_cmp name))

pub unfit : ¬ Fits empty_volume empty_volume (Moving ((0x6e ∷ []) ∷ []))
unfit fits = ⊎_elim (nothing_held (0x6e ∷ [])) (nothing_held (0x6e ∷ [])) (fits.underway.somewhere (0x6e ∷ []) refl)

-- a map of nothing has no entries, and one of one entry has that one
no_entries : {X : Type 0} (m : map.FinMap bytes_cmp X) → map.len m ≡ 0 → map.entries m ≡ []
no_entries m none = empty_list (map.entries m) (sym (map.len-entries m) ∙ none)

one_entry : {X : Type 0} (key : List ℕ) (value : X) → map.entries (map.insert (map.empty {X = X} {R = bytes_cmp}) key value) ≡ (key, value) ∷ []
one_entry {X} key value = map.entries-insert nat_list_cmp_total map.empty key value ∙ ap (map.put bytes_cmp key value) (no_entries map.empty (map.len-empty bytes_cmp X))

one_counts : {X : Type 0} (key : List ℕ) (value : X) → map.len (map.insert (map.empty {X = X} {R = bytes_cmp}) key value) ≡ 1
one_counts key value = map.len-entries _ ∙ ap length (one_entry key value)

-- the chunk's record folds
chunk_folds : volume_step empty_volume (chunk_body abc) ≡ Some (with_chunk empty_volume abc_name abc)
chunk_folds = ap (λ (b : Bool). if b then None else Some (with_chunk empty_volume abc_name abc)) (ap is_some (map.get-empty bytes_cmp abc_name))

held : map.contains_key (map.insert (map.empty {X = List ℕ} {R = bytes_cmp}) abc_name abc) abc_name ≡ true
held = ap is_some (map.get-insert nat_list_cmp_total map.empty abc_name abc abc_name)

-- the files of the small volume
abbrev small_files : Files
small_files = map.insert map.empty (0x6e ∷ []) (abc_name ∷ [])

small_lists : all_lists small_files ≡ abc_name ∷ []
small_lists = ap (λ es. flat_map (λ (list : List (List ℕ)). list) (each (λ (e : List ℕ × List (List ℕ)). e.1) es)) (one_entry (0x6e ∷ []) (abc_name ∷ []))

small_used : map.keys (used small_files) ≡ abc_name ∷ []
small_used = ap (λ l. map.keys (set_of l)) small_lists ∙ ap (each (λ (e : List ℕ × Unit {0}). e.0)) (one_entry abc_name tt)

small_count : map.len (used small_files) ≡ 1
small_count = ap (λ l. map.len (set_of l)) small_lists ∙ one_counts abc_name tt

small_pairs : pair_count small_files ≡ 1
small_pairs = ap (λ es. sum_by (λ (l : List (List ℕ)). map.len (set_of l)) (each (λ (e : List ℕ × List (List ℕ)). e.1) es)) (one_entry (0x6e ∷ []) (abc_name ∷ [])) ∙ ap (λ (n : ℕ). 0 + n) (one_counts abc_name tt)

small_bytes : used_bytes (λ chunk. length (chunk_or [] (with_chunk empty_volume abc_name abc) chunk)) small_files ≡ 3
small_bytes =
    ap (sum_by (λ (chunk : List ℕ). length (chunk_or [] (with_chunk empty_volume abc_name abc) chunk))) small_used
    ∙ ap (λ o. 0 + length (unwrap_or o [])) (map.get-insert nat_list_cmp_total map.empty abc_name abc abc_name)

small_limits : keeps_limits (λ chunk. length (chunk_or [] (with_chunk empty_volume abc_name abc) chunk)) small_files ≡ true
small_limits = and_from _ _ (ap (λ n. nat_le n 16383) (one_counts (0x6e ∷ []) (abc_name ∷ [])))
    (and_from _ _ (ap (λ n. nat_le n 1048575) small_count) (and_from _ _ (ap (λ n. nat_le n 4194303) small_pairs) (ap (λ n. nat_le n 1125899906842623) small_bytes)))

file_fits : may_add_file length [] (with_chunk empty_volume abc_name abc) (0x6e ∷ []) (abc_name ∷ []) ≡ true
file_fits = and_from _ _ n_name (and_from _ _ (ap (λ o. not (is_some o)) (map.get-empty bytes_cmp (0x6e ∷ []))) (and_from _ _ (ap (λ (b : Bool). b && true) held) small_limits))

file_folds : volume_step (with_chunk empty_volume abc_name abc) file_body ≡ Some (with_file (with_chunk empty_volume abc_name abc) (0x6e ∷ []) (abc_name ∷ []))
file_folds = ap (λ (b : Bool). if b then Some (with_file (with_chunk empty_volume abc_name abc) (0x6e ∷ []) (abc_name ∷ [])) else None) file_fits

small_volume : volume_of (chunk_body abc ∷ file_body ∷ []) ≡ Some (with_file (with_chunk empty_volume abc_name abc) (0x6e ∷ []) (abc_name ∷ []))
small_volume =
    ap (option_and_then (λ (v : Volume). option_and_then (λ (w : Volume). Some w) (volume_step v file_body))) chunk_folds
    ∙ ap (option_and_then (λ (w : Volume). Some w)) file_folds

small_records : (c : ℕ → List ℕ) → c 0 ≡ small_log abc 1 0 → length (c 3) ≤ 1 → records_at c 0 ≡ Some (chunk_body abc ∷ file_body ∷ [])
small_records c here short =
    ap (λ (l : List ℕ). pair_records l (c 3)) here ∙ ap (λ g. records_of (stronger (Some 0) g) (small_log abc 1 0) (c 3)) (closed_none (c 3) (inl short))

-- six images with the small log on device 0, and nothing else
pub small_site : (c : ℕ → List ℕ) → c 0 ≡ small_log abc 1 0 → ((dev : ℕ) → 0 < dev → dev ≤ 5 → length (c dev) ≤ 1)
    → (s : State) × (state_of c ≡ Some s) × (s.phase ≡ Idle) × (view s (0x6e ∷ []) ≡ Some abc)
small_site c here short =
    let v = with_file (with_chunk empty_volume abc_name abc) (0x6e ∷ []) (abc_name ∷ []) in
    let a : volume_at c 0 ≡ Some v = ap (option_and_then volume_of) (small_records c here (short 3 (omega arith) (omega arith))) ∙ small_volume in
    let b : volume_at c 1 ≡ Some empty_volume = ap (option_and_then volume_of) (short_records c 1 (short 1 (omega arith) (omega arith)) (short 4 (omega arith) (omega arith))) in
    let p : phase_at c ≡ Some Idle = ap (option_and_then phase_of) (short_records c 2 (short 2 (omega arith) (omega arith)) (short 5 (omega arith) (omega arith))) in
    let list : map.get v.files (0x6e ∷ []) ≡ Some (abc_name ∷ []) = map.get-insert nat_list_cmp_total map.empty (0x6e ∷ []) (abc_name ∷ []) (0x6e ∷ []) in
    let bytes : map.get v.chunks abc_name ≡ Some abc = map.get-insert nat_list_cmp_total map.empty abc_name abc abc_name in (
      record { a = v; b = empty_volume; phase = Idle },
      ap (λ o. option_and_then (λ (x : Volume). option_and_then (λ (y : Volume). option_map (λ (q : Phase). record { a = x; b = y; phase = q }) (phase_at c)) (volume_at c 1)) o) a
          ∙ ap (λ o. option_and_then (λ (y : Volume). option_map (λ (q : Phase). record { a = v; b = y; phase = q }) (phase_at c)) o) b
          ∙ ap (λ o. option_map (λ (q : Phase). record { a = v; b = empty_volume; phase = q }) o) p,
      refl,
      ap (λ o. if is_some o then option_map (joined_bytes v) o else option_map (joined_bytes empty_volume) (map.get (map.empty {R = bytes_cmp}) (0x6e ∷ []))) list
          ∙ ap (λ o. Some (unwrap_or o [] ++ [])) bytes,
    )
