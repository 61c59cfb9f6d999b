-- Each action leaves one action less.
use Rattle.std.proofs.Common.{◌≡◌, ⊎_elim, ℕ, ◌+◌, ◌≤◌, List, [], length, get_or, Bool, true, false, cond, Option, Some, None, refl, sym, ◌∙◌, ap, arith}
use Rattle.std.specs.Prelude.{is_some, not}
use Rattle.std.specs.List.{filter, flat_map}
use Rattle.std.specs.Cmp.Lexicographic.{nat_list_cmp_total}
use Rattle.std.specs.FinMap as map
use Rattle.std.proofs.lemmas.Bool.{true≢false, and_parts, not-true, not_from_false, not_from_true, false_from_ne_true}
use Rattle.site_forms.specs.Names.{is_listed, is_distinct}
use Rattle.site_forms.specs.Volumes.{bytes_cmp, Files, Shape, used, distinct_count, with_chunk, with_file, without_file, without_chunk}
use Rattle.volume_index.proofs.Alls.{still_held, held_new}
use Rattle.volume_index.proofs.MapValues.{same_names}
use Rattle.volume_index.proofs.Sets.{listed_passes, count_none}
use Rattle.site_core.specs.Steps.{list_of, lacking_names, held_names, chunks_to_copy, files_beside, chunks_to_drop, steps_left}
use Rattle.site_core.proofs.Counting.{AreAmong, used_within, len_within}
use Rattle.site_core.proofs.Lists.{in_flat, none_listed, none_filter, fewer_length, fewer_distinct, one_less}
use Rattle.site_core.proofs.Maps.{get_old, get_gone, get_left, name_cases, without_cases, user_of, used_by}
use Rattle.site_core.proofs.NextSteps.{AllHeld, Copies, Adds, Drops, DropsChunk, Ends, all_copied}

-- MAPS WITH SOME KEYS

module _ {X : Type 0} (m : map.FinMap bytes_cmp X) (p : List ℕ → Bool) where
  pub get_kept : (q : List ℕ) → map.get (map.retain_keys m p) q ≡ cond (p q) (map.get m q) None
  get_kept q = map.get-retain_keys m p q (λ x ties. ap p (sym (same_names q x ties)))

  cond_none : (b : Bool) (o : Option X) → cond b o o ≡ o
  cond_none true o = refl
  cond_none false o = refl

  -- without a key that does not stay, the same stays
  pub keep_beside : (k : List ℕ) → p k ≡ false → map.retain_keys (map.remove m k) p ≡ map.retain_keys m p
  keep_beside k gone = map.same_map nat_list_cmp_total same_names _ _ (λ q.
      map.get-retain_keys (map.remove m k) p q (λ x ties. ap p (sym (same_names q x ties)))
      ∙ without_cases m k (λ o. cond (p q) o None ≡ cond (p q) (map.get m q) None) q
      (λ is.
      let fails : p q ≡ false = ap p is ∙ gone in
      ap (λ (b : Bool). cond b None None) fails ∙ sym (ap (λ (b : Bool). cond b (map.get m q) None) fails))
      (λ _. refl)
      ∙ sym (get_kept q))

  pub keep_less : (k : List ℕ) → map.retain_keys (map.remove m k) p ≡ map.remove (map.retain_keys m p) k
  keep_less k = map.same_map nat_list_cmp_total same_names _ _ (λ q.
      map.get-retain_keys (map.remove m k) p q (λ x ties. ap p (sym (same_names q x ties)))
      ∙ ⊎_elim
      (λ is. ap (λ o. cond (p q) o None) (ap (map.get (map.remove m k)) is ∙ get_gone m k) ∙ cond_none (p q) None ∙ sym (ap (map.get (map.remove (map.retain_keys m p) k)) is ∙ get_gone (map.retain_keys m p) k))
      (λ other. ap (λ o. cond (p q) o None) (get_left m k q other) ∙ sym (get_kept q) ∙ sym (get_left (map.retain_keys m p) k q other))
      (name_cases q k))

  pub kept_held : (q : List ℕ) → p q ≡ true → map.contains_key m q ≡ true → map.contains_key (map.retain_keys m p) q ≡ true
  kept_held q stays held = ap is_some (get_kept q ∙ ap (λ (b : Bool). cond b (map.get m q) None) stays) ∙ held

  kept_by : (b : Bool) (o : Option X) → is_some (cond b o None) ≡ true → (b ≡ true) × (is_some o ≡ true)
  kept_by true o held = (refl, held)
  kept_by false o held = absurd (true≢false (sym held))

  pub held_kept : (q : List ℕ) → map.contains_key (map.retain_keys m p) q ≡ true → (p q ≡ true) × (map.contains_key m q ≡ true)
  held_kept q held = kept_by (p q) (map.get m q) (sym (ap is_some (get_kept q)) ∙ held)

  kept_some : (b : Bool) (o : Option X) (v : X) → cond b o None ≡ Some v → o ≡ Some v
  kept_some true o v is = is
  kept_some false o v is = cc

  pub get_among : (q : List ℕ) (v : X) → map.get (map.retain_keys m p) q ≡ Some v → map.get m q ≡ Some v
  get_among q v is = kept_some (p q) (map.get m q) v (sym (get_kept q) ∙ is)

module _ (source target : Shape) (names : List (List ℕ)) where
  -- A COPY

  pub copy_left : (chunk : List ℕ) (len : ℕ) → Copies source target names chunk → steps_left source (with_chunk target chunk len) names + 1 ≡ steps_left source target names
  copy_left chunk len facts =
      let flat = flat_map (list_of source) (lacking_names target names) in
      let fewer : distinct_count (chunks_to_copy source (with_chunk target chunk len) names) + 1 ≡ distinct_count (chunks_to_copy source target names) = fewer_distinct
      (λ c. not (map.contains_key target.chunks c)) (λ c. not (map.contains_key (map.insert target.chunks chunk len) c)) chunk
      (not_from_false (map.contains_key target.chunks chunk) facts.new)
      (not_from_true (map.contains_key (map.insert target.chunks chunk len) chunk) (held_new target.chunks chunk len))
      (λ x other. ap (λ (o : Option ℕ). not (is_some o)) (get_old target.chunks chunk len x other))
      flat facts.flat in
      omega (arith, fewer)

  -- A FILE MORE

  none_now : (place : ℕ) (list : List (List ℕ)) → Adds source target names place → chunks_to_copy source (with_file target (get_or names place []) list) names ≡ []
  none_now place list facts =
      let name = get_or names place [] in
      let files = map.insert target.files name list in
      let flat = flat_map (list_of source) (filter (λ n. not (map.contains_key files n)) names) in
      none_listed (filter (λ c. not (map.contains_key target.chunks c)) flat) (λ q listed.
      let parts = and_parts (is_listed flat q) (not (map.contains_key target.chunks q)) (sym (listed_passes (λ c. not (map.contains_key target.chunks c)) flat q) ∙ listed) in
      let one = in_flat (list_of source) (filter (λ n. not (map.contains_key files n)) names) q parts.0 in
      let its = and_parts (is_listed names one.0) (not (map.contains_key files one.0)) (sym (listed_passes (λ n. not (map.contains_key files n)) names one.0) ∙ one.1) in
      let lacks : map.contains_key target.files one.0 ≡ false = false_from_ne_true (map.contains_key target.files one.0) (λ held. true≢false (sym (still_held target.files name list one.0 held) ∙ not-true (map.contains_key files one.0) its.1)) in
      true≢false (sym (all_copied source target names one.0 q facts.copied its.0 lacks one.2) ∙ not-true (map.contains_key target.chunks q) parts.1))

  pub add_left : (place : ℕ) (list : List (List ℕ)) → is_distinct names ≡ true → Adds source target names place → steps_left source (with_file target (get_or names place []) list) names + 1 ≡ steps_left source target names
  add_left place list distinct facts =
      let name = get_or names place [] in
      let fewer : length (lacking_names (with_file target name list) names) + 1 ≡ length (lacking_names target names) = fewer_length
      (λ n. not (map.contains_key target.files n)) (λ n. not (map.contains_key (map.insert target.files name list) n)) name
      (not_from_false (map.contains_key target.files name) facts.lacking)
      (not_from_true (map.contains_key (map.insert target.files name list) name) (held_new target.files name list))
      (λ x other. ap (λ (o : Option (List (List ℕ))). not (is_some o)) (get_old target.files name list x other))
      names distinct facts.listed in
      let copies : distinct_count (chunks_to_copy source (with_file target name list) names) ≡ distinct_count (chunks_to_copy source target names) = ap distinct_count (none_now place list facts ∙ sym facts.copied) in
      omega (arith, fewer, copies)

  -- A FILE LESS

  lacking_none : AllHeld source target names → lacking_names target names ≡ []
  lacking_none arrived = none_filter (λ n. not (map.contains_key target.files n)) names (λ x listed. not_from_true (map.contains_key target.files x) (arrived x listed))

  copies_none : AllHeld source target names → distinct_count (chunks_to_copy source target names) ≡ 0
  copies_none arrived = ap (λ (l : List (List ℕ)). distinct_count (filter (λ c. not (map.contains_key target.chunks c)) (flat_map (list_of source) l))) (lacking_none arrived) ∙ count_none

  copies_none_then : (name : List ℕ) → AllHeld source target names → distinct_count (chunks_to_copy (without_file source name) target names) ≡ 0
  copies_none_then name arrived = ap (λ (l : List (List ℕ)). distinct_count (filter (λ c. not (map.contains_key target.chunks c)) (flat_map (list_of (without_file source name)) l))) (lacking_none arrived) ∙ count_none

  pub drop_left : (place : ℕ) → is_distinct names ≡ true → Drops source target names place → steps_left (without_file source (get_or names place [])) target names + 1 ≡ steps_left source target names
  drop_left place distinct facts =
      let name = get_or names place [] in
      let fewer : length (held_names (without_file source name) names) + 1 ≡ length (held_names source names) = fewer_length
      (map.contains_key source.files) (map.contains_key (map.remove source.files name)) name
      facts.held (ap is_some (get_gone source.files name)) (λ x other. ap is_some (get_left source.files name x other)) names distinct facts.listed in
      let beside : files_beside (without_file source name) names ≡ files_beside source names = keep_beside source.files (λ n. not (is_listed names n)) name (not_from_true (is_listed names name) facts.listed) in
      let same : map.len (chunks_to_drop (without_file source name) names) ≡ map.len (chunks_to_drop source names) = ap (λ (f : Files). map.len (map.retain_keys source.chunks (λ c. not (map.contains_key (used f) c)))) beside in
      omega (arith, fewer, same, copies_none facts.arrived, copies_none_then name facts.arrived)

  -- A CHUNK LESS

  beside_among : AreAmong (files_beside source names) source.files
  beside_among q list is = get_among source.files (λ n. not (is_listed names n)) q list is

  pub drop_chunk_left : (chunk : List ℕ) → DropsChunk source target names chunk → steps_left (without_chunk source chunk) target names + 1 ≡ steps_left source target names
  drop_chunk_left chunk facts =
      let p : List ℕ → Bool = λ c. not (map.contains_key (used (files_beside source names)) c) in
      let passes : p chunk ≡ true = not_from_false (map.contains_key (used (files_beside source names)) chunk) (false_from_ne_true (map.contains_key (used (files_beside source names)) chunk)
      (λ uses. true≢false (sym (used_within (files_beside source names) source.files beside_among chunk uses) ∙ facts.unused))) in
      let less : map.len (chunks_to_drop (without_chunk source chunk) names) + 1 ≡ map.len (chunks_to_drop source names) =
      ap (λ (m : map.FinMap bytes_cmp ℕ). map.len m + 1) (keep_less source.chunks p chunk) ∙ one_less (map.retain_keys source.chunks p) chunk (kept_held source.chunks p chunk passes facts.held) in
      omega (arith, less)

  -- THE END

  drop_none : Ends source target names → map.len (chunks_to_drop source names) ≤ 0
  drop_none facts =
      let p : List ℕ → Bool = λ c. not (map.contains_key (used (files_beside source names)) c) in
      let fewer = len_within (map.retain_keys source.chunks p) (map.empty {X = ℕ} {R = bytes_cmp}) (λ q held.
      let its = held_kept source.chunks p q held in
      let user = user_of source.files q (facts.tidy q its.1) in
      let unnamed : not (is_listed names user.0) ≡ true = not_from_false (is_listed names user.0) (false_from_ne_true (is_listed names user.0) (λ listed. true≢false (sym (ap is_some user.1.1) ∙ facts.left user.0 listed))) in
      let beside : map.get (files_beside source names) user.0 ≡ Some user.1.0 = get_kept source.files (λ n. not (is_listed names n)) user.0 ∙ ap (λ (b : Bool). cond b (map.get source.files user.0) None) unnamed ∙ user.1.1 in
      absurd (true≢false (sym (used_by (files_beside source names) user.0 user.1.0 q beside user.1.2) ∙ not-true (map.contains_key (used (files_beside source names)) q) its.0))) in
      omega (arith, fewer, map.len-empty bytes_cmp ℕ)

  pub end_left : Ends source target names → steps_left source target names ≡ 1
  end_left facts =
      let held : held_names source names ≡ [] = none_filter (map.contains_key source.files) names facts.left in
      let lacking = lacking_none facts.arrived in
      omega (arith, ap length held, ap length lacking, copies_none facts.arrived, drop_none facts)
