-- What the choice of the next action tells.
use Rattle.std.proofs.Common.{◌≡◌, ℕ, ◌<◌, List, [], length, get_or, true, false, Option, Some, None, refl, sym, ◌∙◌, ap}
use Rattle.std.specs.Prelude.{not, slice_get, unwrap_or}
use Rattle.std.specs.List.{flat_map, position}
use Rattle.std.specs.FinMap as map
use Rattle.std.proofs.lemmas.Bool.{true≢false, and_parts, and_from, not-true, not-false, not_from_false, true_from_ne_false}
use Rattle.std.proofs.lemmas.List.Quantifiers.{position-Some}
use Rattle.site_forms.specs.Names.{is_listed}
use Rattle.site_forms.specs.Sites.{HoldsFile, HoldsChunk, IsNamed}
use Rattle.site_forms.specs.Volumes.{Shape, used}
use Rattle.volume_index.specs.HoldingValues.{orphans}
use Rattle.volume_index.proofs.Sets.{listed_passes}
use Rattle.site_core.specs.Steps.{list_of, lacking_names, chunks_to_copy, first_step, next_step}
use Rattle.site_core.specs.declared.step.Step.{Step}
use Rattle.site_core.specs.declared.step.Step.TheVariants.{Copy, Add, Drop, DropChunk, Finish}
use Rattle.site_core.proofs.Maps.{key_held, held_key}
use Rattle.site_core.proofs.Lists.{first_listed, none_first, listed_at, in_flat, into_flat, none_passes}

module _ (source target : Shape) (names : List (List ℕ)) where
  abbrev pub AllHeld : Type 0
  AllHeld = (name : List ℕ) → IsNamed names name → HoldsFile target name

  abbrev pub NoneHeld : Type 0
  NoneHeld = (name : List ℕ) → IsNamed names name → map.contains_key source.files name ≡ false

  pub record Copies (chunk : List ℕ) : Type 0 where
    pub name : List ℕ
    pub listed : IsNamed names name
    pub lacking : map.contains_key target.files name ≡ false
    pub list : List (List ℕ)
    pub found : map.get source.files name ≡ Some list
    pub uses : is_listed list chunk ≡ true
    pub new : map.contains_key target.chunks chunk ≡ false
    pub flat : is_listed (flat_map (list_of source) (lacking_names target names)) chunk ≡ true

  pub record Adds (place : ℕ) : Type 0 where
    pub inside : place < length names
    pub listed : IsNamed names (get_or names place [])
    pub lacking : map.contains_key target.files (get_or names place []) ≡ false
    pub copied : chunks_to_copy source target names ≡ []

  pub record Drops (place : ℕ) : Type 0 where
    pub inside : place < length names
    pub listed : IsNamed names (get_or names place [])
    pub held : HoldsFile source (get_or names place [])
    pub arrived : AllHeld

  pub record DropsChunk (chunk : List ℕ) : Type 0 where
    pub arrived : AllHeld
    pub left : NoneHeld
    pub held : HoldsChunk source chunk
    pub unused : map.contains_key (used source.files) chunk ≡ false

  pub record Ends : Type 0 where
    pub arrived : AllHeld
    pub left : NoneHeld
    pub tidy : (chunk : List ℕ) → HoldsChunk source chunk → map.contains_key (used source.files) chunk ≡ true

  abbrev pub Tells : Step → Type 0
  Tells (Copy chunk) = Copies chunk
  Tells (Add place) = Adds place
  Tells (Drop place) = Drops place
  Tells (DropChunk chunk) = DropsChunk chunk
  Tells Finish = Ends

  list_found : (o : Option (List (List ℕ))) (chunk : List ℕ) → is_listed (unwrap_or o []) chunk ≡ true → (list : List (List ℕ)) × (o ≡ Some list) × (is_listed list chunk ≡ true)
  list_found None chunk listed = absurd (true≢false (sym listed))
  list_found (Some list) chunk listed = (list, refl, listed)

  copies : (chunk : List ℕ) → slice_get (chunks_to_copy source target names) 0 ≡ Some chunk → Copies chunk
  copies chunk is =
      let flat = flat_map (list_of source) (lacking_names target names) in
      let parts = and_parts (is_listed flat chunk) (not (map.contains_key target.chunks chunk)) (sym (listed_passes (λ c. not (map.contains_key target.chunks c)) flat chunk) ∙ first_listed (chunks_to_copy source target names) chunk is) in
      let one = in_flat (list_of source) (lacking_names target names) chunk parts.0 in
      let its = and_parts (is_listed names one.0) (not (map.contains_key target.files one.0)) (sym (listed_passes (λ n. not (map.contains_key target.files n)) names one.0) ∙ one.1) in
      let found = list_found (map.get source.files one.0) chunk one.2 in
      record {
        name = one.0;
        listed = its.0;
        lacking = not-true (map.contains_key target.files one.0) its.1;
        list = found.0;
        found = found.1;
        uses = found.2;
        new = not-true (map.contains_key target.chunks chunk) parts.1;
        flat = parts.0;
      }

  adds : (place : ℕ) → chunks_to_copy source target names ≡ [] → position (λ name. not (map.contains_key target.files name)) names ≡ Some place → Adds place
  adds place none is =
      let at = position-Some (λ name. not (map.contains_key target.files name)) names place [] is in
      record {
        inside = at.0;
        listed = listed_at names place at.0;
        lacking = not-true (map.contains_key target.files (get_or names place [])) at.1;
        copied = none;
      }

  all_held : position (λ name. not (map.contains_key target.files name)) names ≡ None → AllHeld
  all_held none name listed = not-false (map.contains_key target.files name) (none_passes (λ n. not (map.contains_key target.files n)) names none name listed)

  drops : (place : ℕ) → AllHeld → position (map.contains_key source.files) names ≡ Some place → Drops place
  drops place arrived is =
      let at = position-Some (map.contains_key source.files) names place [] is in
      record { inside = at.0; listed = listed_at names place at.0; held = at.1; arrived = arrived }

  orphan_of : (chunk : List ℕ) → is_listed (orphans source) chunk ≡ true → (is_listed (map.keys source.chunks) chunk ≡ true) × (map.contains_key (used source.files) chunk ≡ false)
  orphan_of chunk listed =
      let parts = and_parts (is_listed (map.keys source.chunks) chunk) (not (map.contains_key (used source.files) chunk)) (sym (listed_passes (λ c. not (map.contains_key (used source.files) c)) (map.keys source.chunks) chunk) ∙ listed) in
      (parts.0, not-true (map.contains_key (used source.files) chunk) parts.1)

  drops_chunk : (chunk : List ℕ) → AllHeld → NoneHeld → slice_get (orphans source) 0 ≡ Some chunk → DropsChunk chunk
  drops_chunk chunk arrived left is =
      let orphan = orphan_of chunk (first_listed (orphans source) chunk is) in
      record { arrived = arrived; left = left; held = key_held source.chunks chunk orphan.0; unused = orphan.1 }

  ends : AllHeld → NoneHeld → orphans source ≡ [] → Ends
  ends arrived left none = record {
    arrived = arrived;
    left = left;
    tidy = λ chunk held. true_from_ne_false (map.contains_key (used source.files) chunk) (λ unused.
        true≢false (sym (listed_passes (λ c. not (map.contains_key (used source.files) c)) (map.keys source.chunks) chunk
        ∙ and_from (is_listed (map.keys source.chunks) chunk) (not (map.contains_key (used source.files) chunk)) (held_key source.chunks chunk held) (not_from_false (map.contains_key (used source.files) chunk) unused))
        ∙ ap (λ (l : List (List ℕ)). is_listed l chunk) none));
  }

  tells_by : (c : Option (List ℕ)) (i j : Option ℕ) (d : Option (List ℕ)) → slice_get (chunks_to_copy source target names) 0 ≡ c → position (λ name. not (map.contains_key target.files name)) names ≡ i
      → position (map.contains_key source.files) names ≡ j → slice_get (orphans source) 0 ≡ d → Tells (first_step c i j d)
  tells_by (Some chunk) i j d is_c is_i is_j is_d = copies chunk is_c
  tells_by None (Some place) j d is_c is_i is_j is_d = adds place (none_first (chunks_to_copy source target names) is_c) is_i
  tells_by None None (Some place) d is_c is_i is_j is_d = drops place (all_held is_i) is_j
  tells_by None None None (Some chunk) is_c is_i is_j is_d = drops_chunk chunk (all_held is_i) (none_passes (map.contains_key source.files) names is_j) is_d
  tells_by None None None None is_c is_i is_j is_d = ends (all_held is_i) (none_passes (map.contains_key source.files) names is_j) (none_first (orphans source) is_d)

  pub tells : Tells (next_step source target names)
  tells = tells_by _ _ _ _ refl refl refl refl

  -- where nothing is to be copied, the target holds the chunks of each file that it lacks
  pub all_copied : (name chunk : List ℕ) → chunks_to_copy source target names ≡ [] → IsNamed names name → map.contains_key target.files name ≡ false → is_listed (list_of source name) chunk ≡ true → HoldsChunk target chunk
  all_copied name chunk none listed lacking uses = true_from_ne_false (map.contains_key target.chunks chunk) (λ new.
      let lack = listed_passes (λ n. not (map.contains_key target.files n)) names name ∙ and_from (is_listed names name) (not (map.contains_key target.files name)) listed (not_from_false (map.contains_key target.files name) lacking) in
      let flat = into_flat (list_of source) (lacking_names target names) chunk name lack uses in
      true≢false (sym (listed_passes (λ c. not (map.contains_key target.chunks c)) (flat_map (list_of source) (lacking_names target names)) chunk
      ∙ and_from (is_listed (flat_map (list_of source) (lacking_names target names)) chunk) (not (map.contains_key target.chunks chunk)) flat (not_from_false (map.contains_key target.chunks chunk) new))
      ∙ ap (λ (l : List (List ℕ)). is_listed l chunk) none))
