-- A walk that folds the bodies of a log onto an index.
use Rattle.std.proofs.Common.{◌≡◌, ◌⊎◌, inl, inr, ⊎_elim, ℕ, zero, suc, ◌+◌, ◌≤◌, ◌<◌, List, [], ◌∷◌, ◌++◌, length, take, drop, get_or, Bool, true, false, Option, Some, None, IsSome, Err, refl, sym, ◌∙◌, ap, subst, arith, length-drop, length-append}
use Rattle.std.specs.Prelude.{nat_le, ◌==◌, if◌then◌else◌}
use Rattle.std.specs.Option.{option_and_then, option_map}
use Rattle.std.specs.FinMap as map
use Rattle.std.proofs.Math.Seq.{take-suc}
use Rattle.std.proofs.lemmas.Bool.{true≢false, and_parts, eqb-true, leb-true, leb-false, cases_Bool, cases_lt}
use Rattle.std.proofs.lemmas.List.{take_all, drop_at, length-take}
use Rattle.std.proofs.lemmas.List.Elements.{All-get_or}
use Rattle.std.proofs.lemmas.Option.{none-some}
use Rattle.site_forms.specs.Halves.{half_number, without_half}
use Rattle.site_forms.specs.Logs.{parse, log_size, HasBodyAt, IsBody}
use Rattle.site_forms.specs.Logs.Parsed.{Good}
use Rattle.site_forms.specs.Sites.{shape_of}
use Rattle.site_forms.specs.VolumeRecords.{VolumeRecord, volume_record}
use Rattle.site_forms.specs.VolumeRecords.VolumeRecord.{ChunkRecord, FileRecord, DropFileRecord, DropChunkRecord}
use Rattle.site_forms.specs.Volumes.{bytes_cmp, Volume, Shape, empty_volume, volume_of, volume_step, volume_after, shape_after, may_add_file, may_drop_chunk, with_chunk, with_file, without_file, without_chunk}
use Rattle.site_forms.proofs.Records.{volume_spelled, volume_lawful}
use Rattle.site_forms.proofs.Walks.{log_size-cons, ends, bodies_in, within}
use Rattle.chunk_log.specs.declared.errors.LogError.{LogError}
use Rattle.chunk_log.specs.declared.errors.LogError.TheVariants.{RackFault as LogFault, Damage as LogDamage}
use Rattle.chunk_log.specs.declared.place.Place.{Place}
use Rattle.chunk_log.specs.Walking.{WalksTo, place_behind}
use Rattle.chunk_log.proofs.HalfBlocks.{log_size-more}
use Rattle.chunk_log.proofs.Walked.{before_end}
use Rattle.chunk_volume.specs.declared.errors.VolError.{VolError}
use Rattle.chunk_volume.specs.declared.errors.VolError.TheVariants.{RackFault, Damage, BadChunk, Collision, Exists, NoSuchFile, DeviceFull, Spent, Memory}
use Rattle.chunk_volume.specs.Adding.{places_after}
use Rattle.chunk_volume.specs.Errors.{of_log}
use Rattle.chunk_volume.specs.Folding.{Indexes, Folds, IsFolded, FoldsNext, IsUndamaged, is_front_half}
use Rattle.chunk_volume.specs.OpeningVolumes.{IsFirstUnfolded}
use Rattle.chunk_volume.specs.Pieces.{bytes_at}
use Rattle.chunk_volume.specs.Standing.{HasBytesAt, Keeps}
use Rattle.chunk_volume.specs.VolumeInside.{StandBefore}
use Rattle.chunk_volume.proofs.Adding.{before_with, before_without, before_grows}
use Rattle.chunk_volume.proofs.Keeping.{record_keeps, keeps_stay}
use Rattle.chunk_volume.proofs.Shapes.{shape_step}
use Rattle.chunk_volume.proofs.Walking.{walked_bytes, folds_on, begins}
use Rattle.volume_index.specs.HoldingValues.{Places}
use Rattle.volume_index.specs.Indexes.{IndexValue}
use Rattle.volume_index.proofs.MapValues.{empty-map_values}

some_same : {X : Type 0} (x y : X) → Some x ≡ Some y → x ≡ y
some_same x y is = cc

-- the bodies folded so far, up to a gate
pub record Gathered (image : List ℕ) (bodies : List (List ℕ)) (at : ℕ) (index : IndexValue) : Type 0 where
  pub number : ℕ
  pub most : number ≤ length bodies
  pub gate : at ≡ log_size (take number bodies)
  pub volume : Volume
  pub folds : volume_of (without_half (take number bodies)) ≡ Some volume
  pub indexes : Indexes image at index volume

-- AT THE START

pub gathered_begins : (image : List ℕ) (bodies : List (List ℕ)) (index : IndexValue) → index.shape ≡ empty_volume → Gathered image bodies 0 index
gathered_begins image bodies index nothing = record {
  number = 0;
  most = omega arith;
  gate = refl;
  volume = empty_volume;
  folds = refl;
  indexes = record {
    shape = nothing ∙ (λ i. record { chunks = sym (empty-map_values (λ (l : List ℕ). length l)) i; files = map.empty });
    bytes = λ name bytes is. absurd (none-some bytes (sym (map.get-empty bytes_cmp name) ∙ is));
  };
}

-- A BODY MORE

-- so many bytes are there
pub inside_image : (image body : List ℕ) (at n : ℕ) → take n (drop at image) ≡ body → length body ≡ n → 1 ≤ n → at + n ≤ length image
inside_image image body at n is long some = omega (arith, ap (λ (l : List ℕ). length l) is, long, some, length-drop at image, length-take n (drop at image))

-- no bodies before the first gate
no_bodies : (bodies : List (List ℕ)) (n : ℕ) → log_size (take n bodies) ≡ 0 → take n bodies ≡ []
no_bodies bodies zero none = refl
no_bodies [] (suc n) none = refl
no_bodies (body ∷ bodies) (suc n) none = absurd (omega (arith, none, log_size-cons body (take n bodies)))

-- some bodies before another
some_bodies : (bodies : List (List ℕ)) (n : ℕ) → 1 ≤ log_size (take n bodies) → 1 ≤ length (take n bodies)
some_bodies bodies zero some = absurd (omega (arith, some))
some_bodies [] (suc n) some = absurd (omega (arith, some))
some_bodies (body ∷ bodies) (suc n) some = omega arith

some_shape : (o : Option Volume) (shape : Shape) → option_map shape_of o ≡ Some shape → (after : Volume) × (o ≡ Some after) × (shape ≡ shape_of after)
some_shape None shape is = absurd (none-some shape is)
some_shape (Some after) shape is = (after, refl, some_same shape (shape_of after) (sym is))

no_shape : (o : Option Volume) → option_map shape_of o ≡ None → o ≡ None
no_shape None is = refl
no_shape (Some after) is = cc

-- a body behind the first gate, or one that is no Half record
not_front : (at : ℕ) (body : List ℕ) → is_front_half at body ≡ false → (1 ≤ at) ⊎ (half_number body ≡ 0)
not_front zero body is = inr (omega (arith, leb-false 1 (half_number body) is))
not_front (suc at) body is = inl (omega arith)

-- the bytes of a chunk are where its record says
chunk_at : (image body : List ℕ) (at : ℕ) (r : VolumeRecord) (name bytes : List ℕ) → HasBodyAt image at body → volume_record body ≡ Some r → r ≡ ChunkRecord name bytes → HasBytesAt image (at + 5 + length body) (at + 38) bytes
chunk_at image body at r name bytes there spelled is =
    let named : volume_record body ≡ Some (ChunkRecord name bytes) = spelled ∙ ap (λ (x : VolumeRecord). Some x) is in
    let whole : 1 ∷ (name ++ bytes) ≡ body = volume_spelled body (ChunkRecord name bytes) named in
    let lawful = volume_lawful body (ChunkRecord name bytes) named in
    let long : 33 ≤ length body = omega (arith, ap (λ (l : List ℕ). length l) whole, length-append name bytes, lawful.0) in
    subst (λ (l : List ℕ). HasBytesAt image (at + 5 + length body) (at + 38) l) (ap (λ (l : List ℕ). drop 33 l) (sym whole) ∙ drop_at (1 ∷ name) bytes 33 (omega (arith, lawful.0))) (walked_bytes image body at there long)

module _ (image : List ℕ) (bodies : List (List ℕ)) (at : ℕ) (old : IndexValue) (so_far : Gathered image bodies at old) (inside : so_far.number < length bodies) where
  abbrev pub next : List ℕ
  next = get_or bodies so_far.number []

  one_more : take (suc so_far.number) bodies ≡ take so_far.number bodies ++ next ∷ []
  one_more = take-suc bodies so_far.number [] inside

  gate_more : at + 5 + length next ≡ log_size (take (suc so_far.number) bodies)
  gate_more = omega (arith, so_far.gate, log_size-more (take so_far.number bodies) next, ap log_size one_more)

  steps_on : is_front_half at next ≡ false → volume_of (without_half (take (suc so_far.number) bodies)) ≡ volume_step so_far.volume next
  steps_on is =
      ap (λ (l : List (List ℕ)). volume_of (without_half l)) one_more
      ∙ folds_on (take so_far.number bodies) next so_far.volume
      (⊎_elim (λ later. inl (some_bodies bodies so_far.number (omega (arith, later, so_far.gate)))) (λ none. inr none) (not_front at next is)) so_far.folds

  -- the Half record in front
  half_more : is_front_half at next ≡ true → Gathered image bodies (at + 5 + length next) old
  half_more is =
      let parts = and_parts (at == 0) (nat_le 1 (half_number next)) is in
      let first : log_size (take so_far.number bodies) ≡ 0 = sym so_far.gate ∙ eqb-true at 0 parts.0 in
      let none = no_bodies bodies so_far.number first in
      let empty : Some so_far.volume ≡ Some empty_volume = sym so_far.folds ∙ ap (λ (l : List (List ℕ)). volume_of (without_half l)) none in
      record {
        number = suc so_far.number;
        most = omega (arith, inside);
        gate = gate_more;
        volume = so_far.volume;
        folds = ap (λ (l : List (List ℕ)). volume_of (without_half l)) (one_more ∙ ap (λ (l : List (List ℕ)). l ++ next ∷ []) none) ∙ begins next (leb-true 1 (half_number next) parts.1) ∙ sym empty;
        indexes = record { shape = so_far.indexes.shape; bytes = keeps_stay old.places image image at (at + 5 + length next) so_far.volume refl (omega arith) so_far.indexes.bytes };
      }

  -- a record that folds
  record_more : (new : IndexValue) → HasBodyAt image at next → is_front_half at next ≡ false → IsFolded at old new next → Gathered image bodies (at + 5 + length next) new
  record_more new there is folded =
      let shaped : option_map shape_of (volume_after so_far.volume folded.r) ≡ Some new.shape = sym (shape_step so_far.volume folded.r) ∙ ap (λ (s : Shape). shape_after s folded.r) (sym so_far.indexes.shape) ∙ folded.shape in
      let after = some_shape (volume_after so_far.volume folded.r) new.shape shaped in
      let kept : Keeps (places_after at old.places folded.r) image (at + 5 + length next) after.0 =
      record_keeps image image at (at + 5 + length next) refl (omega arith) old.places so_far.volume after.0 folded.r (λ name bytes same. chunk_at image next at folded.r name bytes there folded.spelled same) after.1 so_far.indexes.bytes in
      record {
        number = suc so_far.number;
        most = omega (arith, inside);
        gate = gate_more;
        volume = after.0;
        folds = steps_on is ∙ ap (option_and_then (λ (r : VolumeRecord). volume_after so_far.volume r)) folded.spelled ∙ after.1;
        indexes = record { shape = after.2; bytes = subst (λ (p : Places). Keeps p image (at + 5 + length next) after.0) (sym folded.places) kept };
      }

  pub gathered_more : (new : IndexValue) → HasBodyAt image at next → FoldsNext at old new next true → Gathered image bodies (at + 5 + length next) new
  gathered_more new there folds = elim (cases_Bool (is_front_half at next)) [
    | inl t ↦ subst (λ (v : IndexValue). Gathered image bodies (at + 5 + length next) v) (sym (folds.half t).1) (half_more t)
    | inr f ↦ record_more new there f (folds.record_is f)
  ]

  -- a body that does not fold
  step_fails : (o : Option VolumeRecord) → ((r : VolumeRecord) → o ≡ Some r → shape_after old.shape r ≡ None) → option_and_then (λ (r : VolumeRecord). volume_after so_far.volume r) o ≡ None
  step_fails None fails = refl
  step_fails (Some r) fails = no_shape (volume_after so_far.volume r) (sym (shape_step so_far.volume r) ∙ ap (λ (s : Shape). shape_after s r) (sym so_far.indexes.shape) ∙ fails r refl)

  pub gathered_stops : (new : IndexValue) → FoldsNext at old new next false → IsFirstUnfolded bodies at
  gathered_stops new folds = elim (cases_Bool (is_front_half at next)) [
    | inl t ↦ absurd (true≢false (sym (folds.half t).0))
    | inr f ↦ record {
      number = so_far.number;
      inside = inside;
      front = subst IsSome (sym so_far.folds) refl;
      fails = steps_on f ∙ step_fails (volume_record next) (folds.record_is f);
      gate = so_far.gate;
    }
  ]

-- WHERE A WALK STANDS

below_or_at : (n m : ℕ) → n ≤ m → (n ≡ m → ⊥) → n < m
below_or_at n m most apart = elim (cases_lt n m) [
  | inl below ↦ below
  | inr past ↦ absurd (apart (omega (arith, most, past)))
]

at_or_past : (n m : ℕ) → (n < m → ⊥) → m ≤ n
at_or_past n m not_below = elim (cases_lt n m) [
  | inl below ↦ absurd (not_below below)
  | inr past ↦ past
]

-- before the end another body comes
pub gathered_inside : (image : List ℕ) (bodies : List (List ℕ)) (at end : ℕ) (index : IndexValue) → parse image ≡ Good bodies end → (so_far : Gathered image bodies at index) → at < end → so_far.number < length bodies
gathered_inside image bodies at end index good so_far before =
    below_or_at so_far.number (length bodies) so_far.most (λ all. omega (arith, before, so_far.gate, ap (λ (l : List (List ℕ)). log_size l) (take_all so_far.number bodies (omega (arith, all))), ends image bodies end good))

pub gathered_ends : (image : List ℕ) (bodies : List (List ℕ)) (at end : ℕ) (index : IndexValue) → parse image ≡ Good bodies end → Gathered image bodies at index → end ≤ at → (volume : Volume) × (volume_of (without_half bodies) ≡ Some volume) × Indexes image at index volume
gathered_ends image bodies at end index good so_far past =
    let all : length bodies ≤ so_far.number = at_or_past so_far.number (length bodies) (λ inside. omega (arith, past, so_far.gate, before_end bodies so_far.number inside, ends image bodies end good)) in
    (so_far.volume, ap (λ (l : List (List ℕ)). volume_of (without_half l)) (sym (take_all so_far.number bodies all)) ∙ so_far.folds, so_far.indexes)

-- the next body, where it stands
pub record NextBody (image body : List ℕ) (at : ℕ) : Type 0 where
  pub there : HasBodyAt image at body
  pub same : bytes_at image (at + 5) (length body) ≡ body
  pub inside : at + 5 + length body ≤ length image

pub next_body : (image : List ℕ) (bodies : List (List ℕ)) (at end : ℕ) (index : IndexValue) → parse image ≡ Good bodies end → (so_far : Gathered image bodies at index) → so_far.number < length bodies → NextBody image (get_or bodies so_far.number []) at
next_body image bodies at end index good so_far inside =
    let body = get_or bodies so_far.number [] in
    let there : HasBodyAt image at body = subst (λ (n : ℕ). HasBodyAt image n body) (sym so_far.gate) (within image bodies end so_far.number good inside) in
    let lawful : IsBody body = All-get_or IsBody bodies so_far.number [] inside (bodies_in image bodies end good) in
    record { there = there; same = there.bytes; inside = inside_image image body (at + 5) (length body) there.bytes refl lawful.some }

-- a body that a walk has met, and the place that it answered
pub record Met (image : List ℕ) (bodies : List (List ℕ)) (at : ℕ) (index : IndexValue) (place : Place) : Type 0 where
  pub so_far : Gathered image bodies at index
  pub inside : so_far.number < length bodies
  pub there : HasBodyAt image at (get_or bodies so_far.number [])
  pub placed : place.at ≡ at + 5
  pub long : place.len ≡ length (get_or bodies so_far.number [])
  pub same : bytes_at image place.at place.len ≡ get_or bodies so_far.number []
  pub whole : place.at + place.len ≤ length image

pub met : (image : List ℕ) (bodies : List (List ℕ)) (at end : ℕ) (index : IndexValue) (place : Place) (o : Option Place) → parse image ≡ Good bodies end → Gathered image bodies at index → at < end → o ≡ Some place
    → ((i : ℕ) → i < length bodies → at ≡ log_size (take i bodies) → o ≡ Some (place_behind at (length (get_or bodies i [])))) → Met image bodies at index place
met image bodies at end index place o good so_far before is walks =
    let inside = gathered_inside image bodies at end index good so_far before in
    let body = get_or bodies so_far.number [] in
    let next = next_body image bodies at end index good so_far inside in
    let here : place ≡ place_behind at (length body) = some_same place (place_behind at (length body)) (sym is ∙ walks so_far.number inside so_far.gate) in
    let placed : place.at ≡ at + 5 = ap (λ (p : Place). p.at) here in
    let long : place.len ≡ length body = ap (λ (p : Place). p.len) here in
    record {
      so_far = so_far;
      inside = inside;
      there = next.there;
      placed = placed;
      long = long;
      same = (λ i. bytes_at image (placed i) (long i)) ∙ next.same;
      whole = omega (arith, placed, long, next.inside);
    }

-- REFUSALS

pub walk_refused : (image : List ℕ) (end : ℕ) (bodies : List (List ℕ)) (place : Place) (error : LogError) → WalksTo place (Err error) → Folds image end bodies (Err (of_log error))
walk_refused image end bodies place LogFault walks = tt
walk_refused image end bodies place (LogDamage device at) walks = absurd walks

pub next_refused : (image : List ℕ) (end : ℕ) (bodies : List (List ℕ)) (error : VolError) → IsUndamaged {T = Bool} (Err error) → Folds image end bodies (Err error)
next_refused image end bodies RackFault whole = tt
next_refused image end bodies (Damage device at) whole = absurd whole
next_refused image end bodies (BadChunk name found) whole = tt
next_refused image end bodies (Collision name) whole = tt
next_refused image end bodies Exists whole = tt
next_refused image end bodies NoSuchFile whole = tt
next_refused image end bodies (DeviceFull device at len) whole = tt
next_refused image end bodies Spent whole = tt
next_refused image end bodies Memory whole = tt

-- WHERE THE BYTES STAND, ON EVERY RACK

pub nothing_before : (end : ℕ) (places : Places) (lengths : map.FinMap bytes_cmp ℕ) → places ≡ map.empty → StandBefore end places lengths
nothing_before end places lengths is name place len is_place is_len = absurd (none-some place (sym (map.get-empty bytes_cmp name) ∙ ap (λ (p : Places). map.get p name) (sym is) ∙ is_place))

pub stand_as : (after : ℕ) (p q : Places) (l m : map.FinMap bytes_cmp ℕ) → q ≡ p → m ≡ l → StandBefore after p l → StandBefore after q m
stand_as after p q l m same_places same_lengths before name place len is_place is_len = before name place len (ap (λ (x : Places). map.get x name) (sym same_places) ∙ is_place) (ap (λ (x : map.FinMap bytes_cmp ℕ). map.get x name) (sym same_lengths) ∙ is_len)

none_if : (b : Bool) (x after : Shape) → (if b then None else Some x) ≡ Some after → after ≡ x
none_if true x after is = absurd (none-some after is)
none_if false x after is = cc

some_if : (b : Bool) (x after : Shape) → (if b then Some x else None) ≡ Some after → after ≡ x
some_if true x after is = cc
some_if false x after is = absurd (none-some after is)

module _ (gate : ℕ) (old new : IndexValue) (body : List ℕ) (before : StandBefore gate old.places old.shape.chunks) where
  before_by : (r : VolumeRecord) → volume_record body ≡ Some r → shape_after old.shape r ≡ Some new.shape → new.places ≡ places_after gate old.places r → StandBefore (gate + 5 + length body) new.places new.shape.chunks
  before_by (ChunkRecord name bytes) spelled shape places =
      let whole = ap (λ (l : List ℕ). length l) (volume_spelled body (ChunkRecord name bytes) spelled) in
      let lawful = volume_lawful body (ChunkRecord name bytes) spelled in
      let within : gate + 38 + length bytes ≤ gate + 5 + length body = omega (arith, whole, length-append name bytes, lawful.0) in
      let is = none_if (map.contains_key old.shape.chunks name) (with_chunk old.shape name (length bytes)) new.shape shape in
      stand_as (gate + 5 + length body) (map.insert old.places name (gate + 38)) new.places (map.insert old.shape.chunks name (length bytes)) new.shape.chunks places (ap (λ (s : Shape). s.chunks) is)
      (before_with gate (gate + 5 + length body) old.places old.shape.chunks name (gate + 38) (length bytes) (omega arith) within before)
  before_by (FileRecord name list) spelled shape places =
      let is = some_if (may_add_file (λ n. n) 0 old.shape name list) (with_file old.shape name list) new.shape shape in
      stand_as (gate + 5 + length body) old.places new.places old.shape.chunks new.shape.chunks places (ap (λ (s : Shape). s.chunks) is) (before_grows gate (gate + 5 + length body) old.places old.shape.chunks (omega arith) before)
  before_by (DropFileRecord name) spelled shape places =
      let is = some_if (map.contains_key old.shape.files name) (without_file old.shape name) new.shape shape in
      stand_as (gate + 5 + length body) old.places new.places old.shape.chunks new.shape.chunks places (ap (λ (s : Shape). s.chunks) is) (before_grows gate (gate + 5 + length body) old.places old.shape.chunks (omega arith) before)
  before_by (DropChunkRecord name) spelled shape places =
      let is = some_if (may_drop_chunk old.shape name) (without_chunk old.shape name) new.shape shape in
      stand_as (gate + 5 + length body) (map.remove old.places name) new.places (map.remove old.shape.chunks name) new.shape.chunks places (ap (λ (s : Shape). s.chunks) is)
      (before_without gate (gate + 5 + length body) old.places old.shape.chunks name (omega arith) before)

  -- the bytes of a chunk whose record is folded stand before the next gate
  pub folded_before : IsFolded gate old new body → StandBefore (gate + 5 + length body) new.places new.shape.chunks
  folded_before folded = before_by folded.r folded.spelled folded.shape folded.places
