-- A record added to a volume in memory: what the volume is then, and what it stands for.
use Rattle.std.proofs.Common.{◌≡◌, ℕ, ◌+◌, ◌≤◌, List, length, Bool, true, false, Option, Some, None, Result, Ok, Err, sym, ◌∙◌, ap, subst, arith}
use Rattle.std.specs.Prelude.{cond, IsErrAnd}
use Rattle.std.specs.FinMap as map
use Rattle.std.specs.Ordering.{eq_by_cmp}
use Rattle.std.specs.Cmp.Lexicographic.{nat_list_cmp_total}
use Rattle.std.proofs.lemmas.Option.{none-some}
use Rattle.volume_disk.specs.Disk.{Disk, Images, Crash}
use Rattle.site_forms.specs.VolumeRecords.{VolumeRecord, IsVolumeRecord, volume_body}
use Rattle.site_forms.specs.Volumes.{bytes_cmp, Shape, shape_after}
use Rattle.chunk_log.specs.Appending.{Appended, after_append}
use Rattle.chunk_log.specs.Frames.{FrameValue}
use Rattle.chunk_log.specs.LogValues.{LogValue}
use Rattle.chunk_volume.specs.declared.errors.VolError.{VolError}
use Rattle.chunk_volume.specs.declared.errors.VolError.TheVariants.{RackFault, Damage, BadChunk, Collision, Exists, NoSuchFile, DeviceFull, Spent, Memory}
use Rattle.chunk_volume.specs.declared.volume.Volume.TheInside.{Inside}
use Rattle.chunk_volume.specs.Adding.{IsSame, IsRefused, Adds, AddsRecord, places_after}
use Rattle.chunk_volume.specs.AppendingRecords.{AppendsRecord}
use Rattle.chunk_volume.specs.Room.{chunks_taken, files_taken}
use Rattle.chunk_volume.specs.VolumeInside.{view_of, StandBefore}
use Rattle.chunk_volume.specs.VolumeValues.{VolumeValue}
use Rattle.chunk_volume.proofs.Writing.{adds_ok, adds_fault, adds_refused}
use Rattle.volume_index.specs.HoldingValues.{HoldingValue, Places}

-- what is known once there is room, and the body of the record is framed
pub record Framed (v : VolumeValue) (a : Inside) (r : VolumeRecord) (frame : FrameValue) : Type 0 where
  pub same : IsSame v (view_of a)
  pub framed : frame ≡ record { room = a.frame.room; body = volume_body r }

-- what the holding is once the record is added
pub record Holds (a : Inside) (r : VolumeRecord) (holding : HoldingValue) : Type 0 where
  pub shape : shape_after a.holding.shape r ≡ Some holding.shape
  pub places : holding.places ≡ places_after a.log.end a.holding.places r
  pub chunks : a.holding.chunk_room ≤ holding.chunk_room + chunks_taken r
  pub files : a.holding.file_room ≤ holding.file_room + files_taken r

-- an answer that hands an error on
pub handed : {T E : Type 0} (result : Result T E) (error : E) (P : Result T E → Type 0) → IsErrAnd result (λ other. other ≡ error) → P (Err error) → P result
handed (Ok value) error P is holds = absurd is
handed {E = E} (Err other) error P is holds = subst (λ (x : E). P (Err x)) (sym is) holds

-- with another log and frame, and with another holding too
abbrev pub logged : Inside → LogValue → FrameValue → Inside
logged a log frame = record a { log = log; frame = frame }

abbrev pub held : Inside → LogValue → FrameValue → HoldingValue → Inside
held a log frame holding = record a { log = log; frame = frame; holding = holding }

module _ (v : VolumeValue) (a : Inside) (r : VolumeRecord) (frame : FrameValue) (ready : Framed v a r frame) where
  body_long : length frame.body ≡ length (volume_body r)
  body_long = ap (λ (f : FrameValue). length f.body) ready.framed

  same_room : frame.room ≡ a.frame.room
  same_room = ap (λ (f : FrameValue). f.room) ready.framed

  -- REFUSED

  same_log : (log : LogValue) → log ≡ a.log → IsSame v (view_of (logged a log frame))
  same_log log is = record {
    shape = ready.same.shape;
    places = ready.same.places;
    log = is ∙ ready.same.log;
    room = record { chunks = ready.same.room.chunks; files = ready.same.room.files; body = omega (arith, ready.same.room.body, same_room) };
  }

  ends : a.log.end ≡ v.log.end
  ends = ap (λ (l : LogValue). l.end) ready.same.log

  limits : a.log.limit ≡ v.log.limit
  limits = ap (λ (l : LogValue). l.limit) ready.same.log

  module _ {D : Type 0} (disk : D → Disk) (moment : D → ℕ) (left_since : D → ℕ → Images → Type 0) (old new : D) (lawful : IsVolumeRecord r) where
    -- what is appended is the body of the record, to the log that the volume had
    appended_there : (log : LogValue) (result : Result ℕ VolError) → Appended disk moment left_since old new (disk old) (disk new) a.log log frame.body result
        → Appended disk moment left_since old new (disk old) (disk new) v.log log (volume_body r) result
    appended_there log result appended =
        subst (λ (l : LogValue). Appended disk moment left_since old new (disk old) (disk new) l log (volume_body r) result) ready.same.log
        (subst (λ (f : FrameValue). Appended disk moment left_since old new (disk old) (disk new) a.log log f.body result) ready.framed appended)

    pub refused_disk : {T : Type 0} (log : LogValue) (error : VolError) → AppendsRecord a.log log (length frame.body) (Err error) → ((c : Images) → left_since old (moment old) c → Crash (disk old) c)
        → (IsRefused {T = ℕ} (Err error) → new ≡ old) → Appended disk moment left_since old new (disk old) (disk new) a.log log frame.body (Err error)
        → AddsRecord moment left_since old new (disk old) (disk new) v (view_of (logged a log frame)) {T = T} r (Err error)
    refused_disk log RackFault p only_now alone appended =
        adds_fault disk moment left_since old new (disk old) (disk new) v (view_of (logged a log frame)) r lawful log RackFault (appended_there log (Err RackFault) appended)
    refused_disk {T} log (DeviceFull device at len) p only_now alone appended =
        subst (λ (x : D). AddsRecord moment left_since old x (disk old) (disk x) v (view_of (logged a log frame)) {T = T} r (Err (DeviceFull device at len))) (sym (alone tt))
        (adds_refused moment left_since old (disk old) v (view_of (logged a log frame)) r (DeviceFull device at len) only_now (same_log log p.4))
    refused_disk log (Damage device at) p only_now alone appended = absurd p
    refused_disk log (BadChunk name found) p only_now alone appended = absurd p
    refused_disk log (Collision name) p only_now alone appended = absurd p
    refused_disk log Exists p only_now alone appended = absurd p
    refused_disk log NoSuchFile p only_now alone appended = absurd p
    refused_disk log Spent p only_now alone appended = absurd p
    refused_disk log Memory p only_now alone appended = absurd p

  -- ADDED

  pub added_value : {T : Type 0} (done : T) (log : LogValue) (at : ℕ) (holding : HoldingValue) → AppendsRecord a.log log (length frame.body) (Ok at) → Holds a r holding → Adds v (view_of (held a log frame holding)) r (Ok done)
  added_value done log at holding p has = (
    (λ full. absurd (omega (arith, full, p.0, body_long, ends, limits))),
    record {
      shape = ap (λ (s : Shape). shape_after s r) (sym ready.same.shape) ∙ has.shape;
      places = has.places ∙ (λ i. places_after (ends i) (ready.same.places i) r);
      log = p.2 ∙ (λ i. after_append (ready.same.log i) (body_long i));
      room = record { chunks = omega (arith, has.chunks, ready.same.room.chunks); files = omega (arith, has.files, ready.same.room.files); body = omega (arith, ready.same.room.body, same_room) };
    },
  )

  pub added_disk : {D T : Type 0} (disk : D → Disk) (moment : D → ℕ) (left_since : D → ℕ → Images → Type 0) (old new : D) (done : T) (log : LogValue) (at : ℕ) (holding : HoldingValue) → IsVolumeRecord r
      → AppendsRecord a.log log (length frame.body) (Ok at) → Holds a r holding → Appended {E = VolError} disk moment left_since old new (disk old) (disk new) a.log log frame.body (Ok at)
      → AddsRecord moment left_since old new (disk old) (disk new) v (view_of (held a log frame holding)) r (Ok done)
  added_disk disk moment left_since old new done log at holding lawful p has appended =
      adds_ok disk moment left_since old new (disk old) (disk new) v (view_of (held a log frame holding)) r lawful log at done (p.2 ∙ (λ i. after_append (ready.same.log i) (body_long i))) (added_value done log at holding p has).1
      (appended_there disk moment left_since old new lawful log (Ok at) appended)

-- WHERE THE BYTES STAND

pub before_grows : (end after : ℕ) (places : Places) (lengths : map.FinMap bytes_cmp ℕ) → end ≤ after → StandBefore end places lengths → StandBefore after places lengths
before_grows end after places lengths grows before name place len is_place is_len = omega (arith, before name place len is_place is_len, grows)

some_same : {X : Type 0} (x y : X) → Some x ≡ Some y → x ≡ y
some_same x y is = cc

chosen_before : (t : Bool) (after p l place len : ℕ) (old_place old_len : Option ℕ) → p + l ≤ after → (old_place ≡ Some place → old_len ≡ Some len → place + len ≤ after)
    → cond t (Some p) old_place ≡ Some place → cond t (Some l) old_len ≡ Some len → place + len ≤ after
chosen_before true after p l place len old_place old_len new old is_place is_len = omega (arith, new, some_same p place is_place, some_same l len is_len)
chosen_before false after p l place len old_place old_len new old is_place is_len = old is_place is_len

pub before_with : (end after : ℕ) (places : Places) (lengths : map.FinMap bytes_cmp ℕ) (name : List ℕ) (p l : ℕ) → end ≤ after → p + l ≤ after → StandBefore end places lengths → StandBefore after (map.insert places name p) (map.insert lengths name l)
before_with end after places lengths name p l grows new before q place len is_place is_len =
    chosen_before (eq_by_cmp bytes_cmp q name) after p l place len (map.get places q) (map.get lengths q) new (λ there long. omega (arith, before q place len there long, grows))
    (sym (map.get-insert nat_list_cmp_total places name p q) ∙ is_place) (sym (map.get-insert nat_list_cmp_total lengths name l q) ∙ is_len)

left_before : (t : Bool) (after place len : ℕ) (old_place old_len : Option ℕ) → (old_place ≡ Some place → old_len ≡ Some len → place + len ≤ after) → cond t None old_place ≡ Some place → cond t None old_len ≡ Some len → place + len ≤ after
left_before true after place len old_place old_len old is_place is_len = absurd (none-some place is_place)
left_before false after place len old_place old_len old is_place is_len = old is_place is_len

pub before_without : (end after : ℕ) (places : Places) (lengths : map.FinMap bytes_cmp ℕ) (name : List ℕ) → end ≤ after → StandBefore end places lengths → StandBefore after (map.remove places name) (map.remove lengths name)
before_without end after places lengths name grows before q place len is_place is_len =
    left_before (eq_by_cmp bytes_cmp q name) after place len (map.get places q) (map.get lengths q) (λ there long. omega (arith, before q place len there long, grows))
    (sym (map.get-remove nat_list_cmp_total places name q) ∙ is_place) (sym (map.get-remove nat_list_cmp_total lengths name q) ∙ is_len)
