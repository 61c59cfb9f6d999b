-- Devices whose first gate is closed, whatever a crash leaves.
use Rattle.std.proofs.Common.{◌≡◌, ◌≢◌, ◌⊎◌, inl, inr, ⊎_elim, ℕ, suc, ◌<◌, ◌≤◌, List, [], ◌∷◌, length, take, drop, Bool, false, refl, sym, ◌∙◌, ap, subst, arith, get_or-take, eq-eqb, ne_eqb}
use Rattle.std.specs.Prelude.{slice_index, nat_le, Result, Ok, Err, if◌then◌else◌}
use Rattle.std.proofs.lemmas.Bool.{or_from, lt-leb, cases_eq}
use Rattle.std.proofs.lemmas.List.{length-take}
use Rattle.volume_disk.specs.Medium.{Medium, Touch, MayLeave, IsAtRest, at_rest, is_touched, flushed, wrote, FailedWrite, trimmed, FailedCut, range_start, with_gap, written, touch_of_write}
use Rattle.volume_disk.specs.Medium.Touch.{Dropped}
use Rattle.volume_disk.specs.Disk.{Disk, Images, Crash, SameElsewhere, Gives, Writes, Cuts, put_image}
use Rattle.volume_disk.specs.Edited.{length-written}
use Rattle.volume_disk.specs.Left.{OneWriteAt}
use Rattle.volume_disk.proofs.Ranges.{neither}
use Rattle.volume_disk.proofs.Within.{drop_written, written_within}
use Rattle.volume_disk.proofs.Rest.{crash_at_rest}
use Rattle.volume_disk.proofs.Apart.{put_elsewhere, crash_elsewhere}
use Rattle.site_forms.specs.Halves.{IsClosed}
use Rattle.chunk_log.specs.Shutting.{IsShut, IsGuarded, IsBlankAtRest, SameOrShut, closed_front}

-- a crash leaves the first gate closed
pub shut_left : (m : Medium) (y : List ℕ) → IsShut m → MayLeave m y → IsClosed y
shut_left m [] shut left = inl (omega arith)
shut_left m (gate ∷ rest) shut left = inr (λ is_open. shut.closed (sym (left.same 0 (omega arith) (omega (arith, shut.there)) shut.free) ∙ is_open))

-- a device at rest
pub shut_at_rest : (image : List ℕ) → 1 ≤ length image → slice_index image 0 ≢ 1 → IsShut (at_rest image)
shut_at_rest image here closed = record { here = here; there = here; closed = closed; free = refl }

-- a sync keeps it
pub shut_flushed : (m : Medium) → MayLeave m m.image → IsShut m → IsShut (flushed m)
shut_flushed m alike shut = shut_at_rest m.image shut.here (λ is_open. shut.closed (sym (alike.same 0 (omega (arith, shut.here)) (omega (arith, shut.there)) shut.free) ∙ is_open))

-- a step that keeps the synced image and touches nothing at the first gate keeps it
kept_shut : (m n : Medium) (touch : Touch) → n.synced ≡ m.synced → n.touches ≡ touch ∷ m.touches → is_touched (touch ∷ m.touches) 0 ≡ false → 1 ≤ length n.image → IsShut m → IsShut n
kept_shut m n touch synced touches free here shut = record {
  here = here;
  there = subst (λ (l : List ℕ). 1 ≤ length l) (sym synced) shut.there;
  closed = subst (λ (l : List ℕ). slice_index l 0 ≢ 1) (sym synced) shut.closed;
  free = ap (λ ts. is_touched ts 0) touches ∙ free;
}

write_free : (at : ℕ) (bytes : List ℕ) (m : Medium) → 1 ≤ at → IsShut m → is_touched (touch_of_write at m.image bytes ∷ m.touches) 0 ≡ false
write_free at bytes m behind shut = neither (range_start at m.image) (length (with_gap at m.image bytes)) 0 (is_touched m.touches 0) (inl (omega (arith, behind, shut.here))) shut.free

-- a write behind it keeps it
pub shut_wrote : (at : ℕ) (bytes : List ℕ) (m : Medium) → 1 ≤ at → IsShut m → IsShut (wrote at bytes m)
shut_wrote at bytes m behind shut =
    kept_shut m (wrote at bytes m) (touch_of_write at m.image bytes) refl refl (write_free at bytes m behind shut) (omega (arith, shut.here, length-written m.image at bytes)) shut

pub shut_failed_write : (at : ℕ) (bytes : List ℕ) (m n : Medium) → 1 ≤ at → FailedWrite at bytes m n → IsShut m → IsShut n
shut_failed_write at bytes m n behind (inl same) shut = subst IsShut (sym same) shut
shut_failed_write at bytes m n behind (inr torn) shut =
    kept_shut m n (touch_of_write at m.image bytes) torn.synced torn.touches (write_free at bytes m behind shut) (omega (arith, shut.here, torn.no_shorter)) shut

cut_free : (len : ℕ) (m : Medium) → 1 ≤ len → IsShut m → is_touched (Dropped len ∷ m.touches) 0 ≡ false
cut_free len m some shut = or_from (nat_le len 0) (is_touched m.touches 0) (lt-leb len 0 (omega (arith, some))) shut.free

-- a cut behind it keeps it
pub shut_trimmed : (len : ℕ) (m : Medium) → 1 ≤ len → IsShut m → IsShut (trimmed len m)
shut_trimmed len m some shut = kept_shut m (trimmed len m) (Dropped len) refl refl (cut_free len m some shut) (omega (arith, some, shut.here, length-take len m.image)) shut

pub shut_failed_cut : (len : ℕ) (m n : Medium) → 1 ≤ len → FailedCut len m n → IsShut m → IsShut n
shut_failed_cut len m n some (inl same) shut = subst IsShut (sym same) shut
shut_failed_cut len m n some (inr torn) shut = kept_shut m n (Dropped len) torn.synced torn.touches (cut_free len m some shut) (omega (arith, some, shut.here, torn.no_shorter)) shut

-- whatever a write or a cut behind it answered
pub shut_writes : {E : Type 0} (device at : ℕ) (bytes : List ℕ) (d e : Disk) (result : Result (Unit {0}) E) → 1 ≤ at → Writes device at bytes d e result → IsShut (d device) → IsShut (e device)
shut_writes device at bytes d e (Ok done) behind writes shut = subst IsShut (sym writes.ok) (shut_wrote at bytes (d device) behind shut)
shut_writes device at bytes d e (Err error) behind writes shut = shut_failed_write at bytes (d device) (e device) behind writes.fault shut

pub shut_cuts : {E : Type 0} (device len : ℕ) (d e : Disk) (result : Result (Unit {0}) E) → 1 ≤ len → Cuts device len d e result → IsShut (d device) → IsShut (e device)
shut_cuts device len d e (Ok done) some cuts shut = subst IsShut (sym cuts.ok) (shut_trimmed len (d device) some shut)
shut_cuts device len d e (Err error) some cuts shut = shut_failed_cut len (d device) (e device) some cuts.fault shut

-- WHAT A CRASH LEAVES

-- of a disk that differs from another at one device alone, whose first gate is closed
pub shut_leads : (device : ℕ) (d e : Disk) (c : Images) → device ≤ 5 → MayLeave (d device) (d device).image → SameElsewhere device d e → IsShut (e device) → Crash e c → (b : Images) × Crash d b × SameOrShut device b c
shut_leads device d e c is_device alike others shut crash = (
  put_image device (d device).image c,
  crash_elsewhere device (d device).image d e c others alike crash,
  record { elsewhere = λ k out. sym (put_elsewhere device k (d device).image c out); here = inr (shut_left (e device) (c device) shut (crash device is_device)) },
)

-- nothing done
pub no_change : (device : ℕ) (c : Images) → SameOrShut device c c
no_change device c = record { elsewhere = λ k out. refl; here = inl refl }

-- one after the other
pub still_shut : (device : ℕ) (a b c : Images) → SameOrShut device a b → SameOrShut device b c → SameOrShut device a c
still_shut device a b c first second = record {
  elsewhere = λ k out. second.elsewhere k out ∙ first.elsewhere k out;
  here = ⊎_elim (λ same. ⊎_elim (λ was. inl (same ∙ was)) (λ closed. inr (subst IsClosed (sym same) closed)) first.here) (λ closed. inr closed) second.here;
}

apart_at_front : (gate : ℕ) (rest x : List ℕ) → length x ≡ suc (length rest) → drop 1 x ≡ rest → (x ≡ gate ∷ rest) ⊎ (slice_index x 0 ≢ gate)
apart_at_front gate rest [] long same = absurd (omega (arith, long))
apart_at_front gate rest (y ∷ ys) long same = elim (cases_eq y gate) as (λ _. (y ∷ ys ≡ gate ∷ rest) ⊎ (y ≢ gate)) [
  | inl here ↦ inl (ap (λ (n : ℕ). n ∷ ys) here ∙ ap (λ (l : List ℕ). gate ∷ l) same)
  | inr other ↦ inr other
]

same_or_shut_image : (image x : List ℕ) → 1 ≤ length image → slice_index image 0 ≡ 1 → length x ≡ length image → drop 1 x ≡ drop 1 image → (x ≡ image) ⊎ IsClosed x
same_or_shut_image [] x some is_open long same = absurd (omega (arith, some))
same_or_shut_image (gate ∷ rest) x some is_open long same = elim (apart_at_front gate rest x long same) as (λ _. (x ≡ gate ∷ rest) ⊎ IsClosed x) [
  | inl here ↦ inl here
  | inr other ↦ inr (inr (λ opened. other (opened ∙ sym is_open)))
]

-- one byte written over an open gate of a device at rest
pub gate_shuts : (device : ℕ) (image : List ℕ) (d : Disk) (b c : Images) → device ≤ 5 → d device ≡ at_rest image → 1 ≤ length image → slice_index image 0 ≡ 1 → Crash d b → OneWriteAt device 0 (0 ∷ []) b c → SameOrShut device b c
gate_shuts device image d b c is_device rest some is_open crash one =
    let was : b device ≡ image = crash_at_rest device image d b is_device rest crash in
    let long : length (c device) ≡ length image = omega (arith, one.here.no_shorter, one.here.no_longer, ap length was, some) in
    record {
      elsewhere = one.elsewhere;
      here = ⊎_elim (λ same. inl (same ∙ sym was)) (λ closed. inr closed) (same_or_shut_image image (c device) some is_open long (one.here.back ∙ ap (drop 1) was));
    }

-- the image of it
pub gate_written : (image : List ℕ) → 1 ≤ length image → (1 ≤ length (written image 0 (0 ∷ []))) × (slice_index (written image 0 (0 ∷ [])) 0 ≢ 1)
gate_written image some = (omega (arith, some, length-written image 0 (0 ∷ [])), λ is_open. absurd (omega (arith, is_open, ap (λ (l : List ℕ). slice_index l 0) (drop_written image 0 (0 ∷ []) (omega arith)))))

-- the first byte that is left, of a gate that was open, and of one that was not
pub gate_closed : (image : List ℕ) → slice_index image 0 ≡ 1 → take 1 (written image 0 (0 ∷ [])) ≡ closed_front image
gate_closed image is_open =
    ap (take 1) (written_within image 0 (0 ∷ []) (omega arith)) ∙ sym (ap (λ (b : Bool). (if b then 0 else slice_index image 0) ∷ []) (eq-eqb (slice_index image 0) 1 is_open))

pub gate_stays : (image : List ℕ) → 1 ≤ length image → slice_index image 0 ≢ 1 → take 1 image ≡ closed_front image
gate_stays [] some closed = absurd (omega (arith, some))
gate_stays (gate ∷ rest) some closed = sym (ap (λ (b : Bool). (if b then 0 else gate) ∷ []) (ne_eqb gate 1 closed))

-- the first gate, as it is read
pub read_gate : (image into : List ℕ) (n : ℕ) → Gives image 0 into n → 1 ≤ length into → 1 ≤ length image → slice_index into 0 ≡ slice_index image 0
read_gate image into n gives room some =
    let one : 0 < n = omega (arith, gives.count, room, some) in
    sym (get_or-take n into 0 0 one) ∙ ap (λ (l : List ℕ). slice_index l 0) gives.bytes ∙ get_or-take n image 0 0 one

-- a guarded device is at rest where its first gate is open, and else the gate is closed whatever a crash leaves
pub guarded_open : (m : Medium) → MayLeave m m.image → IsGuarded m → slice_index m.image 0 ≡ 1 → IsAtRest m
guarded_open m alike (inl rest) is_open = rest
guarded_open m alike (inr pending) is_open =
    absurd (pending.0.closed (sym (alike.same 0 (omega (arith, pending.0.here)) (omega (arith, pending.0.there)) pending.0.free) ∙ is_open))

pub guarded_shut : (m : Medium) → IsGuarded m → 1 ≤ length m.image → slice_index m.image 0 ≢ 1 → IsShut m
guarded_shut m (inl rest) some closed = subst IsShut (sym rest) (shut_at_rest m.image some closed)
guarded_shut m (inr pending) some closed = pending.0

-- one of a byte or none is at rest
pub guarded_blank : (m : Medium) → IsGuarded m → length m.image ≤ 1 → IsBlankAtRest m
guarded_blank m (inl rest) short = record { rest = rest; short = short }
guarded_blank m (inr pending) short = absurd (omega (arith, pending.1, short))

pub rest_short : (m : Medium) (image : List ℕ) → m ≡ at_rest (take 1 image) → IsBlankAtRest m
rest_short m image rest = record { rest = rest ∙ ap (λ (n : Medium). at_rest n.image) (sym rest); short = omega (arith, ap (λ (n : Medium). length n.image) rest, length-take 1 image) }
