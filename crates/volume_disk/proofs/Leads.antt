-- What a crash leaves after one call more, whatever the call answered. For the crates above.
use Rattle.std.proofs.Common.{◌≡◌, ◌⊎◌, inl, inr, ℕ, ◌≤◌, List, length, refl, sym, subst, arith}
use Rattle.std.specs.Prelude.{Result, Ok, Err}
use Rattle.std.proofs.lemmas.Bool.{cases_eq}
use Rattle.volume_disk.specs.Medium.{Medium, MayLeave, at_rest, wrote, FailedWrite, trimmed, FailedCut, flushed}
use Rattle.volume_disk.specs.Disk.{Disk, Images, Crash, SameDisk, Writes, Cuts, Syncs, put_image}
use Rattle.volume_disk.specs.Left.{OneWrite, OneCut, OneWriteAt, OneCutAt}
use Rattle.volume_disk.specs.Sound.{sound_at_rest}
use Rattle.volume_disk.specs.Time.{Elapses, Passes}
use Rattle.volume_disk.proofs.Apart.{put_here, put_elsewhere, crash_elsewhere}
use Rattle.volume_disk.proofs.Moments.{goes_on_quietly}
use Rattle.volume_disk.proofs.Rest.{after_write, after_cut, flushed_is_one, crash_at_rest}

-- A SIZE OR A READ

pub crash_same : (d e : Disk) (c : Images) → SameDisk d e → Crash e c → Crash d c
crash_same d e c same crash = λ k is_device. subst (λ (m : Medium). MayLeave m (c k)) (same k) (crash k is_device)

-- A SYNC

synced_or_not : {E : Type 0} (device : ℕ) (d e : Disk) (result : Result (Unit {0}) E) → Syncs device d e result → (e device ≡ flushed (d device)) ⊎ (e device ≡ d device)
synced_or_not device d e (Ok done) syncs = inl syncs.ok
synced_or_not device d e (Err error) syncs = inr syncs.fault

left_here : (m n : Medium) (x : List ℕ) → MayLeave m m.image → (n ≡ flushed m) ⊎ (n ≡ m) → MayLeave n x → MayLeave m x
left_here m n x alike (inl done) left = flushed_is_one m x alike (subst (λ (k : Medium). MayLeave k x) done left)
left_here m n x alike (inr same) left = subst (λ (k : Medium). MayLeave k x) same left

-- it leaves nothing that a crash before it might not have left
pub crash_after_sync : {E : Type 0} (device : ℕ) (d e : Disk) (result : Result (Unit {0}) E) (c : Images) → MayLeave (d device) (d device).image → Syncs device d e result → Crash e c → Crash d c
crash_after_sync device d e result c alike syncs crash = λ k is_device.
    elim (cases_eq k device) as (λ _. MayLeave (d k) (c k)) [
      | inl here ↦
          subst (λ (n : ℕ). MayLeave (d n) (c k)) (sym here) (left_here (d device) (e device) (c k) alike (synced_or_not device d e result syncs) (subst (λ (n : ℕ). MayLeave (e n) (c k)) here (crash k is_device)))
      | inr elsewhere ↦ subst (λ (m : Medium). MayLeave m (c k)) (syncs.others k elsewhere) (crash k is_device)
    ]

-- A WRITE TO A DEVICE AT REST, WHICH BEGINS INSIDE IT

wrote_or_failed : {E : Type 0} (device at : ℕ) (bytes : List ℕ) (d e : Disk) (result : Result (Unit {0}) E) → Writes device at bytes d e result → (e device ≡ wrote at bytes (d device)) ⊎ FailedWrite at bytes (d device) (e device)
wrote_or_failed device at bytes d e (Ok done) writes = inl writes.ok
wrote_or_failed device at bytes d e (Err error) writes = inr writes.fault

-- at the device
pub crash_after_write : {E : Type 0} (device at : ℕ) (bytes image : List ℕ) (d e : Disk) (result : Result (Unit {0}) E) (c : Images) → device ≤ 5 → at ≤ length image → d device ≡ at_rest image
    → Writes device at bytes d e result → Crash e c → OneWrite image at bytes (c device)
crash_after_write device at bytes image d e result c is_device inside rest writes crash =
    after_write image at bytes (c device) (e device) inside
    (subst (λ (m : Medium). (e device ≡ wrote at bytes m) ⊎ FailedWrite at bytes m (e device)) rest (wrote_or_failed device at bytes d e result writes)) (crash device is_device)

-- of all devices: what might have been left before, but for the range
pub write_leads : {E : Type 0} (device at : ℕ) (bytes image : List ℕ) (d e : Disk) (result : Result (Unit {0}) E) (c : Images) → device ≤ 5 → at ≤ length image → d device ≡ at_rest image
    → Writes device at bytes d e result → Crash e c → (b : Images) × Crash d b × OneWriteAt device at bytes b c
write_leads device at bytes image d e result c is_device inside rest writes crash = (
  put_image device image c,
  crash_elsewhere device image d e c writes.others (subst (λ (m : Medium). MayLeave m image) (sym rest) (sound_at_rest image).alike) crash,
  record {
    elsewhere = λ k out. sym (put_elsewhere device k image c out);
    here = subst (λ (l : List ℕ). OneWrite l at bytes (c device)) (sym (put_here device device image c refl)) (crash_after_write device at bytes image d e result c is_device inside rest writes crash);
  },
)

-- no write is one that left nothing
pub no_write : (device at : ℕ) (bytes : List ℕ) (c : Images) → OneWriteAt device at bytes c c
no_write device at bytes c = record { elsewhere = λ k out. refl; here = record { no_shorter = omega arith; no_longer = omega arith; front = refl; back = refl } }

-- once more at the device, which was at rest
pub one_write_at : (device at : ℕ) (bytes image : List ℕ) (d : Disk) (b c : Images) → device ≤ 5 → d device ≡ at_rest image → Crash d b → OneWriteAt device at bytes b c → OneWrite image at bytes (c device)
one_write_at device at bytes image d b c is_device rest crash one = subst (λ (l : List ℕ). OneWrite l at bytes (c device)) (crash_at_rest device image d b is_device rest crash) one.here

-- A CUT OF A DEVICE AT REST

cut_or_failed : {E : Type 0} (device len : ℕ) (d e : Disk) (result : Result (Unit {0}) E) → Cuts device len d e result → (e device ≡ trimmed len (d device)) ⊎ FailedCut len (d device) (e device)
cut_or_failed device len d e (Ok done) cuts = inl cuts.ok
cut_or_failed device len d e (Err error) cuts = inr cuts.fault

-- at the device
pub crash_after_cut : {E : Type 0} (device len : ℕ) (image : List ℕ) (d e : Disk) (result : Result (Unit {0}) E) (c : Images) → device ≤ 5 → d device ≡ at_rest image → Cuts device len d e result → Crash e c → OneCut image len (c device)
crash_after_cut device len image d e result c is_device rest cuts crash =
    after_cut image len (c device) (e device)
    (subst (λ (m : Medium). (e device ≡ trimmed len m) ⊎ FailedCut len m (e device)) rest (cut_or_failed device len d e result cuts)) (crash device is_device)

-- of all devices: what might have been left before, but for what lay behind the length
pub cut_leads : {E : Type 0} (device len : ℕ) (image : List ℕ) (d e : Disk) (result : Result (Unit {0}) E) (c : Images) → device ≤ 5 → d device ≡ at_rest image → Cuts device len d e result → Crash e c → (b : Images) × Crash d b × OneCutAt device len b c
cut_leads device len image d e result c is_device rest cuts crash = (
  put_image device image c,
  crash_elsewhere device image d e c cuts.others (subst (λ (m : Medium). MayLeave m image) (sym rest) (sound_at_rest image).alike) crash,
  record {
    elsewhere = λ k out. sym (put_elsewhere device k image c out);
    here = subst (λ (l : List ℕ). OneCut l len (c device)) (sym (put_here device device image c refl)) (crash_after_cut device len image d e result c is_device rest cuts crash);
  },
)

-- no cut is one that left nothing
pub no_cut : (device len : ℕ) (c : Images) → OneCutAt device len c c
no_cut device len c = record { elsewhere = λ k out. refl; here = record { no_shorter = omega arith; no_longer = omega arith; front = refl } }

-- once more at the device, which was at rest
pub one_cut_at : (device len : ℕ) (image : List ℕ) (d : Disk) (b c : Images) → device ≤ 5 → d device ≡ at_rest image → Crash d b → OneCutAt device len b c → OneCut image len (c device)
one_cut_at device len image d b c is_device rest crash one = subst (λ (l : List ℕ). OneCut l len (c device)) (crash_at_rest device image d b is_device rest crash) one.here

-- CALLS THAT NEED NO FACT ON THE PROPERTY

module _ {D : Type 0} (moment : D → ℕ) (left_since : D → ℕ → Images → Type 0) where
  -- one size or read more
  pub goes_on_same : (old mid new : D) (P : Images → Type 0) (d e : Disk) → ((t : ℕ) (c : Images) → t ≤ moment mid → Crash d c → left_since mid t c) → Passes moment left_since old mid P
      → Elapses (moment mid) (moment new) (left_since mid) (left_since new) (Crash e) → SameDisk d e → Passes moment left_since old new P
  goes_on_same old mid new P d e counts passes time same = goes_on_quietly moment left_since old mid new P (Crash d) (Crash e) counts passes time (λ c crash. crash_same d e c same crash)

  -- one sync more
  pub goes_on_synced : {E : Type 0} (old mid new : D) (P : Images → Type 0) (d e : Disk) (device : ℕ) (result : Result (Unit {0}) E) → ((t : ℕ) (c : Images) → t ≤ moment mid → Crash d c → left_since mid t c)
      → Passes moment left_since old mid P → Elapses (moment mid) (moment new) (left_since mid) (left_since new) (Crash e) → MayLeave (d device) (d device).image → Syncs device d e result → Passes moment left_since old new P
  goes_on_synced old mid new P d e device result counts passes time alike syncs =
      goes_on_quietly moment left_since old mid new P (Crash d) (Crash e) counts passes time (λ c crash. crash_after_sync device d e result c alike syncs crash)
