-- Crash images that are picked, and devices on which nothing is pending.
use Rattle.std.proofs.Common.{◌≡◌, ℕ, ◌≤◌, List, [], sym, ◌∙◌, ap, arith}
use Rattle.std.proofs.lemmas.Bool.{cond-false}
use Rattle.std.proofs.lemmas.List.{get_or-replicate}
use Rattle.std.specs.Prelude.{slice_index, slice_index_or}
use Rattle.volume_disk.specs.Medium.{Medium, MayLeave, is_touched, at_rest, IsAtRest}
use Rattle.volume_disk.specs.Picks.{IsPicked, free_byte, newest_at}
use Rattle.volume_disk.specs.declared.pick.Pick.{Pick}
use Rattle.volume_disk.specs.declared.pick.Pick.TheVariants.{Old, New, Junk}
use Rattle.volume_disk.specs.Record.{Recorded, Step, disk_after, disk_of, blank_record, Crashes}
use Rattle.volume_disk.specs.Sound.{IsSound}
use Rattle.volume_disk.specs.RecordLaws.{sound_after}

-- what a pick leaves is a crash image
pub picked_may_leave : (pick : Pick) (m : Medium) (c : List ℕ) → IsSound m → IsPicked pick m c → MayLeave m c
picked_may_leave Old m c sound picked = record {
  no_shorter = omega (arith, picked.size);
  no_longer = omega (arith, picked.size, sound.least, sound.greatest);
  same = λ i in_c in_synced free. picked.bytes i in_c ∙ cond-false (is_touched m.touches i) (free_byte Old (slice_index m.synced i) (newest_at m.touches i)) (slice_index m.synced i) free;
}
picked_may_leave New m c sound picked = record {
  no_shorter = omega (arith, picked.size, sound.least, sound.greatest);
  no_longer = omega (arith, picked.size);
  same = λ i in_c in_synced free. picked.bytes i in_c ∙ cond-false (is_touched m.touches i) (free_byte New (slice_index m.synced i) (newest_at m.touches i)) (slice_index m.synced i) free;
}
picked_may_leave (Junk byte) m c sound picked = record {
  no_shorter = omega (arith, picked.size, sound.least, sound.greatest);
  no_longer = omega (arith, picked.size);
  same = λ i in_c in_synced free. picked.bytes i in_c ∙ cond-false (is_touched m.touches i) (free_byte (Junk byte) (slice_index m.synced i) (newest_at m.touches i)) (slice_index m.synced i) free;
}

-- after a crash each device has one of its crash images
pub crash_leaves : (pick : Pick) (r s : Recorded) → Crashes pick r s → (device : ℕ) → device ≤ 5 → MayLeave (disk_of r device) (disk_of s device).image
crash_leaves pick r s crashes device is_device =
    picked_may_leave pick (disk_of r device) (disk_of s device).image (sound_after r.past (slice_index_or r.bases device []) device) (crashes.picked device is_device)

at_rest_after : (past : List Step) (bases : List (List ℕ)) (device : ℕ) → past ≡ [] → IsAtRest (disk_after past bases device)
at_rest_after past bases device empty =
    let nothing : disk_after past bases device ≡ at_rest (slice_index_or bases device []) = ap (λ (p : List Step). disk_after p bases device) empty in
    nothing ∙ ap (λ (m : Medium). at_rest m.image) (sym nothing)

-- and nothing is pending
pub crash_rests : (pick : Pick) (r s : Recorded) → Crashes pick r s → (device : ℕ) → IsAtRest (disk_of s device)
crash_rests pick r s crashes device = at_rest_after s.past s.bases device crashes.past

-- blank devices are at rest
pub blank_rests : (room calls written device : ℕ) → device ≤ 5 → disk_of (blank_record room calls written) device ≡ at_rest []
blank_rests room calls written device is_device =
    let empty : List ℕ = [] in
    ap at_rest (get_or-replicate 6 device empty empty (omega (arith, is_device)))
