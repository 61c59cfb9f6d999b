-- Lemmas, not definitions: members of `MemRack` cite them.
-- The clock of devices in memory.
use Rattle.std.proofs.Common.{◌≡◌, ℕ, ◌≤◌, List, [], ◌∷◌, drop, Bool, true, false, subst, arith}
use Rattle.std.specs.Prelude.{◌==◌, if◌then◌else◌, slice_index_or}
use Rattle.volume_disk.specs.Medium.{Medium, MayLeave}
use Rattle.volume_disk.specs.Disk.{Images, Crash}
use Rattle.volume_disk.specs.Record.{Recorded, Step, device_of, after_step, medium_after, disk_after, disk_of, LeftSince}
use Rattle.volume_disk.specs.Record.Step.{Writing, Cutting, Syncing}
use Rattle.volume_disk.specs.Sound.{IsSound, sound_at_rest, sound_wrote, sound_trimmed}

-- this moment is one of those since an earlier one
pub counts_now : (r : Recorded) (t : ℕ) (c : Images) → t ≤ r.moment → Crash (disk_of r) c → LeftSince r t c
counts_now r t c le crash = (0, omega (arith, le), crash)

-- since this moment there is no other
pub only_now : (r : Recorded) (c : Images) → LeftSince r r.moment c → Crash (disk_of r) c
only_now r c left =
    let now : left.0 ≡ 0 = omega (arith, left.1) in
    subst (λ (k : ℕ). Crash (disk_after (drop k r.past) r.bases) c) now left.2

sound_done : (step : Step) (m : Medium) → IsSound m → IsSound (after_step step m)
sound_done (Writing device at bytes) m sound = sound_wrote at bytes m sound
sound_done (Cutting device len) m sound = sound_trimmed len m sound
sound_done (Syncing device) m sound = sound_at_rest m.image

sound_either : (here : Bool) (step : Step) (m : Medium) → IsSound m → IsSound (if here then after_step step m else m)
sound_either true step m sound = sound_done step m sound
sound_either false step m sound = sound

pub sound_after : (past : List Step) (base : List ℕ) (device : ℕ) → IsSound (medium_after past base device)
sound_after [] base device = sound_at_rest base
sound_after (step ∷ past) base device = sound_either (device_of step == device) step (medium_after past base device) (sound_after past base device)

-- a device as it reads is one of its crash images
pub reads_alike : (r : Recorded) (device : ℕ) → MayLeave (disk_of r device) (disk_of r device).image
reads_alike r device = (sound_after r.past (slice_index_or r.bases device []) device).alike
