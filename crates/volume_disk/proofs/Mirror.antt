-- A device in memory stands for a medium.
use Rattle.std.proofs.Common.{◌≡◌, inl, inr, ℕ, ◌+◌, ◌-◌, ◌<◌, List, ◌∷◌, Bool, false, length, get_or, sym, ◌∙◌, ap, arith}
use Rattle.std.specs.Prelude.{◌||◌, if◌then◌else◌, max, slice_index, slice_index_or}
use Rattle.std.proofs.lemmas.Bool.{cond-true, cond-false}
use Rattle.volume_disk.specs.Medium.{Medium, is_within, written, wrote, range_start, with_gap, touch_of_write}
use Rattle.volume_disk.specs.Picks.{newest_at}
use Rattle.volume_disk.specs.Device.{DeviceState, Mirrors, room_of}
use Rattle.volume_disk.specs.Edited.{range_end}
use Rattle.volume_disk.proofs.Edits.{overwritten_inside}
use Rattle.volume_disk.proofs.Ranges.{cases_range, within_inside, within_outside}

-- after a write
pub mirrors_wrote : (d e : DeviceState) (m : Medium) → Mirrors d m → (at : ℕ) (bytes : List ℕ) (start n : ℕ) → start ≡ range_start at d.image → start + n ≡ at + length bytes
    → e.image ≡ written d.image at bytes → e.synced ≡ d.synced → e.least ≡ d.least → e.greatest ≡ max d.greatest (length e.image) → room_of e ≡ room_of d
    → ((i : ℕ) → i < room_of d → slice_index_or e.touched i false ≡ (is_within start n i || slice_index_or d.touched i false))
    → ((i : ℕ) → i < room_of d → slice_index e.newest i ≡ (if is_within start n i then slice_index e.image i else slice_index d.newest i))
    → Mirrors e (wrote at bytes m)
mirrors_wrote d e m was at bytes start n starts ends image synced least greatest room touched newest =
    let whole : e.image ≡ written m.image at bytes = image ∙ ap (λ (l : List ℕ). written l at bytes) was.image in
    let s = range_start at m.image in
    let all = with_gap at m.image bytes in
    let same_start : start ≡ s = starts ∙ ap (λ (l : List ℕ). range_start at l) was.image in
    let same_length : n ≡ length all = omega (arith, ends, same_start, range_end m.image at bytes) in
    let within = λ (i : ℕ). ap (λ (k : ℕ). is_within k n i) same_start ∙ ap (λ (k : ℕ). is_within s k i) same_length in
    record {
      image = whole;
      synced = synced ∙ was.synced;
      least = least ∙ was.least;
      greatest = omega (arith, greatest, ap length whole, was.greatest);
      touched = λ i below.
          let old : i < room_of d = omega (arith, below, room) in
          touched i old ∙ ap (λ (b : Bool). b || slice_index_or d.touched i false) (within i) ∙ ap (λ (b : Bool). is_within s (length all) i || b) (was.touched i old);
      newest = λ i below.
          let old : i < room_of d = omega (arith, below, room) in
          let here = newest i old ∙ ap (λ (b : Bool). if b then slice_index e.image i else slice_index d.newest i) (within i) in
          elim (cases_range s (length all) i) as (λ _. slice_index e.newest i ≡ newest_at (touch_of_write at m.image bytes ∷ m.touches) i) [
            | inr inside ↦
                here ∙ cond-true (is_within s (length all) i) (slice_index e.image i) (slice_index d.newest i) (within_inside s (length all) i inside.0 inside.1)
                ∙ ap (λ (l : List ℕ). get_or l i 0) whole
                ∙ overwritten_inside m.image s all (omega arith) i 0 inside.0 inside.1
                ∙ sym (cond-true (is_within s (length all) i) (get_or all (i - s) 0) (newest_at m.touches i) (within_inside s (length all) i inside.0 inside.1))
            | inl out ↦
                here ∙ cond-false (is_within s (length all) i) (slice_index e.image i) (slice_index d.newest i) (within_outside s (length all) i out)
                ∙ was.newest i old
                ∙ sym (cond-false (is_within s (length all) i) (get_or all (i - s) 0) (newest_at m.touches i) (within_outside s (length all) i out))
          ];
    }
