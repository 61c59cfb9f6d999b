-- Lemmas, not definitions of a contract: members of `MemRack` cite them, through those of `RecordLaws`.
-- A device as it reads is one of its crash images.
use Rattle.std.proofs.Common.{◌≡◌, inl, inr, ℕ, ◌<◌, ◌≤◌, List, ◌∷◌, length, true, false, refl, ◌∙◌, arith, leb-false, le-leb}
use Rattle.std.specs.Prelude.{nat_le}
use Rattle.std.proofs.lemmas.Bool.{or_parts, or_left, or_right, cases_lt, both_ways}
use Rattle.std.proofs.lemmas.List.{length-take, get_or-take}
use Rattle.volume_disk.specs.Medium.{Medium, MayLeave, is_touched, at_rest, wrote, trimmed, range_start, with_gap}
use Rattle.volume_disk.specs.Medium.Touch.{Dropped}
use Rattle.volume_disk.specs.Edited.{overwritten_outside, length-written, outside_range}

-- what every run of whole steps keeps
pub record IsSound (m : Medium) : Type 0 where
  pub least : m.least ≤ length m.synced
  pub greatest : length m.synced ≤ m.greatest
  pub alike : MayLeave m m.image
  pub gone : (i : ℕ) → length m.image ≤ i → i < length m.synced → is_touched m.touches i ≡ true

-- a device at rest
pub sound_at_rest : (image : List ℕ) → IsSound (at_rest image)
sound_at_rest image = record {
  least = omega arith;
  greatest = omega arith;
  alike = record { no_shorter = omega arith; no_longer = omega arith; same = λ i in_image in_synced free. refl };
  gone = λ i past within. absurd (omega (arith, past, within));
}

-- an untouched place of the synced image stands in the image
pub still_there : (m : Medium) (i : ℕ) → IsSound m → i < length m.synced → is_touched m.touches i ≡ false → i < length m.image
still_there m i sound in_synced free =
    elim (cases_lt i (length m.image)) as (λ _. i < length m.image) [ inl below ↦ below | inr past ↦ absurd (both_ways _ free (sound.gone i past in_synced)) ]

-- a write keeps it
pub sound_wrote : (at : ℕ) (bytes : List ℕ) (m : Medium) → IsSound m → IsSound (wrote at bytes m)
sound_wrote at bytes m sound =
    let long = length-written m.image at bytes in
    record {
      least = sound.least;
      greatest = omega (arith, sound.greatest);
      alike = record {
        no_shorter = omega (arith, sound.alike.no_shorter, long);
        no_longer = omega arith;
        same = λ i in_image in_synced free.
            let out = outside_range (range_start at m.image) (length (with_gap at m.image bytes)) i (is_touched m.touches i) free in
            overwritten_outside m.image (range_start at m.image) (with_gap at m.image bytes) (omega arith) i 0 out.0
            ∙ sound.alike.same i (still_there m i sound in_synced out.1) in_synced out.1;
      };
      gone = λ i past within. or_right _ _ (sound.gone i (omega (arith, past, long)) within);
    }

-- a cut keeps it
pub sound_trimmed : (len : ℕ) (m : Medium) → IsSound m → IsSound (trimmed len m)
sound_trimmed len m sound =
    let short = length-take len m.image in
    record {
      least = omega (arith, sound.least);
      greatest = sound.greatest;
      alike = record {
        no_shorter = omega arith;
        no_longer = omega (arith, short, sound.alike.no_longer);
        same = λ i in_image in_synced free.
            let parts = or_parts (nat_le len i) (is_touched m.touches i) free in
            get_or-take len m.image i 0 (leb-false len i parts.0) ∙ sound.alike.same i (omega (arith, short, in_image)) in_synced parts.1;
      };
      gone = λ i past within. elim (cases_lt i len) as (λ _. is_touched (Dropped len ∷ m.touches) i ≡ true) [
        | inl below ↦ or_right _ _ (sound.gone i (omega (arith, past, short, below)) within)
        | inr above ↦ or_left _ _ (le-leb len i above)
      ];
    }
