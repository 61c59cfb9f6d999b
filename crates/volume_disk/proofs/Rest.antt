-- A device at rest: what a crash leaves of it, and after one write or one cut. For the crates above.
use Rattle.std.proofs.Common.{◌≡◌, ◌⊎◌, inl, inr, ℕ, ◌+◌, ◌<◌, ◌≤◌, List, [], ◌∷◌, length, get_or, take, drop, false, refl, sym, ◌∙◌, ap, subst, arith}
use Rattle.std.specs.Prelude.{min, max, slice_index, nat_le}
use Rattle.std.proofs.lemmas.Bool.{or_parts, or_from, lt-leb}
use Rattle.std.proofs.lemmas.List.{ext_get_or, get_or-take, get_or-drop, length-take, length-take-le, length-drop}
use Rattle.volume_disk.specs.Medium.{Medium, Touch, MayLeave, is_within, is_touched, at_rest, flushed, wrote, FailedWrite, trimmed, FailedCut, range_start, with_gap, written, touch_of_write}
use Rattle.volume_disk.specs.Medium.Touch.{Dropped}
use Rattle.volume_disk.specs.Disk.{Disk, Images, Crash}
use Rattle.volume_disk.specs.Edited.{length-written, range_end}
use Rattle.volume_disk.specs.Left.{OneWrite, OneCut}
use Rattle.volume_disk.proofs.Ranges.{neither}

-- a crash leaves what a read gives
pub only_image : (image c : List ℕ) → MayLeave (at_rest image) c → c ≡ image
only_image image c left =
    let same_length : length c ≡ length image = omega (arith, left.no_shorter, left.no_longer) in
    ext_get_or 0 c image same_length (λ i below. left.same i below (omega (arith, below, same_length)) refl)

-- of a device at rest among the six
pub crash_at_rest : (device : ℕ) (image : List ℕ) (d : Disk) (c : Images) → device ≤ 5 → d device ≡ at_rest image → Crash d c → c device ≡ image
crash_at_rest device image d c is_device rest crash = only_image image (c device) (subst (λ (m : Medium). MayLeave m (c device)) rest (crash device is_device))

-- a sync leaves nothing that a crash before it might not have left
pub flushed_is_one : (m : Medium) (c : List ℕ) → MayLeave m m.image → MayLeave (flushed m) c → MayLeave m c
flushed_is_one m c alike left = subst (λ (x : List ℕ). MayLeave m x) (sym (only_image m.image c left)) alike

-- a step that keeps the synced image, widens the sizes and adds touches takes no crash image away
grows : (m n : Medium) (c : List ℕ) (touch : Touch) → n.synced ≡ m.synced → n.least ≤ m.least → m.greatest ≤ n.greatest → n.touches ≡ touch ∷ m.touches
    → ((i : ℕ) → is_touched (touch ∷ m.touches) i ≡ false → is_touched m.touches i ≡ false) → MayLeave m c → MayLeave n c
grows m n c touch synced least greatest touches free left = record {
  no_shorter = omega (arith, left.no_shorter, least);
  no_longer = omega (arith, left.no_longer, greatest);
  same = λ i in_c in_synced untouched.
      left.same i in_c (subst (λ (l : List ℕ). i < length l) synced in_synced) (free i (ap (λ ts. is_touched ts i) (sym touches) ∙ untouched))
      ∙ ap (λ (l : List ℕ). slice_index l i) (sym synced);
}

-- a write takes no crash image away
pub grows_wrote : (at : ℕ) (bytes : List ℕ) (m : Medium) (c : List ℕ) → MayLeave m c → MayLeave (wrote at bytes m) c
grows_wrote at bytes m c left =
    grows m (wrote at bytes m) c (touch_of_write at m.image bytes) refl (omega arith) (omega arith) refl (λ i free. (or_parts (is_within (range_start at m.image) (length (with_gap at m.image bytes)) i) (is_touched m.touches i) free).1) left

-- nor does one that failed
pub grows_failed_write : (at : ℕ) (bytes : List ℕ) (m n : Medium) (c : List ℕ) → FailedWrite at bytes m n → MayLeave m c → MayLeave n c
grows_failed_write at bytes m n c (inl same) left = subst (λ (x : Medium). MayLeave x c) (sym same) left
grows_failed_write at bytes m n c (inr torn) left =
    grows m n c (touch_of_write at m.image bytes) torn.synced (omega (arith, torn.least)) (omega (arith, torn.greatest)) torn.touches (λ i free. (or_parts (is_within (range_start at m.image) (length (with_gap at m.image bytes)) i) (is_touched m.touches i) free).1) left

-- a cut takes no crash image away
pub grows_trimmed : (len : ℕ) (m : Medium) (c : List ℕ) → MayLeave m c → MayLeave (trimmed len m) c
grows_trimmed len m c left =
    grows m (trimmed len m) c (Dropped len) refl (omega arith) (omega arith) refl (λ i free. (or_parts (nat_le len i) (is_touched m.touches i) free).1) left

-- nor does one that failed
pub grows_failed_cut : (len : ℕ) (m n : Medium) (c : List ℕ) → FailedCut len m n → MayLeave m c → MayLeave n c
grows_failed_cut len m n c (inl same) left = subst (λ (x : Medium). MayLeave x c) (sym same) left
grows_failed_cut len m n c (inr torn) left =
    grows m n c (Dropped len) torn.synced (omega (arith, torn.least)) (omega (arith, torn.greatest)) torn.touches (λ i free. (or_parts (nat_le len i) (is_touched m.touches i) free).1) left

torn_once : (image : List ℕ) (at : ℕ) (bytes c : List ℕ) (n : Medium) → at ≤ length image → n.synced ≡ image → n.least ≡ length image
    → n.greatest ≤ max (length image) (at + length bytes) → n.touches ≡ touch_of_write at image bytes ∷ [] → MayLeave n c → OneWrite image at bytes c
torn_once image at bytes c n within synced least greatest touches left =
    let long : length image ≤ length c = omega (arith, left.no_shorter, least) in
    let short : length c ≤ max (length image) (at + length bytes) = omega (arith, left.no_longer, greatest) in
    let ends = range_end image at bytes in
    let same : (i : ℕ) → (i < at) ⊎ (at + length bytes ≤ i) → i < length c → i < length image → get_or c i 0 ≡ get_or image i 0 = λ i out in_c in_image.
    let lies : (i < range_start at image) ⊎ (range_start at image + length (with_gap at image bytes) ≤ i) = elim out as (λ _. (i < range_start at image) ⊎ (range_start at image + length (with_gap at image bytes) ≤ i)) [ inl below ↦ inl (omega (arith, below, within)) | inr above ↦ inr (omega (arith, above, ends)) ] in
    left.same i in_c (subst (λ (l : List ℕ). i < length l) (sym synced) in_image) (ap (λ ts. is_touched ts i) touches ∙ neither (range_start at image) (length (with_gap at image bytes)) i false lies refl)
    ∙ ap (λ (l : List ℕ). get_or l i 0) synced in
    let past = at + length bytes in
    record {
      no_shorter = long;
      no_longer = short;
      front = ext_get_or 0 (take at c) (take at image) (length-take-le at c (omega (arith, long, within)) ∙ sym (length-take-le at image within)) (λ i below.
          let is_below : i < at = omega (arith, below, length-take-le at c (omega (arith, long, within))) in
          get_or-take at c i 0 is_below ∙ same i (inl is_below) (omega (arith, is_below, within, long)) (omega (arith, is_below, within)) ∙ sym (get_or-take at image i 0 is_below));
      back = ext_get_or 0 (drop past c) (drop past image) (length-drop past c ∙ (omega (arith, long, short) ∙ sym (length-drop past image))) (λ i below.
          let in_c : past + i < length c = omega (arith, below, length-drop past c) in
          get_or-drop past c i 0 ∙ same (past + i) (inr (omega arith)) in_c (omega (arith, in_c, long, short)) ∙ sym (get_or-drop past image i 0));
    }

-- one write to a device at rest
pub after_write : (image : List ℕ) (at : ℕ) (bytes c : List ℕ) (n : Medium) → at ≤ length image → (n ≡ wrote at bytes (at_rest image)) ⊎ FailedWrite at bytes (at_rest image) n
    → MayLeave n c → OneWrite image at bytes c
after_write image at bytes c n within (inl done) left =
    torn_once image at bytes c n within (ap (λ (m : Medium). m.synced) done) (ap (λ (m : Medium). m.least) done) (omega (arith, ap (λ (m : Medium). m.greatest) done, length-written image at bytes)) (ap (λ (m : Medium). m.touches) done) left
after_write image at bytes c n within (inr (inl same)) left =
    let is_image : c ≡ image = only_image image c (subst (λ (m : Medium). MayLeave m c) same left) in
    subst (λ (x : List ℕ). OneWrite image at bytes x) (sym is_image) (record { no_shorter = omega arith; no_longer = omega arith; front = refl; back = refl })
after_write image at bytes c n within (inr (inr torn)) left =
    torn_once image at bytes c n within torn.synced torn.least (omega (arith, torn.greatest, torn.no_longer)) torn.touches left

cut_once : (image : List ℕ) (len : ℕ) (c : List ℕ) (n : Medium) → n.synced ≡ image → min len (length image) ≤ n.least → n.greatest ≡ length image → n.touches ≡ Dropped len ∷ [] → MayLeave n c → OneCut image len c
cut_once image len c n synced least greatest touches left =
    let long : min len (length image) ≤ length c = omega (arith, left.no_shorter, least) in
    let short : length c ≤ length image = omega (arith, left.no_longer, greatest) in
    record {
      no_shorter = long;
      no_longer = short;
      front = ext_get_or 0 (take len c) (take len image) (omega (arith, long, short, length-take len c, length-take len image)) (λ i below.
          let is_below : i < len = omega (arith, below, length-take len c) in
          let in_c : i < length c = omega (arith, below, length-take len c) in
          let in_image : i < length image = omega (arith, in_c, short) in
          get_or-take len c i 0 is_below
          ∙ left.same i in_c (subst (λ (l : List ℕ). i < length l) (sym synced) in_image) (ap (λ ts. is_touched ts i) touches ∙ or_from (nat_le len i) false (lt-leb len i is_below) refl)
          ∙ ap (λ (l : List ℕ). get_or l i 0) synced
          ∙ sym (get_or-take len image i 0 is_below));
    }

-- one cut of a device at rest
pub after_cut : (image : List ℕ) (len : ℕ) (c : List ℕ) (n : Medium) → (n ≡ trimmed len (at_rest image)) ⊎ FailedCut len (at_rest image) n → MayLeave n c → OneCut image len c
after_cut image len c n (inl done) left =
    cut_once image len c n (ap (λ (m : Medium). m.synced) done) (omega (arith, ap (λ (m : Medium). m.least) done, length-take len image)) (ap (λ (m : Medium). m.greatest) done) (ap (λ (m : Medium). m.touches) done) left
after_cut image len c n (inr (inl same)) left =
    let is_image : c ≡ image = only_image image c (subst (λ (m : Medium). MayLeave m c) same left) in
    subst (λ (x : List ℕ). OneCut image len x) (sym is_image) (record { no_shorter = omega arith; no_longer = omega arith; front = refl })
after_cut image len c n (inr (inr torn)) left = cut_once image len c n torn.synced (omega (arith, torn.least, torn.no_shorter)) torn.greatest torn.touches left

-- a device at rest after a write and a sync
pub rest_after : (at : ℕ) (bytes image : List ℕ) (m n o : Medium) → m ≡ at_rest image → n ≡ wrote at bytes m → o ≡ flushed n → o ≡ at_rest (written image at bytes)
rest_after at bytes image m n o rest wrote_it flushed_it = flushed_it ∙ ap flushed wrote_it ∙ ap (λ (x : Medium). flushed (wrote at bytes x)) rest

-- a device at rest after a cut and a sync
pub rest_after_cut : (len : ℕ) (image : List ℕ) (m n o : Medium) → m ≡ at_rest image → n ≡ trimmed len m → o ≡ flushed n → o ≡ at_rest (take len image)
rest_after_cut len image m n o rest cut_it flushed_it = flushed_it ∙ ap flushed cut_it ∙ ap (λ (x : Medium). flushed (trimmed len x)) rest
