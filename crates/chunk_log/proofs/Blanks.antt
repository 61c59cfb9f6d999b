-- A device without a gate gets one.
use Rattle.std.proofs.Common.{◌≡◌, inl, inr, ℕ, ◌+◌, ◌≤◌, List, length, Option, Some, None, refl, sym, ◌∙◌, ap, arith}
use Rattle.std.proofs.lemmas.Bool.{cases_eq}
use Rattle.volume_disk.specs.Medium.{at_rest}
use Rattle.volume_disk.specs.Disk.{Disk, Images, Crash}
use Rattle.volume_disk.proofs.Rest.{crash_at_rest}
use Rattle.site_forms.specs.Logs.{parse}
use Rattle.site_forms.specs.Halves.{Half, generation, stronger, in_force, records_in, records_of, records_at}
use Rattle.site_forms.specs.Halves.Half.{First, Second}
use Rattle.volume_disk.specs.Left.{OneWriteAt}
use Rattle.site_forms.proofs.Logs.{blank}
use Rattle.site_forms.proofs.Halves.{closed_none}

-- two images that say the same
abbrev pub Alike : List ℕ → List ℕ → Type 0
Alike x y = (parse y ≡ parse x) × (generation y ≡ generation x)

same_of : (force : Option Half) (x y other_x other_y : List ℕ) → Alike x other_x → Alike y other_y → records_of force other_x other_y ≡ records_of force x y
same_of None x y other_x other_y one two = refl
same_of (Some First) x y other_x other_y one two = ap records_in one.0
same_of (Some Second) x y other_x other_y one two = ap records_in two.0

pub alike_places : (b c : Images) (place : ℕ) → ((k : ℕ) → Alike (b k) (c k)) → records_at c place ≡ records_at b place
alike_places b c place alike =
    let one = alike place in
    let two = alike (place + 3) in
    let force : in_force (c place) (c (place + 3)) ≡ in_force (b place) (b (place + 3)) =
    ap (λ g. stronger g (generation (c (place + 3)))) one.1 ∙ ap (λ g. stronger (generation (b place)) g) two.1 in
    ap (λ f. records_of f (c place) (c (place + 3))) force ∙ same_of (in_force (b place) (b (place + 3))) (b place) (b (place + 3)) (c place) (c (place + 3)) one two

pub blank_leads : (dev at : ℕ) (bytes image : List ℕ) (d : Disk) (b c : Images) → dev ≤ 5 → d dev ≡ at_rest image → length image ≤ 1 → at + length bytes ≤ 1 → Crash d b → OneWriteAt dev at bytes b c
    → (place : ℕ) → records_at c place ≡ records_at b place
blank_leads dev at bytes image d b c is_device rest short less crash one = λ place. alike_places b c place (λ k. elim (cases_eq k dev) as (λ _. Alike (b k) (c k)) [
  | inl here ↦
      let size : length (b dev) ≡ length image = ap length (crash_at_rest dev image d b is_device rest crash) in
      let was : length (b k) ≤ 1 = omega (arith, ap (λ (n : ℕ). length (b n)) here, size, short) in
      let is : length (c k) ≤ 1 = omega (arith, ap (λ (n : ℕ). length (c n)) here, one.here.no_longer, size, short, less) in
      (blank (c k) is ∙ sym (blank (b k) was), closed_none (c k) (inl is) ∙ sym (closed_none (b k) (inl was)))
  | inr out ↦ (ap parse (one.elsewhere k out), ap generation (one.elsewhere k out))
])
